use Rattle.room_wire.proofs.Common.{◌≤◌, ◌++◌, length, sym, subst, ◌∙◌, answer_model, phrase, head_text}
use Rattle.room_wire.proofs.Lemmas.Answers.Heads.{phrase_fits}
use Rattle.room_wire.proofs.Lemmas.Answers.Sends.{sent_is}
use Rattle.room_wire.proofs.answers.sending.send_answer.Goals as goal

pub head_of-head-requires : goal.head_of-head-requires
head_of-head-requires g c =
    subst (λ n. length (phrase n) ≤ 32) (sym c.status.ensures) (phrase_fits (answer_model c.args.answer.now))

pub returns : goal.returns
returns g c =
    let body = c.body-body.ensures in
    let head = c.as_bytes.ensures.value ∙ c.as_str.ensures.value ∙ c.head_of-head.ensures
    ∙ (λ i. head_text (c.status.ensures i) (length (body i)) c.args.last) in
    sent_is _ _ _ _ _ (λ i. head i ++ body i) c.send_both.ensures
