use Rattle.room_wire.proofs.Common.{◌≡◌, refl, rules, allowed_data}
use Rattle.room_wire.proofs.Lemmas.Forms.Written.{text_of, ◌then◌}
use Rattle.room_wire.proofs.questions.answering.allowed_text.Goals as goal

pub returns : goal.returns
returns c =
    let allowed : c.from.result ≡ c.args.allowed = search rules in
    let bit : c.from-2.result ≡ c.args.bit = search rules in
    text_of (allowed_data c.args.allowed c.args.bit) c.ended.result _
    (c.in_ok-out.ensures then c.in_ok-number_member.ensures then c.in_ok-number_member-2.ensures
    then c.in_ok-number_member-3.ensures)
    (rw (allowed, bit) refl) c.ended.ensures
