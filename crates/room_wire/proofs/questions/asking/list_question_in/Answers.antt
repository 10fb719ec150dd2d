use Rattle.room_wire.proofs.Common.{◌≡◌, true, sym, ◌∙◌, option_map, option_zip, view, has_count}
use Rattle.room_wire.specs.Questions.QuestionModel.{of_list}
use Rattle.room_wire.proofs.questions.asking.list_question_in.Goals as goal

pub returns : goal.returns
returns c =
    let six : has_count 6 (view c.args.value.now) ≡ true = sym c.has_count.ensures ∙ c.if-not-has_count.false in
    rw six (c.list_by.ensures ∙ (λ i. option_map of_list (option_zip (c.in_ok-entries.ensures i)
    (option_zip (c.in_ok-group.ensures i) (option_zip (c.in_ok-groups.ensures i)
    (option_zip (c.mask_at-mask.ensures i) (option_zip (c.in_ok-owner.ensures i) (c.in_ok-user.ensures i))))))))
