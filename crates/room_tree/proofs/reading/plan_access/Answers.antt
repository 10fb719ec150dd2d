use Rattle.room_tree.proofs.Common.{refl, ap, ◌∙◌, bit_and, allowed_mask, Allowed}
use Rattle.room_commands.specs.CommandModel as C
use Rattle.room_tree.proofs.Outcomes.{reading_plans}
use Rattle.room_tree.proofs.Replies.{access_reply}
use Rattle.room_tree.proofs.Stops.{handed_on}
use Rattle.room_tree.proofs.InTurn.{both_tell}
use Rattle.room_tree.proofs.reading.plan_access.Goals as goal

pub returns-in_err-loaded-clause-effect : goal.returns-in_err-loaded-clause-effect
returns-in_err-loaded-clause-effect g c = λ available laid_out t e room stand.
    handed_on _ _ _ c.from_residual.result c.from_residual.ensures.1
    (c.in_err-loaded.ensures.value available laid_out t e room stand)

pub returns-clause-effect : goal.returns-clause-effect
returns-clause-effect g c = λ available laid_out t e room stand.
    let told = both_tell _ _ c.reach.ensures.frame c.whole_list.ensures.frame
    c.in_ok-loaded.ensures.value c.in_ok-list.ensures.value available laid_out t e room stand in
    let list = told.1 c.args.path.now told.0.1 in
    let allowed = c.common_bits.ensures ∙ ap (bit_and c.args.mask) (c.allowed_bits-allowed.ensures.value
    ∙ ap (λ list. allowed_mask list c.args.subject.now c.in_ok-loaded.loaded.standing) c.as_slice.ensures.value) in
    reading_plans c.args.subject.now (C.Access c.args.mask c.args.path.now)
    c.reading.result stand (λ path. refl) refl told.0.0
    (c.reading.ensures.reply ∙ ap Allowed allowed
    ∙ access_reply told.0.1 c.in_ok-list.list.items list c.args.subject.now c.args.mask) c.reading.ensures.none
