use Rattle.room_tree.proofs.Common.{refl, ◌∙◌}
use Rattle.room_commands.specs.CommandModel as C
use Rattle.room_tree.proofs.Outcomes.{reading_plans}
use Rattle.room_tree.proofs.Replies.{stat_reply}
use Rattle.room_tree.proofs.Stops.{handed_on}
use Rattle.room_tree.proofs.InTurn.{both_tell}
use Rattle.room_tree.proofs.reading.plan_stat.Goals as goal

pub returns-in_err-loaded-clause-effect : goal.returns-in_err-loaded-clause-effect
returns-in_err-loaded-clause-effect g c = λ available laid_out t e room stand.
    handed_on _ _ _ c.from_residual.result c.from_residual.ensures.1
    (c.in_err-loaded.ensures.value available laid_out t e room stand)

pub returns-clause-effect : goal.returns-clause-effect
returns-clause-effect g c = λ available laid_out t e room stand.
    let told = both_tell _ _ c.reach_to_use.ensures.frame c.size_of.ensures.frame
    c.in_ok-loaded.ensures.value c.in_ok-size.ensures.value available laid_out t e room stand in
    let size = told.1 c.args.path.now told.0.1 in
    reading_plans c.args.subject.now (C.Stat c.args.path.now) c.reading.result stand (λ path. refl) refl told.0.0
    (c.reading.ensures.reply ∙ stat_reply told.0.1
    c.into_node-node.result c.in_ok-size.size c.into_node-node.ensures size) c.reading.ensures.none
