use Rattle.room_tree.proofs.Common.{refl, command_model}
use Rattle.room_tree.proofs.Outcomes.{refusal_plans}
use Rattle.room_tree.proofs.planning.plan.Goals as goal

pub returns-in-Ok-clause-effect : goal.returns-in-Ok-clause-effect
returns-in-Ok-clause-effect g c =
    λ available laid_out room stand. c.in-Ok.ensures.effect available laid_out _ refl room stand

pub returns-in-Refused-clause-effect : goal.returns-in-Refused-clause-effect
returns-in-Refused-clause-effect g c = λ available laid_out room stand.
    let refused = rw c.in-Refused.is at (c.in-Err.ensures.effect available laid_out _ refl room stand) in
    refusal_plans c.args.subject.now (command_model c.args.command.now) c.refused.result stand c.in-Refused.refusal
    refused c.refused.ensures.reply c.refused.ensures.none
