use Rattle.room_acl.proofs.Common.{◌∙◌}
use Rattle.room_acl.proofs.Steps.{same_decision}
use Rattle.room_acl.proofs.pending.Pending.end.Goals as goal

pub returns : goal.returns
returns c = λ caller standing. c.decision_of.ensures ∙ same_decision _ _ (c.refused.ensures caller standing)
