use Rattle.room_acl.proofs.Common.{◌∙◌}
use Rattle.room_acl.proofs.Decisions.{allowed_in_words, denied_in_words}
use Rattle.room_acl.proofs.access.decide.Goals as goal

pub returns-clause-value : goal.returns-clause-value
returns-clause-value c = c.end.ensures c.args.subject.now c.args.standing.now ∙ c.after_all.ensures.answers

pub returns-clause-allowed : goal.returns-clause-allowed
returns-clause-allowed c = allowed_in_words _ _ _ _ _ (returns-clause-value c) c.after_all.ensures.named

pub returns-clause-denied : goal.returns-clause-denied
returns-clause-denied c = denied_in_words _ _ _ _ _ (returns-clause-value c) c.after_all.ensures.named
