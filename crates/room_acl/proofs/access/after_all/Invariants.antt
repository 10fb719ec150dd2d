use Rattle.room_acl.proofs.Common.{drop}
use Rattle.room_acl.proofs.Steps.{Walked}
use Rattle.room_acl.proofs.access.after_all.Given as goal

abbrev pub invariant-loop-entry : goal.invariant-loop-entry
invariant-loop-entry l = Walked l.entries (drop l.entry-index l.entries) l.subject l.standing l.fn.wanted l.pending
