use Rattle.room_acl.proofs.Common.{◌≡◌, ◌++◌, drop, own_part}
use Rattle.room_acl.proofs.inheritance.own_part.Given as goal

-- what was kept so far, and what is kept of the rest
abbrev pub invariant-loop-entry : goal.invariant-loop-entry
invariant-loop-entry l = l.own.items ++ own_part (drop l.entry-index l.entries) ≡ own_part l.entries
