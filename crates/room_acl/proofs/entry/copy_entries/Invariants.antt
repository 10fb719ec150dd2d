use Rattle.room_acl.proofs.Common.{◌≡◌, take}
use Rattle.room_acl.proofs.entry.copy_entries.Given as goal

-- the entries copied so far
abbrev pub invariant-loop-entry : goal.invariant-loop-entry
invariant-loop-entry l = l.copy.items ≡ take l.entry-index l.entries
