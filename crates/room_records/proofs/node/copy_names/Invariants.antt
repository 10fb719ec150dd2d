use Rattle.room_records.proofs.Common.{◌≡◌, take}
use Rattle.room_records.proofs.node.copy_names.Given as goal

-- the names so far
abbrev pub invariant-loop-named : goal.invariant-loop-named
invariant-loop-named l = l.copy.items ≡ take l.named-index l.names
