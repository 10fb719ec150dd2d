use Rattle.room_acl.proofs.Common.{◌≡◌, take}
use Rattle.room_acl.proofs.entry.same_entries.Given as goal

-- the entries so far are the same
abbrev pub invariant-loop-index : goal.invariant-loop-index
invariant-loop-index l = take l.index l.a ≡ take l.index l.b
