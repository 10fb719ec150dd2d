use Rattle.room_acl.proofs.Common.{◌≡◌, take}
use Rattle.room_acl.proofs.principal.copy_principals.Given as goal

-- the names copied so far
abbrev pub invariant-loop-name : goal.invariant-loop-name
invariant-loop-name l = l.copy.items ≡ take l.name-index l.names
