use Rattle.room_tree.proofs.Common.{◌≡◌, take}
use Rattle.room_tree.proofs.moving.begins_with.Given as goal

-- the names so far are the same
abbrev pub invariant-loop-index : goal.invariant-loop-index
invariant-loop-index l = take l.index l.names ≡ take l.index l.top
