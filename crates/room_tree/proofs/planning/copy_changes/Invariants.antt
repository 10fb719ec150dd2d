use Rattle.room_tree.proofs.Common.{take}
use Rattle.room_records.specs.Mem.{AreSameChanges}
use Rattle.room_tree.proofs.planning.copy_changes.Given as goal

abbrev pub invariant-loop-change : goal.invariant-loop-change
invariant-loop-change l = AreSameChanges l.copy.items (take l.change-index l.changes)
