use Rattle.room_records.proofs.Common.{◌≡◌, take, AllByRecursion, mem_records, HasSpaceFor, AreSameChanges}
use Rattle.room_records.proofs.mem.MemShelf.prepare.Given as goal

abbrev pub invariant-loop-change : goal.invariant-loop-change
invariant-loop-change l = record {
  same : mem_records l.self ≡ mem_records l.initial.self;
  steps : AreSameChanges l.steps.items (take l.change-index l.changes);
  room : AllByRecursion (HasSpaceFor l.self) l.steps.items;
}
