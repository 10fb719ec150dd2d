use Rattle.room_records.proofs.Common.{◌≡◌, length, AllByRecursion, Records, apply_changes, RulesHoldAfterEach}
use Rattle.room_records.proofs.Common.{Untouched, mem_records, HasSpaceFor}
use Rattle.std.specs.Vec.Iter.{into_iter_items, into_iter_len}
use Rattle.room_records.proofs.mem.MemShelf.apply_all.Given as goal

abbrev pub invariant-loop-step : goal.invariant-loop-step
invariant-loop-step l = record {
  count : length (into_iter_items l.step-iterator) ≡ into_iter_len l.step-iterator;
  rooms : AllByRecursion (HasSpaceFor l.self) (into_iter_items l.step-iterator);
  rest : RulesHoldAfterEach l.fn.steps.items (mem_records l.initial.self)
      → RulesHoldAfterEach (into_iter_items l.step-iterator) (mem_records l.self)
      × (apply_changes (into_iter_items l.step-iterator) (mem_records l.self)
      ≡ apply_changes l.fn.steps.items (mem_records l.initial.self));
  untouched : (later : Records) → Untouched (into_iter_items l.step-iterator) (mem_records l.self) later
      → Untouched l.fn.steps.items (mem_records l.initial.self) later;
}
