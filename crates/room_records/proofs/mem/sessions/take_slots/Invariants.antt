use Rattle.room_records.proofs.Common.{◌≡◌, ℕ, List, cond, None, ◌&&◌, nat_lt, bytes_eq, HasSpace, slot_cmp, kept_in}
use Rattle.room_records.proofs.mem.sessions.take_slots.Given as goal

abbrev pub invariant-loop-slot : goal.invariant-loop-slot
invariant-loop-slot l = record {
  name : l.key.0 ≡ l.initial.key.0;
  slots : (name : List ℕ) (slot : ℕ) → kept_in l.kept.slots name slot
      ≡ cond (bytes_eq name l.initial.key.0 && nat_lt slot l.slot) None (kept_in l.initial.kept.slots name slot);
  rooms : (key : List ℕ × ℕ) → HasSpace slot_cmp l.initial.kept.slots key → HasSpace slot_cmp l.kept.slots key;
}
