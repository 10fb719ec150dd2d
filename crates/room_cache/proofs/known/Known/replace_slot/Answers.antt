use Rattle.room_cache.proofs.Common.{◌≡◌, ℕ, subst, ◌⊎◌, true, false, Some, rules, eq_by_cmp, PutSlot, apply_change}
use Rattle.room_cache.proofs.Common.{Name, slot_cmp, row_at, SlotFact}
use Rattle.room_cache.proofs.SlotsKept.{no_slots, slots_elsewhere, slots_here}
use Rattle.room_cache.proofs.known.Known.replace_slot.Goals as goal

pub returns-in_default-clause-slots : goal.returns-in_default-clause-slots
returns-in_default-clause-slots c = λ r are.
    no_slots (apply_change (PutSlot c.args.row.now) r) c.clear.new.self c.clear.ensures

pub returns-then-row-lt-MAX_SLOTS-clause-slots : goal.returns-then-row-lt-MAX_SLOTS-clause-slots
returns-then-row-lt-MAX_SLOTS-clause-slots c = λ r are.
    let Kept : Name → Type 0 = λ n. (k : Name × ℕ) (v : SlotFact) → row_at slot_cmp c.keep.new.self k ≡ Some v
    → (row_at slot_cmp c.forget.new.self k ≡ Some v)
    ⊎ ((eq_by_cmp slot_cmp (n, c.args.row.now.slot) k ≡ true) × (v ≡ c.of.result)) in
    let Left : Name → Type 0 = λ n. (k : Name × ℕ) (v : SlotFact) → row_at slot_cmp c.forget.new.self k ≡ Some v
    → (row_at slot_cmp c.args.self.now.slots k ≡ Some v)
    × (eq_by_cmp slot_cmp (n, c.args.row.now.slot) k ≡ false) in
    slots_here r c.args.row.now c.forget.new.self c.keep.new.self c.of.result (search rules) c.of.ensures
    (subst (λ n. Kept n) c.in-Ok.ensures c.keep.ensures)
    (slots_elsewhere r c.args.row.now c.args.self.now.slots c.forget.new.self
    (subst (λ n. Left n) c.in-Ok.ensures c.forget.ensures) are)

pub returns-else-row-lt-MAX_SLOTS-clause-slots : goal.returns-else-row-lt-MAX_SLOTS-clause-slots
returns-else-row-lt-MAX_SLOTS-clause-slots c = λ r are.
    let Left : Name → Type 0 = λ n. (k : Name × ℕ) (v : SlotFact) → row_at slot_cmp c.forget.new.self k ≡ Some v
    → (row_at slot_cmp c.args.self.now.slots k ≡ Some v)
    × (eq_by_cmp slot_cmp (n, c.args.row.now.slot) k ≡ false) in
    slots_elsewhere r c.args.row.now c.args.self.now.slots c.forget.new.self
    (subst (λ n. Left n) c.in-Ok.ensures c.forget.ensures) are
