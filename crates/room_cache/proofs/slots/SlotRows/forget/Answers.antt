use Rattle.room_cache.proofs.Common.{◌≡◌, ℕ, false, Some, subst, eq_by_cmp, Name, slot_cmp, row_at, SlotFact}
use Rattle.room_cache.proofs.slots.SlotRows.forget.Goals as goal

pub returns : goal.returns
returns c = subst (λ rows. (k : Name × ℕ) (v : SlotFact) → row_at slot_cmp c.forget.new.self k ≡ Some v
    → (row_at slot_cmp rows k ≡ Some v) × (eq_by_cmp slot_cmp c.args.key.now k ≡ false))
    c.self.view_is c.forget.ensures.rows
