use Rattle.room_cache.proofs.Common.{◌≡◌, ◌⊎◌, ℕ, true, Some, subst, inl, inr, arith, rules, eq_by_cmp, Name, slot_cmp}
use Rattle.room_cache.proofs.Common.{row_at, fact_size, SlotFact}
use Rattle.room_cache.proofs.Left.{none_some}
use Rattle.room_cache.proofs.slots.SlotRows.keep.Goals as goal

pub returns-then-size-self : goal.returns-then-size-self
returns-then-size-self c = subst (λ rows. (k : Name × ℕ) (v : SlotFact) → row_at slot_cmp c.keep.new.self k ≡ Some v
    → (row_at slot_cmp rows k ≡ Some v) ⊎ ((eq_by_cmp slot_cmp c.args.key k ≡ true) × (v ≡ c.args.fact)))
    c.self.view_is c.keep.ensures.rows

pub returns-then-size-le-MAX_BYTES : goal.returns-then-size-le-MAX_BYTES
returns-then-size-le-MAX_BYTES c = λ k v held. elim (c.keep-then-size-le-MAX_BYTES.ensures.rows k v held) [
  | inl was ↦ absurd (none_some _ v (c.clear.ensures.none k) was)
  | inr now ↦ inr now
]

pub invariant_of-self-then-size-le-MAX_BYTES : goal.invariant_of-self-then-size-le-MAX_BYTES
invariant_of-self-then-size-le-MAX_BYTES c = (
  omega (
    arith,
    c.keep-then-size-le-MAX_BYTES.ensures.weight fact_size,
    c.clear.ensures.weight fact_size,
    c.size-size.ensures,
  ),
  search rules,
)

pub returns-else-size-le-MAX_BYTES : goal.returns-else-size-le-MAX_BYTES
returns-else-size-le-MAX_BYTES c = λ k v held. absurd (none_some _ v (c.clear.ensures.none k) held)
