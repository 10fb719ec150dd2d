-- What is remembered of slots, after calls.
use Rattle.room_cache.proofs.Common.{◌≡◌, ℕ, ◌<◌, refl, ap, sym, ◌∙◌, subst, true, false, Bool, cond, inl, inr, ◌⊎◌}
use Rattle.room_cache.proofs.Common.{◌&&◌, ◌==◌, List, Option, None, Some, is_eq, eq_by_cmp, PutSlot, apply_change}
use Rattle.room_cache.proofs.Common.{Name, Records, slot_cmp, row_at, AreKept, IsKept, SlotFact}
use Rattle.std.proofs.lemmas.Cmp.{tied_itself}
use Rattle.std.proofs.lemmas.Map.Views.{tells_apart}
use Rattle.room_slots.specs.KeptModel.{KeptModel}
use Rattle.room_records.specs.declared.session.SlotRow.{SlotRow}
use Rattle.room_records.specs.Limits.{max_slots}
use Rattle.room_records.proofs.SessionKeys.{exact_slots, name_test, number_test, slot_total}
use Rattle.room_cache.proofs.Left.{none_some}
use Rattle.room_cache.specs.declared.slots.SlotFact.TheVariants.{Number, Whole}

-- nothing is remembered
pub no_slots : (r : Records) (slots : List ((Name × ℕ) × SlotFact)) → ((k : Name × ℕ) → row_at slot_cmp slots k ≡ None)
    → AreKept r slots
no_slots r slots none sid slot fact held = absurd (none_some _ fact (none (sid, slot)) held)

-- one more is remembered
pub one_more_slot : (r : Records) (old new : List ((Name × ℕ) × SlotFact)) (name : Name) (at : ℕ) (value : SlotFact)
    → at < max_slots → IsKept value (r.slot name at)
    → ((k : Name × ℕ) (v : SlotFact) → row_at slot_cmp new k ≡ Some v
    → (row_at slot_cmp old k ≡ Some v) ⊎ ((eq_by_cmp slot_cmp (name, at) k ≡ true) × (v ≡ value)))
    → AreKept r old → AreKept r new
one_more_slot r old new name at value low is keeps are sid slot fact held = elim (keeps (sid, slot) fact held) [
  | inl before ↦ are sid slot fact before
  | inr now ↦
      let same : (name, at) ≡ (sid, slot) = tells_apart exact_slots (name, at) (sid, slot) now.0 in
      let P : Name × ℕ → Type 0 = λ k. (k.1 < max_slots) × IsKept fact (r.slot k.0 k.1) in
      let Q : SlotFact → Type 0 = λ v. IsKept v (r.slot name at) in
      subst P same (low, subst Q (sym now.1) is)
]

-- whether the row of a slot is the one that is put
module _ (r : Records) (row : SlotRow) where
  abbrev after : Records
  after = apply_change (PutSlot row) r

  abbrev pick : Name → ℕ → Bool → Option KeptModel
  pick sid slot test = cond test (Some row.kept) (r.slot sid slot)

  here : after.slot row.sid row.slot ≡ Some row.kept
  here = elim (name_test row.sid row.sid) [
    | inl name ↦ elim (number_test row.slot row.slot) [
      | inl number ↦ λ i. pick row.sid row.slot (name.1 i && number.1 i)
      | inr other ↦ absurd (other.0 refl)
    ]
    | inr other ↦ absurd (other.0 refl)
  ]

  not_itself : (k : Name × ℕ) → eq_by_cmp slot_cmp k k ≡ false → ⊥
  not_itself k is = let f : false ≡ true = sym is ∙ ap is_eq (tied_itself slot_total k) in cc

  elsewhere : (sid : Name) (slot : ℕ) → eq_by_cmp slot_cmp (row.sid, row.slot) (sid, slot) ≡ false
      → after.slot sid slot ≡ r.slot sid slot
  elsewhere sid slot apart = elim (name_test sid row.sid) [
    | inl name ↦ elim (number_test slot row.slot) [
      | inl number ↦
          let P : Name × ℕ → Type 0 = λ k. eq_by_cmp slot_cmp (row.sid, row.slot) k ≡ false in
          let same : (sid, slot) ≡ (row.sid, row.slot) = λ i. (name.0 i, number.0 i) in
          absurd (not_itself (row.sid, row.slot) (subst P same apart))
      | inr other ↦ λ i. pick sid slot (name.1 i && other.1 i)
    ]
    | inr other ↦ ap (λ test. pick sid slot (test && (slot == row.slot))) other.1
  ]

  -- the row that was there is remembered no longer
  pub slots_elsewhere : (old mid : List ((Name × ℕ) × SlotFact))
      → ((k : Name × ℕ) (v : SlotFact) → row_at slot_cmp mid k ≡ Some v
      → (row_at slot_cmp old k ≡ Some v) × (eq_by_cmp slot_cmp (row.sid, row.slot) k ≡ false))
      → AreKept r old → AreKept (apply_change (PutSlot row) r) mid
  slots_elsewhere old mid forgets are sid slot fact held =
      let was = forgets (sid, slot) fact held in
      let is = are sid slot fact was.0 in
      let P : Option KeptModel → Type 0 = λ kept. IsKept fact kept in
      (is.0, subst P (sym (elsewhere sid slot was.1)) is.1)

  -- and the one that is put is
  pub slots_here : (mid new : List ((Name × ℕ) × SlotFact)) (fact : SlotFact) → row.slot < max_slots
      → IsKept fact (Some row.kept) → ((k : Name × ℕ) (v : SlotFact) → row_at slot_cmp new k ≡ Some v
      → (row_at slot_cmp mid k ≡ Some v) ⊎ ((eq_by_cmp slot_cmp (row.sid, row.slot) k ≡ true) × (v ≡ fact)))
      → AreKept (apply_change (PutSlot row) r) mid → AreKept (apply_change (PutSlot row) r) new
  slots_here mid new fact low is keeps are =
      let P : Option KeptModel → Type 0 = λ kept. IsKept fact kept in
      one_more_slot after mid new row.sid row.slot fact low (subst P (sym here) is) keeps are
