-- Rows by session name and slot, after one of them changes.
use Rattle.room_records.proofs.Common.{◌≡◌, ℕ, ◌+◌, ◌<◌, ◌≤◌, ap, ◌∙◌, true, false, Bool, cond, ◌⊎◌, Option, None, Some}
use Rattle.room_records.proofs.Common.{arith, nat_cmp, ◌&&◌, ◌==◌, nat_lt, bytes_decides, option_map, is_eq, eq_by_cmp}
use Rattle.room_records.proofs.Common.{ordering_then, bytes_eq, Ordering, nat_list_cmp_total, nat_list_eq_equiv}
use Rattle.room_records.proofs.Common.{nat_cmp_total, then_total, on_total, CmpEqualImpliesEq, exact_pairs, exact_bytes}
use Rattle.room_records.proofs.Common.{exact_unsigned, max_slots, Name, name_cmp, slot_cmp, session_row, AreFewSlots}
use Rattle.room_records.proofs.Common.{HaveSlotCounts}
use Rattle.std.specs.Cmp.{IsTotalOrder}
use Rattle.std.proofs.lemmas.Map.Text.{is_eq-slice_cmp}
use Rattle.room_slots.specs.KeptModel.{KeptModel}
use Rattle.room_records.specs.declared.session.SessionRow.{SessionRow}
use Rattle.room_records.specs.declared.mem.sessions.SessionCell.{SessionCell}

pub slot_total : IsTotalOrder slot_cmp
slot_total = then_total (on_total (λ (k : Name × ℕ). k.0) nat_list_cmp_total)
    (on_total (λ (k : Name × ℕ). k.1) nat_cmp_total)

pub exact_slots : CmpEqualImpliesEq slot_cmp
exact_slots = exact_pairs name_cmp nat_cmp exact_bytes exact_unsigned

-- names are the same where the test says so
pub name_test : (a b : Name) → ((a ≡ b) × (bytes_eq a b ≡ true)) ⊎ ((a ≡ b → ⊥) × (bytes_eq a b ≡ false))
name_test a b = grind (arith, bytes_decides a b)

pub number_test : (a b : ℕ) → ((a ≡ b) × ((a == b) ≡ true)) ⊎ ((a ≡ b → ⊥) × ((a == b) ≡ false))
number_test a b = grind arith

-- the tests of keys are those of their orders
pub number_key : (a k : ℕ) → eq_by_cmp nat_cmp a k ≡ (k == a)
number_key a k = grind arith

name_key : (a k : Name) → eq_by_cmp name_cmp a k ≡ bytes_eq k a
name_key a k = is_eq-slice_cmp a k ∙ nat_list_eq_equiv.symm a k

both_equal : (a b : Ordering) → is_eq (ordering_then a b) ≡ (is_eq a && is_eq b)
both_equal a b = grind arith

slot_key : (name : Name) (at : ℕ) (sid : Name) (slot : ℕ)
    → eq_by_cmp slot_cmp (name, at) (sid, slot) ≡ (bytes_eq sid name && (slot == at))
slot_key name at sid slot =
    both_equal (name_cmp name sid) (nat_cmp at slot) ∙ (λ i. name_key name sid i && number_key at slot i)

pub put_row : (new old : Name → Option SessionCell) (row : SessionRow) (cell : SessionCell)
    → session_row row.sid cell ≡ row
    → ((k : Name) → new k ≡ cond (eq_by_cmp name_cmp row.sid k) (Some cell) (old k))
    → (sid : Name) → option_map (session_row sid) (new sid)
    ≡ cond (bytes_eq sid row.sid) (Some row) (option_map (session_row sid) (old sid))
put_row new old row cell is h sid = grind (arith, h sid, name_key row.sid sid, name_test sid row.sid)

module _ (new old : Name × ℕ → Option KeptModel) (name : Name) (at : ℕ) (value : Option KeptModel)
    (h : (k : Name × ℕ) → new k ≡ cond (eq_by_cmp slot_cmp (name, at) k) value (old k)) where
  pub put_slot_row : (sid : Name) (slot : ℕ)
      → new (sid, slot) ≡ cond (bytes_eq sid name && (slot == at)) value (old (sid, slot))
  put_slot_row sid slot = h (sid, slot) ∙ ap (λ b. cond b value (old (sid, slot))) (slot_key name at sid slot)

  pub still_few : AreFewSlots (λ sid slot. old (sid, slot)) → at < max_slots → AreFewSlots (λ sid slot. new (sid, slot))
  still_few few low sid slot some = grind (arith, put_slot_row sid slot, few sid slot)

  -- one more slot taken out
  pub one_more : (first : Name × ℕ → Option KeptModel) → value ≡ None
      → ((sid : Name) (slot : ℕ)
      → old (sid, slot) ≡ cond (bytes_eq sid name && nat_lt slot at) None (first (sid, slot)))
      → (sid : Name) (slot : ℕ)
      → new (sid, slot) ≡ cond (bytes_eq sid name && nat_lt slot (at + 1)) None (first (sid, slot))
  one_more first none before sid slot = grind (arith, put_slot_row sid slot, before sid slot)

-- without the slots below the limit a session has none
module _ (new old : Name → ℕ → Option KeptModel) (name : Name) (few : AreFewSlots old) (h : (sid : Name) (slot : ℕ)
    → new sid slot ≡ cond (bytes_eq sid name && nat_lt slot max_slots) None (old sid slot)) where
  pub none_left : (sid : Name) (slot : ℕ) → new sid slot ≡ cond (bytes_eq sid name) None (old sid slot)
  none_left sid slot = grind (arith, h sid slot, few sid slot)

  pub few_left : AreFewSlots new
  few_left sid slot some = grind (arith, h sid slot, few sid slot)

pub none_taken : (b : Bool) (slot : ℕ) (o : Option KeptModel) → o ≡ cond (b && nat_lt slot 0) None o
none_taken b slot o = grind arith

pub still_counted : (new old : Name → Option SessionRow) (row : SessionRow) → HaveSlotCounts old → row.slots ≤ max_slots
    → ((sid : Name) → new sid ≡ cond (bytes_eq sid row.sid) (Some row) (old sid)) → HaveSlotCounts new
still_counted new old row counted few h sid other is = grind (arith, h sid, counted sid other)
