-- Rows that changes do not touch.
use Rattle.room_records.proofs.Common.{◌≡◌, arith, ℕ, refl, ap, ◌∙◌, List, [], ◌∷◌, Change, Records, apply_change}
use Rattle.room_records.proofs.Common.{apply_changes, Leave, Untouched, AreSameChanges}
use Rattle.room_records.proofs.MemRecords.{same_after}

-- changes that were made leave what they leave
left_by : {R : Type 0} (read : Records → R) (changes : List Change) (old : Records)
    → Leave read changes → read (apply_changes changes old) ≡ read old
left_by read [] old leave = refl
left_by read (change ∷ changes) old leave =
    left_by read changes (apply_change change old) leave.1 ∙ leave.0 old

-- where the changes were made, each row that they leave is as it was
pub untouched_by : (changes : List Change) (old new : Records)
    → new ≡ apply_changes changes old → Untouched changes old new
untouched_by changes old new made = rw made (record {
  node = λ id. left_by (λ r. r.objects.node id) changes old;
  entries = λ id. left_by (λ r. r.objects.entries id) changes old;
  document = λ id. left_by (λ r. r.objects.document id) changes old;
  next = left_by (λ r. r.objects.next) changes old;
  session = λ sid. left_by (λ r. r.session sid) changes old;
  slot = λ sid slot. left_by (λ r. r.slot sid slot) changes old;
  kept = λ sid slot low. refl;
})

pub untouched_itself : (r : Records) → Untouched [] r r
untouched_itself r = untouched_by [] r r refl

kept_by_one : (change : Change) (sid : List ℕ) (slot : ℕ) (a b : Records) → a.slot sid slot ≡ b.slot sid slot
    → (apply_change change a).slot sid slot ≡ (apply_change change b).slot sid slot
kept_by_one change sid slot a b same = grind arith

-- what a slot keeps after changes goes by what it kept before them
kept_by : (changes : List Change) (sid : List ℕ) (slot : ℕ) (a b : Records)
    → a.slot sid slot ≡ b.slot sid slot
    → (apply_changes changes a).slot sid slot ≡ (apply_changes changes b).slot sid slot
kept_by [] sid slot a b same = same
kept_by (change ∷ changes) sid slot a b same =
    kept_by changes sid slot (apply_change change a) (apply_change change b) (kept_by_one change sid slot a b same)

-- one change, and then the others
pub untouched_in_turn : (change : Change) (changes : List Change) (old mid new : Records)
    → Untouched (change ∷ []) old mid → Untouched changes mid new → Untouched (change ∷ changes) old new
untouched_in_turn change changes old mid new first rest = record {
  node = λ id leave. rest.node id leave.1 ∙ first.node id (leave.0, tt);
  entries = λ id leave. rest.entries id leave.1 ∙ first.entries id (leave.0, tt);
  document = λ id leave. rest.document id leave.1 ∙ first.document id (leave.0, tt);
  next = λ leave. rest.next leave.1 ∙ first.next (leave.0, tt);
  session = λ sid leave. rest.session sid leave.1 ∙ first.session sid (leave.0, tt);
  slot = λ sid slot leave. rest.slot sid slot leave.1 ∙ first.slot sid slot (leave.0, tt);
  kept = λ sid slot low. rest.kept sid slot low
      ∙ kept_by changes sid slot mid (apply_change change old) (first.kept sid slot low);
}

-- changes that do the same leave the same
same_leave : {R : Type 0} (read : Records → R) (steps changes : List Change)
    → AreSameChanges steps changes → Leave read changes → Leave read steps
same_leave read [] [] same leave = tt
same_leave read [] (y ∷ changes) same leave = absurd same
same_leave read (x ∷ steps) [] same leave = absurd same
same_leave read (x ∷ steps) (y ∷ changes) same leave =
    (λ r. ap read (same.0 r) ∙ leave.0 r, same_leave read steps changes same.1 leave.1)

pub untouched_by_same : (steps changes : List Change) (old new : Records)
    → AreSameChanges steps changes → Untouched steps old new → Untouched changes old new
untouched_by_same steps changes old new same stay = record {
  node = λ id leave. stay.node id (same_leave (λ r. r.objects.node id) steps changes same leave);
  entries = λ id leave. stay.entries id (same_leave (λ r. r.objects.entries id) steps changes same leave);
  document = λ id leave. stay.document id (same_leave (λ r. r.objects.document id) steps changes same leave);
  next = λ leave. stay.next (same_leave (λ r. r.objects.next) steps changes same leave);
  session = λ sid leave. stay.session sid (same_leave (λ r. r.session sid) steps changes same leave);
  slot = λ sid slot leave. stay.slot sid slot (same_leave (λ r. r.slot sid slot) steps changes same leave);
  kept = λ sid slot low. rw (← same_after steps changes old same) (stay.kept sid slot low);
}
