-- Lists that are kept, after calls.
use Rattle.room_sql.proofs.Common.{Global, ◌≡◌, ◌≢◌, ◌∙◌, ◌⊎◌, ℕ, cond, List, Option, None, Some, Vec, Result, Ok, Err}
use Rattle.room_sql.proofs.Common.{OnOk, OnErr, inl, inr, sym, ap, subst, subst₂, eq-eqb, cases_eq, ne_eqb, Trees}
use Rattle.room_sql.proofs.Common.{EntryModel, PutEntries, entry_rows, IsStored, IsKeptFor}
use Rattle.std.specs.BTreeMap.{BTreeMap, Updates, IsUnchanged, is_at}
use Rattle.std.specs.Cmp.{unsigned_tied}
use Rattle.std.specs.Ordering.{nat_cmp}
use Rattle.room_records.specs.declared.change.Change.{Change}
use Rattle.room_cache.specs.Rows.{row_at}

abbrev Kept : Type 0
Kept = List (ℕ × Vec EntryModel Global)

-- each list that is kept is that of its object
abbrev Are : Kept → Trees → Type 0
Are kept trees = (id : ℕ) (list : Vec EntryModel Global) → row_at nat_cmp kept id ≡ Some list
    → IsStored id list.items trees

-- what is at a number where something was put, or taken
at_number : (id k : ℕ) (was put : Option (Vec EntryModel Global)) (list : Vec EntryModel Global)
    → cond (is_at (nat_cmp id) k) put was ≡ Some list
    → ((id ≡ k) × (put ≡ Some list)) ⊎ ((id ≢ k) × (was ≡ Some list))
at_number id k was put list held = elim (cases_eq id k) [
  | inl same ↦
      inl (same, subst (λ b. cond b put was ≡ Some list) (unsigned_tied id k ∙ eq-eqb id k same) held)
  | inr apart ↦
      inr (apart, subst (λ b. cond b put was ≡ Some list) (unsigned_tied id k ∙ ne_eqb id k apart) held)
]

-- the lists of other objects, where their rows are as they were
pub others_stored : (kept left : Kept) (id : ℕ) (old new : Trees)
    → ((k : ℕ) → row_at nat_cmp left k ≡ cond (is_at (nat_cmp id) k) None (row_at nat_cmp kept k))
    → Are kept old → ((q : ℕ) → q ≢ id → entry_rows new q ≡ entry_rows old q) → Are left new
others_stored kept left id old new taken stored leaves = λ k list held.
    elim (at_number id k (row_at nat_cmp kept k) None list (sym (taken k) ∙ held)) [
      | inl mine ↦ absurd (let bad = mine.1 in cc)
      | inr other ↦
          let was = stored k list other.1 in
          record { rows = leaves k (λ is. other.0 (sym is)) ∙ was.rows; back = was.back }
    ]

-- all of them, where all rows are
pub all_stored : (kept : Kept) (old new : Trees) → ((q : ℕ) → entry_rows new q ≡ entry_rows old q)
    → Are kept old → Are kept new
all_stored kept old new same stored = λ k list held.
    let was = stored k list held in record { rows = same k ∙ was.rows; back = was.back }

-- one list more, or where memory was refused none
pub more_stored : {X E : Type 0} (result : Result X E) (was now : BTreeMap ℕ (Vec EntryModel Global)) (id : ℕ)
    (list : Vec EntryModel Global) (trees : Trees) → OnOk result (Updates nat_cmp was now id (Some list))
    → OnErr result (IsUnchanged was now) → Are was.entries trees → IsStored id list.items trees → Are now.entries trees
more_stored (Ok x) was now id list trees put err stored mine = λ k found held.
    elim (at_number id k (row_at nat_cmp was.entries k) (Some list) found (sym (put.0 k) ∙ held)) [
      | inl here ↦
          let same : list ≡ found = let is = here.1 in cc in
          subst₂ (λ n (l : Vec EntryModel Global). IsStored n l.items trees) here.0 same mine
      | inr other ↦ stored k found other.1
    ]
more_stored (Err e) was now id list trees put same stored mine = λ k found held.
    stored k found (sym (ap (λ (rows : Kept). row_at nat_cmp rows k) same) ∙ held)

-- nothing need be said where no list was kept
pub none_kept : (change : Change) (trees : Trees) → IsKeptFor None change trees
none_kept (PutEntries id entries) trees = tt
none_kept _ trees = tt
