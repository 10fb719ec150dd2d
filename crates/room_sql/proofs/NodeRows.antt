-- What changes do to the rows of nodes.
use Rattle.room_sql.proofs.Common.{◌≡◌, ◌∙◌, ◌+◌, ◌<◌, ◌==◌, ℕ, pos, Bool, true, false, List, ◌∷◌, length, filter}
use Rattle.room_sql.proofs.Common.{Option, None, Some, inl, inr, refl, sym, ap, subst, is_eq, eq-eqb, arith, get_or}
use Rattle.room_sql.proofs.Common.{drop, if◌then◌else◌, cases_Bool, cases_eq, drop_more, Int, Row, column, value_cmp}
use Rattle.room_sql.proofs.Common.{Trees, without_rowid, has_rowid, Layout, has, parent_value, HasNone, HasOneMore}
use Rattle.room_sql.proofs.Common.{is_parent}
use Rattle.std.proofs.lemmas.Bool.Decides.{nat_tests}
use Rattle.std.proofs.lemmas.List.Sorted.{length_permutation}
use Rattle.sqlite_value.proofs.OrderLemmas.{value_cmp-Null}
use Rattle.sqlite_keyed.proofs.ListLemmas.{IsPermutation-filter}
use Rattle.sqlite_rules.specs.Lists.{Has}
use Rattle.sqlite_rules.proofs.ListLemmas.{has_kept}
use Rattle.room_tables.proofs.Upserts.{Put}
use Rattle.room_tables.proofs.Filters.{put_is_one_more, put_passed_over, others_left_on, not_both}
use Rattle.room_tables.proofs.Values.{int_has, has_is}

-- ---- a node where no row has its number

-- a row is in the folder that is its parent
is_in : (parent : Option ℕ) (folder : ℕ) (row : Row) → column row 2 ≡ parent_value parent
    → has 2 folder row ≡ is_parent parent folder
is_in None folder row is = has_is 2 folder row ∙ ap (λ v. is_eq (value_cmp v (Int (pos folder)))) is
    ∙ ap is_eq (value_cmp-Null (Int (pos folder)))
is_in (Some parent) folder row is = elim (cases_eq parent folder) [
  | inl same ↦ int_has 2 folder row (is ∙ ap (λ n. Int (pos n)) same) ∙ sym (eq-eqb parent folder same)
  | inr apart ↦
      let test : (parent == folder) ≡ false = grind (arith, nat_tests) in
      not_both 2 folder parent row apart (int_has 2 parent row is) ∙ sym test
]

one_counted : (p : Row → Bool) (r : Row) (rows : List Row) (b : Bool) → p r ≡ b
    → length (filter p (r ∷ rows)) ≡ length (filter p rows) + (if b then 1 else 0)
one_counted p r rows true is = rw is (omega arith)
one_counted p r rows false is = rw is (omega arith)

pub one_more : {l : Layout} (id : ℕ) (parent : Option ℕ) (row : Row) (db next : Trees)
    → column row 2 ≡ parent_value parent
    → Put l 1 db next (λ r. r ≡ row) (λ r. has 0 id r ≡ true) → HasNone id (db 1) → HasOneMore parent (db 1) (next 1)
one_more id parent row db next is it none = record {
  counts = λ folder.
      ap (λ l. length (filter (has 2 folder) l)) it.rows
      ∙ sym (length_permutation _ _ (IsPermutation-filter (has 2 folder) _ _ (put_is_one_more it.row left it.free)))
      ∙ one_counted (has 2 folder) it.row left (is_parent parent folder) (inside folder)
      ∙ ap (λ (l : List Row). length l + (if is_parent parent folder then 1 else 0)) (all_left folder);
  others = λ folder apart.
      ap (filter (has 2 folder)) it.rows
      ∙ put_passed_over (has 2 folder) it.row left (inside folder ∙ apart) it.free ∙ all_left folder;
}
  where
    left : List Row
    left = without_rowid it.id (db 1)

    inside : (folder : ℕ) → has 2 folder it.row ≡ is_parent parent folder
    inside folder = is_in parent folder it.row (ap (λ (r : Row). column r 2) it.fits ∙ is)

    stays : (r : Row) → Has (db 1) r → has_rowid it.id r ≡ false
    stays r there = elim (cases_Bool (has_rowid it.id r)) [
      | inl gone ↦ absurd (subst (λ l. Has l r) none (has_kept (has 0 id) (db 1) r there (it.gone r there gone)))
      | inr other ↦ other
    ]

    all_left : (folder : ℕ) → filter (has 2 folder) left ≡ filter (has 2 folder) (db 1)
    all_left folder = others_left_on (has_rowid it.id) (has 2 folder) (db 1) (λ r there h. stays r there)

-- ---- changes in turn

-- the next change, and those behind it
pub next_change : {X : Type 0} (k : ℕ) (xs : List X) (x : X)
    → k < length xs → x ≡ get_or xs k x → drop k xs ≡ x ∷ drop (k + 1) xs
next_change k xs x within is = drop_more xs k x within ∙ rw (← is) refl
