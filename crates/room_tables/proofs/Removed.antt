-- What a DELETE by a test leaves of a table.
use Rattle.room_tables.proofs.Common.{◌≡◌, ℤ, Bool, true, not, ◌||◌, cond, List, [], ◌∷◌, map, filter, inl, inr, refl}
use Rattle.room_tables.proofs.Common.{sym, ap, subst, ◌∙◌, true≢false, Less, Equal, is_eq, IsPermutation, list_any}
use Rattle.room_tables.proofs.Common.{cases_Bool, false_from_ne_true, tied_itself, Int, Row, value_cmp, value_cmp_total}
use Rattle.room_tables.proofs.Common.{rowid, has_rowid, without_rowid, IsTable, is_int, Has, id_in, without_all, ids_of}
use Rattle.room_tables.proofs.Common.{all_has, all_from, some_has, some_from, has_filtered, has_kept, has_mapped}
use Rattle.room_tables.proofs.Common.{mapped_has, tied_same, int_is, IsPermutation-sym, ascending-filter, filter_all}
use Rattle.room_tables.proofs.Common.{each_true, all-permutation}
pub use Rattle.room_tables.specs.Layout.{IsKeyed}
use Rattle.sqlite_trees.proofs.ListLemmas.{filter_same}
use Rattle.room_tables.proofs.Values.{eq_is}

abbrev among : List ℤ → Row → Bool
among ids r = list_any (λ id. has_rowid id r) ids

two_filters : {X : Type 0} (p q : X → Bool) (xs : List X)
    → filter (λ x. not (q x)) (filter (λ x. not (p x)) xs) ≡ filter (λ x. not (p x || q x)) xs
two_filters p q [] = refl
two_filters p q (x ∷ xs) = elim (cases_Bool (p x)) [
  | inl gone ↦ rw gone (two_filters p q xs)
  | inr left ↦ rw left (ap (λ l. cond (not (q x)) (x ∷ l) l) (two_filters p q xs))
]

without_all_is : (ids : List ℤ) (rows : List Row) → without_all rows ids ≡ filter (λ r. not (among ids r)) rows
without_all_is [] rows = sym (filter_all _ rows (each_true rows))
without_all_is (id ∷ ids) rows =
    without_all_is ids (without_rowid id rows) ∙ two_filters (has_rowid id) (among ids) rows

pub has_permuted : {X : Type 0} (xs ys : List X) (x : X) → IsPermutation xs ys → Has ys x → Has xs x
has_permuted xs ys x same =
    all_has (Has xs) ys x (all-permutation (Has xs) xs ys same (all_from (Has xs) xs (λ e h. h)))

-- what is shown of rows that pass a test, in some order: each is of such a row, and each such row is shown
module _ (show : Row → Row) (p : Row → Bool) (all rows : List Row) (same : IsPermutation (map show (filter p all)) rows)
  where
    pub shown_of : (s : Row) → Has rows s → (r : Row) × Has all r × (p r ≡ true) × (s ≡ show r)
    shown_of s h =
        let f = has_mapped show (filter p all) s (has_permuted _ rows s same h) in
        let k = has_filtered p all f.0 f.1 in
        (f.0, k.0, k.1, f.2)

    pub is_shown : (r : Row) → Has all r → p r ≡ true → Has rows (show r)
    is_shown r there passes = has_permuted rows _ (show r) (IsPermutation-sym _ _ same)
        (mapped_has show (filter p all) r (has_kept p all r there passes))

is_its_rowid : (r : Row) → is_int (rowid r) ≡ true → has_rowid (id_in (rowid r)) r ≡ true
is_its_rowid r int = ap (λ v. is_eq (value_cmp (rowid r) v)) (sym (int_is (rowid r) int))
    ∙ ap is_eq (tied_itself value_cmp_total (rowid r))

abbrev id_of : Row → ℤ
id_of r = id_in (rowid r)

-- the one row with a number, where it is there
pub one_row : (p : Row → Bool) (rows : List Row) (r : Row) → IsTable rows → Has rows r → p r ≡ true
    → ((x y : Row) → Has rows x → Has rows y → p x ≡ true → p y ≡ true → value_cmp (rowid x) (rowid y) ≡ Equal)
    → filter p rows ≡ r ∷ []
one_row p rows r table there passes tie = same_list (filter p rows) (λ x h. let k = has_filtered p rows x h in
    tied_same rows x r table k.0 there (tie x r k.0 there k.1 passes))
    (has_kept p rows r there passes) (ascending-filter _ p rows table)
  where
    same_list : (xs : List Row) → ((x : Row) → Has xs x → x ≡ r) → Has xs r → IsTable xs → xs ≡ r ∷ []
    same_list [] all h up = absurd h
    same_list (x ∷ []) all h up = ap (λ y. y ∷ []) (all x (inl refl))
    same_list (x ∷ y ∷ more) all h up =
        let e = all x (inl refl) in
        let f = all y (inr (inl refl)) in
        let low : value_cmp (rowid x) (rowid y) ≡ Less = up.0.0 in
        let tied : value_cmp (rowid x) (rowid y) ≡ Equal =
        ap (λ z. value_cmp (rowid x) (rowid z)) (f ∙ sym e) ∙ tied_itself value_cmp_total (rowid x) in
        absurd (let bad = sym low ∙ tied in cc)

-- what goes where rows are taken by rowids: those that pass, where the rowids are theirs
pub removed_ids : (p : Row → Bool) (rows : List Row) (ids : List ℤ) → IsKeyed rows
    → ((id : ℤ) → Has ids id → (r : Row) × Has rows r × (p r ≡ true) × (rowid r ≡ Int id))
    → ((r : Row) (id : ℤ) → Has rows r → p r ≡ true → rowid r ≡ Int id → Has ids id)
    → without_all rows ids ≡ filter (λ r. not (p r)) rows
removed_ids p rows ids keyed sound complete =
    without_all_is ids rows
    ∙ filter_same (λ r. not (among ids r)) (λ r. not (p r)) rows
    (all_from (λ r. not (among ids r) ≡ not (p r)) rows (λ x h. ap not (agrees x h)))
  where
    agrees : (x : Row) → Has rows x → among ids x ≡ p x
    agrees x h = elim (cases_Bool (p x)) [
      | inl passes ↦
          let int = all_has _ rows x keyed.ints h in
          some_from (λ id. has_rowid id x) ids (id_of x)
          (complete x (id_of x) h passes (int_is (rowid x) int)) (is_its_rowid x int) ∙ sym passes
      | inr fails ↦ false_from_ne_true (among ids x) (λ any.
          let i = some_has (λ id. has_rowid id x) ids any in
          let r = sound i.0 i.1 in
          let tie : value_cmp (rowid x) (rowid r.0) ≡ Equal =
          eq_is _ (ap (λ v. is_eq (value_cmp (rowid x) v)) r.3 ∙ i.2) in
          true≢false (sym (ap p (tied_same rows x r.0 keyed.table h r.1 tie) ∙ r.2) ∙ fails)) ∙ sym fails
    ]

-- so it is where a query found them, each with its rowid first
pub removed : (p : Row → Bool) (raw : Row → Row) (rows found : List Row) → IsKeyed rows
    → IsPermutation (map (λ r. rowid r ∷ raw r) (filter p rows)) found
    → without_all rows (ids_of found) ≡ filter (λ r. not (p r)) rows
removed p raw rows found keyed same = removed_ids p rows (ids_of found) keyed
    (λ id h.
    let f = has_mapped id_of found id h in
    let r = shown_of (λ r. rowid r ∷ raw r) p rows found same f.0 f.1 in
    let key : rowid r.0 ≡ Int (id_of r.0) = int_is (rowid r.0) (all_has _ rows r.0 keyed.ints r.1) in
    (r.0, r.1, r.2, key ∙ ap Int (sym (f.2 ∙ ap id_of r.3))))
    (λ r id h passes is. subst (Has (ids_of found)) (ap id_in is)
    (mapped_has id_of found (rowid r ∷ raw r) (is_shown (λ x. rowid x ∷ raw x) p rows found same r h passes)))
