-- Which rows pass a test after a row was put in or rows were taken out.
use Rattle.room_tables.proofs.Common.{◌≡◌, ◌≢◌, ◌≤◌, ℕ, pos, Bool, true, false, not, ◌||◌, ◌==◌, cond, List, [], ◌∷◌}
use Rattle.room_tables.proofs.Common.{filter, inl, inr, refl, sym, ap, subst, ◌∙◌, true≢false, Less, Equal, Greater}
use Rattle.room_tables.proofs.Common.{Ordering, is_eq, arith, eq-eqb, IsPermutation, AllByRecursion, match_ordering}
use Rattle.room_tables.proofs.Common.{cases_Bool, not-true, cases_eq, ne_eqb, false_from_ne_true, IsPermutation-refl}
use Rattle.room_tables.proofs.Common.{IsPermutation-cons, IsPermutation-trans, IsPermutation-middle, IsPermutation-sym}
use Rattle.room_tables.proofs.Common.{Int, Row, value_cmp, Trees, rowid, put_row, without_rowid, has_rowid, is_int}
use Rattle.room_tables.proofs.Common.{is_taken, Has, IsPermutation-filter, filter-filter, filter_all, filter_none}
use Rattle.room_tables.proofs.Common.{ascending-filter, all-filter, all_from, has_filtered, has_put, one_permutation}
use Rattle.room_tables.proofs.Common.{Table, Database, IsDatabase, Layout, room_schema, has, versions_in, kept_rows}
use Rattle.room_tables.proofs.Common.{IsVersion, IsKeyed, HasNumbers, IsRoomDatabase}
use Rattle.sqlite_trees.proofs.TreeLemmas.{IsTable-put_row, all-put_row}
use Rattle.room_tables.proofs.Each.{from_both, in_turn, of_turn, above}
use Rattle.room_tables.proofs.TreeNames.{slots_listed}
use Rattle.room_tables.proofs.Values.{has_is, has_one, int_has}
use Rattle.room_tables.proofs.Changes.{without, Others}
use Rattle.room_tables.proofs.Upserts.{Put}

-- a row that goes in where none has its rowid is one more row
pub put_is_one_more : (new : Row) (rows : List Row) → is_taken rows new ≡ false
    → IsPermutation (put_row new rows) (new ∷ rows)
put_is_one_more new [] free = IsPermutation-refl _
put_is_one_more new (r ∷ rows) free = go (value_cmp (rowid r) (rowid new)) (put_is_one_more new rows) free
  where
    go : (o : Ordering) → (is_taken rows new ≡ false → IsPermutation (put_row new rows) (new ∷ rows))
        → (is_eq o || is_taken rows new) ≡ false
        → IsPermutation (match_ordering o (r ∷ put_row new rows) (new ∷ rows) (new ∷ r ∷ rows)) (new ∷ r ∷ rows)
    go Less more h =
        IsPermutation-trans _ _ _ (IsPermutation-cons r _ _ (more h)) (IsPermutation-middle (r ∷ []) new rows)
    go Equal more h = absurd (true≢false h)
    go Greater more h = IsPermutation-refl _

-- and one that fails a test is not among those that pass it
pub put_passed_over : (p : Row → Bool) (new : Row) (rows : List Row) → p new ≡ false
    → is_taken rows new ≡ false → filter p (put_row new rows) ≡ filter p rows
put_passed_over p new [] fails free = rw fails
put_passed_over p new (r ∷ rows) fails free =
    go (value_cmp (rowid r) (rowid new)) (put_passed_over p new rows fails) free
  where
    go : (o : Ordering) → (is_taken rows new ≡ false → filter p (put_row new rows) ≡ filter p rows)
        → (is_eq o || is_taken rows new) ≡ false
        → filter p (match_ordering o (r ∷ put_row new rows) (new ∷ rows) (new ∷ r ∷ rows)) ≡ filter p (r ∷ rows)
    go Less more h = ap (λ l. cond (p r) (r ∷ l) l) (more h)
    go Equal more h = absurd (true≢false h)
    go Greater more h = rw fails

-- where no other row passes, the row that went in is the only one that does
put_alone : (p : Row → Bool) (new : Row) (rows : List Row) → p new ≡ true
    → filter p rows ≡ [] → is_taken rows new ≡ false → filter p (put_row new rows) ≡ new ∷ []
put_alone p new rows passes none free =
    let here : filter p (new ∷ rows) ≡ new ∷ [] = rw passes (ap (λ l. new ∷ l) none) in
    let moved = IsPermutation-filter p _ _ (IsPermutation-sym _ _ (put_is_one_more new rows free)) in
    one_permutation new _ (subst (λ l. IsPermutation l (filter p (put_row new rows))) here moved)

-- what a test leaves has none that passes it
pub none_left : (p q : Row → Bool) (rows : List Row)
    → ((r : Row) → q r ≡ true → p r ≡ true) → filter q (without p rows) ≡ []
none_left p q rows implied = filter_none q (without p rows) (all_from (λ r. q r ≡ false) (without p rows) (λ r h.
    false_from_ne_true _ (λ passes. true≢false
    (sym (implied r passes) ∙ not-true _ (has_filtered (λ x. not (p x)) rows r h).1))))

-- and those of another test as before, where no row passes both
pub others_left : (p q : Row → Bool) (rows : List Row)
    → ((r : Row) → q r ≡ true → p r ≡ false) → filter q (without p rows) ≡ filter q rows
others_left p q rows apart = filter-filter q (λ r. not (p r)) (λ r h. ap not (apart r h)) rows

-- the same where only the rows that are there are looked at
pub others_left_on : (p q : Row → Bool) (rows : List Row)
    → ((r : Row) → Has rows r → q r ≡ true → p r ≡ false) → filter q (without p rows) ≡ filter q rows
others_left_on p q [] apart = refl
others_left_on p q (r ∷ rows) apart =
    let more = others_left_on p q rows (λ x h. apart x (inr h)) in
    elim (cases_Bool (p r)) [
      | inl gone ↦ rw (gone, false_from_ne_true (q r) (λ h. true≢false (sym gone ∙ apart r (inl refl) h))) more
      | inr left ↦ rw left (ap (λ l. cond (q r) (r ∷ l) l) more)
    ]

pub same_test : (id : ℕ) (r : Row) → has_rowid (pos id) r ≡ has 0 id r
same_test id r = sym (has_is 0 id r)

pub not_both : (place id q : ℕ) (r : Row) → q ≢ id → has place q r ≡ true → has place id r ≡ false
not_both place id q r apart h = false_from_ne_true _ (λ also. apart (has_one place q id r h also))

-- a test that no row passes leaves them all
pub without_none : (p : Row → Bool) (rows : List Row) → ((r : Row) → Has rows r → p r ≡ true → ⊥)
    → without p rows ≡ rows
without_none p rows none = filter_all _ rows
    (all_from (λ r. not (p r) ≡ true) rows (λ r h. ap not (false_from_ne_true _ (none r h))))

-- what is read of the rows with a number, where those with one are gone
pub rows_gone : {X : Type 0} (f : List Row → X) (place id q : ℕ) (was is : List Row) → is ≡ without (has place id) was
    → f (filter (has place q) is) ≡ cond (q == id) (f []) (f (filter (has place q) was))
rows_gone f place id q was is e = elim (cases_eq q id) [
  | inl same ↦
      rw (eq-eqb q id same, same) (ap f (ap (filter (has place id)) e
      ∙ none_left (has place id) (has place id) was (λ r h. h)))
  | inr apart ↦
      rw (ne_eqb q id apart) (ap f (ap (filter (has place q)) e
      ∙ others_left (has place id) (has place q) was (λ r h. not_both place id q r apart h)))
]

module _ {l : Layout} {tree : ℕ} {db next : Trees} {Fits Met : Row → Type 0} (it : Put l tree db next Fits Met) where
  -- what is read of the rows with a number
  pub filter_put : {X : Type 0} (f : List Row → X) (id q : ℕ) → it.id ≡ pos id
      → f (filter (has 0 q) (next tree)) ≡ cond (q == id) (f (it.row ∷ [])) (f (filter (has 0 q) (db tree)))
  filter_put f id q is = elim (cases_eq q id) [
    | inl same ↦
        rw (eq-eqb q id same, same) (ap f (ap (filter (has 0 id)) it.rows
        ∙ put_alone (has 0 id) it.row left mine gone it.free))
    | inr apart ↦
        rw (ne_eqb q id apart) (ap f (ap (filter (has 0 q)) it.rows ∙ put_passed_over (has 0 q) it.row left
        (not_both 0 q id it.row (λ e. apart (sym e)) mine) it.free ∙ stay apart))
  ]
    where
      left : List Row
      left = without_rowid it.id (db tree)

      mine : has 0 id it.row ≡ true
      mine = int_has 0 id it.row (it.has_id ∙ ap Int is)

      gone : filter (has 0 id) left ≡ []
      gone = none_left (has_rowid it.id) (has 0 id) (db tree) (λ r h. ap (λ i. has_rowid i r) is ∙ same_test id r ∙ h)

      stay : q ≢ id → filter (has 0 q) left ≡ filter (has 0 q) (db tree)
      stay apart = others_left (has_rowid it.id) (has 0 q) (db tree)
          (λ r h. ap (λ i. has_rowid i r) is ∙ same_test id r ∙ not_both 0 id q r apart h)

  -- the rows that pass a test, which no row passes that was met, nor the one that was put
  pub filter_apart : (q : Row → Bool) → q it.row ≡ false → ((r : Row) → Met r → q r ≡ false)
      → filter q (next tree) ≡ filter q (db tree)
  filter_apart q fails apart = ap (filter q) it.rows
      ∙ put_passed_over q it.row (without_rowid it.id (db tree)) fails it.free
      ∙ others_left_on (has_rowid it.id) q (db tree) (λ r there h.
      false_from_ne_true _ (λ mine. true≢false (sym h ∙ apart r (it.gone r there mine))))

  pub has_row : Has (next tree) it.row
  has_row = subst (λ l. Has l it.row) (sym it.rows) (has_put it.row _)

-- ---- the version

-- where the one row of room is as it was
pub version_stays : (before after : List Row) → after ≡ before
    → IsVersion 2 (versions_in before) → IsVersion 2 (versions_in after)
version_stays before after same = subst (λ rows. IsVersion 2 (versions_in rows)) (sym same)

-- ---- keys

pub keyed_put : (new : Row) (rows : List Row) → is_int (rowid new) ≡ true → IsKeyed rows → IsKeyed (put_row new rows)
keyed_put new rows int keyed =
    record { table = IsTable-put_row new rows keyed.table; ints = all-put_row _ new rows int keyed.ints }

pub keyed_filter : (p : Row → Bool) (rows : List Row) → IsKeyed rows → IsKeyed (filter p rows)
keyed_filter p rows keyed =
    record { table = ascending-filter _ p rows keyed.table; ints = all-filter _ p rows keyed.ints }

pub keyed_after : {l : Layout} {tree : ℕ} {db next : Trees} {Fits Met : Row → Type 0}
    → Put l tree db next Fits Met → IsKeyed (db tree) → IsKeyed (next tree)
keyed_after {l} {tree} {db} it keyed =
    subst IsKeyed (sym it.rows) (keyed_put it.row _ (subst (λ v. is_int v ≡ true) (sym it.has_id) refl)
    (keyed_filter (λ r. not (has_rowid it.id r)) (db tree) keyed))

-- a table is keyed where the one that changed is
still_keyed : (tree : ℕ) (db next : Trees) → IsKeyed (next tree) → (t : Table)
    → IsKeyed (db t.tree) → (t.tree ≢ tree → next t.tree ≡ db t.tree) → IsKeyed (next t.tree)
still_keyed tree db next mine t keyed other = elim (cases_eq t.tree tree) [
  | inl same ↦ subst (λ n. IsKeyed (next n)) (sym same) mine
  | inr apart ↦ subst IsKeyed (sym (other apart)) keyed
]

-- the tables are laid out as before, and the list of objects names them as before, since the database is sound
pub still_room : (tree : ℕ) (old new : Database) (room : IsRoomDatabase old) → new.schema ≡ room_schema room.layout
    → IsDatabase new → Others room.layout tree old.trees new.trees → IsKeyed (new.trees tree)
    → AllByRecursion HasNumbers (new.trees 1) → IsRoomDatabase new
still_room tree old new room schema sound others mine numbered = record {
  layout = room.layout;
  schema = schema;
  listed = slots_listed new room.layout sound schema;
  keyed = in_turn room.layout _ (from_both room.layout _ _ (λ (t : Table). IsKeyed (new.trees t.tree))
      (still_keyed tree old.trees new.trees mine)
      (of_turn room.layout (λ (t : Table). IsKeyed (old.trees t.tree)) room.keyed) others);
  numbered = numbered;
}

-- and the nodes are where another table changed
pub still_numbered : (tree : ℕ) (old new : Database) (room : IsRoomDatabase old) → 1 ≢ tree
    → Others room.layout tree old.trees new.trees → AllByRecursion HasNumbers (new.trees 1)
still_numbered tree old new room apart others =
    subst (AllByRecursion HasNumbers) (sym (others.node apart)) room.numbered

-- and so are the rows of what slots keep
pub still_slots : (tree : ℕ) (old new : Database) (room : IsRoomDatabase old) → new.schema ≡ room_schema room.layout
    → IsDatabase new → tree ≤ 7 → Others room.layout tree old.trees new.trees
    → kept_rows new.trees ≡ kept_rows old.trees
still_slots tree old new room schema sound low others = let high = above room.layout in
    slots_listed new room.layout sound schema ∙ others.slots (omega (arith, low, high)) ∙ sym room.listed
