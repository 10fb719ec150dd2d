-- The rows of an object's entries that are read in order of place are the first of its entries.
use Rattle.room_tables.proofs.Common.{◌≡◌, ℕ, pos, Bool, true, false, not, ◌||◌, cond, List, [], ◌∷◌, ◌++◌, map, filter}
use Rattle.room_tables.proofs.Common.{inl, inr, refl, sym, ap, subst, subst₂, ◌∙◌, true≢false, IsPermutation, Equal}
use Rattle.room_tables.proofs.Common.{Less, Greater, Ordering, is_eq, Some, ordering_then, AllByRecursion, not-true}
use Rattle.room_tables.proofs.Common.{tied_itself, IsPermutation-map, IsAscending, rowid, ascending-map, first_of_both}
use Rattle.room_tables.proofs.Common.{second_of_both, Value, Null, Int, Key, Binary, ascending, plain, first_key, Row}
use Rattle.room_tables.proofs.Common.{column, value_cmp, binary, is_null, is_true, from_truth, key_cmp, IsAnswer}
use Rattle.room_tables.proofs.Common.{overlay, key_cmp_total, passes, agree, equal, Unique, NotNull, Has, all_has}
use Rattle.room_tables.proofs.Common.{all_from, has_filtered, tied_same, has_mapped, State, Shown, Begins, automatic}
use Rattle.room_tables.proofs.Common.{Database, IsDatabase, reads_as, begins_as, Layout, room_schema, entry_table, has}
use Rattle.room_tables.proofs.Common.{shown_entry, entry_keys, entry_rows, IsKeyed, IsRoomDatabase}
use Rattle.std.specs.Ordering.{is_gt}
use Rattle.room_tables.proofs.Texts.{read_entries_text, read_entries_query}
use Rattle.room_tables.proofs.Meaning.{read_entries_means}
use Rattle.room_tables.proofs.Queries.{and_true, answer_is, arranged, first_tie}
use Rattle.room_tables.proofs.Each.{rows_pass, once_by}
use Rattle.room_tables.proofs.Removed.{has_permuted}
use Rattle.room_tables.proofs.Sorted.{sorted_answer}
use Rattle.room_tables.proofs.Values.{has_not_null, has_tied}

-- ---- a place stands once in an object's list, by UNIQUE and NOT NULL

placed_entry : (l : Layout) (db : Database) (row : Row) → passes NotNull (room_schema l) db.trees entry_table row ≡ true
    → is_null (column row 2) ≡ false
placed_entry l db row h = not-true _ (first_of_both _ _ (second_of_both (not (is_null (column row 1))) _ h))

truth_is : (b : Bool) (o : Ordering) → b ≡ false → o ≡ Equal → is_true (cond b Null (from_truth (Some (is_eq o))))
    ≡ true
truth_is b o p q = rw (p, q) refl

tied_equal : (a b : Value) → is_null a ≡ false → is_null b ≡ false → value_cmp a b ≡ Equal → equal Binary a b ≡ true
unfolding binary
tied_equal a b p q tie = truth_is (is_null a || is_null b) (value_cmp a b) (rw (p, q) refl) tie

agree_on : (x y : Row) → equal Binary (column x 1) (column y 1) ≡ true → equal Binary (column x 2) (column y 2) ≡ true
    → agree plain (1 ∷ 2 ∷ []) x (1 ∷ 2 ∷ []) y ≡ true
unfolding first_key
agree_on x y p q = rw (p, q) refl

-- two entries of an object that have one place are one row
entry_once : (l : Layout) (db : Database) (id : ℕ) (x y : Row) → db.schema ≡ room_schema l → IsDatabase db
    → IsKeyed (db.trees 3)
    → Has (db.trees 3) x → Has (db.trees 3) y → has 1 id x ≡ true → has 1 id y ≡ true
    → value_cmp (column x 2) (column y 2) ≡ Equal → value_cmp (rowid x) (rowid y) ≡ Equal
entry_once l db id x y schema sound keyed in_x in_y p q tie =
    let filled = (rows_pass NotNull db l schema sound).entry in
    let some_x = placed_entry l db x (all_has _ (db.trees 3) x filled in_x) in
    let some_y = placed_entry l db y (all_has _ (db.trees 3) y filled in_y) in
    let nodes = tied_equal (column x 1) (column y 1) (has_not_null 1 id x p) (has_not_null 1 id y q)
    (has_tied 1 id x y p q) in
    let places = tied_equal (column x 2) (column y 2) some_x some_y tie in
    once_by l db entry_table (automatic entry_table 0 (1 ∷ 2 ∷ []) 4) x y (inr (inl refl)) refl
    (all_has _ (db.trees 3) y (rows_pass Unique db l schema sound).entry in_y) in_x (agree_on x y nodes places)
    (all_has _ (db.trees 3) x keyed.ints in_x) (all_has _ (db.trees 3) y keyed.ints in_y)

-- ---- sorted by place is sorted by all that is shown

-- it is shown of a row of the object
abbrev IsOf : List Row → Row → Type 0
IsOf all x = (r : Row) × Has all r × (x ≡ shown_entry r)

abbrev place_keys : List Key
place_keys = ascending Binary ∷ []

abbrev place_key : Row → Row
place_key x = column x 0 ∷ []

module _ (l : Layout) (db : Database) (id : ℕ) (schema : db.schema ≡ room_schema l) (sound : IsDatabase db)
    (keyed : IsKeyed (db.trees 3)) where
  abbrev mine : List Row
  mine = filter (has 1 id) (db.trees 3)

  exact : (a b : Row) → IsOf mine a → IsOf mine b → value_cmp (column a 0) (column b 0) ≡ Equal → a ≡ b
  exact a b p q tie =
      let x = has_filtered (has 1 id) (db.trees 3) p.0 p.1 in
      let y = has_filtered (has 1 id) (db.trees 3) q.0 q.1 in
      let places : value_cmp (column p.0 2) (column q.0 2) ≡ Equal =
      subst₂ (λ v w. value_cmp v w ≡ Equal) (ap (λ (r : Row). column r 0) p.2) (ap (λ (r : Row). column r 0) q.2)
      tie in
      let same : p.0 ≡ q.0 = tied_same (db.trees 3) p.0 q.0 keyed.table x.0 y.0
      (entry_once l db id p.0 q.0 schema sound keyed x.0 y.0 x.1 y.1 places) in
      p.2 ∙ ap shown_entry same ∙ sym q.2

  exact_all : (a b : Row) → IsOf mine a → IsOf mine b → key_cmp 0 entry_keys a b ≡ Equal → a ≡ b
  exact_all a b p q tie = exact a b p q (first_tie _ _ tie).0

  at_most : (a b : Row) → IsOf mine a → IsOf mine b → is_gt (key_cmp 0 place_keys (place_key a) (place_key b)) ≡ false
      → is_gt (key_cmp 0 entry_keys a b) ≡ false
  at_most a b p q h = go (value_cmp (column a 0) (column b 0)) refl h
    where
      go : (o : Ordering) → value_cmp (column a 0) (column b 0) ≡ o → is_gt (ordering_then o Equal) ≡ false
          → is_gt (key_cmp 0 entry_keys a b) ≡ false
      go Less e h = rw e refl
      go Equal e h = ap (λ x. is_gt (key_cmp 0 entry_keys a x)) (sym (exact a b p q e))
          ∙ ap is_gt (tied_itself (key_cmp_total entry_keys 0) a)
      go Greater e h = absurd (true≢false h)

  all_most : (x : Row) (xs : List Row) → IsOf mine x → AllByRecursion (IsOf mine) xs
      → AllByRecursion (λ y. is_gt (key_cmp 0 place_keys (place_key x) (place_key y)) ≡ false) xs
      → AllByRecursion (λ y. is_gt (key_cmp 0 entry_keys x y) ≡ false) xs
  all_most x [] p all up = tt
  all_most x (y ∷ ys) p all up = (at_most x y p all.0 up.0, all_most x ys p all.1 up.1)

  still_up : (xs : List Row) → AllByRecursion (IsOf mine) xs
      → IsAscending (λ a b. is_gt (key_cmp 0 place_keys (place_key a) (place_key b)) ≡ false) xs
      → IsAscending (λ a b. is_gt (key_cmp 0 entry_keys a b) ≡ false) xs
  still_up [] all up = tt
  still_up (x ∷ xs) all up = (all_most x xs all.0 all.1 up.0, still_up xs all.1 up.1)

  -- a whole answer is the entries in their order
  pub whole_answer : (rows : List Row) → IsAnswer read_entries_query (overlay db.trees []) (Int (pos id) ∷ []) rows
      → rows ≡ entry_rows db.trees id
  whole_answer rows a =
      let k = answer_is 3 read_entries_query.filter read_entries_query.project read_entries_query.order
      (overlay db.trees []) (Int (pos id) ∷ []) rows a in
      let it = arranged read_entries_query (Int (pos id) ∷ []) (db.trees 3) rows (has 1 id) (λ r. column r 2 ∷ [])
      shown_entry (λ r. and_true (has 1 id r)) (λ r. refl) k in
      let moved : IsPermutation (map shown_entry mine) rows =
      subst (IsPermutation _) (sym it.3) (IsPermutation-map shown_entry _ _ it.1) in
      let up : IsAscending (λ a b. is_gt (key_cmp 0 place_keys (place_key a) (place_key b)) ≡ false) rows =
      subst (IsAscending _) (sym it.3) (ascending-map _ shown_entry it.0 it.2) in
      let all = all_from (IsOf mine) rows (λ x h. has_mapped shown_entry mine x (has_permuted _ rows x moved h)) in
      sorted_answer (key_cmp 0 entry_keys) (key_cmp_total entry_keys 0) (IsOf mine) exact_all (map shown_entry mine)
      rows all moved (still_up rows all up)

-- the rows that were read begin the entries
pub read_begins : (s : State) (id : ℕ) (given : List Row) → IsRoomDatabase s.now → IsDatabase s.now
    → Begins read_entries_text (Int (pos id) ∷ []) s given → (tail : List Row)
    × (given ++ tail ≡ entry_rows s.now.trees id)
read_begins s id given room sound h =
    let means = read_entries_means room.layout in
    let read = begins_as read_entries_text (Int (pos id) ∷ []) s s (room_schema room.layout) room.schema _
    means.0.0 means.0.1 means.1 given h in
    let start = read.1 in
    (start.0, whole_answer room.layout s.now id room.schema sound room.keyed.1.1.0 (given ++ start.0) (start.1 Null))

-- and at the end they are all
pub read_ends : (old new : State) (id : ℕ) (given : List Row) → IsRoomDatabase old.now → IsDatabase old.now
    → Shown read_entries_text (Int (pos id) ∷ []) old new given → given ≡ entry_rows old.now.trees id
read_ends old new id given room sound h =
    let means = read_entries_means room.layout in
    let read = reads_as read_entries_text (Int (pos id) ∷ []) old new (room_schema room.layout) room.schema _
    means.0.0 means.0.1 means.1 given h in
    whole_answer room.layout old.now id room.schema sound room.keyed.1.1.0 given (read.answer Null)
