-- Entries that are written over where they stand, and entries that are taken away from a place on.
use Rattle.room_tables.proofs.Common.{◌≡◌, ◌≢◌, ◌≤◌, ◌<◌, ◌+◌, ℕ, suc, pos, Bool, true, false, not, ◌&&◌, cond, List}
use Rattle.room_tables.proofs.Common.{[], ◌∷◌, ◌++◌, length, map, filter, drop, Ok, Less, is_eq, int_cmp, inl, inr}
use Rattle.room_tables.proofs.Common.{refl, sym, ap, ap₂, subst, subst₂, ◌∙◌, arith, IsPermutation, AllByRecursion}
use Rattle.room_tables.proofs.Common.{list_all, is_ge, ints, cases_Bool, not-true, false_from_ne_true, nat_tests}
use Rattle.room_tables.proofs.Common.{append-nil, length-map, IsPermutation-map, IsPermutation-trans}
use Rattle.room_tables.proofs.Common.{IsPermutation-cons, IsPermutation-sym, IsPermutation-middle, length_permutation}
use Rattle.room_tables.proofs.Common.{Int, Binary, Row, column, value_cmp-Int, Trees, rowid, put_row, is_int}
use Rattle.room_tables.proofs.Common.{all-permutation, Compare, Ge, binary, is_true, holds, key_cmp, key_cmp_total}
use Rattle.room_tables.proofs.Common.{sort_by, IsPermutation-filter, filter_all, filter_none, all-append, first_of_both}
use Rattle.room_tables.proofs.Common.{second_of_both, IsPermutation-sort_by, Has, ids_of, cast, cast_row, is_taken}
use Rattle.room_tables.proofs.Common.{are_fresh, put_all, without_all, all_has, has_kept, mapped_has, Integer, Database}
use Rattle.room_tables.proofs.Common.{State, ExecutesInside, Shown, EntryModel, who_text, Layout, entry_table, has}
use Rattle.room_tables.proofs.Common.{shown_entry, entry_keys, entries_shown, entry_rows, five_columns, IsEntryRow}
use Rattle.room_tables.proofs.Common.{HasEntryColumns, IsKeyed, IsRoomDatabase, type_of, IsReadBack, shown_as, placed}
use Rattle.room_tables.proofs.Common.{Lists}
use Rattle.std.proofs.lemmas.List.Elements.{filter-append}
use Rattle.room_tables.proofs.Texts.{change_entry_text, change_entry_query, drop_behind_text, drop_behind_query}
use Rattle.room_tables.proofs.Texts.{list_entries_text}
use Rattle.room_tables.proofs.Meaning.{change_entry_means, drop_behind_means}
use Rattle.room_tables.proofs.Sorted.{ascending-sort_by, same_ascending}
use Rattle.room_tables.proofs.Queries.{and_true}
use Rattle.room_tables.proofs.Values.{truth_back, has_is, has_value, has_one, int_has, cast_tied}
use Rattle.room_tables.proofs.Removed.{removed}
use Rattle.room_tables.proofs.Changes.{cleared, without, others_of, cast_int}
use Rattle.room_tables.proofs.Takes.{quiet}
use Rattle.room_tables.proofs.Writes.{IsUpdate, Updated, reads_rows, read_from}
use Rattle.room_tables.proofs.Filters.{put_is_one_more, put_passed_over, others_left, not_both, keyed_put, keyed_filter}
use Rattle.room_tables.proofs.Placed.{exact_entries, placed_up, placed_rows, relisted, lists_stored}
use Rattle.room_tables.proofs.Asks.{asks_entries}
use Rattle.room_tables.proofs.Ours.{parted}

-- ---- rows at places

pub placed_both : (at end : ℕ) (es fs : List EntryModel) → end ≡ at + length es
    → placed at (es ++ fs) ≡ placed at es ++ placed end fs
placed_both at end [] fs is = let n : at ≡ end = omega (arith, is) in ap (λ k. placed k fs) n
placed_both at end (e ∷ es) fs is = ap (λ l. shown_as at e ∷ l) (placed_both (suc at) end es fs (omega (arith, is)))

-- what holds of each entry at each place from one on
pub all_placed : (P : Row → Type 0) (at end : ℕ) (es : List EntryModel) → at + length es ≤ end
    → ((k : ℕ) (e : EntryModel) → at ≤ k → k < end → P (shown_as k e)) → AllByRecursion P (placed at es)
all_placed P at end [] low each = tt
all_placed P at end (e ∷ es) low each = (
  each at e (omega arith) (omega arith),
  all_placed P (suc at) end es (omega arith) (λ k f from to. each k f (omega arith) to),
)

-- rows that are shown as these entries, in whichever order they stand
pub arranged : (rows : List Row) (es : List EntryModel) → IsPermutation (map shown_entry rows) (placed 0 es)
    → entries_shown rows ≡ placed 0 es
arranged rows es same =
    let cmp = key_cmp 0 entry_keys in
    let total = key_cmp_total entry_keys 0 in
    let shown = map shown_entry rows in
    same_ascending cmp total IsEntryRow exact_entries (placed 0 es) (sort_by cmp shown) (placed_rows 0 es)
    (placed_up 0 es) (ascending-sort_by cmp total shown)
    (IsPermutation-sym _ _ (IsPermutation-trans _ _ _ (IsPermutation-sort_by cmp total shown) same))

pub scattered : (rows : List Row) (es : List EntryModel) → entries_shown rows ≡ placed 0 es
    → IsPermutation (map shown_entry rows) (placed 0 es)
scattered rows es is = let cmp = key_cmp 0 entry_keys in subst (IsPermutation (map shown_entry rows)) is
    (IsPermutation-sym _ _ (IsPermutation-sort_by cmp (key_cmp_total entry_keys 0) (map shown_entry rows)))

-- ---- the rows of an object that pass a test of what is shown of them, and the rows that are left

module _ (id : ℕ) (t : Row → Bool) where
  abbrev pub passes : Row → Bool
  passes r = has 1 id r && t (shown_entry r)

  pub shown_passing : (rows : List Row)
      → map shown_entry (filter passes rows) ≡ filter t (map shown_entry (filter (has 1 id) rows))
  shown_passing [] = refl
  shown_passing (r ∷ rows) = elim (cases_Bool (has 1 id r)) [
    | inl mine ↦ rw mine (by_test (t (shown_entry r)) (shown_passing rows))
    | inr other ↦ rw other (shown_passing rows)
  ]
    where
      by_test : (b : Bool) → map shown_entry (filter passes rows) ≡ filter t (map shown_entry (filter (has 1 id) rows))
          → map shown_entry (cond b (r ∷ filter passes rows) (filter passes rows))
          ≡ cond b (shown_entry r ∷ filter t (map shown_entry (filter (has 1 id) rows)))
          (filter t (map shown_entry (filter (has 1 id) rows)))
      by_test true more = ap (λ l. shown_entry r ∷ l) more
      by_test false more = more

  abbrev pub left : List Row → List Row
  left rows = map shown_entry (filter (has 1 id) (without passes rows))

  abbrev pub kept : List Row → List Row
  kept rows = filter (λ s. not (t s)) (map shown_entry (filter (has 1 id) rows))

  pub shown_left : (rows : List Row) → left rows ≡ kept rows
  shown_left [] = refl
  shown_left (r ∷ rows) = elim (cases_Bool (has 1 id r)) [
    | inl mine ↦ rw mine (by_test (t (shown_entry r)) mine (shown_left rows))
    | inr other ↦ rw (other, other) (shown_left rows)
  ]
    where
      by_test : (b : Bool) → has 1 id r ≡ true → left rows ≡ kept rows
          → map shown_entry (filter (has 1 id) (cond (not b) (r ∷ without passes rows) (without passes rows)))
          ≡ cond (not b) (shown_entry r ∷ kept rows) (kept rows)
      by_test true mine more = more
      by_test false mine more = rw mine (ap (λ l. shown_entry r ∷ l) more)

  pub others_stay : (rows : List Row) (q : ℕ) → q ≢ id → filter (has 1 q) (without passes rows) ≡ filter (has 1 q) rows
  others_stay rows q apart =
      others_left passes (has 1 q) rows (λ r h. ap (λ b. b && t (shown_entry r)) (not_both 1 id q r apart h))

-- ---- the entries from a place on

-- as SQL's >= finds the place of a row that is shown
abbrev pub reaches : ℕ → Row → Bool
reaches n s = is_true (binary (Compare Ge Binary) (column s 0) (Int (pos n)))

reaches_is : (n k : ℕ) (e : EntryModel) → reaches n (shown_as k e) ≡ is_ge (int_cmp (pos k) (pos n))
unfolding binary
reaches_is n k e = truth_back _ ∙ ap is_ge (value_cmp-Int (pos k) (pos n))

pub reaches_not : (n k : ℕ) (e : EntryModel) → k < n → reaches n (shown_as k e) ≡ false
reaches_not n k e low =
    let less : int_cmp (pos k) (pos n) ≡ Less = grind (arith, ints, nat_tests) in reaches_is n k e ∙ ap is_ge less

pub reaches_from : (n k : ℕ) (e : EntryModel) → n ≤ k → reaches n (shown_as k e) ≡ true
reaches_from n k e low =
    let high : is_ge (int_cmp (pos k) (pos n)) ≡ true = grind (arith, ints, nat_tests) in reaches_is n k e ∙ high

front_left : (front back : List EntryModel) (n : ℕ) → n ≡ length front
    → filter (λ s. not (reaches n s)) (placed 0 (front ++ back)) ≡ placed 0 front
front_left front back n place =
    ap (filter (λ s. not (reaches n s))) (placed_both 0 n front back (omega (arith, place)))
    ∙ filter-append (λ s. not (reaches n s)) (placed 0 front) (placed n back)
    ∙ ap₂ ◌++◌ (filter_all _ (placed 0 front) (all_placed _ 0 n front (omega (arith, place))
    (λ k e low high. ap not (reaches_not n k e high))))
    (filter_none _ (placed n back) (all_placed _ n (n + length back) back (omega arith)
    (λ k e low high. ap not (reaches_from n k e low))))
    ∙ append-nil (placed 0 front)

behind_test : (id n : ℕ) (r : Row)
    → list_all (holds ((Int (pos id) ∷ Int (pos n) ∷ []) ∷ r ∷ [])) drop_behind_query.filter
    ≡ passes id (reaches n) r
behind_test id n r = ap (λ b. has 1 id r && b) (and_true _)

-- the entries before the place are left
pub lists_front : (old new : State) (id n count : ℕ) (front back : List EntryModel) (before : Database)
    → n ≡ length front → Lists before id (front ++ back) old.now
    → ExecutesInside 0 drop_behind_text (Int (pos id) ∷ Int (pos n) ∷ []) old new (Ok count)
    → Lists before id front new.now
lists_front old new id n count front back before place was h =
    let l = was.room.layout in
    let p = passes id (reaches n) in
    let rows = old.now.trees 3 in
    let it = cleared l old new 2 entry_table drop_behind_text (Int (pos id) ∷ Int (pos n) ∷ [])
    drop_behind_query.filter count p refl was.room.schema was.room.keyed.1.1.0 (drop_behind_means l) refl
    (λ olds. (quiet l 0 olds []).entry) (behind_test id n) h.0 in
    let left : IsPermutation (map shown_entry (filter (has 1 id) (without p rows))) (placed 0 front) =
    subst (λ xs. IsPermutation xs (placed 0 front)) (sym (shown_left id (reaches n) rows))
    (subst (IsPermutation (kept id (reaches n) rows)) (front_left front back n place)
    (IsPermutation-filter (λ s. not (reaches n s)) _ _ (scattered _ _ was.mine))) in
    relisted before old.now new.now id (front ++ back) front was it.schema it.sound it.others
    (parted IsReadBack front back was.back).0 (record {
      keyed = subst IsKeyed (sym it.rows_are) (keyed_filter (λ r. not (p r)) rows was.room.keyed.1.1.0);
      mine = ap (λ l. entries_shown (filter (has 1 id) l)) it.rows_are ∙ arranged _ front left;
      others = λ q apart. ap (filter (has 1 q)) it.rows_are ∙ others_stay id (reaches n) rows q apart;
    })

-- ---- an entry at a place

abbrev pub stands : ℕ → Row → Bool
stands at s = has 0 at s

pub stands_not : (at k : ℕ) (e : EntryModel) → k ≢ at → stands at (shown_as k e) ≡ false
stands_not at k e apart =
    let row = shown_as k e in false_from_ne_true _ (λ h. apart (has_one 0 k at row (int_has 0 k row refl) h))

pub stands_at : (at : ℕ) (e : EntryModel) → stands at (shown_as at e) ≡ true
stands_at at e = int_has 0 at (shown_as at e) refl

module _ (at : ℕ) (front back : List EntryModel) (place : at ≡ length front) where
  in_parts : (e : EntryModel) → placed 0 (front ++ e ∷ back) ≡ placed 0 front ++ shown_as at e ∷ placed (suc at) back
  in_parts e = placed_both 0 at front (e ∷ back) (omega (arith, place))

  one_stands : (e : EntryModel) → filter (stands at) (placed 0 (front ++ e ∷ back)) ≡ shown_as at e ∷ []
  one_stands e =
      let before = filter_none (stands at) (placed 0 front)
      (all_placed _ 0 at front (omega (arith, place)) (λ k f low high. stands_not at k f (omega (arith, high)))) in
      let behind = filter_none (stands at) (placed (suc at) back)
      (all_placed _ (suc at) (suc at + length back) back (omega arith)
      (λ k f low high. stands_not at k f (omega (arith, low)))) in
      ap (filter (stands at)) (in_parts e)
      ∙ filter-append (stands at) (placed 0 front) (shown_as at e ∷ placed (suc at) back)
      ∙ ap₂ ◌++◌ before (rw (stands_at at e) (ap (λ l. shown_as at e ∷ l) behind))

  around : (e : EntryModel) → filter (λ s. not (stands at s)) (placed 0 (front ++ e ∷ back))
      ≡ placed 0 front ++ placed (suc at) back
  around e =
      let before = filter_all (λ s. not (stands at s)) (placed 0 front)
      (all_placed _ 0 at front (omega (arith, place))
      (λ k f low high. ap not (stands_not at k f (omega (arith, high))))) in
      let behind = filter_all (λ s. not (stands at s)) (placed (suc at) back)
      (all_placed _ (suc at) (suc at + length back) back (omega arith)
      (λ k f low high. ap not (stands_not at k f (omega (arith, low))))) in
      ap (filter (λ s. not (stands at s))) (in_parts e)
      ∙ filter-append (λ s. not (stands at s)) (placed 0 front) (shown_as at e ∷ placed (suc at) back)
      ∙ ap₂ ◌++◌ before (rw (stands_at at e) behind)

module _ (l : Layout) (id at : ℕ) (e : EntryModel) where
  abbrev p : Row → Bool
  p = passes id (stands at)

  abbrev params : Row
  params = Int (pos id) ∷ shown_as at e

  entry_update : IsUpdate l entry_table (passes id (stands at)) change_entry_query.filter change_entry_query.project
      (Int (pos id) ∷ shown_as at e) (λ _. Unit {0})
  entry_update = record {
    quiet = λ olds new news. (quiet l 0 olds (new ∷ news)).entry;
    idle = (quiet l 0 [] []).entry;
    here = λ db. refl;
    test = λ r. ap (λ b. has 1 id r && b) (and_true (has 2 at r));
    raw = λ r. rowid r ∷ column r 1 ∷ column r 2 ∷ drop 1 (shown_as at e);
    reads = λ r. refl;
    renewed = λ r. rowid r ∷ cast Integer (column r 1) ∷ cast Integer (column r 2) ∷ drop 1 (shown_as at e);
    casts = λ r i is. rw (
      is,
      cast_int i,
      cast_int (pos (type_of e.allow)),
      cast_int (pos e.flags),
      cast_int
          (pos e.mask),
    );
    same_id = λ r. refl;
    refits = λ r i is met. tt;
  }

  abbrev IsUpdated : Database → Database → ℕ → List Row → Type 0
  IsUpdated old new count rows = Updated l entry_table (passes id (stands at)) change_entry_query.filter
      change_entry_query.project (Int (pos id) ∷ shown_as at e) (λ _. Unit {0}) entry_update old new count rows

  -- the row at the place, as it was written
  record Rewrites (rows new : List Row) : Type 0 where
    pub row : Row
    pub mine : has 1 id row ≡ true
    pub shown : shown_entry row ≡ shown_as at e
    pub int : is_int (rowid row) ≡ true
    pub free : is_taken (without (passes id (stands at)) rows) row ≡ false
    pub are : new ≡ put_row row (without (passes id (stands at)) rows)

  rewrites : (old new : Database) (count : ℕ) → IsKeyed (old.trees 3)
      → ((r : Row) → Has (old.trees 3) r → has 1 id r ≡ true → IsEntryRow (shown_entry r))
      → (rows : List Row) → length rows ≡ 1 → IsUpdated old new count rows → Rewrites (old.trees 3) (new.trees 3)
  unfolding entry_update
  rewrites old new count keyed typed [] one u = absurd (omega (arith, one))
  rewrites old new count keyed typed (a ∷ b ∷ more) one u = absurd (omega (arith, one))
  rewrites old new count keyed typed (a ∷ []) one u =
      let rows = old.trees 3 in
      let r = read_from l entry_table p change_entry_query.filter change_entry_query.project params (λ _. Unit {0})
      entry_update old new count (a ∷ []) keyed u a (inl refl) in
      let row = entry_update.renewed r.0 in
      let made : cast_row entry_table (drop 1 a) ≡ row =
      ap (λ x. cast_row entry_table (drop 1 x)) r.3 ∙ entry_update.casts r.0 _ r.4 in
      let left : without_all rows (ids_of (a ∷ [])) ≡ without p rows =
      removed p entry_update.raw rows (a ∷ []) keyed u.same in
      let news : cast_row entry_table (drop 1 a) ∷ [] ≡ row ∷ [] = ap (λ x. x ∷ []) made in
      let entry = typed r.0 r.1 (first_of_both _ _ r.2) in
      let stored : column r.0 2 ≡ Int (pos entry.place) = ap (λ s. column s 0) entry.is in
      let place : entry.place ≡ at =
      has_one 2 entry.place at r.0 (int_has 2 entry.place r.0 stored) (second_of_both _ _ r.2) in
      let there : column r.0 2 ≡ Int (pos at) = stored ∙ ap (λ n. Int (pos n)) place in
      record {
        row = row;
        mine = has_is 1 id row
            ∙ ap is_eq (cast_tied (column r.0 1) (pos id) (has_value 1 id r.0 (first_of_both _ _ r.2)));
        shown = ap (λ v. cast Integer v ∷ drop 1 (shown_as at e)) there
            ∙ ap (λ v. v ∷ drop 1 (shown_as at e)) (cast_int (pos at));
        int = subst (λ v. is_int v ≡ true) (sym r.4) refl;
        free = not-true _ (first_of_both _ _ (subst₂ (λ l m. are_fresh l m ≡ true) left news u.step.fresh));
        are = u.step.rows ∙ ap₂ put_all left news;
      }

-- the entry at the place is another
pub lists_changed : (old new : State) (id at count : ℕ) (front back : List EntryModel) (stored e : EntryModel)
    (before : Database) → at ≡ length front → IsReadBack e → Lists before id (front ++ stored ∷ back) old.now
    → ExecutesInside 0 change_entry_text (Int (pos id) ∷ shown_as at e) old new (Ok count)
    → Lists before id (front ++ e ∷ back) new.now
lists_changed old new id at count front back stored e before place reads was h =
    let l = was.room.layout in
    let rows = old.now.trees 3 in
    let gone = without (passes id (stands at)) rows in
    let keyed = was.room.keyed.1.1.0 in
    let u = reads_rows l entry_table (passes id (stands at)) change_entry_query.filter change_entry_query.project
    (Int (pos id) ∷ shown_as at e) (λ _. Unit {0}) (entry_update l id at e) old new 2 count change_entry_text refl
    (change_entry_means l) was.room.schema h.0 in
    let same = scattered (filter (has 1 id) rows) (front ++ stored ∷ back) was.mine in
    let one : length u.0 ≡ 1 = length_permutation _ _ u.1.same ∙ length-map (filter (passes id (stands at)) rows) _
    ∙ sym (length-map (filter (passes id (stands at)) rows) shown_entry)
    ∙ ap length (shown_passing id (stands at) rows)
    ∙ sym (length_permutation _ _ (IsPermutation-filter (stands at) _ _ same))
    ∙ ap length (one_stands at front back place stored) in
    let typed = λ (r : Row) (there : Has rows r) (mine : has 1 id r ≡ true). all_has IsEntryRow
    (map shown_entry (filter (has 1 id) rows)) (shown_entry r)
    (all-permutation IsEntryRow _ _ (IsPermutation-sym _ _ same) (placed_rows 0 (front ++ stored ∷ back)))
    (mapped_has shown_entry (filter (has 1 id) rows) r (has_kept (has 1 id) rows r there mine)) in
    let it = rewrites l id at e old.now new.now count keyed typed u.0 one u.1 in
    let left : IsPermutation (map shown_entry (filter (has 1 id) gone)) (placed 0 front ++ placed (suc at) back) =
    subst (λ xs. IsPermutation xs (placed 0 front ++ placed (suc at) back)) (sym (shown_left id (stands at) rows))
    (subst (IsPermutation (kept id (stands at) rows)) (around at front back place stored)
    (IsPermutation-filter (λ s. not (stands at s)) _ _ same)) in
    let put : IsPermutation (filter (has 1 id) (put_row it.row gone)) (it.row ∷ filter (has 1 id) gone) =
    subst (λ b. IsPermutation (filter (has 1 id) (put_row it.row gone)) (cond b (it.row ∷ filter (has 1 id) gone)
    (filter (has 1 id) gone))) it.mine (IsPermutation-filter (has 1 id) _ _ (put_is_one_more it.row gone it.free)) in
    let shown = subst (λ s. IsPermutation (map shown_entry (filter (has 1 id) (put_row it.row gone)))
    (s ∷ map shown_entry (filter (has 1 id) gone))) it.shown (IsPermutation-map shown_entry _ _ put) in
    let all = subst (IsPermutation (map shown_entry (filter (has 1 id) (put_row it.row gone))))
    (sym (in_parts at front back place e)) (IsPermutation-trans _ _ _ shown (IsPermutation-trans _ _ _
    (IsPermutation-cons (shown_as at e) _ _ left)
    (IsPermutation-sym _ _ (IsPermutation-middle (placed 0 front) (shown_as at e) (placed (suc at) back))))) in
    let parts = parted IsReadBack front (stored ∷ back) was.back in
    relisted before old.now new.now id (front ++ stored ∷ back) (front ++ e ∷ back) was u.1.schema u.1.sound
    (others_of l 3 old.now.trees new.now.trees u.1.step.tables)
    (all-append IsReadBack front (e ∷ back) parts.0 (reads, parts.1.1)) (record {
      keyed = subst IsKeyed (sym it.are)
          (keyed_put it.row gone it.int (keyed_filter (λ r. not (passes id (stands at) r)) rows keyed));
      mine = ap (λ l. entries_shown (filter (has 1 id) l)) it.are
          ∙ arranged (filter (has 1 id) (put_row it.row gone)) (front ++ e ∷ back) all;
      others = λ q apart. ap (filter (has 1 q)) it.are
          ∙ put_passed_over (has 1 q) it.row gone (not_both 1 q id it.row (λ x. apart (sym x)) it.mine) it.free
          ∙ others_stay id (stands at) rows q apart;
    })

-- ---- the list as it is stored

typed_from : (rows : List Row) (at : ℕ) (es : List EntryModel) → map five_columns rows ≡ placed at es
    → AllByRecursion HasEntryColumns rows
typed_from [] at es is = tt
typed_from (r ∷ rows) at [] is = absurd (let e = is in cc)
typed_from (r ∷ rows) at (e ∷ es) is =
    let head : five_columns r ≡ shown_as at e = cc in (
      record {
        place = at;
        has_place = ap (λ s. column s 0) head;
        kind = type_of e.allow;
        has_kind = ap (λ s. column s 1) head;
        flags = e.flags;
        has_flags = ap (λ s. column s 2) head;
        mask = e.mask;
        has_mask = ap (λ s. column s 3) head;
        who = who_text e.who;
        has_who = ap (λ s. column s 4) head;
      },
      typed_from rows (suc at) es (ap (drop 1) is),
    )

abbrev HasFive : Row → Type 0
HasFive s = five_columns s ≡ s

have_five : (rows : List Row) → AllByRecursion HasFive (map shown_entry rows)
have_five [] = tt
have_five (r ∷ rows) = (refl, have_five rows)

five_are : (rows : List Row) → AllByRecursion HasFive rows → map five_columns rows ≡ rows
five_are [] all = refl
five_are (r ∷ rows) all = ap₂ ◌∷◌ all.0 (five_are rows all.1)

-- the rows of a list are five columns each
five_listed : (db : Trees) (id : ℕ) → map five_columns (entry_rows db id) ≡ entry_rows db id
five_listed db id =
    let shown = map shown_entry (filter (has 1 id) (db 3)) in
    let cmp = key_cmp 0 entry_keys in
    five_are (entry_rows db id) (all-permutation HasFive shown (sort_by cmp shown)
    (IsPermutation-sym _ _ (IsPermutation-sort_by cmp (key_cmp_total entry_keys 0) shown))
    (have_five (filter (has 1 id) (db 3))))

pub rows_stored : (db : Trees) (id : ℕ) (rows : List Row) (es : List EntryModel)
    → rows ≡ entry_rows db id → map five_columns rows ≡ placed 0 es → entry_rows db id ≡ placed 0 es
rows_stored db id rows es is are = sym (five_listed db id) ∙ ap (map five_columns) (sym is) ∙ are

-- entries that were read at the places 0, 1, 2, .. are the object's list
pub lists_shown : (old new : State) (id : ℕ) (rows : List Row) (es : List EntryModel) → IsRoomDatabase old.now
    → map five_columns rows ≡ placed 0 es → AllByRecursion IsReadBack es
    → Shown list_entries_text (Int (pos id) ∷ []) old new rows → Lists old.now id es old.now
lists_shown old new id rows es room are back h =
    lists_stored old.now id es room
    (rows_stored old.now.trees id rows es (asks_entries old new id rows room (typed_from rows 0 es are) h) are) back
