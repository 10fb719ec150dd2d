-- Neighbouring entries that are written over where they stand, by one statement.
use Rattle.room_tables.proofs.Common.{◌≡◌, ◌≤◌, ◌<◌, ◌+◌, ℕ, suc, pos, Bool, true, false, not, ◌&&◌, cond, List, []}
use Rattle.room_tables.proofs.Common.{◌∷◌, ◌++◌, length, map, filter, drop, take, Ok, Greater, inl, inr, is_eq, int_cmp}
use Rattle.room_tables.proofs.Common.{codes, refl, sym, subst₂, ap, ap₂, subst, ◌∙◌, arith, IsPermutation}
use Rattle.room_tables.proofs.Common.{AllByRecursion, list_all, is_le, ints, cases_Bool, not-true, nat_tests}
use Rattle.room_tables.proofs.Common.{append_assoc, append-nil, map-append, length-take-le, take-append-drop}
use Rattle.room_tables.proofs.Common.{IsPermutation-map, IsPermutation-trans, IsPermutation-refl, IsPermutation-sym}
use Rattle.room_tables.proofs.Common.{IsPermutation-middle, IsPermutation-append, IsPermutation-append_comm, Value, Int}
use Rattle.room_tables.proofs.Common.{Text, Binary, Row, column, value_cmp-Int, rowid, put_row, is_int, all-permutation}
use Rattle.room_tables.proofs.Common.{Term, col, op2, case, Query, binary, is_true, Compare, Ge, Le, everything}
use Rattle.room_tables.proofs.Common.{IsPermutation-filter, filter_all, filter_none, all-append, map-map, all-filter}
use Rattle.room_tables.proofs.Common.{all_from_test, first_of_both, second_of_both, ids_of, cast, cast_row, are_fresh}
use Rattle.room_tables.proofs.Common.{put_all, without_all, numbered, all_has, all_from, int_is, Integer, TextKind}
use Rattle.room_tables.proofs.Common.{Given, understood, Update, Database, State, ExecutesInside, EntryModel, who_text}
use Rattle.room_tables.proofs.Common.{Layout, entry_table, room_schema, has, shown_entry, entries_shown, IsKeyed}
use Rattle.room_tables.proofs.Common.{type_of, IsReadBack, shown_as, placed, Lists}
use Rattle.std.proofs.lemmas.List.Elements.{filter-append}
use Rattle.room_tables.proofs.Texts.{equals, over_table}
use Rattle.room_tables.proofs.Meaning.{Means}
use Rattle.room_tables.proofs.Queries.{and_true}
use Rattle.room_tables.proofs.Values.{truth_back, has_is, has_value, cast_tied}
use Rattle.room_tables.proofs.Removed.{removed}
use Rattle.room_tables.proofs.Changes.{without, others_of, cast_int}
use Rattle.room_tables.proofs.Takes.{quiet}
use Rattle.room_tables.proofs.Writes.{IsUpdate, Updated, reads_rows}
use Rattle.room_tables.proofs.Filters.{put_is_one_more, put_passed_over, not_both, keyed_put, keyed_filter}
use Rattle.room_tables.proofs.Placed.{relisted}
use Rattle.room_tables.proofs.Ours.{parted}
use Rattle.room_tables.proofs.InPlace.{placed_both, all_placed, arranged, scattered, passes, shown_passing}
use Rattle.room_tables.proofs.InPlace.{shown_left, others_stay, kept, reaches, reaches_not, reaches_from}
use Rattle.room_tables.proofs.InPlace.{stands_not, stands_at}

-- the entries at four places or fewer, from one place to another; the last is written where no other is
abbrev pub change_four_text : List ℕ
change_four_text = codes
    "UPDATE entry SET type = CASE place WHEN ?2 THEN ?3 WHEN ?7 THEN ?8 WHEN ?12 THEN ?13 ELSE ?18 END, flag = CASE place WHEN ?2 THEN ?4 WHEN ?7 THEN ?9 WHEN ?12 THEN ?14 ELSE ?19 END, mask = CASE place WHEN ?2 THEN ?5 WHEN ?7 THEN ?10 WHEN ?12 THEN ?15 ELSE ?20 END, who = CASE place WHEN ?2 THEN ?6 WHEN ?7 THEN ?11 WHEN ?12 THEN ?16 ELSE ?21 END WHERE node = ?1 AND place >= ?2 AND place <= ?17"

-- what is set in a column, so many behind the place
abbrev by_place : ℕ → Term
by_place k = case (equals (col 1 2) (col 0 1)) (col 0 (1 + k)) (case (equals (col 1 2) (col 0 6)) (col 0 (6 + k))
    (case (equals (col 1 2) (col 0 11)) (col 0 (11 + k)) (col 0 (16 + k))))

abbrev pub change_four_query : Query
change_four_query = over_table 3 (equals (col 1 1) (col 0 0) ∷ op2 (Compare Ge Binary) (col 1 2) (col 0 1)
    ∷ op2 (Compare Le Binary) (col 1 2) (col 0 16) ∷ [])
    (col 1 0 ∷ col 1 0 ∷ col 1 1 ∷ col 1 2 ∷ by_place 1 ∷ by_place 2 ∷ by_place 3 ∷ by_place 4 ∷ []) []

change_four_means : (l : Layout)
    → Means (room_schema l) change_four_text (Update 2 (record { lets = []; body = change_four_query }))
unfolding understood everything
change_four_means l = (refl, (refl, refl))

-- ---- rows that go in at rowids that are free

given_all : (rows news : List Row) → numbered Given rows news ≡ news
given_all rows [] = refl
given_all rows (n ∷ news) = ap (λ l. n ∷ l) (given_all (put_row n rows) news)

put_all_more : (news rows : List Row) → are_fresh rows news ≡ true → IsPermutation (put_all rows news) (news ++ rows)
put_all_more [] rows fresh = IsPermutation-refl _
put_all_more (n ∷ news) rows fresh =
    let one = put_is_one_more n rows (not-true _ (first_of_both _ _ fresh)) in
    IsPermutation-trans _ _ _ (put_all_more news (put_row n rows) (second_of_both _ _ fresh))
    (IsPermutation-trans _ _ _ (IsPermutation-append news news _ _ (IsPermutation-refl _) one)
    (IsPermutation-middle news n rows))

put_all_over : (p : Row → Bool) (news rows : List Row) → AllByRecursion (λ r. p r ≡ false) news
    → are_fresh rows news ≡ true → filter p (put_all rows news) ≡ filter p rows
put_all_over p [] rows fail fresh = refl
put_all_over p (n ∷ news) rows fail fresh =
    put_all_over p news (put_row n rows) fail.1 (second_of_both _ _ fresh)
    ∙ put_passed_over p n rows fail.0 (not-true _ (first_of_both _ _ fresh))

keyed_all : (news rows : List Row) → AllByRecursion (λ r. is_int (rowid r) ≡ true) news → IsKeyed rows
    → IsKeyed (put_all rows news)
keyed_all [] rows ints keyed = keyed
keyed_all (n ∷ news) rows ints keyed = keyed_all news (put_row n rows) ints.1 (keyed_put n rows ints.0 keyed)

-- maps that agree where something holds
maps_on : {X Y : Type 0} (P : X → Type 0) (f g : X → Y) → ((x : X) → P x → f x ≡ g x) → (xs : List X)
    → AllByRecursion P xs → map f xs ≡ map g xs
maps_on P f g same [] all = refl
maps_on P f g same (x ∷ xs) all = ap₂ ◌∷◌ (same x all.0) (maps_on P f g same xs all.1)

-- ---- the entries from one place to another

-- as SQL's <= finds the place of a row that is shown
abbrev within : ℕ → Row → Bool
within n s = is_true (binary (Compare Le Binary) (column s 0) (Int (pos n)))

within_is : (n k : ℕ) (e : EntryModel) → within n (shown_as k e) ≡ is_le (int_cmp (pos k) (pos n))
unfolding binary
within_is n k e = truth_back _ ∙ ap is_le (value_cmp-Int (pos k) (pos n))

within_not : (n k : ℕ) (e : EntryModel) → n < k → within n (shown_as k e) ≡ false
within_not n k e high =
    let more : int_cmp (pos k) (pos n) ≡ Greater = grind (arith, ints, nat_tests) in within_is n k e ∙ ap is_le more

within_to : (n k : ℕ) (e : EntryModel) → k ≤ n → within n (shown_as k e) ≡ true
within_to n k e low =
    let less : is_le (int_cmp (pos k) (pos n)) ≡ true = grind (arith, ints, nat_tests) in within_is n k e ∙ less

abbrev between : ℕ → ℕ → Row → Bool
between at last s = reaches at s && within last s

module _ (at last : ℕ) (front gone back : List EntryModel) (place : at ≡ length front)
    (end : suc last ≡ at + length gone) where
  in_three : placed 0 (front ++ (gone ++ back)) ≡ placed 0 front ++ (placed at gone ++ placed (suc last) back)
  in_three = placed_both 0 at front (gone ++ back) (omega (arith, place))
      ∙ ap (λ l. placed 0 front ++ l) (placed_both at (suc last) gone back end)

  before : (k : ℕ) (e : EntryModel) → k < at → between at last (shown_as k e) ≡ false
  before k e low = ap (λ b. b && within last (shown_as k e)) (reaches_not at k e low)

  here : (k : ℕ) (e : EntryModel) → at ≤ k → k < suc last → between at last (shown_as k e) ≡ true
  here k e low high = ap₂ ◌&&◌ (reaches_from at k e low) (within_to last k e (omega (arith, high)))

  behind : (k : ℕ) (e : EntryModel) → suc last ≤ k → between at last (shown_as k e) ≡ false
  behind k e high = ap₂ ◌&&◌ (reaches_from at k e (omega (arith, high, end)))
      (within_not last k e (omega (arith, high)))

  some_between : filter (between at last) (placed 0 (front ++ (gone ++ back))) ≡ placed at gone
  some_between =
      let t = between at last in
      ap (filter t) in_three ∙ filter-append t (placed 0 front) (placed at gone ++ placed (suc last) back)
      ∙ ap₂ ◌++◌ (filter_none t (placed 0 front)
      (all_placed _ 0 at front (omega (arith, place)) (λ k e low high. before k e high)))
      (filter-append t (placed at gone) (placed (suc last) back)
      ∙ ap₂ ◌++◌ (filter_all t (placed at gone)
      (all_placed _ at (suc last) gone (omega (arith, end)) (λ k e low high. here k e low high)))
      (filter_none t (placed (suc last) back)
      (all_placed _ (suc last) (suc last + length back) back (omega arith) (λ k e low high. behind k e low)))
      ∙ append-nil (placed at gone))

  all_beside : filter (λ s. not (between at last s)) (placed 0 (front ++ (gone ++ back)))
      ≡ placed 0 front ++ placed (suc last) back
  all_beside =
      let t = λ (s : Row). not (between at last s) in
      ap (filter t) in_three ∙ filter-append t (placed 0 front) (placed at gone ++ placed (suc last) back)
      ∙ ap₂ ◌++◌ (filter_all t (placed 0 front)
      (all_placed _ 0 at front (omega (arith, place)) (λ k e low high. ap not (before k e high))))
      (filter-append t (placed at gone) (placed (suc last) back)
      ∙ ap₂ ◌++◌ (filter_none t (placed at gone)
      (all_placed _ at (suc last) gone (omega (arith, end)) (λ k e low high. ap not (here k e low high))))
      (filter_all t (placed (suc last) back)
      (all_placed _ (suc last) (suc last + length back) back (omega arith) (λ k e low high. ap not (behind k e low)))))

-- ---- the rows as they are written

-- the object's number, and four entries with their places
abbrev pub four_params : (id at last : ℕ) (a b c d : EntryModel) → Row
four_params id at last a b c d = Int (pos id)
    ∷ (shown_as at a ++ (shown_as (suc at) b ++ (shown_as (suc (suc at)) c ++ (shown_as last d ++ []))))

module _ (l : Layout) (id at last : ℕ) (a b c d : EntryModel) where
  abbrev params : Row
  params = four_params id at last a b c d

  -- of four values that of the row's place
  abbrev pick : Row → Value → Value → Value → Value → Value
  pick s x y z w = cond (has 0 at s) x (cond (has 0 (suc at) s) y (cond (has 0 (suc (suc at)) s) z w))

  abbrev set : Row → Row
  set s = pick s (Int (pos (type_of a.allow))) (Int (pos (type_of b.allow))) (Int (pos (type_of c.allow)))
      (Int (pos (type_of d.allow)))
      ∷ pick s (Int (pos a.flags)) (Int (pos b.flags)) (Int (pos c.flags)) (Int (pos d.flags))
      ∷ pick s (Int (pos a.mask)) (Int (pos b.mask)) (Int (pos c.mask)) (Int (pos d.mask))
      ∷ pick s (Text (who_text a.who)) (Text (who_text b.who)) (Text (who_text c.who)) (Text (who_text d.who)) ∷ []

  -- what is shown of a row that was written
  abbrev shown_new : Row → Row
  shown_new s = cast Integer (column s 0) ∷ cast Integer (column (set s) 0) ∷ cast Integer (column (set s) 1)
      ∷ cast Integer (column (set s) 2) ∷ cast TextKind (column (set s) 3) ∷ []

  abbrev raw : Row → Row
  raw r = rowid r ∷ column r 1 ∷ column r 2 ∷ set (shown_entry r)

  abbrev renewed : Row → Row
  renewed r = rowid r ∷ cast Integer (column r 1) ∷ shown_new (shown_entry r)

  abbrev p : Row → Bool
  p = passes id (between at last)

  casts : (r : Row) → is_int (rowid r) ≡ true → cast_row entry_table (raw r) ≡ renewed r
  casts r int = ap (λ v. v ∷ cast Integer (column r 1) ∷ shown_new (shown_entry r)) (
      ap (cast Integer) (int_is (rowid r) int) ∙ cast_int _ ∙ sym (int_is (rowid r) int))

  four_update : IsUpdate l entry_table p change_four_query.filter change_four_query.project params (λ _. Unit {0})
  four_update = record {
    quiet = λ olds new news. (quiet l 0 olds (new ∷ news)).entry;
    idle = (quiet l 0 [] []).entry;
    here = λ db. refl;
    test = λ r. ap (λ b. has 1 id r && (reaches at (shown_entry r) && b)) (and_true _);
    raw = raw;
    reads = λ r. refl;
    renewed = renewed;
    casts = λ r i is. casts r (subst (λ v. is_int v ≡ true) (sym is) refl);
    same_id = λ r. refl;
    refits = λ r i is met. tt;
  }

  -- each place has its entry
  first_new : (e : EntryModel) → shown_new (shown_as at e) ≡ shown_as at a
  first_new e = rw (
    stands_at at e,
    cast_int (pos at),
    cast_int (pos (type_of a.allow)),
    cast_int (pos a.flags),
    cast_int (pos a.mask),
  )

  second_new : (e : EntryModel) → shown_new (shown_as (suc at) e) ≡ shown_as (suc at) b
  second_new e = rw (
    stands_not at (suc at) e (omega arith),
    stands_at (suc at) e,
    cast_int (pos (suc at)),
    cast_int (pos (type_of b.allow)),
    cast_int (pos b.flags),
    cast_int (pos b.mask),
  )

  third_new : (e : EntryModel) → shown_new (shown_as (suc (suc at)) e) ≡ shown_as (suc (suc at)) c
  third_new e = let n = suc (suc at) in rw (
    stands_not at n e (omega arith),
    stands_not (suc at) n e (omega arith),
    stands_at n e,
    cast_int (pos n),
    cast_int (pos (type_of c.allow)),
    cast_int (pos c.flags),
    cast_int (pos c.mask),
  )

  fourth_new : (e : EntryModel) → shown_new (shown_as (suc (suc (suc at))) e) ≡ shown_as (suc (suc (suc at))) d
  fourth_new e = let n = suc (suc (suc at)) in rw (
    stands_not at n e (omega arith),
    stands_not (suc at) n e (omega arith),
    stands_not (suc (suc at)) n e (omega arith),
    cast_int (pos n),
    cast_int (pos (type_of d.allow)),
    cast_int (pos d.flags),
    cast_int (pos d.mask),
  )

  all_new : (gone : List EntryModel) → length gone ≤ 4
      → map shown_new (placed at gone) ≡ placed at (take (length gone) (a ∷ b ∷ c ∷ d ∷ []))
  all_new [] few = refl
  all_new (e ∷ []) few = ap (λ r. r ∷ []) (first_new e)
  all_new (e ∷ f ∷ []) few = ap₂ (λ r s. r ∷ s ∷ []) (first_new e) (second_new f)
  all_new (e ∷ f ∷ g ∷ []) few = ap₂ ◌∷◌ (first_new e) (ap₂ (λ r s. r ∷ s ∷ []) (second_new f) (third_new g))
  all_new (e ∷ f ∷ g ∷ h ∷ []) few = ap₂ ◌∷◌ (first_new e)
      (ap₂ ◌∷◌ (second_new f) (ap₂ (λ r s. r ∷ s ∷ []) (third_new g) (fourth_new h)))
  all_new (e ∷ f ∷ g ∷ h ∷ i ∷ more) few = absurd (omega (arith, few))

  mine_renewed : (rows : List Row) → AllByRecursion (λ r. has 1 id r ≡ true) (map renewed (filter p rows))
  mine_renewed [] = tt
  mine_renewed (r ∷ rows) = elim (cases_Bool (p r)) [
    | inl passes ↦ rw passes (mine (first_of_both _ _ passes), mine_renewed rows)
    | inr fails ↦ rw fails (mine_renewed rows)
  ]
    where
      mine : has 1 id r ≡ true → has 1 id (renewed r) ≡ true
      mine h = has_is 1 id (renewed r) ∙ ap is_eq (cast_tied (column r 1) (pos id) (has_value 1 id r h))

  abbrev IsUpdated : Database → Database → ℕ → List Row → Type 0
  IsUpdated old new count rows = Updated l entry_table p change_four_query.filter change_four_query.project params
      (λ _. Unit {0}) four_update old new count rows

  -- the rows that passed, as they were written
  record Renews (rows new : List Row) : Type 0 where
    pub news : List Row
    pub same : IsPermutation (map renewed (filter p rows)) news
    pub mine : AllByRecursion (λ r. has 1 id r ≡ true) news
    pub ints : AllByRecursion (λ r. is_int (rowid r) ≡ true) news
    pub fresh : are_fresh (without p rows) news ≡ true
    pub are : new ≡ put_all (without p rows) news

  renews : (old new : Database) (count : ℕ) (rows : List Row) → IsKeyed (old.trees 3) → IsUpdated old new count rows
      → Renews (old.trees 3) (new.trees 3)
  unfolding four_update
  renews old new count rows keyed u =
      let all = old.trees 3 in
      let made = λ (s : Row). cast_row entry_table (drop 1 s) in
      let news = map made rows in
      let given : numbered Given (without_all all (ids_of rows)) news ≡ news = given_all _ news in
      let left : without_all all (ids_of rows) ≡ without p all = removed p raw all rows keyed u.same in
      let each : map made (map (λ r. rowid r ∷ raw r) (filter p all)) ≡ map renewed (filter p all) =
      map-map made (λ r. rowid r ∷ raw r) (filter p all)
      ∙ maps_on (λ r. is_int (rowid r) ≡ true) (λ r. made (rowid r ∷ raw r)) renewed casts (filter p all)
      (all-filter _ p all keyed.ints) in
      let same : IsPermutation (map renewed (filter p all)) news =
      subst (λ l. IsPermutation l news) each (IsPermutation-map made _ _ u.same) in
      record {
        news = news;
        same = same;
        mine = all-permutation _ _ news same (mine_renewed all);
        ints = all_from_test _ news (subst (λ l. list_all (λ r. is_int (rowid r)) l ≡ true) given u.step.keyed);
        fresh = subst₂ (λ l m. are_fresh l m ≡ true) left given u.step.fresh;
        are = u.step.rows ∙ ap₂ put_all left given;
      }

-- the entries at neighbouring places are others
pub lists_renewed : (old new : State) (id at last count : ℕ) (front gone back : List EntryModel) (a b c d : EntryModel)
    (before : Database) → at ≡ length front → suc last ≡ at + length gone → length gone ≤ 4
    → AllByRecursion IsReadBack (a ∷ b ∷ c ∷ d ∷ []) → Lists before id (front ++ (gone ++ back)) old.now
    → ExecutesInside 0 change_four_text (four_params id at last a b c d) old new (Ok count)
    → Lists before id (front ++ (take (length gone) (a ∷ b ∷ c ∷ d ∷ []) ++ back)) new.now
lists_renewed old new id at last count front gone back a b c d before place end few reads was h =
    let l = was.room.layout in
    let rows = old.now.trees 3 in
    let t = between at last in
    let q = passes id t in
    let left = without q rows in
    let keyed = was.room.keyed.1.1.0 in
    let four = a ∷ b ∷ c ∷ d ∷ [] in
    let es = take (length gone) four in
    let long : length es ≡ length gone = length-take-le (length gone) four few in
    let u = reads_rows l entry_table q change_four_query.filter change_four_query.project
    (four_params id at last a b c d) (λ _. Unit {0}) (four_update l id at last a b c d) old new 2 count
    change_four_text refl (change_four_means l) was.room.schema h.0 in
    let it = renews l id at last a b c d old.now new.now count u.0 keyed u.1 in
    let g = shown_new l id at last a b c d in
    let f = renewed l id at last a b c d in
    let same = scattered (filter (has 1 id) rows) (front ++ (gone ++ back)) was.mine in
    let found : map shown_entry (map f (filter q rows)) ≡ map g (filter t (map shown_entry (filter (has 1 id) rows))) =
    map-map shown_entry f (filter q rows) ∙ sym (map-map g shown_entry (filter q rows))
    ∙ ap (map g) (shown_passing id t rows) in
    let those : map g (filter t (placed 0 (front ++ (gone ++ back)))) ≡ placed at es =
    ap (map g) (some_between at last front gone back place end) ∙ all_new l id at last a b c d gone few in
    let renewed_are : IsPermutation (map shown_entry it.news) (placed at es) =
    subst (IsPermutation (map shown_entry it.news)) those (IsPermutation-trans _ _ _
    (subst (IsPermutation (map shown_entry it.news)) found
    (IsPermutation-sym _ _ (IsPermutation-map shown_entry _ _ it.same)))
    (IsPermutation-map g _ _ (IsPermutation-filter t _ _ same))) in
    let left_are : IsPermutation (map shown_entry (filter (has 1 id) left)) (placed 0 front ++ placed (suc last) back) =
    subst (λ xs. IsPermutation xs (placed 0 front ++ placed (suc last) back)) (sym (shown_left id t rows))
    (subst (IsPermutation (kept id t rows)) (all_beside at last front gone back place end)
    (IsPermutation-filter (λ s. not (t s)) _ _ same)) in
    let parts : map shown_entry (filter (has 1 id) (it.news ++ left))
    ≡ map shown_entry it.news ++ map shown_entry (filter (has 1 id) left) =
    ap (map shown_entry) (filter-append (has 1 id) it.news left
    ∙ ap (λ xs. xs ++ filter (has 1 id) left) (filter_all (has 1 id) it.news it.mine))
    ∙ map-append shown_entry it.news (filter (has 1 id) left) in
    let put = subst (IsPermutation (map shown_entry (filter (has 1 id) (put_all left it.news)))) parts
    (IsPermutation-map shown_entry _ _ (IsPermutation-filter (has 1 id) _ _ (put_all_more it.news left it.fresh))) in
    let moved : IsPermutation (placed at es ++ (placed 0 front ++ placed (suc last) back))
    (placed 0 front ++ (placed at es ++ placed (suc last) back)) =
    subst₂ IsPermutation (append_assoc (placed at es) (placed 0 front) (placed (suc last) back))
    (append_assoc (placed 0 front) (placed at es) (placed (suc last) back))
    (IsPermutation-append _ _ _ _ (IsPermutation-append_comm (placed at es) (placed 0 front)) (IsPermutation-refl _)) in
    let all = subst (IsPermutation (map shown_entry (filter (has 1 id) (put_all left it.news))))
    (sym (in_three at last front es back place (omega (arith, end, long)))) (IsPermutation-trans _ _ _ put
    (IsPermutation-trans _ _ _ (IsPermutation-append _ _ _ _ renewed_are left_are) moved)) in
    let backs = parted IsReadBack front (gone ++ back) was.back in
    let taken = parted IsReadBack es (drop (length gone) four)
    (subst (AllByRecursion IsReadBack) (sym (take-append-drop (length gone) four)) reads) in
    relisted before old.now new.now id (front ++ (gone ++ back)) (front ++ (es ++ back)) was u.1.schema u.1.sound
    (others_of l 3 old.now.trees new.now.trees u.1.step.tables)
    (all-append IsReadBack front (es ++ back) backs.0
    (all-append IsReadBack es back taken.0 (parted IsReadBack gone back backs.1).1)) (record {
      keyed = subst IsKeyed (sym it.are) (keyed_all it.news left it.ints (keyed_filter (λ r. not (q r)) rows keyed));
      mine = ap (λ l. entries_shown (filter (has 1 id) l)) it.are
          ∙ arranged (filter (has 1 id) (put_all left it.news)) (front ++ (es ++ back)) all;
      others = λ n apart. ap (filter (has 1 n)) it.are
          ∙ put_all_over (has 1 n) it.news left (all_from _ it.news (λ r there.
          not_both 1 n id r (λ x. apart (sym x)) (all_has _ it.news r it.mine there))) it.fresh
          ∙ others_stay id t rows n apart;
    })
