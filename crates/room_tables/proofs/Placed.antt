-- Entries in their order, and entries that are put in one after another.
use Rattle.room_tables.proofs.Common.{◌≡◌, ◌≢◌, ℕ, suc, ℤ, ◌+◌, ◌<◌, pos, not, Bool, List, [], ◌∷◌, ◌++◌, length, map}
use Rattle.room_tables.proofs.Common.{filter, Ok, refl, sym, ap, ap₂, subst, ◌∙◌, arith, true, false, ◌==◌, Less, cond}
use Rattle.room_tables.proofs.Common.{inl, inr, eq-eqb, int_cmp, IsPermutation, Equal, AllByRecursion, ints, append-nil}
use Rattle.room_tables.proofs.Common.{append_assoc, length-append, cases_eq, ne_eqb, nat_tests, exact_signed}
use Rattle.room_tables.proofs.Common.{exact_bytes, IsPermutation-map, IsPermutation-trans, IsPermutation-cons}
use Rattle.room_tables.proofs.Common.{IsPermutation-sym, IsPermutation-to_front, Int, Text, Row, value_cmp}
use Rattle.room_tables.proofs.Common.{value_cmp-Int, value_cmp-Text, IsAscending, put_row, key_cmp, key_cmp_total}
use Rattle.room_tables.proofs.Common.{sort_by, IsPermutation-filter, all-append, IsPermutation-sort_by, is_taken}
use Rattle.room_tables.proofs.Common.{Database, IsDatabase, State, ExecutesInside, EntryModel, who_text, Layout}
use Rattle.room_tables.proofs.Common.{room_schema, has, shown_entry, entry_of, entry_keys, entries_shown, nodes_in}
use Rattle.room_tables.proofs.Common.{documents_in, next_in, sessions_in, slots_in, records_of, versions_in, entry_rows}
use Rattle.room_tables.proofs.Common.{IsEntryRow, IsKeyed, IsRoomDatabase, type_of, IsReadBack, shown_as, placed, Lists}
use Rattle.room_tables.proofs.Texts.{drop_entries_text}
use Rattle.room_tables.proofs.Sorted.{AtMost, ascending-sort_by, same_ascending}
use Rattle.room_tables.proofs.Queries.{first_tie}
use Rattle.room_tables.proofs.Values.{int_has}
use Rattle.room_tables.proofs.Changes.{HasAll, Others}
use Rattle.room_tables.proofs.Takes.{stored, bound_entries, AddsEntries, drops_entries}
use Rattle.room_tables.proofs.Filters.{put_is_one_more, put_passed_over, rows_gone, not_both, keyed_put}
use Rattle.room_tables.proofs.Filters.{keyed_filter, still_room, still_numbered, still_slots}
use Rattle.room_tables.proofs.Effects.{same_records}

int_tied : (m n : ℕ) → value_cmp (Int (pos m)) (Int (pos n)) ≡ Equal → m ≡ n
int_tied m n tie =
    let same : pos m ≡ pos n = exact_signed _ _ (sym (value_cmp-Int (pos m) (pos n)) ∙ tie) in cc

-- two rows of entries that tie are one
exact_values : (p k f m q l g n : ℕ) (v w : List ℕ)
    → key_cmp 0 entry_keys (Int (pos p) ∷ Int (pos k) ∷ Int (pos f) ∷ Int (pos m) ∷ Text v ∷ [])
    (Int (pos q) ∷ Int (pos l) ∷ Int (pos g) ∷ Int (pos n) ∷ Text w ∷ []) ≡ Equal
    → ◌≡◌ {A = Row} (Int (pos p) ∷ Int (pos k) ∷ Int (pos f) ∷ Int (pos m) ∷ Text v ∷ [])
    (Int (pos q) ∷ Int (pos l) ∷ Int (pos g) ∷ Int (pos n) ∷ Text w ∷ [])
exact_values p k f m q l g n v w h =
    let one = first_tie _ _ h in
    let two = first_tie _ _ one.1 in
    let three = first_tie _ _ two.1 in
    let four = first_tie _ _ three.1 in
    let last : v ≡ w = exact_bytes _ _ (sym (value_cmp-Text v w) ∙ (first_tie _ _ four.1).0) in
    λ i. Int (pos (int_tied p q one.0 i)) ∷ Int (pos (int_tied k l two.0 i)) ∷ Int (pos (int_tied f g three.0 i))
    ∷ Int (pos (int_tied m n four.0 i)) ∷ Text (last i) ∷ []

pub exact_entries : (a b : Row) → IsEntryRow a → IsEntryRow b → key_cmp 0 entry_keys a b ≡ Equal → a ≡ b
exact_entries a b p q tie = p.is ∙ exact_values p.place p.kind p.flags p.mask
    q.place q.kind q.flags q.mask p.who q.who (rw (p.is, q.is) at tie) ∙ sym q.is

abbrev below : Row → Row → Type 0
below = AtMost (key_cmp 0 entry_keys) (key_cmp_total entry_keys 0)

first_less : (a b : ℕ) (e f : EntryModel) → a < b → below (shown_as a e) (shown_as b f)
first_less a b e f low =
    let less : int_cmp (pos a) (pos b) ≡ Less = grind (arith, ints, nat_tests) in
    let first : value_cmp (Int (pos a)) (Int (pos b)) ≡ Less = value_cmp-Int (pos a) (pos b) ∙ less in
    rw first refl

later : (a at : ℕ) (e : EntryModel) (es : List EntryModel)
    → a < at → AllByRecursion (below (shown_as a e)) (placed at es)
later a at e [] low = tt
later a at e (f ∷ es) low = (first_less a at e f low, later a (suc at) e es (omega arith))

pub placed_up : (at : ℕ) (es : List EntryModel) → IsAscending below (placed at es)
placed_up at [] = tt
placed_up at (e ∷ es) = (later at (suc at) e es (omega arith), placed_up (suc at) es)

pub placed_rows : (at : ℕ) (es : List EntryModel) → AllByRecursion IsEntryRow (placed at es)
placed_rows at [] = tt
placed_rows at (e ∷ es) = (
  record {
    place = at;
    kind = type_of e.allow;
    flags = e.flags;
    mask = e.mask;
    who = who_text e.who;
    is = refl;
  },
  placed_rows (suc at) es,
)

pub placed_push : (at : ℕ) (es : List EntryModel) (e : EntryModel)
    → placed at (es ++ e ∷ []) ≡ placed at es ++ shown_as (at + length es) e ∷ []
placed_push at [] e = rw Rattle.std.proofs.Common.add-zero refl
placed_push at (x ∷ es) e =
    let n : suc at + length es ≡ at + suc (length es) = omega arith in
    ap (λ l. shown_as at x ∷ l) (placed_push (suc at) es e ∙ ap (λ k. placed (suc at) es ++ shown_as k e ∷ []) n)

type_back : (allow : Bool) → (type_of allow == 0) ≡ allow
type_back true = refl
type_back false = refl

one_back : (at : ℕ) (e : EntryModel) → IsReadBack e → entry_of (shown_as at e) ≡ e
one_back at e back =
    ap₂ (λ allow who. record { allow = allow; flags = e.flags; mask = e.mask; who = who }) (type_back e.allow) back

pub read_back : (at : ℕ) (es : List EntryModel) → AllByRecursion IsReadBack es → map entry_of (placed at es) ≡ es
read_back at [] back = refl
read_back at (e ∷ es) back = ap₂ (λ x l. x ∷ l) (one_back at e back.0) (read_back (suc at) es back.1)

-- a row that goes in at the next place is the last
one_placed : (old new : List Row) (es : List EntryModel) (e : EntryModel)
    → sort_by (key_cmp 0 entry_keys) old ≡ placed 0 es
    → IsPermutation new (shown_as (length es) e ∷ old) → sort_by (key_cmp 0 entry_keys) new ≡ placed 0 (es ++ e ∷ [])
one_placed old new es e was more =
    let cmp = key_cmp 0 entry_keys in
    let total = key_cmp_total entry_keys 0 in
    let row = shown_as (length es) e in
    let pushed : placed 0 (es ++ e ∷ []) ≡ placed 0 es ++ row ∷ [] =
    placed_push 0 es e ∙ rw Rattle.std.proofs.Common.zero-add refl in
    let whole = IsPermutation-trans _ _ _ (IsPermutation-sort_by cmp total new) (IsPermutation-trans _ _ _
    more (IsPermutation-cons row _ _ (IsPermutation-sym _ _ (IsPermutation-sort_by cmp total old)))) in
    let end = subst (λ l. IsPermutation (sort_by cmp new) (row ∷ l)) was whole in
    let moved = IsPermutation-trans _ _ _ (IsPermutation-to_front (placed 0 es) row) (IsPermutation-sym _ _ end) in
    same_ascending cmp total IsEntryRow exact_entries (placed 0 (es ++ e ∷ [])) (sort_by cmp new)
    (placed_rows 0 (es ++ e ∷ [])) (placed_up 0 (es ++ e ∷ [])) (ascending-sort_by cmp total new)
    (subst (λ l. IsPermutation l (sort_by cmp new)) (sym pushed) moved)

-- ---- the statements

-- what is stored is listed
pub lists_stored : (db : Database) (id : ℕ) (es : List EntryModel) → IsRoomDatabase db
    → entry_rows db.trees id ≡ placed 0 es → AllByRecursion IsReadBack es → Lists db id es db
lists_stored db id es room mine back = record {
  room = room;
  schema = refl;
  mine = mine;
  back = back;
  others = λ q apart. refl;
  nodes = refl;
  documents = λ q. refl;
  next = refl;
  sessions = λ q. refl;
  slots = λ q n. refl;
  version = refl;
  sound = λ s. s;
}

-- no entry of the object is left, and all else is as it was
pub lists_none : (old new : State) (id count : ℕ) → IsRoomDatabase old.now
    → ExecutesInside 0 drop_entries_text (Int (pos id) ∷ []) old new (Ok count) → Lists old.now id [] new.now
lists_none old new id count room h =
    let it = drops_entries room.layout old new id count room.schema room.keyed.1.1.0
    h.0 in
    let o = it.others in
    let rows = λ (q : ℕ). rows_gone entries_shown 1 id q (old.now.trees 3) (new.now.trees 3) it.rows_are in
    record {
      room = still_room 3 old.now new.now room it.schema it.sound o
          (subst IsKeyed (sym it.rows_are) (keyed_filter (λ r. not (has 1 id r)) (old.now.trees 3) room.keyed.1.1.0))
          (still_numbered 3 old.now new.now room (omega arith) o);
      schema = it.schema ∙ sym room.schema;
      mine = rw (eq-eqb id id refl) at (rows id);
      back = tt;
      others = λ q apart. rw (ne_eqb q id apart) at (rows q);
      nodes = o.node (omega arith);
      documents = λ q. ap (λ l. documents_in l q) (o.doc (omega arith));
      next = ap next_in (o.room (omega arith));
      sessions = λ q. ap (λ l. sessions_in l q) (o.session (omega arith));
      slots = λ q n. ap (λ l. slots_in l q n)
          (still_slots 3 old.now new.now room it.schema it.sound (omega arith) o);
      version = ap versions_in (o.room (omega arith));
      sound = λ _. it.sound;
    }

-- the rows of the object are these entries in order, and those of the others as before
pub record Grown (id : ℕ) (es : List EntryModel) (rows new : List Row) : Type 0 where
  pub keyed : IsKeyed new
  pub mine : entries_shown (filter (has 1 id) new) ≡ placed 0 es
  pub others : (q : ℕ) → q ≢ id → filter (has 1 q) new ≡ filter (has 1 q) rows

-- one row more of the object, at the next place
grown : (id : ℕ) (es : List EntryModel) (e : EntryModel) (rowid : ℤ) (rows : List Row)
    → is_taken rows (Int rowid ∷ Int (pos id) ∷ shown_as (length es) e) ≡ false
    → IsKeyed rows → entries_shown (filter (has 1 id) rows) ≡ placed 0 es
    → Grown id (es ++ e ∷ []) rows (put_row (Int rowid ∷ Int (pos id) ∷ shown_as (length es) e) rows)
grown id es e rowid rows free keyed was = record {
  keyed = keyed_put row rows refl keyed;
  mine = one_placed (map shown_entry (filter (has 1 id) rows))
      (map shown_entry (filter (has 1 id) (put_row row rows))) es e was (IsPermutation-map shown_entry _ _ found);
  others = λ q apart. put_passed_over (has 1 q) row rows (not_both 1 q id row (λ x. apart (sym x)) mine) free;
}
  where
    row : Row
    row = Int rowid ∷ Int (pos id) ∷ shown_as (length es) e

    mine : has 1 id row ≡ true
    mine = int_has 1 id row refl

    found : IsPermutation (filter (has 1 id) (put_row row rows)) (row ∷ filter (has 1 id) rows)
    found =
        subst (λ b. IsPermutation (filter (has 1 id) (put_row row rows)) (cond b (row ∷ filter (has 1 id) rows)
        (filter (has 1 id) rows))) mine (IsPermutation-filter (has 1 id) _ _ (put_is_one_more row rows free))

-- the same of some rows, at the places that follow
pub all_grown : (id at : ℕ) (es batch : List EntryModel) (rows new : List Row)
    → at ≡ length es → IsKeyed rows → entries_shown (filter (has 1 id) rows) ≡ placed 0 es
    → HasAll rows new (stored id at batch) → Grown id (es ++ batch) rows new
all_grown id at es [] rows new place keyed was all = record {
  keyed = subst IsKeyed (sym all) keyed;
  mine = ap (λ l. entries_shown (filter (has 1 id) l)) all ∙ was ∙ ap (placed 0) (sym (append-nil es));
  others = λ q apart. ap (filter (has 1 q)) all;
}
all_grown id at es (e ∷ batch) rows new place keyed was all =
    let row : Row = Int all.0 ∷ Int (pos id) ∷ shown_as at e in
    let one = subst (λ n. is_taken rows (Int all.0 ∷ Int (pos id) ∷ shown_as n e) ≡ false
    → Grown id (es ++ e ∷ []) rows (put_row (Int all.0 ∷ Int (pos id) ∷ shown_as n e) rows))
    (sym place) (λ free. grown id es e all.0 rows free keyed was) all.1 in
    let next : suc at ≡ length (es ++ e ∷ []) = omega (arith, length-append es (e ∷ []), place) in
    let more = all_grown id (suc at) (es ++ e ∷ []) batch (put_row row rows) new next one.keyed one.mine all.2 in
    record {
      keyed = more.keyed;
      mine = more.mine ∙ ap (placed 0) (append_assoc es (e ∷ []) batch);
      others = λ q apart. more.others q apart ∙ one.others q apart;
    }

-- the list of the object is another where its rows alone changed
pub relisted : (before old new : Database) (id : ℕ) (es fs : List EntryModel) (was : Lists before id es old)
    → new.schema ≡ room_schema was.room.layout → IsDatabase new → Others was.room.layout 3 old.trees new.trees
    → AllByRecursion IsReadBack fs → Grown id fs (old.trees 3) (new.trees 3) → Lists before id fs new
relisted before old new id es fs was schema sound o back it = record {
  room = still_room 3 old new was.room schema sound o it.keyed (still_numbered 3 old new was.room (omega arith) o);
  schema = schema ∙ sym was.room.schema ∙ was.schema;
  mine = it.mine;
  back = back;
  others = λ q apart. ap entries_shown (it.others q apart) ∙ was.others q apart;
  nodes = o.node (omega arith) ∙ was.nodes;
  documents = λ q. ap (λ l. documents_in l q) (o.doc (omega arith)) ∙ was.documents q;
  next = ap next_in (o.room (omega arith)) ∙ was.next;
  sessions = λ q. ap (λ l. sessions_in l q) (o.session (omega arith)) ∙ was.sessions q;
  slots = λ q n. ap (λ l. slots_in l q n) (still_slots 3 old new was.room schema sound (omega arith) o)
      ∙ was.slots q n;
  version = ap versions_in (o.room (omega arith)) ∙ was.version;
  sound = λ _. sound;
}

-- the entries of the object after some more are put in behind them
pub lists_more : (text : List ℕ) (old new : State) (id at count : ℕ) (es batch : List EntryModel) (before : Database)
    → ((l : Layout) → AddsEntries l text id at batch) → at ≡ length es → AllByRecursion IsReadBack batch
    → Lists before id es old.now
    → ExecutesInside 0 text (Int (pos id) ∷ bound_entries at batch) old new (Ok count)
    → Lists before id (es ++ batch) new.now
lists_more text old new id at count es batch before adds place back was h =
    let it = adds was.room.layout old new count was.room.schema h.0 in
    relisted before old.now new.now id es (es ++ batch) was it.schema it.sound it.others
    (all-append IsReadBack es batch was.back back)
    (all_grown id at es batch (old.now.trees 3) (new.now.trees 3) place was.room.keyed.1.1.0 was.mine it.rows)

-- what the records are then
pub lists_records : (before : Database) (id : ℕ) (es : List EntryModel) (db : Database) → Lists before id es db
    → records_of db.trees ≡ record (records_of before.trees) {
      objects = record (records_of before.trees).objects {
        entries = λ q.
            cond (q == id) es ((records_of before.trees).objects.entries q);
      };
    }
lists_records before id es db it = same_records _ _ (λ q. ap (λ l. nodes_in l q) it.nodes) (λ q. elim (cases_eq q id) [
  | inl same ↦ rw (eq-eqb q id same, same) (ap (map entry_of) it.mine ∙ read_back 0 es it.back)
  | inr apart ↦ rw (ne_eqb q id apart) (ap (map entry_of) (it.others q apart))
]) it.documents it.next it.sessions it.slots
