-- A fresh room in tables of ours, beside what was there.
use Rattle.room_tables.proofs.Common.{Global, Vec, ◌≡◌, ◌==◌, ℕ, pos, Bool, true, false, cond, length, List, [], ◌∷◌}
use Rattle.room_tables.proofs.Common.{◌++◌, map, is_some, Option, None, Some, Ok, inl, inr, refl, sym, ap, subst, ◌∙◌}
use Rattle.room_tables.proofs.Common.{option_map, unwrap_or, true≢false, codes, eq-eqb, or_parts, cases_eq, ne_eqb}
use Rattle.room_tables.proofs.Common.{AllByRecursion, everything, all-append, numbered, put_all, same_name, table_named}
use Rattle.room_tables.proofs.Common.{Trees, no_trees, is_int, Int, Row, column, Chosen, Database, IsDatabase, Schema}
use Rattle.room_tables.proofs.Common.{State, ExecutesInside, Table, EntryModel, Node, Records, has_a_table, room_table}
use Rattle.room_tables.proofs.Common.{node_table, entry_table, Fresh, one_column, number_in, entry_of, records_of, has}
use Rattle.room_tables.proofs.Common.{only, shown_node, node_of, entries_shown, name_of_text, IsKeyed, IsReadBack}
use Rattle.room_tables.proofs.Common.{kind_number, IsBeside, Fills, six, with_rows, drop, list_any}
use Rattle.room_tables.specs.Fresh.{filled, StandForNode, StandForNext, StandForEntries, StandsBeside, MayStandBeside}
use Rattle.room_tables.proofs.Changes.{unnumbered, all_chosen}
use Rattle.room_tables.proofs.Effects.{same_records, row_of_node, node_back, params_of_node}
use Rattle.room_tables.proofs.Filters.{not_both}
use Rattle.room_tables.proofs.Placed.{all_grown, read_back}
use Rattle.room_tables.proofs.Puts.{cast_node, cast_next, stored_next}
use Rattle.room_tables.proofs.Fills.{IsInsert, fills, insert_sound}
use Rattle.room_tables.proofs.Takes.{stored, bound_entries, cast_stored}
use Rattle.room_tables.proofs.Values.{int_has}
use Rattle.room_tables.proofs.Texts as T

-- ---- what each name finds

missing : {X : Type 0} (o : Option X) → is_some o ≡ false → o ≡ None
missing (Some x) h = absurd (true≢false h)
missing None h = refl

record AreFree (schema : Schema) : Type 0 where
  room : table_named schema (codes "room") ≡ None
  node : table_named schema (codes "node") ≡ None
  entry : table_named schema (codes "entry") ≡ None

are_free : (schema : Schema) → has_a_table schema ≡ false → AreFree schema
are_free schema none =
    let room = or_parts _ _ none in
    let node = or_parts _ _ room.1 in
    let entry = or_parts _ _ node.1 in
    record { room = missing _ room.0; node = missing _ node.0; entry = missing _ entry.0 }

abbrev Finds : List ℕ → Table → Type 0
Finds name o = AllByRecursion (λ (w : Table). same_name w.name name ≡ true → w ≡ o) six

other_names : (name : List ℕ) (o : Table) (tables : List Table)
    → list_any (λ (w : Table). same_name w.name name) tables ≡ false
    → AllByRecursion (λ (w : Table). same_name w.name name ≡ true → w ≡ o) tables
other_names name o [] none = tt
other_names name o (w ∷ tables) none =
    let parts = or_parts _ _ none in (λ is. absurd (true≢false (sym is ∙ parts.0)), other_names name o tables parts.1)

finds_room : Finds (codes "room") room_table
unfolding same_name
finds_room = (λ h. refl, other_names (codes "room") room_table (drop 1 six) refl)

finds_node : Finds (codes "node") node_table
unfolding same_name
finds_node =
    (λ h. absurd (true≢false (sym h)), (λ h. refl, other_names (codes "node") node_table (drop 2 six) refl))

finds_entry : Finds (codes "entry") entry_table
unfolding same_name
finds_entry = (
  λ h. absurd (true≢false (sym h)),
  (λ h. absurd (true≢false (sym h)), (λ h. refl, other_names (codes "entry") entry_table (drop 3 six) refl)),
)

-- ---- the row of a node

node_inserts : (node : Node) (name : List ℕ)
    → IsInsert (codes "node") node_table (params_of_node node name) (row_of_node node name ∷ []) T.add_node_text
unfolding everything
node_inserts node name = ((refl, refl, refl, λ schema tree base. (_, _, refl, refl)), refl)

keyed_alone : (id : ℕ) (row : Row) → column row 0 ≡ Int (pos id) → IsKeyed (row ∷ [])
keyed_alone id row is = record { table = (tt, tt); ints = (subst (λ v. is_int v ≡ true) (sym is) refl, tt) }

-- its row stands for the node alone
of_node : (node : Node) (name : List ℕ) → name_of_text name ≡ node.name → StandForNode node (row_of_node node name ∷ [])
of_node node name named = record {
  keyed = keyed_alone node.id row refl;
  numbered = (record { id = node.id; has_id = refl; parent = node.parent; has_parent = refl }, tt);
  alone = λ id. elim (cases_eq id node.id) [
    | inl same ↦
        let mine : has 0 id row ≡ true = int_has 0 id row (ap (λ n. Int (pos n)) (sym same)) in
        ap (λ b. option_map node_of (only (map shown_node (cond b (row ∷ []) [])))) mine
        ∙ ap Some (node_back node name named) ∙ sym (ap (λ b. cond b (Some node) None) (eq-eqb id node.id same))
    | inr apart ↦
        let other : has 0 id row ≡ false =
        not_both 0 id node.id row (λ e. apart (sym e)) (int_has 0 node.id row refl) in
        ap (λ b. option_map node_of (only (map shown_node (cond b (row ∷ []) [])))) other
        ∙ sym (ap (λ b. cond b (Some node) None) (ne_eqb id node.id apart))
  ];
}
  where
    row : Row
    row = row_of_node node name

pub fills_node : (old new : State) (node : Node) (name : List ℕ) (count : ℕ) → name_of_text name ≡ node.name
    → ExecutesInside 0 T.add_node_text (params_of_node node name) old new (Ok count)
    → Fills 1 (λ rows. rows ≡ []) (StandForNode node) old.now new.now
fills_node old new node name count named h =
    let row = row_of_node node name in
    fills (codes "node") T.add_node_text node_table (params_of_node node name) (row ∷ []) (row ∷ [])
    (λ rows. rows ≡ []) (StandForNode node) (node_inserts node name) (record {
      named = finds_node;
      free = λ before none. (are_free before.schema none).node;
      uncounted = refl;
      plain = refl;
      casts = ap (λ r. r ∷ []) (cast_node Fresh node.id node.parent name (kind_number node.kind) node.owner node.group
          node.aclflag (pos node.id));
      put = λ rows none fresh. subst (λ l. StandForNode node (put_all l (numbered Chosen l (row ∷ [])))) (sym none)
          (of_node node name named);
    }) old new count h

-- ---- the row of the room

next_inserts : (n : ℕ)
    → IsInsert (codes "room") room_table (Int (pos n) ∷ []) (stored_next n ∷ []) T.add_next_text
unfolding everything
next_inserts n = ((refl, refl, refl, λ schema tree base. (_, _, refl, refl)), refl)

-- which tells it, and the version
of_next : (n : ℕ) → StandForNext n (stored_next n ∷ [])
of_next n =
    let row = stored_next n in
    let one : has 0 1 row ≡ true = int_has 0 1 row refl in
    record {
      keyed = keyed_alone 1 row refl;
      next = ap (λ b. unwrap_or (option_map (λ r. number_in (column r 0))
          (only (map (one_column 3) (cond b (row ∷ []) [])))) 0) one;
      version = ap (λ b. option_map (λ r. column r 0) (only (map (one_column 2) (cond b (row ∷ []) [])))) one;
    }

pub fills_next : (old new : State) (n count : ℕ)
    → ExecutesInside 0 T.add_next_text (Int (pos n) ∷ []) old new (Ok count)
    → Fills 0 (λ rows. rows ≡ []) (StandForNext n) old.now new.now
fills_next old new n count h =
    let row = stored_next n in
    fills (codes "room") T.add_next_text room_table (Int (pos n) ∷ []) (row ∷ []) (row ∷ [])
    (λ rows. rows ≡ []) (StandForNext n) (next_inserts n) (record {
      named = finds_room;
      free = λ before none. (are_free before.schema none).room;
      uncounted = refl;
      plain = refl;
      casts = ap (λ r. r ∷ []) (cast_next n (pos 1));
      put = λ rows none fresh. subst (λ l. StandForNext n (put_all l (numbered Chosen l (row ∷ [])))) (sym none)
          (of_next n);
    }) old new count h

pub next_sound : (old new : State) (n count : ℕ)
    → ExecutesInside 0 T.add_next_text (Int (pos n) ∷ []) old new (Ok count) → IsDatabase new.now
next_sound old new n count h = insert_sound (codes "room") T.add_next_text room_table (Int (pos n) ∷ [])
    (stored_next n ∷ []) (next_inserts n) old new count h

-- ---- rows of entries

abbrev InsertsEntries : List ℕ → ℕ → ℕ → List EntryModel → Type 0
InsertsEntries text id at es = IsInsert (codes "entry") entry_table (Int (pos id) ∷ bound_entries at es)
    (unnumbered (stored id at es)) text

pub fills_entries : (text : List ℕ) (id at : ℕ) (es batch : List EntryModel) → InsertsEntries text id at batch
    → at ≡ length es → AllByRecursion IsReadBack batch → (old new : State) (count : ℕ)
    → ExecutesInside 0 text (Int (pos id) ∷ bound_entries at batch) old new (Ok count)
    → Fills 3 (StandForEntries id es) (StandForEntries id (es ++ batch)) old.now new.now
fills_entries text id at es batch of place back old new count h =
    fills (codes "entry") text entry_table (Int (pos id) ∷ bound_entries at batch)
    (unnumbered (stored id at batch)) (unnumbered (stored id at batch)) (StandForEntries id es)
    (StandForEntries id (es ++ batch)) of (record {
      named = finds_entry;
      free = λ before none. (are_free before.schema none).entry;
      uncounted = refl;
      plain = refl;
      casts = cast_stored id at batch;
      put = λ rows had fresh.
          let it = all_grown id at es batch rows (put_all rows (numbered Chosen rows (unnumbered (stored id at batch))))
          place had.keyed had.mine (all_chosen rows (stored id at batch) fresh) in
          record {
            keyed = it.keyed;
            mine = it.mine;
            back = all-append IsReadBack es batch had.back back;
            others = λ q apart. it.others q apart ∙ had.others q apart;
          };
    }) old new count h

pub one_insert : (id at : ℕ) (a : EntryModel) → InsertsEntries T.add_entry_text id at (a ∷ [])
unfolding everything
one_insert id at a = ((refl, refl, refl, λ schema tree base. (_, _, refl, refl)), refl)

pub two_insert : (id at : ℕ) (a b : EntryModel) → InsertsEntries T.add_two_text id at (a ∷ b ∷ [])
unfolding everything
two_insert id at a b = ((refl, refl, refl, λ schema tree base. (_, _, refl, refl)), refl)

pub three_insert : (id at : ℕ) (a b c : EntryModel) → InsertsEntries T.add_three_text id at (a ∷ b ∷ c ∷ [])
unfolding everything
three_insert id at a b c = ((refl, refl, refl, λ schema tree base. (_, _, refl, refl)), refl)

pub four_insert : (id at : ℕ) (a b c d : EntryModel) → InsertsEntries T.add_four_text id at (a ∷ b ∷ c ∷ d ∷ [])
unfolding everything
four_insert id at a b c d = ((refl, refl, refl, λ schema tree base. (_, _, refl, refl)), refl)

-- before the first of them
pub of_none : (id : ℕ) → StandForEntries id [] []
of_none id = record { keyed = record { table = tt; ints = tt }; mine = refl; back = tt; others = λ q apart. refl }

over : (new old other : List Row) (d : Bool) → cond d new (cond d old other) ≡ cond d new other
over new old other true = refl
over new old other false = refl

-- some rows, and some more behind them
fills_then : (tree : ℕ) (A B C : List Row → Type 0) (a b c : Database) → Fills tree A B a b → Fills tree B C b c
    → Fills tree A C a c
fills_then tree A B C a b c first next before held none had was =
    let one = first before held none had was in
    let two = next before (with_rows tree one.0 held) none
    (λ whole. subst B (sym (ap (λ d. cond d one.0 (held tree)) (eq-eqb tree tree refl))) (one.1 whole)) one.2 in
    (two.0, two.1, subst (λ h. IsBeside six h before c) (λ i n. over two.0 one.0 (held n) (n == tree) i) two.2)

-- the same of entries, some more behind some
pub fills_more : (id : ℕ) (es fs gs hs : List EntryModel) (a b c : Database) → hs ≡ gs
    → Fills 3 (StandForEntries id es) (StandForEntries id fs) a b
    → Fills 3 (StandForEntries id fs) (StandForEntries id gs) b c
    → Fills 3 (StandForEntries id es) (StandForEntries id hs) a c
fills_more id es fs gs hs a b c is first next =
    subst (λ l. Fills 3 (StandForEntries id es) (StandForEntries id l) a c) (sym is)
    (fills_then 3 (StandForEntries id es) (StandForEntries id fs) (StandForEntries id gs) a b c first next)

-- ---- all of them

-- the six tables with such rows in three of them
filled_rows : (root : Node) (entries : Vec EntryModel Global) (nodes list next : List Row) → root.id ≡ 1
    → StandForNode root nodes → StandForEntries 1 entries.items list → StandForNext 2 next
    → records_of (with_rows 0 next (with_rows 3 list (with_rows 1 nodes no_trees))) ≡ filled root entries
filled_rows root entries nodes list next one of_nodes of_list of_next =
    same_records _ _ of_nodes.alone (λ q. elim (cases_eq q 1) [
      | inl same ↦ rw (eq-eqb q 1 same, same) (ap (map entry_of) of_list.mine ∙ read_back 0 entries.items of_list.back)
      | inr apart ↦ rw (ne_eqb q 1 apart) (ap (λ l. map entry_of (entries_shown l)) (of_list.others q apart))
    ]) (λ q. refl) of_next.next (λ sid. refl) (λ sid slot. refl)

of_no_row : IsKeyed []
of_no_row = record { table = tt; ints = tt }

-- a root, its entries and the next number were put into tables that were just made
pub stands_filled : (root : Node) (entries : Vec EntryModel Global) (made a b c before : Database) → root.id ≡ 1
    → has_a_table before.schema ≡ false → IsBeside six no_trees before made
    → Fills 1 (λ rows. rows ≡ []) (StandForNode root) made a
    → Fills 3 (StandForEntries 1 []) (StandForEntries 1 entries.items) a b
    → Fills 0 (λ rows. rows ≡ []) (StandForNext 2) b c → IsDatabase c
    → StandsBeside (λ r. r ≡ filled root entries) before c
stands_filled root entries made a b c before one none was nodes list next sound =
    let n = nodes before no_trees none (λ whole. refl) was in
    let l = list before (with_rows 1 n.0 no_trees) none (λ whole. of_none 1) n.2 in
    let r = next before (with_rows 3 l.0 (with_rows 1 n.0 no_trees)) none (λ whole. refl) l.2 in
    record {
      held = with_rows 0 r.0 (with_rows 3 l.0 (with_rows 1 n.0 no_trees));
      beside = r.2;
      sound = sound;
      room = λ whole. record {
        layout = Fresh;
        schema = refl;
        listed = refl;
        keyed = (
          (r.1 whole).keyed,
          ((n.1 whole).keyed, ((l.1 whole).keyed, (of_no_row, (of_no_row, (of_no_row, tt))))),
        );
        numbered = (n.1 whole).numbered;
      };
      version = λ whole. (r.1 whole).version;
      records = λ whole. filled_rows root entries n.0 l.0 r.0 one (n.1 whole) (l.1 whole) (r.1 whole);
    }

-- what its records are said to be is another word for what they are
pub stands_such : (Such Other : Records → Type 0) (before after : Database) → ((r : Records) → Such r → Other r)
    → StandsBeside Such before after → StandsBeside Other before after
stands_such Such Other before after so it = record {
  held = it.held;
  beside = it.beside;
  sound = it.sound;
  room = it.room;
  version = it.version;
  records = λ whole. so (records_of it.held) (it.records whole);
}

pub may_stand : (Such Other : Records → Type 0) (db : Database) (trees : Trees) → ((r : Records) → Such r → Other r)
    → MayStandBeside Such db trees → MayStandBeside Other db trees
may_stand Such Other db trees so may none =
    let it = may none in (it.0, stands_such Such Other db (record { schema = it.0; trees = trees }) so it.1)
