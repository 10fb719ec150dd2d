-- Facts of each table that a room is read from.
use Rattle.room_tables.proofs.Common.{◌≡◌, ◌<◌, true, [], ◌∷◌, slice_get, Some, refl, subst, arith, sym, ap₂, ◌∙◌, inl}
use Rattle.room_tables.proofs.Common.{inr, Equal, true≢false, not, ◌&&◌, AllByRecursion, cases_Bool, not-true, and_from}
use Rattle.room_tables.proofs.Common.{Row, value_cmp, Trees, rowid, is_int, overlay, passes, Keeps, guards, clashes}
use Rattle.room_tables.proofs.Common.{agree, differ, Unique, Has, test_has, some_from, int_is, Table, Database}
use Rattle.room_tables.proofs.Common.{IsDatabase, Layout, Fresh, Upgraded, room_schema, room_table, node_table}
use Rattle.room_tables.proofs.Common.{entry_table, doc_table, session_table, slots_table, slots_tree, slots_place}
use Rattle.room_tables.proofs.Common.{with_last, OfEachTable}
use Rattle.sqlite_schema.specs.declared.schema.Constraint.{Constraint}
use Rattle.sqlite_schema.specs.declared.schema.Index.{Index}
use Rattle.room_tables.proofs.Values.{same_ids}

slots_among : (l : Layout) (P : Table → Type 0) → AllByRecursion P (room_schema l).tables → P (slots_table l)
slots_among Fresh P all = all.1.1.1.1.1.0
slots_among Upgraded P all = all.1.1.1.1.1.1.0

pub slots_placed : (l : Layout) → slice_get (room_schema l).tables (slots_place l) ≡ Some (slots_table l)
slots_placed Fresh = refl
slots_placed Upgraded = refl

pub slots_seen : (l : Layout) (db : Trees) → overlay db [] (slots_tree l) ≡ db (slots_tree l)
slots_seen Fresh db = refl
slots_seen Upgraded db = refl

-- the table of what slots keep stands behind the others
pub above : (l : Layout) → 7 < slots_tree l
above Fresh = omega arith
above Upgraded = omega arith

-- what is said of the tables of the schema in turn, by their names
pub by_name : (l : Layout) (P : Table → Type 0) → AllByRecursion P (room_schema l).tables → OfEachTable l P
by_name l P all = record {
  room = all.0;
  node = all.1.0;
  entry = all.1.1.0;
  doc = all.1.1.1.0;
  session = all.1.1.1.1.0;
  slots = slots_among l P all;
}

-- what is said of the tables that a room is read from, in turn and by their names
pub of_turn : (l : Layout) (P : Table → Type 0) → AllByRecursion P (with_last (slots_table l ∷ [])).tables
    → OfEachTable l P
of_turn l P all = record {
  room = all.0;
  node = all.1.0;
  entry = all.1.1.0;
  doc = all.1.1.1.0;
  session = all.1.1.1.1.0;
  slots = all.1.1.1.1.1.0;
}

pub in_turn : (l : Layout) (P : Table → Type 0) → OfEachTable l P
    → AllByRecursion P (with_last (slots_table l ∷ [])).tables
in_turn l P all = (all.room, (all.node, (all.entry, (all.doc, (all.session, (all.slots, tt))))))

-- what is so of any table
pub of_any : (l : Layout) (P : Table → Type 0) → ((t : Table) → P t) → OfEachTable l P
of_any l P f = record {
  room = f room_table;
  node = f node_table;
  entry = f entry_table;
  doc = f doc_table;
  session = f session_table;
  slots = f (slots_table l);
}

-- and what is so where two facts of a table are
pub from_both : (l : Layout) (P Q R : Table → Type 0) → ((t : Table) → P t → Q t → R t)
    → OfEachTable l P → OfEachTable l Q → OfEachTable l R
from_both l P Q R f p q = record {
  room = f room_table p.room q.room;
  node = f node_table p.node q.node;
  entry = f entry_table p.entry q.entry;
  doc = f doc_table p.doc q.doc;
  session = f session_table p.session q.session;
  slots = f (slots_table l) p.slots q.slots;
}

-- each row passes a rule of its table
pub rows_pass : (rule : Constraint) (db : Database) (l : Layout) → db.schema ≡ room_schema l → IsDatabase db →
    OfEachTable l
    (λ (t : Table). AllByRecursion (λ row. passes rule (room_schema l) db.trees t row ≡ true) (db.trees t.tree))
rows_pass rule db l schema sound =
    by_name l (λ (t : Table). AllByRecursion (λ row. passes rule (room_schema l) db.trees t row ≡ true)
    (db.trees t.tree)) (subst (λ s. Keeps rule s db.trees) schema (sound.obeys.rules rule))

-- two rows that agree at the columns of an index that is UNIQUE have one rowid
pub once_by : (l : Layout) (db : Database) (table : Table) (index : Index) (x y : Row)
    → Has (room_schema l).indexes index → guards index table ≡ true
    → passes Unique (room_schema l) db.trees table y ≡ true → Has (db.trees table.tree) x
    → agree index.order index.columns x index.columns y ≡ true → is_int (rowid x) ≡ true → is_int (rowid y) ≡ true
    → value_cmp (rowid x) (rowid y) ≡ Equal
once_by l db table index x y listed guarded unique there same int_x int_y =
    let free = rw guarded at (test_has
    (λ i. not (guards i table && clashes i.order i.columns (db.trees table.tree) y)) (room_schema l).indexes index
    unique listed) in
    elim (cases_Bool (differ (rowid x) (rowid y))) [
      | inl apart ↦ absurd (true≢false (sym (some_from (λ other. agree index.order index.columns other
          index.columns y && differ (rowid other) (rowid y)) (db.trees table.tree) x there (and_from _ _ same apart))
          ∙ not-true _ free))
      | inr tied ↦
          let i = int_is (rowid x) int_x in
          let j = int_is (rowid y) int_y in
          ap₂ value_cmp i j ∙ same_ids _ _ (ap₂ differ (sym i) (sym j) ∙ tied)
    ]
