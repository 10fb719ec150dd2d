-- A database that is laid out for the records of a room.
use Rattle.std.specs.Prelude.{◌≡◌, ℕ, pos, true, List, [], ◌∷◌, Option}
use Rattle.std.specs.List.{AllByRecursion}
use Rattle.sqlite_value.specs.declared.value.Value.{Value}
use Rattle.sqlite_value.specs.declared.value.Value.TheVariants.{Int, Blob}
use Rattle.sqlite_value.specs.Order.{Row, column}
use Rattle.sqlite_trees.specs.Tree.{Trees, rowid, IsTable}
use Rattle.sqlite_trees.specs.View.{is_int}
use Rattle.sqlite.specs.Table.{Table}
use Rattle.sqlite.specs.Values.{or_null}
use Rattle.sqlite.specs.Effect.{Database, IsDatabase}
use Rattle.sqlite.specs.Schema.{Schema}
use Rattle.room_tables.specs.Tables.{Layout, room_schema, first_schema, room_table, node_table, entry_table, doc_table}
use Rattle.room_tables.specs.Tables.{session_table, slots_table, slots_tree, with_last}
use Rattle.room_tables.specs.Rows.{version_rows, IsVersion, kept_rows}

-- the rowids are integers and rise, so none comes twice
pub record IsKeyed (rows : List Row) : Type 0 where
  pub table : IsTable rows
  pub ints : AllByRecursion (λ r. is_int (rowid r) ≡ true) rows

abbrev pub parent_value : Option ℕ → Value
parent_value = or_null (λ n. Int (pos n))

-- a reply as it is stored
abbrev pub reply_value : Option (List ℕ) → Value
reply_value = or_null Blob

-- the number of a node and that of its parent are natural numbers
pub record HasNumbers (row : Row) : Type 0 where
  pub id : ℕ
  pub has_id : column row 0 ≡ Int (pos id)
  pub parent : Option ℕ
  pub has_parent : column row 2 ≡ parent_value parent

-- a fact of each table that a room is read from
pub record OfEachTable (l : Layout) (P : Table → Type 0) : Type 0 where
  pub room : P room_table
  pub node : P node_table
  pub entry : P entry_table
  pub doc : P doc_table
  pub session : P session_table
  pub slots : P (slots_table l)

-- the tables and their indexes, and nothing else
pub record IsRoomDatabase (db : Database) : Type 0 where
  pub layout : Layout
  pub schema : db.schema ≡ room_schema layout
  -- the list of objects names the table of what slots keep
  pub listed : kept_rows db.trees ≡ db.trees (slots_tree layout)
  -- the tables that a room is read from
  pub keyed : AllByRecursion (λ (t : Table). IsKeyed (db.trees t.tree)) (with_last (slots_table layout ∷ [])).tables
  pub numbered : AllByRecursion HasNumbers (db.trees 1)

-- the database that has these trees under this layout's schema: where the two are sound, the trees list that schema
abbrev pub under : Layout → Trees → Database
under l trees = record { schema = room_schema l; trees = trees }

-- a room of version 2
pub record IsRoomOfVersion2 (db : Database) : Type 0 where
  pub room : IsRoomDatabase db
  pub version : IsVersion 2 (version_rows db.trees)
  -- the trees list the schema, and obey it
  pub sound : IsDatabase db

-- the trees of one, whatever lists them
abbrev pub AreOfRoom : Trees → Type 0
AreOfRoom trees = (schema : Schema) × IsRoomOfVersion2 (record { schema = schema; trees = trees })

-- a room of version 1, whose tables are in their order, and nothing else
pub record IsRoomOfVersion1 (db : Database) : Type 0 where
  pub schema : db.schema ≡ first_schema
  pub keyed : AllByRecursion (λ (t : Table). IsKeyed (db.trees t.tree)) first_schema.tables
  pub numbered : AllByRecursion HasNumbers (db.trees 1)
  pub version : IsVersion 1 (version_rows db.trees)
