-- The tables of a room, in both versions.
use Rattle.std.specs.Prelude.{true, false, Bool, is_some, [], ◌∷◌, Some, option_and_then, slice_get, codes, List, ℕ}
use Rattle.std.specs.Prelude.{◌+◌, pos}
use Rattle.std.specs.List.{list_all, list_any, flat_map}
use Rattle.sqlite_schema.specs.Names.{table_named, column_named}
use Rattle.sqlite.specs.Collation.TheVariants.{Binary}
use Rattle.sqlite.specs.declared.types.Value.TheVariants.{Null, Int}
use Rattle.sqlite.specs.Table.{Table}
use Rattle.sqlite.specs.Schema.{Schema}
use Rattle.sqlite.specs.Change.{automatics}
use Rattle.sqlite.specs.Kind.{Kind}
use Rattle.sqlite.specs.Kind.TheVariants.{Integer, Text, Blob}
use Rattle.sqlite_sql.specs.Term.{Term, lit, col, op2}
use Rattle.sqlite_sql.specs.declared.ops.BinaryOp.TheVariants.{Compare, And, Or}
use Rattle.sqlite_sql.specs.declared.ops.CompareOp.{CompareOp}
use Rattle.sqlite_sql.specs.declared.ops.CompareOp.TheVariants.{Eq, Ge, Le}
use Rattle.sqlite_resolve.specs.Define.{empty}
use Rattle.sqlite_schema.specs.declared.schema.Column.{Column}
use Rattle.sqlite_schema.specs.declared.schema.Index.{Index}
use Rattle.sqlite_schema.specs.declared.schema.Reference.{Reference}
use Rattle.sqlite_schema.specs.declared.schema.Action.{Action}
use Rattle.sqlite_schema.specs.declared.schema.Action.TheVariants.{NoAction, Cascade}
use Rattle.sqlite_value.specs.Keys.{plain}

-- a column that may be NULL, or is the INTEGER PRIMARY KEY
abbrev pub loose : List ℕ → Kind → Column
loose name kind =
    record { name = name; kind = kind; is_strict = true; not_null = false; default = Null; collation = Binary }

-- a column that is never NULL
abbrev pub required : List ℕ → Kind → Column
required name kind = record (loose name kind) { not_null = true }

-- the column at this place, beside a number
abbrev pub compared : CompareOp → ℕ → ℕ → Term
compared how place n = op2 (Compare how Binary) (col 1 place) (lit (Int (pos n)))

abbrev pub zero_or_one : ℕ → Term
zero_or_one place = op2 Or (compared Eq place 0) (compared Eq place 1)

abbrev pub refers : ℕ → List ℕ → List ℕ → Action → Reference
refers place parent name how = record {
  columns = place ∷ [];
  parent = parent;
  parent_columns = name ∷ [];
  on_delete = how;
  on_update = NoAction;
  is_deferred = false;
}

-- ---- tables by name, tree and columns: what a table does not say has no rule beside these

-- the first column is the INTEGER PRIMARY KEY
abbrev pub numbered_table : List ℕ → ℕ → List Column → Table
numbered_table name tree columns =
    record (empty name []) { tree = tree; columns = columns; key = Some 0; primary = 0 ∷ [] }

-- the columns at these places are the PRIMARY KEY
abbrev pub keyed_table : List ℕ → ℕ → List ℕ → List Column → Table
keyed_table name tree places columns = record (empty name [])
    { tree = tree; columns = columns; primary = places; uniques = places ∷ []; orders = plain ∷ [] }

-- what slots keep, where replies have this column
abbrev pub reply_table : List ℕ → ℕ → Column → Table
reply_table name tree reply = record (keyed_table name tree (1 ∷ 2 ∷ []) (required (codes "sid") Text
    ∷ required (codes "slot") Integer ∷ required (codes "seq") Integer ∷ required (codes "request") Blob ∷ reply ∷ []))
    { references = refers 1 (codes "session") (codes "sid") NoAction ∷ [] }

abbrev pub room_text : List ℕ
room_text = codes
    "CREATE TABLE room (one INTEGER PRIMARY KEY CHECK (one = 1), version INTEGER NOT NULL, next INTEGER NOT NULL) STRICT"

abbrev pub room_table : Table
room_table = record (numbered_table (codes "room") 0
    (loose (codes "one") Integer ∷ required (codes "version") Integer ∷ required (codes "next") Integer ∷ []))
    { checks = compared Eq 0 1 ∷ [] }

abbrev pub node_text : List ℕ
node_text = codes
    "CREATE TABLE node (id INTEGER PRIMARY KEY, parent INTEGER REFERENCES node(id), name TEXT NOT NULL, kind INTEGER NOT NULL CHECK (kind = 0 OR kind = 1), owner TEXT NOT NULL, grp TEXT NOT NULL, aclflag INTEGER NOT NULL CHECK (aclflag >= 0 AND aclflag <= 7), UNIQUE (parent, name)) STRICT"

abbrev pub node_table : Table
node_table = record (numbered_table (codes "node") 1 (loose (codes "id") Integer ∷ loose (codes "parent") Integer
    ∷ required (codes "name") Text ∷ required (codes "kind") Integer ∷ required (codes "owner") Text
    ∷ required (codes "grp") Text ∷ required (codes "aclflag") Integer ∷ [])) {
      uniques = (2 ∷ 3 ∷ []) ∷ [];
      orders = plain ∷ [];
      checks = zero_or_one 4 ∷ op2 And (compared Ge 7 0) (compared Le 7 7) ∷ [];
      references = refers 2 (codes "node") (codes "id") NoAction ∷ [];
    }

abbrev pub entry_text : List ℕ
entry_text = codes
    "CREATE TABLE entry (node INTEGER NOT NULL REFERENCES node(id) ON DELETE CASCADE, place INTEGER NOT NULL, type INTEGER NOT NULL CHECK (type = 0 OR type = 1), flag INTEGER NOT NULL, mask INTEGER NOT NULL, who TEXT NOT NULL, PRIMARY KEY (node, place)) STRICT"

abbrev pub entry_table : Table
entry_table = record (keyed_table (codes "entry") 3 (1 ∷ 2 ∷ []) (required (codes "node") Integer
    ∷ required (codes "place") Integer ∷ required (codes "type") Integer ∷ required (codes "flag") Integer
    ∷ required (codes "mask") Integer ∷ required (codes "who") Text ∷ []))
    { checks = zero_or_one 3 ∷ []; references = refers 1 (codes "node") (codes "id") Cascade ∷ [] }

abbrev pub doc_text : List ℕ
doc_text = codes
    "CREATE TABLE doc (node INTEGER PRIMARY KEY REFERENCES node(id) ON DELETE CASCADE, bytes BLOB NOT NULL) STRICT"

abbrev pub doc_table : Table
doc_table = record (numbered_table (codes "doc") 5 (loose (codes "node") Integer ∷ required (codes "bytes") Blob ∷ []))
    { references = refers 0 (codes "node") (codes "id") Cascade ∷ [] }

abbrev pub session_text : List ℕ
session_text = codes
    "CREATE TABLE session (sid TEXT PRIMARY KEY NOT NULL, owner TEXT NOT NULL, slots INTEGER NOT NULL, open INTEGER NOT NULL CHECK (open = 0 OR open = 1)) STRICT"

abbrev pub session_table : Table
session_table = record (keyed_table (codes "session") 6 (1 ∷ []) (required (codes "sid") Text
    ∷ required (codes "owner") Text ∷ required (codes "slots") Integer ∷ required (codes "open") Integer ∷ []))
    { checks = zero_or_one 4 ∷ [] }

-- the table of what slots keep in version 1, where each request has its reply
abbrev pub slot_text : List ℕ
slot_text = codes
    "CREATE TABLE slot (sid TEXT NOT NULL REFERENCES session(sid), slot INTEGER NOT NULL, seq INTEGER NOT NULL, request BLOB NOT NULL, reply BLOB NOT NULL, PRIMARY KEY (sid, slot)) STRICT"

abbrev pub slot_table : Table
slot_table = reply_table (codes "slot") 8 (required (codes "reply") Blob)

-- and in version 2
abbrev pub kept_text : List ℕ
kept_text = codes
    "CREATE TABLE kept (sid TEXT NOT NULL REFERENCES session(sid), slot INTEGER NOT NULL, seq INTEGER NOT NULL, request BLOB NOT NULL, reply BLOB, PRIMARY KEY (sid, slot)) STRICT"

-- each table has the index of each UNIQUE and PRIMARY KEY of its own, and no other is there
abbrev pub own_indexes : List Table → List Index
own_indexes = flat_map (λ (t : Table). automatics t 0 (t.tree + 1) t.uniques)

-- these tables with their indexes
abbrev pub schema_of : List Table → Schema
schema_of tables = record { tables = tables; indexes = own_indexes tables; views = [] }

-- ---- the tables as they are made, one after another

abbrev pub schema_0 : Schema
schema_0 = schema_of []

abbrev pub schema_1 : Schema
schema_1 = schema_of (room_table ∷ [])

abbrev pub schema_2 : Schema
schema_2 = schema_of (room_table ∷ node_table ∷ [])

abbrev pub schema_3 : Schema
schema_3 = schema_of (room_table ∷ node_table ∷ entry_table ∷ [])

abbrev pub schema_4 : Schema
schema_4 = schema_of (room_table ∷ node_table ∷ entry_table ∷ doc_table ∷ [])

-- ---- a room

-- the five tables that every room has stand first, and these behind them
abbrev pub with_last : List Table → Schema
with_last tables = schema_of (room_table ∷ node_table ∷ entry_table ∷ doc_table ∷ session_table ∷ tables)

-- the five alone
abbrev pub schema_5 : Schema
schema_5 = with_last []

-- a room of version 1
abbrev pub first_schema : Schema
first_schema = with_last (slot_table ∷ [])

-- how a room of version 2 came to be
pub data Layout : Type 0 where
  -- made by `init`
  Fresh : Layout
  -- made in version 1, and upgraded, so that an empty `slot` stands before `kept`
  Upgraded : Layout

abbrev pub slots_tree : Layout → ℕ
slots_tree Fresh = 8
slots_tree Upgraded = 10

-- and its place in the list
abbrev pub slots_place : Layout → ℕ
slots_place Fresh = 5
slots_place Upgraded = 6

-- what slots keep in version 2, where a reply that is not kept is NULL
abbrev pub slots_table : Layout → Table
slots_table l = reply_table (codes "kept") (slots_tree l) (loose (codes "reply") Blob)

abbrev pub last_tables : Layout → List Table
last_tables Fresh = slots_table Fresh ∷ []
last_tables Upgraded = slot_table ∷ slots_table Upgraded ∷ []

-- a room of version 2
abbrev pub room_schema : Layout → Schema
room_schema l = with_last (last_tables l)

-- ---- what is looked for

-- a table has one of the seven names
abbrev pub has_a_table : Schema → Bool
has_a_table schema = list_any (λ (t : Table). is_some (table_named schema t.name)) (room_schema Upgraded).tables

-- the table is there, and has the column
abbrev pub has_column : Schema → List ℕ → List ℕ → Bool
has_column schema table column = is_some (option_and_then (λ (t : Table). column_named t column)
    (option_and_then (slice_get schema.tables) (table_named schema table)))

-- for each of these a table of its name is there, with each of its columns
abbrev pub has_tables : Schema → List Table → Bool
has_tables schema =
    list_all (λ (t : Table). list_all (λ (c : Column). has_column schema t.name c.name) t.columns)

-- the tables of a room of version 2, and of one of version 1
abbrev pub has_room : Schema → Bool
has_room schema = has_tables schema (room_schema Fresh).tables

abbrev pub has_first_room : Schema → Bool
has_first_room schema = has_tables schema first_schema.tables
