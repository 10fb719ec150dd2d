-- Tables that were just made, and a fresh room in them.
use Rattle.std.specs.Prelude.{◌≡◌, ◌≢◌, ℕ, ◌==◌, false, List, [], filter, Some, None, Vec, if◌then◌else◌}
use Rattle.std.specs.declared.alloc.Global.{Global}
use Rattle.std.specs.List.{AllByRecursion}
use Rattle.sqlite_value.specs.Order.{Row}
use Rattle.sqlite_trees.specs.Tree.{Trees}
use Rattle.sqlite.specs.Table.{Table}
use Rattle.sqlite.specs.Schema.{Schema}
use Rattle.sqlite.specs.Effect.{Database, IsDatabase}
use Rattle.room_acl.specs.Entries.{EntryModel}
use Rattle.room_records.specs.declared.node.Node.{Node}
use Rattle.room_records.specs.Fresh.{no_records}
use Rattle.room_records.specs.Records.{Records}
use Rattle.room_records.specs.Changes.{apply_change}
use Rattle.room_records.specs.declared.change.Change.TheVariants.{PutNode, PutEntries, PutNext}
use Rattle.room_records.specs.Room.{fresh_room}
use Rattle.room_records.specs.Representation.{RepresentsRoom}
use Rattle.room_tables.specs.Tables.{Fresh, schema_0, room_schema, has_a_table}
use Rattle.room_tables.specs.Rows.{has, entries_shown, nodes_in, next_in, versions_in, records_of, version_rows}
use Rattle.room_tables.specs.Rows.{IsVersion}
use Rattle.room_tables.specs.Layout.{IsKeyed, HasNumbers, IsRoomDatabase, IsRoomOfVersion2, under}
use Rattle.room_tables.specs.Steps.{IsReadBack, placed}
use Rattle.room_tables.specs.Beside.{IsBeside, HasItsSequence, six}

-- the tables are there, and have no row
pub record IsMade (wanted : Schema) (db : Database) : Type 0 where
  pub schema : db.schema ≡ wanted
  pub sound : IsDatabase db
  pub empty : AllByRecursion (λ (t : Table). db.trees t.tree ≡ []) wanted.tables

-- a room with its root alone, which has these entries, and no session
pub record IsFresh (owner group : List ℕ) (r : Records) : Type 0 where
  pub room : RepresentsRoom r.objects (fresh_room owner group)
  pub sessions : (sid : List ℕ) → r.session sid ≡ None
  pub slots : (sid : List ℕ) (slot : ℕ) → r.slot sid slot ≡ None

-- the records after a root and its entries are put into tables that were just made, where no number is next
abbrev pub filled : Node → Vec EntryModel Global → Records
filled root entries =
    apply_change (PutNext 2) (apply_change (PutEntries 1 entries) (apply_change (PutNode root) (no_records 0)))

pub record IsInSix (db : Database) : Type 0 where
  pub room : IsRoomOfVersion2 db
  pub schema : db.schema ≡ room_schema Fresh

-- these are its records
abbrev pub IsFilled : Node → Vec EntryModel Global → Database → Type 0
IsFilled root entries db = IsInSix db × (records_of db.trees ≡ filled root entries)

abbrev pub IsFreshRoom : List ℕ → List ℕ → Database → Type 0
IsFreshRoom owner group db = IsInSix db × IsFresh owner group (records_of db.trees)

-- ---- beside other tables

-- rows of nodes that stand for this one alone
pub record StandForNode (node : Node) (rows : List Row) : Type 0 where
  pub keyed : IsKeyed rows
  pub numbered : AllByRecursion HasNumbers rows
  pub alone : (id : ℕ) → nodes_in rows id ≡ (if id == node.id then Some node else None)

-- rows of a room of version 2 that stand for this next number
pub record StandForNext (n : ℕ) (rows : List Row) : Type 0 where
  pub keyed : IsKeyed rows
  pub next : next_in rows ≡ n
  pub version : IsVersion 2 (versions_in rows)

-- rows of entries that stand for those of this object alone
pub record StandForEntries (id : ℕ) (entries : List EntryModel) (rows : List Row) : Type 0 where
  pub keyed : IsKeyed rows
  pub mine : entries_shown (filter (has 1 id) rows) ≡ placed 0 entries
  pub back : AllByRecursion IsReadBack entries
  pub others : (q : ℕ) → q ≢ id → filter (has 1 q) rows ≡ []

-- Beside what was there stand the six tables of a room of version 2, and their rows stand for such records: `held` has
-- what they would hold in a database of their own, each at the number of its tree there.
pub record StandsBeside (Such : Records → Type 0) (before after : Database) : Type 0 where
  pub held : Trees
  pub beside : IsBeside six held before after
  -- what the trees of `after` list is its schema
  pub sound : IsDatabase after
  pub room : HasItsSequence before.schema → IsRoomDatabase (under Fresh held)
  pub version : HasItsSequence before.schema → IsVersion 2 (version_rows held)
  pub records : HasItsSequence before.schema → Such (records_of held)

-- a commit leaves such trees, where no table had a name of ours
abbrev pub MayStandBeside : (Such : Records → Type 0) → Database → Trees → Type 0
MayStandBeside Such db trees = has_a_table db.schema ≡ false
    → (schema : Schema) × StandsBeside Such db (record { schema = schema; trees = trees })

-- a commit leaves such trees: a room with these records where there was no table before, and else one beside what was
-- there
abbrev pub MayBeFilled : Node → Vec EntryModel Global → Database → Trees → Type 0
MayBeFilled root entries db trees = (db.schema ≡ schema_0 → IsFilled root entries (under Fresh trees))
    × MayStandBeside (λ r. r ≡ filled root entries) db trees

-- a commit leaves such trees: a fresh room where there was no table before, and else one beside what was there
abbrev pub MayBeMade : List ℕ → List ℕ → Database → Trees → Type 0
MayBeMade owner group db trees = (db.schema ≡ schema_0 → IsFreshRoom owner group (under Fresh trees))
    × MayStandBeside (IsFresh owner group) db trees
