-- What becomes of a room of version 1, statement by statement.
use Rattle.std.specs.Prelude.{◌≡◌, ◌≢◌, ◌<◌, ◌==◌, ◌++◌, IsPermutation, MatchBool, ℕ, ℤ, Bool, not, List, [], length}
use Rattle.std.specs.Prelude.{map, filter}
use Rattle.sqlite_value.specs.declared.value.Value.TheVariants.{Int}
use Rattle.sqlite_value.specs.declared.keys.Collation.TheVariants.{Binary}
use Rattle.sqlite_value.specs.Order.{Row}
use Rattle.sqlite_trees.specs.Tree.{Trees, rowid}
use Rattle.sqlite_schema.specs.Rules.{equal}
use Rattle.sqlite.specs.Table.{Table}
use Rattle.sqlite.specs.Effect.{Database, IsDatabase}
use Rattle.sqlite.specs.Change.{KeepsRows}
use Rattle.sqlite.specs.State.{State}
use Rattle.room_tables.specs.Tables.{Upgraded, room_schema, first_schema}
use Rattle.room_tables.specs.Rows.{is_slot, shown_slot, records_of}
use Rattle.room_tables.specs.Layout.{OfEachTable, IsKeyed, IsRoomDatabase, IsRoomOfVersion1, IsRoomOfVersion2, under}

-- `kept` was made beside the tables of version 1
pub record IsWidened (old new : Database) : Type 0 where
  pub schema : new.schema ≡ room_schema Upgraded
  pub sound : IsDatabase new
  pub empty : new.trees 10 ≡ []
  pub others : KeepsRows first_schema.tables old.trees new.trees

-- the rows of a slot, as they are shown
abbrev pub shows : List ℕ → ℕ → List Row → List Row
shows sid slot rows = map shown_slot (filter (is_slot sid slot) rows)

-- the row has this rowid, as SQL's = says
abbrev pub has_id : ℤ → Row → Bool
has_id id row = equal Binary (rowid row) (Int id)

abbrev pub others_than : ℤ → List Row → List Row
others_than id = filter (λ row. not (has_id id row))

-- these rows are fewer than `slot` has
abbrev pub LeavesFewer : Database → List Row → Type 0
LeavesFewer db rows = length rows < length (db.trees 8)

-- `kept` has taken over some rows of `slot`, of which these are left: together they show what `slot` showed before
pub record IsShared (old new : Database) (left : List Row) : Type 0 where
  pub schema : new.schema ≡ room_schema Upgraded
  pub sound : IsDatabase new
  pub slots : (sid : List ℕ) (slot : ℕ)
      → IsPermutation (shows sid slot (old.trees 8)) (shows sid slot left ++ shows sid slot (new.trees 10))
  pub slot_keyed : IsKeyed (new.trees 8)
  pub kept_keyed : IsKeyed (new.trees 10)
  pub others : OfEachTable Upgraded (λ (t : Table). t.tree ≢ 10 → new.trees t.tree ≡ old.trees t.tree)

-- some rows were moved
abbrev pub IsMoving : Database → Database → Type 0
IsMoving old new = IsShared old new (new.trees 8)

-- and all of them
abbrev pub IsMovedOut : Database → Database → Type 0
IsMovedOut old new = IsMoving old new × (new.trees 8 ≡ [])

-- and one more was copied and not yet taken away, whose rowid the connection tells; or it tells of no row, and none was
-- left
abbrev pub CopiesRow : Database → State → Type 0
CopiesRow old s = MatchBool (s.changes == 0) (IsMovedOut old s.now)
    (IsShared old s.now (others_than s.last_rowid (s.now.trees 8)))

-- the slots have moved from the one table to the other, and the records are as they were
pub record IsMoved (old new : Database) : Type 0 where
  pub room : IsRoomDatabase new
  pub schema : new.schema ≡ room_schema Upgraded
  pub records : records_of new.trees ≡ records_of old.trees
  pub emptied : new.trees 8 ≡ []

-- a room of version 1 has become one of version 2 that has the same records: `kept` is there, and `slot` is empty
pub record IsUpgraded (old new : Database) : Type 0 where
  pub room : IsRoomOfVersion2 new
  pub schema : new.schema ≡ room_schema Upgraded
  pub records : records_of new.trees ≡ records_of old.trees
  pub emptied : new.trees 8 ≡ []

-- a commit leaves such trees, where there was a room of version 1
abbrev pub MayBeUpgraded : Database → Trees → Type 0
MayBeUpgraded db trees = IsRoomOfVersion1 db → IsUpgraded db (under Upgraded trees)

-- the same where this is the number that is next
abbrev pub MayBeMovedWith : ℕ → Database → Trees → Type 0
MayBeMovedWith next db trees = (records_of db.trees).objects.next ≡ next → MayBeUpgraded db trees
