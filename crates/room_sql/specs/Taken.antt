-- What `adopt` makes of a database.
use Rattle.std.specs.Prelude.{◌≡◌, ◌⊎◌, false, IsTrue}
use Rattle.sqlite_trees.specs.Tree.{Trees}
use Rattle.sqlite.specs.State.{State, HasCleanDisk, Survives}
use Rattle.room_tables.specs.Tables.{Layout, room_schema, first_schema, has_room, has_first_room}
use Rattle.room_tables.specs.Rows.{version_rows, IsVersion}
use Rattle.room_tables.specs.Versions.{TellsVersion}
use Rattle.room_tables.specs.Layout.{IsRoomOfVersion1}
use Rattle.room_tables.specs.Upgrade.{IsUpgraded, MayBeUpgraded}

-- one that has the tables of version 2 and tells that version stays as it was
pub record IsSecond (old new : State) : Type 0 where
  pub tables : IsTrue (has_room old.now.schema)
  pub version : TellsVersion old new (IsVersion 2)
  pub same : new.now ≡ old.now

-- the tables are those of version 1, and whatever becomes of the connection, the database says that version of itself
pub record SaysFirst (s : State) : Type 0 where
  pub no_second : has_room s.now.schema ≡ false
  pub tables : IsTrue (has_first_room s.now.schema)
  pub version : TellsVersion s s (IsVersion 1)

-- such a one is upgraded
abbrev pub IsTaken : State → State → Type 0
IsTaken old new = IsSecond old new ⊎ (SaysFirst old × (IsRoomOfVersion1 old.now → IsUpgraded old.now new.now))

-- and nothing else is committed
abbrev pub MayBeTaken : State → Trees → Type 0
MayBeTaken old trees = SaysFirst old × MayBeUpgraded old.now trees

-- nothing was committed, and what is seen is as it was
pub record IsAsBefore (old new : State) : Type 0 where
  pub same : HasCleanDisk new → IsTrue new.is_open → new.now ≡ old.now
  pub crash : Survives old new (λ _. ⊥)

-- the row of a room, in the tables as they are promised, holds the version that goes with them
pub record HasItsVersion (s : State) : Type 0 where
  pub second : (l : Layout) → s.now.schema ≡ room_schema l → IsVersion 2 (version_rows s.now.trees)
  pub first : s.now.schema ≡ first_schema → IsVersion 1 (version_rows s.now.trees)

-- and it holds another
pub record HasAnotherVersion (s : State) : Type 0 where
  pub second : (l : Layout) → s.now.schema ≡ room_schema l → ¬ IsVersion 2 (version_rows s.now.trees)
  pub first : s.now.schema ≡ first_schema → ¬ IsVersion 1 (version_rows s.now.trees)
