-- What is taken from files.
use Rattle.std.specs.Prelude.{◌≡◌, ◌⊎◌, ℕ, List, Bool, true, false, Option, Some, None, Result, Ok, Err, IsTrue}
use Rattle.sqlite_trees.specs.declared.store.Store.{Ghosts}
use Rattle.sqlite_trees.specs.Tree.{Trees}
use Rattle.sqlite.specs.State.{HasCleanDisk, Survives}
use Rattle.sqlite.specs.Held.{Held, state}
use Rattle.sqlite.specs.declared.error.Error.{Error}
use Rattle.sqlite.specs.declared.error.Error.TheVariants.{SqliteFailure}
use Rattle.sqlite.specs.declared.error.ErrorCode.TheVariants.{OutOfMemory}
use Rattle.room_acl.specs.SubjectModel.{SubjectModel}
use Rattle.room_records.specs.Records.{Records}
use Rattle.room_cache.specs.declared.known.Known.{Known}
use Rattle.room_cache.specs.Known.{IsTrueOf}
use Rattle.room_tables.specs.Tables.{schema_0, has_a_table, has_room, has_first_room}
use Rattle.room_tables.specs.Fresh.{IsFresh, IsFreshRoom, StandsBeside, MayBeMade}
use Rattle.room_sql.specs.declared.sql_shelf.SqlShelf.{SqlShelf}
use Rattle.room_sql.specs.Facts.{KnowsNothing}
use Rattle.room_sql.specs.Taken as adoption
use Rattle.room_roster.specs.Rosters.{IsRosterText}
use Rattle.room_program.specs.declared.fault.Fault.{Fault}
use Rattle.room_program.specs.declared.fault.Fault.TheVariants.{CannotReadRoster, BadRoster, RoomExists, NotARoom}
use Rattle.room_program.specs.declared.fault.Fault.TheVariants.{StoreFailed, Memory}
use Rattle.room_program.specs.Machines.{Call}
use Rattle.room_program.specs.Machines.Call.{reads, looks, opens, closes, leaves}

-- the roster of a text: its users are those that the text gives
abbrev pub GivesRoster : List ℕ → Result (List SubjectModel) Fault → Type 0
GivesRoster text (Ok users) = IsRosterText text users
GivesRoster text (Err BadRoster) = (users : List SubjectModel) → ¬ IsRosterText text users
GivesRoster text (Err Memory) = Unit {0}
GivesRoster text (Err other) = ⊥

-- the roster of a file's text; that the file can't be read is told only where its read failed
abbrev pub ReadsRoster : Option (List ℕ) → Result (List SubjectModel) Fault → Type 0
ReadsRoster (Some text) taken = GivesRoster text taken
ReadsRoster None (Err CannotReadRoster) = Unit {0}
ReadsRoster None (Err Memory) = Unit {0}
ReadsRoster None other = ⊥

abbrev pub TakesRoster : {M C : Type 0} → (does : M → Call C → M → Type 0)
    → List ℕ → M → M → Result (List SubjectModel) Fault → Type 0
TakesRoster does path old new taken = (text : Option (List ℕ)) × does old (reads path text) new × ReadsRoster text taken

-- the store at a path; or it can't be opened, and memory is wanting only where that is why; or it is let go at once
abbrev pub OpensStore : {M C : Type 0} → (does : M → Call C → M → Type 0) → List ℕ → M → M → Result C Fault → Type 0
OpensStore does path old new (Ok opened) = does old (opens path (Ok opened)) new
OpensStore {M} {C} does path old new (Err StoreFailed) =
    ((why : Error) × does old (opens path (Err why)) new)
    ⊎ ((opened : C) × (begun : M) × does old (opens path (Ok opened)) begun × does begun (leaves opened) new)
OpensStore does path old new (Err Memory) = does old (opens path (Err (SqliteFailure OutOfMemory))) new
OpensStore does path old new (Err other) = ⊥

-- it fails with a fault of this kind
abbrev pub FailsBy : {R : Type 0} → (Fault → Type 0) → Result R Fault → Type 0
FailsBy Is done = (fault : Fault) × (done ≡ Err fault) × Is fault

-- the store at a path is opened, and this is done with it; or it is not
abbrev pub OpensAnd : {M C R : Type 0} → (does : M → Call C → M → Type 0)
    → (does_so : C → M → M → Result R Fault → Type 0) → List ℕ → M → M → Result R Fault → Type 0
OpensAnd {M} {C} does does_so path old new done =
    FailsBy (λ fault. OpensStore does path old new (Err fault)) done
    ⊎ ((opened : C) × (begun : M) × OpensStore does path old begun (Ok opened) × does_so opened begun new done)

-- the shelf over a store that was opened; or why it is no room that can be taken, and it is let go
abbrev pub Adopts : {M C Shelf : Type 0} → (does : M → Call C → M → Type 0)
    → (takes : C → Result Shelf (Fault × C) → Type 0) → C → M → M → Result Shelf Fault → Type 0
Adopts does takes opened old new (Ok shelf) = takes opened (Ok shelf) × (new ≡ old)
Adopts {M} {C} does takes opened old new (Err fault) =
    (let_go : C) × takes opened (Err (fault, let_go)) × does old (leaves let_go) new

-- the shelf over the store at a path: the one that was opened and adopted
abbrev pub OpensRoom : {M C Shelf : Type 0} → (does : M → Call C → M → Type 0)
    → (takes : C → Result Shelf (Fault × C) → Type 0) → List ℕ → M → M → Result Shelf Fault → Type 0
OpensRoom does takes path old new taken = OpensAnd does (Adopts does takes) path old new taken

-- nothing is opened where a file is not there or empty, which is no room, or where that can't be told
abbrev pub IsUnopened : {Shelf : Type 0} → (begun : Option Bool) → Result Shelf Fault → Type 0
IsUnopened (Some false) (Err NotARoom) = Unit {0}
IsUnopened None (Err StoreFailed) = Unit {0}
IsUnopened None (Err Memory) = Unit {0}
IsUnopened begun other = ⊥

-- the shelf of the store at a path, where a file with bytes is there
abbrev pub TakesRoom : {M C Shelf : Type 0} → (does : M → Call C → M → Type 0)
    → (takes : C → Result Shelf (Fault × C) → Type 0) → List ℕ → M → M → Result Shelf Fault → Type 0
TakesRoom {M} does takes path old new taken =
    ((begun : Option Bool) × does old (looks path begun) new × IsUnopened begun taken)
    ⊎ ((seen : M) × does old (looks path (Some true)) seen × OpensRoom does takes path seen new taken)

-- a store that was opened has the tables and columns of a room of version 2 or 1, and is taken by a shelf that knows
-- nothing, as `SqlShelf::adopt` has it: the one as it was, and the other as the room of version 2 that it became. What
-- is remembered around it fits any rows: it is nothing
abbrev pub Adopted : {S : Type 0} (g : Ghosts S) → (opened : Held S) → (taken : SqlShelf S g × Known) → Type 0
Adopted g opened taken = (IsTrue (has_room opened.schema) ⊎ IsTrue (has_first_room opened.schema))
    × (HasCleanDisk (state g taken.0.conn) → IsTrue (state g taken.0.conn).is_open
    × adoption.IsTaken (state g opened) (state g taken.0.conn))
    × Survives (state g opened) (state g taken.0.conn) (adoption.MayBeTaken (state g opened))
    × KnowsNothing taken.0.known × ((r : Records) → IsTrueOf taken.1 r)

-- what a store shows is committed, where no fault has shut it
abbrev pub ShowsCommitted : {S : Type 0} → Ghosts S → Held S → Type 0
ShowsCommitted g s = IsTrue (state g s).is_open → (state g s).now.trees ≡ (state g s).committed.trees

-- a store that is let go shows what it showed, and committed it, where no fault has shut it, and a crash leaves what it
-- could leave before, or what a commit that was tried leaves
abbrev pub IsSpared : {S : Type 0} → Ghosts S → (opened let_go : Held S) → (commits : Trees → Type 0) → Type 0
IsSpared g opened let_go commits =
    ShowsCommitted g let_go × (HasCleanDisk (state g let_go) → IsTrue (state g let_go).is_open
    → (state g let_go).now ≡ (state g opened).now)
    × Survives (state g opened) (state g let_go) commits

-- why no room is taken of a store that was opened, and what is let go: no more was tried than to make one of version 1
-- one of version 2; and it is no room only where nothing was tried, and the version of one is not there
pub record Untaken {S : Type 0} (g : Ghosts S) (opened let_go : Held S) (why : Fault) : Type 0 where
  pub fault : (why ≡ NotARoom) ⊎ ((why ≡ StoreFailed) ⊎ (why ≡ Memory))
  pub spared : IsSpared g opened let_go (adoption.MayBeTaken (state g opened))
  pub no_room : why ≡ NotARoom → Survives (state g opened) (state g let_go) (λ _. ⊥)
      × (HasCleanDisk (state g let_go) → adoption.HasAnotherVersion (state g opened))

abbrev pub Takes : {S : Type 0} (g : Ghosts S) → (opened : Held S)
    → Result (SqlShelf S g × Known) (Fault × Held S) → Type 0
Takes g opened (Ok taken) = Adopted g opened taken
Takes g opened (Err (fault, let_go)) = Untaken g opened let_go fault

-- a store that was opened had no table of a room, and a fresh room was made in it and committed, beside what was there,
-- as `SqlShelf::init` has it
abbrev pub Made : {S : Type 0} → Ghosts S → (owner group : List ℕ) → (opened made : Held S) → Type 0
Made g owner group opened made = (has_a_table opened.schema ≡ false) × ShowsCommitted g made
    × (HasCleanDisk (state g made) → IsTrue (state g made).is_open
    × (opened.schema ≡ schema_0 → IsFreshRoom owner group (state g made).now))
    × Survives (state g opened) (state g made) (MayBeMade owner group (state g opened).now)
    × (HasCleanDisk (state g made) → StandsBeside (IsFresh owner group) (state g opened).now (state g made).now)

-- why no room was made in a store that was opened, and what is let go: it had a table of a room and is as it was, with
-- what it shows committed; or it had none and is spared
abbrev pub Unmade : {S : Type 0} → Ghosts S → (owner group : List ℕ) → (opened let_go : Held S) → Fault → Type 0
Unmade g owner group opened let_go RoomExists = IsTrue (has_a_table opened.schema) × (let_go ≡ opened)
    × ShowsCommitted g let_go
Unmade g owner group opened let_go StoreFailed =
    (has_a_table opened.schema ≡ false) × IsSpared g opened let_go (MayBeMade owner group (state g opened).now)
Unmade g owner group opened let_go Memory =
    (has_a_table opened.schema ≡ false) × IsSpared g opened let_go (MayBeMade owner group (state g opened).now)
Unmade g owner group opened let_go other = ⊥

-- a fresh room was made in a store, and so it is closed; or why not, and then it is let go
abbrev pub Makes : {M C : Type 0} → (does : M → Call C → M → Type 0) → (made : C → C → Type 0)
    → (unmade : C → C → Fault → Type 0) → C → M → M → Result (Unit {0}) Fault → Type 0
Makes {M} {C} does made unmade opened old new (Ok done) =
    (closed : C) × made opened closed × does old (closes closed) new
Makes {M} {C} does made unmade opened old new (Err fault) =
    (let_go : C) × unmade opened let_go fault × does old (leaves let_go) new

abbrev pub MakesAt : {M C : Type 0} → (does : M → Call C → M → Type 0)
    → (made : C → C → Type 0) → (unmade : C → C → Fault → Type 0) → List ℕ → M → M → Result (Unit {0}) Fault → Type 0
MakesAt does made unmade path old new done = OpensAnd does (Makes does made unmade) path old new done
