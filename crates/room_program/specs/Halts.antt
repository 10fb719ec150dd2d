-- What a stop in the middle of a call leaves of a store's files.
use Rattle.std.specs.Prelude.{◌≡◌, ◌⊎◌, ℕ, List, [], ◌∷◌, true, Result, Ok, Err, IsTrue}
use Rattle.sqlite_disk.specs.declared.Disk.{Ghosts}
use Rattle.sqlite_disk.specs.declared.Files.{Files}
use Rattle.sqlite_disk.specs.declared.fuse.Fuse.{Fuse}
use Rattle.sqlite_disk.specs.Fuse.{inner_of}
use Rattle.sqlite_trees.specs.declared.store.Store as trees
use Rattle.sqlite_trees.specs.View.{IsClean, IsQuiet}
use Rattle.sqlite.specs.WalFiles.{outcomes}
use Rattle.sqlite.specs.WalReads.{AreClean}
use Rattle.sqlite.specs.Recovery.{Image}
use Rattle.sqlite.specs.Effect.{Database}
use Rattle.sqlite.specs.Held.{Held, AreDatabases, state}
use Rattle.sqlite.specs.State.{IsLive}
use Rattle.room_records.specs.Room.{Room, fresh_room}
use Rattle.room_records.specs.Shelf.{View, LeavesNew}
use Rattle.room_tables.specs.Fresh.{IsFresh, StandsBeside}
use Rattle.room_tables.specs.Layout.{IsRoomOfVersion2}
use Rattle.room_tables.specs.Tables.{schema_0}
use Rattle.room_tables.specs.Rows.{records_of}
use Rattle.room_wire.specs.Asks.EventModel.{EventModel}
use Rattle.room_desk.specs.History.{History, changes_rows}
use Rattle.room_records.specs.Records.{Records}
use Rattle.room_desk.specs.AnswerModel.{AnswerModel}
use Rattle.room_desk.specs.Representation.{RepresentsHistory, StandsFor, StandsWith}
use Rattle.room_desk.specs.Serving.{EventAnswered}
use Rattle.room_cache.specs.declared.known.Known.{Known}
use Rattle.room_sql.specs.declared.sql_shelf.SqlShelf.{SqlShelf}
use Rattle.room_program.specs.declared.fault.Fault.{Fault}
use Rattle.room_program.specs.Found.{Holds, HoldsRoom}

-- the two disks that were stopped have returned what was written
abbrev pub WereClean : {D : Type 0} → Ghosts D → Files (Fuse D) → Type 0
WereClean disk files = AreClean disk (inner_of files.log) (inner_of files.db)

-- what a crash may leave of the two disks as they were stopped
abbrev pub MayBeLeftThen : {D : Type 0} → Ghosts D → Files (Fuse D) → Image → Type 0
MayBeLeftThen disk files image = outcomes disk (inner_of files.log) (inner_of files.db) image

-- the rows stand for the history, or for it with this event, which changes what is kept
abbrev pub StandsOrWith : Room → History → EventModel → Records → Type 0
StandsOrWith start past event r = RepresentsHistory start r past ⊎ StandsWith start past event r

-- an event was answered; and where the store was there, with rows that stood for a history, a crash leaves rows that
-- stand for that history, or for it with the event, and that are laid out
pub record AnsweredThenLeft {S : Type 0} (view : S → View) (before : S) (event : EventModel) (answered : AnswerModel)
    (after : S) : Type 0 where
  pub call : EventAnswered view before event answered after
  pub rows : (start : Room) (past : History) → StandsFor start past (view before) → (view before).is_available
      → (view after).is_intact → LeavesNew (view after) (StandsOrWith start past event)
  pub laid_out : (start : Room) (past : History) → StandsFor start past (view before) → (view before).is_available
      → (view after).is_intact → (view after).leaves_laid_out

-- these files hold a room with this history, or with it and this event, which changes what is kept
abbrev pub HoldsOldOrNew : Image → Room → History → EventModel → Type 0
HoldsOldOrNew image start past event = ∥ (HoldsRoom image start past
    ⊎ ((changes_rows past event ≡ true) × HoldsRoom image start (event ∷ past))) ∥₁

-- these files hold a fresh room of this owner and group, or a database without a table
abbrev pub HoldsFreshOrNone : Image → (owner group : List ℕ) → Type 0
HoldsFreshOrNone image owner group = ∥ (HoldsRoom image (fresh_room owner group) []
    ⊎ ((db : Database) × Holds image db × (db.schema ≡ schema_0))) ∥₁

-- these files hold this database, or it with a fresh room of this owner and group beside its tables
abbrev pub HoldsOldOrBeside : Image → Database → (owner group : List ℕ) → Type 0
HoldsOldOrBeside image db owner group = ∥ (Holds image db
    ⊎ ((made : Database) × Holds image made × StandsBeside (IsFresh owner group) db made)) ∥₁

-- these files hold a room of version 2 with records like these
abbrev pub HoldsRoomWith : Image → (Records → Type 0) → Type 0
HoldsRoomWith image P =
    ∥ ((db : Database) × Holds image db × IsRoomOfVersion2 db × P (records_of db.trees)) ∥₁

abbrev pub connection_of : {S : Type 0} {g : trees.Ghosts S} → Result (SqlShelf S g × Known) (Fault × Held S) → Held S
connection_of (Ok taken) = taken.0.conn
connection_of (Err (why, let_go)) = let_go

-- a store was taken out of its connection, which showed a database: a crash leaves nothing that it could not leave
-- before, and where the store has returned what was written, only databases; its trees are numbered then, as they were
pub record IsTakenOut {S : Type 0} (g : trees.Ghosts S) (c : Held S) (it : S) : Type 0 where
  pub live : IsLive (state g c)
  pub quiet : IsQuiet g.view g.faults g.recovers g.is_shielded c.store it
  pub sound : IsClean (g.view it) → AreDatabases (g.recovers it)
  pub was_numbered : IsClean (g.view it) → IsTrue (g.view c.store).is_numbered
  pub numbered : IsClean (g.view it) → IsTrue (g.view it).is_numbered
