-- What a run finds in files that held something as they were opened, and what it leaves in them.
use Rattle.std.specs.Prelude.{◌≡◌, ◌⊎◌, [], false, Ok, Err, IsTrue}
use Rattle.sqlite_disk.specs.declared.Disk.{Ghosts}
use Rattle.sqlite_disk.specs.declared.Files.{Files}
use Rattle.sqlite_trees.specs.Tree.{Trees}
use Rattle.sqlite_pool.specs.Stored.{is_summed}
use Rattle.sqlite_store.specs.Unopened.{state_of}
use Rattle.sqlite.specs.WalFiles.{outcomes}
use Rattle.sqlite.specs.FileStore as store
use Rattle.sqlite.specs.View.{IsClean}
use Rattle.sqlite.specs.WalReads.{AreClean}
use Rattle.sqlite.specs.Closing.{IsCopied}
use Rattle.sqlite.specs.Effect.{Database, IsDatabase}
use Rattle.sqlite.specs.Recovery.{Image}
use Rattle.sqlite.specs.declared.FileStore.{FileStore}
use Rattle.sqlite.specs.State.{HasCleanDisk, IsLive}
use Rattle.sqlite.specs.Held.{Held}
use Rattle.sqlite.specs.Files.{file_state, IsOpened, IsClosed, HoldsDatabase, IsBlankAs, image_of}
use Rattle.sqlite.specs.Files.{IsCleanLeft, FailsToOpenFiles, LeavesFiles, FailsToClose}
use Rattle.sqlite.specs.declared.error.Error.{Error}
use Rattle.sqlite.specs.declared.error.Error.TheVariants.{SqliteFailure}
use Rattle.sqlite.specs.declared.error.ErrorCode.TheVariants.{CannotOpen, OutOfMemory, DatabaseBusy}
use Rattle.sqlite.specs.declared.Leftover.{Leftover}
use Rattle.sqlite.specs.declared.Leftover.TheVariants as leftover
use Rattle.sqlite.specs.Start.{FindsIn}
use Rattle.room_records.specs.Room.{Room}
use Rattle.room_tables.specs.Layout.{IsRoomOfVersion1, IsRoomOfVersion2}
use Rattle.room_tables.specs.Rows.{records_of}
use Rattle.room_desk.specs.History.{History}
use Rattle.room_desk.specs.Representation.{RepresentsHistory}
use Rattle.room_program.specs.declared.left.Left.{Left}
use Rattle.room_program.specs.declared.left.Left.TheVariants.{Nothing, Unopened, Copied, Uncopied, Kept}
use Rattle.room_program.specs.Machines.{Call}
use Rattle.room_program.specs.Machines.Call.{opens, closes, leaves}

-- ---- what the calls of the system say of files

-- a connection that was opened over files that held this image; pages of a file that was blank do not end in sums
abbrev pub IsOpenedOver : {D : Type 0} {g : Ghosts D} → Image → Held (FileStore D g) → Type 0
IsOpenedOver image c = HasCleanDisk (file_state c) → IsOpened c × FindsIn image (file_state c)
    × (IsBlankAs false image → (store.view c.store).has_sums ≡ false)

-- two files that were just opened: they held this image, which is all that a crash may leave of them
pub record AreJustOpened {D : Type 0} (g : Ghosts D) (image : Image) (files : Files D) : Type 0 where
  pub shown : image_of g files ≡ image
  pub alone : (left : Image) → outcomes g files.log files.db left → left ≡ image

-- files that held this image were opened, and no store was to be had in them, for this reason: nothing is written over
-- a database
abbrev pub IsRefusedIn : {D : Type 0} {g : Ghosts D} → Image → Error → Leftover D g → Type 0
IsRefusedIn {D} {g} image why rest = (files : Files D) × AreJustOpened g image files
    × (IsCleanLeft rest → FailsToOpenFiles files rest why × LeavesFiles files rest)

-- why files could not even be opened
abbrev pub IsPathError : Error → Type 0
IsPathError why = (why ≡ SqliteFailure CannotOpen)
    ⊎ ((why ≡ SqliteFailure OutOfMemory) ⊎ (why ≡ SqliteFailure DatabaseBusy))

-- a store was taken out of its connection, and nothing more was committed; its trees are numbered
pub record IsLetGo {D : Type 0} {g : Ghosts D} (c : Held (FileStore D g)) (it : FileStore D g) : Type 0 where
  pub closed : IsClosed c it
  pub numbered : IsClean (store.view it) → IsTrue (store.view it).is_numbered

-- A store that was closed is a database. Its last commit is then in the database file alone, as it reads now and after
-- a crash; or its log could not be copied, and a crash leaves nothing that it could not leave before
abbrev pub Closes : {D : Type 0} {g : Ghosts D} → Held (FileStore D g) → Left D g → Type 0
Closes {D} {g} c (Copied files) = IsLive (file_state c) × (AreClean g files.log files.db → IsCopied c files)
Closes c (Uncopied why it) =
    IsLive (file_state c) × IsClosed c it × (IsClean (store.view it) → FailsToClose c it why)
Closes c other = ⊥

-- and so is one that was let go, of which nothing is copied
abbrev pub LetsGo : {D : Type 0} {g : Ghosts D} → Held (FileStore D g) → Left D g → Type 0
LetsGo c (Kept it) = IsLive (file_state c) × IsLetGo c it
LetsGo c other = ⊥

-- What a call of the system does, where the files held this image as they were opened, and what is left of the store. A
-- store that is opened is one over these files. No other call gives a store up
abbrev pub ActsOn : {D : Type 0} {g : Ghosts D} → Image → Call (Held (FileStore D g)) → (old new : Left D g) → Type 0
ActsOn image (opens path (Ok c)) old new = IsOpenedOver image c × (new ≡ old)
ActsOn {D} {g} image (opens path (Err why)) old new = (IsPathError why × (new ≡ old))
    ⊎ ((rest : Leftover D g) × IsRefusedIn image why rest × (new ≡ Unopened rest))
ActsOn image (closes c) old new = Closes c new
ActsOn image (leaves c) old new = LetsGo c new
ActsOn image other old new = new ≡ old

-- ---- what files hold

pub record Holds (image : Image) (db : Database) : Type 0 where
  pub trees : ∥ HoldsDatabase image db.trees ∥₁
  pub sound : IsDatabase db

-- files that hold a room, of either version, with rows that stand for a history
pub record HoldsRoom (image : Image) (start : Room) (past : History) : Type 0 where
  pub db : Database
  pub held : Holds image db
  pub room : IsRoomOfVersion2 db ⊎ IsRoomOfVersion1 db
  pub rows : RepresentsHistory start (records_of db.trees) past

-- a room that the files held is in those that were left, with the same history
abbrev pub HoldsStill : (found left : Image) → Type 0
HoldsStill found left =
    (start : Room) (past : History) → HoldsRoom found start past → ∥ HoldsRoom left start past ∥₁

-- the database file is not there, or is empty
abbrev pub HoldsNothing : Image → Type 0
HoldsNothing image = image.db ≡ []

abbrev pub MayBeLeft : {D : Type 0} {g : Ghosts D} → FileStore D g → Image → Type 0
MayBeLeft it image = (store.state it).may_leave image

-- the same of a store whose trees are numbered. A connection keeps that true of its store, and the toolchain tells it
-- only as the store is taken out of it, and not where a close or an open fails
pub record MayBeLeftNumbered {D : Type 0} {g : Ghosts D} (it : FileStore D g) (image : Image) : Type 0 where
  pub left : MayBeLeft it image
  pub numbered : IsTrue (store.view it).is_numbered

-- what two files may hold: as they read now, and as a crash leaves them
abbrev pub MayHold : {D : Type 0} → Ghosts D → Files D → Image → Type 0
MayHold g files image = (image ≡ image_of g files) ⊎ outcomes g files.log files.db image

-- and what is left of them where no store was to be had in them
abbrev pub MayHoldStill : {D : Type 0} {g : Ghosts D} → Leftover D g → Image → Type 0
MayHoldStill {D} {g} (leftover.Files files) image = MayHold g files image
MayHoldStill (leftover.Unopened files) image = (state_of files).may_leave image
MayHoldStill (leftover.Store it) image = MayBeLeftNumbered it image

-- what the files may hold once a run has given them up, while the disk returned what was written: after a close as they
-- read now, and as a crash leaves them; else as a crash leaves the store or the files that were given up. Where no file
-- was opened, they are as they were found
abbrev pub IsLeftBy : {D : Type 0} {g : Ghosts D} → (found : Image) → Left D g → Image → Type 0
IsLeftBy found Nothing image = image ≡ found
IsLeftBy found (Unopened rest) image = IsCleanLeft rest × MayHoldStill rest image
IsLeftBy {D} {g} found (Copied files) image = AreClean g files.log files.db × MayHold g files image
IsLeftBy found (Uncopied why it) image = IsClean (store.view it) × MayBeLeftNumbered it image
IsLeftBy found (Kept it) image = IsClean (store.view it) × MayBeLeft it image

-- Where the files hold a database whose pages end in sums, as the extension cksumvfs makes them and no room of ours, an
-- open that failed took them for such. It reads that off the file, and the toolchain tells only the converse
abbrev pub SeesSums : {D : Type 0} {g : Ghosts D} → Image → Left D g → Type 0
SeesSums found (Unopened (leftover.Unopened files)) = (trees : Trees) (held : HoldsDatabase found trees)
    → IsTrue (is_summed held.0) → IsTrue (is_summed (state_of files).page_size)
SeesSums found other = Unit {0}

-- the files that a run has given up hold this database
abbrev pub LeavesHeld : {D : Type 0} {g : Ghosts D} → (found : Image) → Left D g → Database → Type 0
LeavesHeld found left db = (after : Image) → IsLeftBy found left after → Holds after db

-- no store was to be had in the files, and they hold what they held
abbrev pub StayUnopened : {D : Type 0} {g : Ghosts D} → Image → Left D g → Type 0
StayUnopened image left = SeesSums image left → (db : Database) → Holds image db → LeavesHeld image left db

-- a store that was opened was let go: where no fault has shut it, it shows what the files held, and they hold it then;
-- and a room that they held is in them with its history, of either version, also where a fault has shut the store
pub record IsSparedIn {D : Type 0} {g : Ghosts D} (image : Image) (let_go : Held (FileStore D g)) (left : Left D g)
    : Type 0 where
  pub shown : HasCleanDisk (file_state let_go) → IsTrue (file_state let_go).is_open → (db : Database)
      → Holds image db → ((file_state let_go).now ≡ db) × LeavesHeld image left db
  pub room : (after : Image) → IsLeftBy image left after → HoldsStill image after

-- no file was opened, or no store was to be had in them, or one was let go so
abbrev pub SparesRoom : {M D : Type 0} {g : Ghosts D} → (does : M → Call (Held (FileStore D g)) → M → Type 0)
    → (left : M → Left D g) → Image → (read later : M) → Type 0
SparesRoom {M} {D} {g} does left image read later =
    (left later ≡ left read) ⊎ (StayUnopened image (left later)
    ⊎ ((begun : M) × ((let_go : Held (FileStore D g)) × does begun (leaves let_go) later
    × IsSparedIn image let_go (left later))))
