-- Whose messages count: the users of the roster's file, as it was read last.
use Rattle.std.specs.Prelude.{◌≡◌, ◌≢◌, ◌⊎◌, ℕ, zero, suc, List, [], ◌∷◌, true, false, Option, Ok, Err}
use Rattle.room_acl.specs.SubjectModel.{SubjectModel}
use Rattle.room_records.specs.Shelf.{View}
use Rattle.room_program.specs.declared.fault.Fault.{Fault}
use Rattle.room_program.specs.declared.fault.Fault.TheVariants.{Memory}
use Rattle.room_program.specs.Calls.{Exchange, ServesEach}
use Rattle.room_program.specs.Faults.{fault_line}
use Rattle.room_program.specs.Files.{ReadsRoster, TakesRoster}
use Rattle.room_program.specs.Machines.{Call}
use Rattle.room_program.specs.Machines.Call.{reads, waits, warns}
use Rattle.room_program.specs.Streams.{Served}

-- the users whose messages count, and what the roster's file held as it was read last, where it could be read
pub record Roll : Type 0 where
  pub users : List SubjectModel
  pub text : Option (List ℕ)

abbrev pub roll : List SubjectModel → Option (List ℕ) → Roll
roll u t = record { users = u; text = t }

-- ---- the file is read

-- for the first time, and it gives a roster
pub record TakesRoll {M C : Type 0} (does : M → Call C → M → Type 0) (path : List ℕ) (old new : M) (first : Roll)
    : Type 0 where
  pub read : does old (reads path first.text) new
  pub gives : ReadsRoster first.text (Ok first.users)

-- what counts as read of a file that gave no roster: want of memory is met again
abbrev pub text_kept : Fault → (text was : Option (List ℕ)) → Option (List ℕ)
text_kept Memory text was = was
text_kept other text was = text

-- again, with this text: it holds what it held, and nothing changes; or another roster, whose users count from now on;
-- or none, and those who counted go on to, and a line tells why
abbrev pub Renews : {M C : Type 0} → (does : M → Call C → M → Type 0) → Option (List ℕ) → (was is : Roll)
    → (read new : M) → Type 0
Renews does text was is read new =
    ((text ≡ was.text) × (is ≡ was) × (new ≡ read))
    ⊎ ((text ≢ was.text) × ((ReadsRoster text (Ok is.users) × (is.text ≡ text) × (new ≡ read))
    ⊎ ((why : Fault) × ReadsRoster text (Err why) × (is ≡ roll was.users (text_kept why text was.text))
    × does read (warns (fault_line why)) new)))

abbrev pub Rereads : {M C : Type 0} → (does : M → Call C → M → Type 0) → List ℕ → (was is : Roll) → (old new : M)
    → Type 0
Rereads {M} does path was is old new =
    (text : Option (List ℕ)) × (read : M) × does old (reads path text) read × Renews does text was is read new

-- the file at this path gave these users once
abbrev pub GaveOnce : {M C : Type 0} → (does : M → Call C → M → Type 0) → List ℕ → List SubjectModel → Type 0
GaveOnce {M} does path users = (old : M) × (new : M) × TakesRoster does path old new (Ok users)

-- ---- connections

-- what went over a connection, and the users whose messages counted there
pub record Visit : Type 0 where
  pub users : List SubjectModel
  pub exchange : Exchange

abbrev pub visit : List SubjectModel → Exchange → Visit
visit u e = record { users = u; exchange = e }

-- a connection came, then the roster's file was read, and then the connection was served and closed
pub record Comes {M C : Type 0} (does : M → Call C → M → Type 0) (accepts : M → Exchange → M → Type 0)
    (path : List ℕ) (old : M × Roll) (v : Visit) (new : M × Roll) : Type 0 where
  pub came : M
  pub looked : M
  pub waited : does old.0 (waits true) came
  pub reread : Rereads does path old.1 new.1 came looked
  pub users : v.users ≡ new.1.users
  pub taken : accepts looked v.exchange new.0

-- none came; or one did, and could not be served
pub record Misses {M C : Type 0} (does : M → Call C → M → Type 0) (fails : M → M → Type 0) (path : List ℕ)
    (old new : M × Roll) : Type 0 where
  pub how : (does old.0 (waits false) new.0 × (new.1 ≡ old.1))
      ⊎ ((came : M) × (looked : M) × does old.0 (waits true) came × Rereads does path old.1 new.1 came looked
      × fails looked new.0)

-- it was served over a shelf to the users that counted
abbrev pub ServedTo : {S : Type 0} (view : S → View) → S → Visit → S → Type 0
ServedTo view before v after = Served view v.users before v.exchange after

-- the users that counted in each of so many connections, those of the last one first
abbrev pub rosters_over : {L S : Type 0} (comes : L → Visit → L → Type 0) (view : S → View) (n : ℕ) (old new : L)
    (before after : S) → ServesEach comes (ServedTo view) n old new before after → List (List SubjectModel)
rosters_over comes view zero old new before after none = []
rosters_over comes view (suc n) old new before after (last, between, each, (v, took, served)) =
    v.users ∷ rosters_over comes view n old last before between each
