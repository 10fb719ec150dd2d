-- What a run of the program reads and writes, and its exit status.
use Rattle.std.specs.Prelude.{◌≡◌, ◌⊎◌, ℕ, List, [], string_bytes, codes, Option, Result, Ok, Err}
use Rattle.std.specs.Io.KnownBytes.{Appends}
use Rattle.clap.specs.Words.{Text}
use Rattle.room_wire.specs.declared.serving.stop.Why.{Why}
use Rattle.room_wire.specs.Serving.CheckService.{MayAnswerCheck}
use Rattle.room_wire.specs.Serving.Ends.{Serves}
use Rattle.room_program.specs.declared.fault.Fault.{Fault}
use Rattle.room_program.specs.declared.fault.Fault.TheVariants as fault
use Rattle.room_words.specs.declared.job.Job.{Job}
use Rattle.room_words.specs.declared.job.Job.TheVariants.{Check, Init, Replay, Serve, Report, Selftest}
use Rattle.room_words.specs.declared.fault.WordsFault.{WordsFault}
use Rattle.room_words.specs.declared.fault.WordsFault.TheVariants.{Usage, Help, Memory}
use Rattle.room_words.specs.CommandLine.{ReadsJob}
use Rattle.room_records.specs.Shelf.{View}
use Rattle.room_program.specs.Machines.{Call}
use Rattle.room_program.specs.Calls.{Exchange}
use Rattle.room_program.specs.Ends.{InitEnds, SelftestEnds}
use Rattle.room_program.specs.Rooms.{Reports, ServesRoom}
use Rattle.room_program.specs.Replays.{Replays}
use Rattle.room_program.specs.Faults.{done_of, fault_line}
use Rattle.room_records.specs.Writers.{AppendsFront}

-- the three streams: the bytes that the input has left, and those that the outputs hold, where they are known
pub record Streams : Type 0 where
  pub input : Option (List ℕ)
  pub output : Option (List ℕ)
  pub errors : Option (List ℕ)

abbrev pub streams : (input output errors : Option (List ℕ)) → Streams
streams i o e = record { input = i; output = o; errors = e }

-- no fault: status 0, and nothing on standard error; a fault:
-- status 1, and its line, or a beginning where standard error fails
abbrev pub EndsWith : Result (Unit {0}) Fault → (old new : Option (List ℕ)) → ℕ → Type 0
EndsWith (Ok done) old new status = (status ≡ 0) × Appends old new []
EndsWith (Err fault) old new status = (status ≡ 1) × AppendsFront old new (fault_line fault)

abbrev pub Ends : (Result (Unit {0}) Fault → Type 0) → (old new : Option (List ℕ)) → ℕ → Type 0
Ends may_end old new status = (done : Result (Unit {0}) Fault) × may_end done × EndsWith done old new status

-- `check` serves questions from the input to the output, and its status tells how that ended
abbrev pub Checks : Streams → Streams → ℕ → Type 0
Checks old new status =
    (why : Why) × (count : ℕ) × Serves MayAnswerCheck tt tt old.input new.input old.output new.output why count
    × EndsWith (done_of why) old.errors new.errors status

-- a text goes to the output, and where that fails it is a fault
abbrev pub WritesText : List ℕ → Streams → Streams → ℕ → Type 0
WritesText text old new status =
    (Appends old.output new.output text × EndsWith (Ok tt) old.errors new.errors status)
    ⊎ (AppendsFront old.output new.output text × EndsWith (Err fault.WriteFailed) old.errors new.errors status)

-- what a machine does, and what its stores are: `does` are its calls, `connects` and `fails` those of its listener
pub record Means (M C Shelf : Type 0) : Type 1 where
  pub does : M → Call C → M → Type 0
  pub connects : M → Exchange → M → Type 0
  pub fails : M → M → Type 0
  -- a store that was opened is taken as a shelf, or why not, and the one that is let go
  pub takes : C → Result Shelf (Fault × C) → Type 0
  -- the store that a shelf keeps its rows in
  pub store : Shelf → C
  -- a fresh room of an owner and a group was made in a store that was opened, which is another one then
  pub made : (owner group : List ℕ) → C → C → Type 0
  -- none was made in it, and the store that is let go, with the fault that tells why
  pub unmade : (owner group : List ℕ) → C → C → Fault → Type 0
  -- what is seen of a shelf
  pub seen : Shelf → View

abbrev pub means : {M C Shelf : Type 0} → (does : M → Call C → M → Type 0)
    → (connects : M → Exchange → M → Type 0) → (fails : M → M → Type 0)
    → (takes : C → Result Shelf (Fault × C) → Type 0)
    → (store : Shelf → C) → (made : (owner group : List ℕ) → C → C → Type 0)
    → (unmade : (owner group : List ℕ) → C → C → Fault → Type 0) → (seen : Shelf → View) → Means M C Shelf
means d c f p s m u v =
    record { does = d; connects = c; fails = f; takes = p; store = s; made = m; unmade = u; seen = v }

-- the line `selftest ok` goes to the output after two connections were served, or a fault is told
abbrev pub Tries : {M C : Type 0} → (does : M → Call C → M → Type 0) → (accepts : M → Exchange → M → Type 0)
    → (fails : M → M → Type 0) → (before later : M) → Streams → Streams → ℕ → Type 0
Tries does accepts fails before later old new status =
    (SelftestEnds does accepts fails before later (Ok tt) × WritesText (codes "selftest ok\n") old new status)
    ⊎ ((new.output ≡ old.output) × (fault : Fault) × SelftestEnds does accepts fails before later (Err fault)
    × EndsWith (Err fault) old.errors new.errors status)

abbrev pub RunsJob : {M C Shelf : Type 0} → Means M C Shelf → (before later : M) → Job → Streams → Streams → ℕ → Type 0
RunsJob m before later Check old new status = (later ≡ before) × Checks old new status
-- nothing is read, and nothing is written but a fault's line
RunsJob m before later (Init db owner group) old new status =
    (new.input ≡ old.input) × (new.output ≡ old.output)
    × Ends (InitEnds m.does (m.made (string_bytes owner) (string_bytes group))
    (m.unmade (string_bytes owner) (string_bytes group))
    (string_bytes db) (string_bytes owner) (string_bytes group) before later)
    old.errors new.errors status
-- nothing is read, and the output is the report's
RunsJob m before later (Report db roster kind) old new status =
    (new.input ≡ old.input) × Ends (Reports m.does m.takes m.store m.seen (string_bytes db)
    (string_bytes roster) kind before later old.output new.output) old.errors new.errors status
-- messages from the input are answered to the output
RunsJob m before later (Replay roster owner group) old new status =
    Ends (Replays m.does (string_bytes roster) (string_bytes owner) (string_bytes group)
    before later old.input new.input old.output new.output) old.errors new.errors status
-- neither stream is touched
RunsJob m before later (Serve db roster port count) old new status =
    (new.input ≡ old.input) × (new.output ≡ old.output)
    × Ends (ServesRoom m.does m.connects m.fails m.takes m.store m.seen (string_bytes db)
    (string_bytes roster) port count before later) old.errors new.errors status
RunsJob m before later Selftest old new status =
    (new.input ≡ old.input) × Tries m.does m.connects m.fails before later old new status

-- why words name no job; nothing is read
abbrev pub RefusesWords : WordsFault → Streams → Streams → ℕ → Type 0
RefusesWords (Usage text) old new status =
    (new.output ≡ old.output) × AppendsFront old.errors new.errors (string_bytes text) × (status ≡ 2)
RefusesWords (Help text) old new status = WritesText (string_bytes text) old new status
RefusesWords Memory old new status =
    (new.output ≡ old.output) × EndsWith (Err fault.Memory) old.errors new.errors status

-- the words are read, and their job is run or their fault told, which asks nothing of the machine
abbrev pub RunsRead : {M C Shelf : Type 0} → Means M C Shelf
    → (before later : M) → Result Job WordsFault → Streams → Streams → ℕ → Type 0
RunsRead m before later (Ok job) old new status = RunsJob m before later job old new status
RunsRead m before later (Err f) old new status =
    (later ≡ before) × (new.input ≡ old.input) × RefusesWords f old new status

abbrev pub Runs : {M C Shelf : Type 0} → Means M C Shelf
    → (before later : M) → List Text → Streams → Streams → ℕ → Type 0
Runs m before later words old new status =
    (read : Result Job WordsFault) × ReadsJob words read × RunsRead m before later read old new status
