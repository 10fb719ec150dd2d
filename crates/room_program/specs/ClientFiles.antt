-- A client's attempts over files, from one run to the next (our own rules).
use Rattle.std.specs.Prelude.{ℕ, zero, suc, List, [], ◌++◌, string_bytes, Ok, Err}
use mathlib.Core.Logic.{inr}
use Rattle.sqlite.specs.Recovery.{Image}
use Rattle.clap.specs.Words.{Text}
use Rattle.room_records.specs.Room.{Room}
use Rattle.room_records.specs.Shelf.{View}
use Rattle.room_desk.specs.History.{History}
use Rattle.room_desk.specs.Client.{Attempt, Taken}
use Rattle.room_desk.specs.ClientRuns.{attempts_in}
use Rattle.room_words.specs.declared.job.Job.TheVariants.{Serve}
use Rattle.room_program.specs.Calls.{ServesEach}
use Rattle.room_program.specs.Rolls.{Comes, ServedTo, Visit}
use Rattle.room_program.specs.Runs.{Means, Streams, Runs}
use Rattle.room_program.specs.Found.{HoldsRoom}

-- ---- what a run was sent, by what its contract tells of it

-- over so many connections: the events that their messages asked, one after another, each with its answer
abbrev pub sent_over : {L S : Type 0} (comes : L → Visit → L → Type 0) (view : S → View) (n : ℕ) (old new : L)
    (before after : S) → ServesEach comes (ServedTo view) n old new before after → List Attempt
sent_over comes view zero old new before after none = []
sent_over comes view (suc n) old new before after (last, between, each, (v, took, served)) =
    sent_over comes view n old last before between each
    ++ attempts_in v.users served.messages.2 served.messages.5.0

-- to a run of the program: to a `serve` that took its room and could listen, what came over its connections; else none
abbrev pub sent_to_run : {M C S : Type 0} (m : Means M C S) (before later : M) (words : List Text) (old new : Streams)
    (status : ℕ) → Runs m before later words old new status → List Attempt
sent_to_run m before later words old new status
    (Ok (Serve _ r _ n), _, (_, _, (Ok _, inr (first, _, _, inr (s, last, _, over, _, inr (bound, _, all), _)), _))) =
    sent_over (Comes m.does m.connects (string_bytes r)) m.seen n (bound, first) (over, all.served.0) s last
    all.served.1
sent_to_run m before later words old new status
    (Ok (Serve _ r _ _), _, (_, _, (Err _, inr (first, _, _, inr (s, last, _, over, _, inr (bound, _, all), _)), _))) =
    sent_over (Comes m.does m.connects (string_bytes r)) m.seen all.fewer.1.0 (bound, first) all.fewer.1.2 s last
    all.fewer.1.3
sent_to_run m before later words old new status other = []

-- ---- what becomes of the room in its files

-- a room that the files held is in those that were left, with a history to which these attempts lead
abbrev pub TakesAttempts : List Attempt → (found left : Image) → Type 0
TakesAttempts sent found left = (start : Room) (past : History) → HoldsRoom found start past
    → ∥ ((next : History) × Taken start past sent next × HoldsRoom left start next) ∥₁
