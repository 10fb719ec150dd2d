-- What is done with the room in a file.
use Rattle.std.specs.Prelude.{◌≡◌, ◌⊎◌, ℕ, List, [], true, false, Option, Result, Ok, Err, OnOk, OnErr, IfErr}
use mathlib.Core.Logic.{inl, inr}
use Rattle.room_acl.specs.SubjectModel.{SubjectModel}
use Rattle.room_records.specs.Room.{Room}
use Rattle.room_records.specs.Shelf.{View, ShelfRead}
use Rattle.room_report.specs.declared.reports.ReportFault.{ReportFault}
use Rattle.room_report.specs.Faults.{shelf_fault_in}
use Rattle.room_report.specs.Lines.{access_text, list_text}
use Rattle.room_report.specs.Reported.{Reported}
use Rattle.room_words.specs.declared.job.ReportKind.{ReportKind}
use Rattle.room_words.specs.declared.job.ReportKind.TheVariants.{Access, Lists}
use Rattle.room_program.specs.declared.fault.Fault.{Fault}
use Rattle.room_program.specs.declared.fault.Fault.TheVariants.{NetworkFailed}
use Rattle.room_program.specs.Calls.{Exchange, ServesEach, ServesFewer}
use Rattle.room_program.specs.Faults.{done_of_report}
use Rattle.room_program.specs.Files.{FailsBy, TakesRoster, TakesRoom}
use Rattle.room_program.specs.Machines.{Call}
use Rattle.room_program.specs.Machines.Call.{listens, closes, leaves}
use Rattle.room_program.specs.Rolls.{Comes, Misses, Roll, ServedTo, TakesRoll, rosters_over}

abbrev pub report_text : ReportKind → Room → List SubjectModel → List ℕ
report_text Access room users = access_text room users
report_text Lists room users = list_text room

-- a report over a shelf, which it leaves as it is, and the run ends as the report did
pub record WritesReport {Shelf : Type 0} (view : Shelf → View)
    (kind : ReportKind) (users : List SubjectModel) (before after : Shelf)
    (old new : Option (List ℕ)) (done : Result (Unit {0}) Fault) : Type 0 where
  pub written : Result (Unit {0}) ReportFault
  pub reported : Reported (λ room. report_text kind room users) (view before) (view after) old new written
  pub read : ShelfRead (view before) (view after) (shelf_fault_in written)
  pub ends : done ≡ done_of_report written

abbrev pub FailsRoster : {M C : Type 0} → (does : M → Call C → M → Type 0)
    → List ℕ → M → M → Result (Unit {0}) Fault → Type 0
FailsRoster does path old new done = FailsBy (λ fault. TakesRoster does path old new (Err fault)) done

abbrev pub FailsRoom : {M C Shelf : Type 0} → (does : M → Call C → M → Type 0)
    → (takes : C → Result Shelf (Fault × C) → Type 0) → List ℕ → M → M → Result (Unit {0}) Fault → Type 0
FailsRoom does takes path old new done = FailsBy (λ fault. TakesRoom does takes path old new (Err fault)) done

-- `report`: the roster is taken, then the room, and then its report is written; before that nothing is written. The
-- store that is let go is the one over which it was written
abbrev pub Reports : {M C Shelf : Type 0} → (does : M → Call C → M → Type 0)
    → (takes : C → Result Shelf (Fault × C) → Type 0) → (store : Shelf → C) → (view : Shelf → View)
    → (db roster : List ℕ) → ReportKind → (before later : M)
    → (old new : Option (List ℕ)) → Result (Unit {0}) Fault → Type 0
Reports {M} {C} {Shelf} does takes store view db roster kind before later old new done =
    (FailsRoster does roster before later done × (new ≡ old))
    ⊎ ((users : List SubjectModel) × (read : M) × TakesRoster does roster before read (Ok users)
    × ((FailsRoom does takes db read later done × (new ≡ old))
    ⊎ ((taken left : Shelf) × (seen : M) × TakesRoom does takes db read seen (Ok taken)
    × WritesReport view kind users taken left old new done × does seen (leaves (store left)) later)))

-- connections are served over a shelf, one after another, each to the users that count then: done means that so many
-- were, else fewer
pub record ServesAll {M C Shelf : Type 0} (does : M → Call C → M → Type 0) (accepts : M → Exchange → M → Type 0)
    (fails : M → M → Type 0) (view : Shelf → View) (roster : List ℕ) (first : Roll) (count : ℕ)
    (bound later : M) (before after : Shelf) (done : Result (Unit {0}) Fault) : Type 0 where
  pub served : OnOk done ((last : Roll) × ServesEach (Comes does accepts roster) (ServedTo view) count
      (bound, first) (later, last) before after)
  pub fewer : OnErr done ((last : Roll) × ServesFewer (Comes does accepts roster) (Misses does fails roster)
      (ServedTo view) count (bound, first) (later, last) before after)
  pub ends : IfErr done (λ why. why ≡ NetworkFailed)

abbrev pub Listens : {M C Shelf : Type 0} → (does : M → Call C → M → Type 0)
    → (accepts : M → Exchange → M → Type 0) → (fails : M → M → Type 0) → (view : Shelf → View)
    → (roster : List ℕ) → (first : Roll) → (port count : ℕ) → (taken later : M)
    → (before after : Shelf) → Result (Unit {0}) Fault → Type 0
Listens {M} does accepts fails view roster first port count taken later before after done =
    ((done ≡ Err NetworkFailed) × (after ≡ before) × does taken (listens port false) later)
    ⊎ ((bound : M) × does taken (listens port true) bound
    × ServesAll does accepts fails view roster first count bound later before after done)

-- the users of each connection that was served then, those of the last one first
abbrev pub rosters_in : {M C Shelf : Type 0} (does : M → Call C → M → Type 0)
    (accepts : M → Exchange → M → Type 0) (fails : M → M → Type 0) (view : Shelf → View)
    (roster : List ℕ) (first : Roll) (port count : ℕ) (taken later : M)
    (before after : Shelf) (done : Result (Unit {0}) Fault)
    → Listens does accepts fails view roster first port count taken later before after done
    → List (List SubjectModel)
rosters_in does accepts fails view roster first port count taken later before after done (inl none) = []
rosters_in does accepts fails view roster first port count taken later before after (Ok done)
    (inr (bound, did, all)) =
    rosters_over (Comes does accepts roster) view count (bound, first) (later, all.served.0) before after all.served.1
rosters_in does accepts fails view roster first port count taken later before after (Err why)
    (inr (bound, did, all)) =
    rosters_over (Comes does accepts roster) view all.fewer.1.0 (bound, first) all.fewer.1.2 before after all.fewer.1.3

-- `serve`: the roster is taken, then the room, and then connections are served, before each of which the roster's file
-- is read again. The store that is closed is the one that they left
abbrev pub ServesRoom : {M C Shelf : Type 0} → (does : M → Call C → M → Type 0)
    → (accepts : M → Exchange → M → Type 0) → (fails : M → M → Type 0) → (takes : C → Result Shelf (Fault × C) → Type 0)
    → (store : Shelf → C) → (view : Shelf → View) → (db roster : List ℕ) → (port count : ℕ)
    → (before later : M) → Result (Unit {0}) Fault → Type 0
ServesRoom {M} {C} {Shelf} does accepts fails takes store view db roster port count before later done =
    FailsRoster does roster before later done
    ⊎ ((first : Roll) × (read : M) × TakesRoll does roster before read first
    × (FailsRoom does takes db read later done
    ⊎ ((shelf left : Shelf) × (taken over : M) × TakesRoom does takes db read taken (Ok shelf)
    × Listens does accepts fails view roster first port count taken over shelf left done
    × does over (closes (store left)) later)))
