-- What `replay` reads and writes.
use Rattle.std.specs.Prelude.{◌≡◌, ◌⊎◌, ℕ, List, [], Option, Result, Ok, Err}
use Rattle.room_acl.specs.Principals.{IsPrincipal}
use Rattle.room_acl.specs.SubjectModel.{SubjectModel}
use Rattle.room_records.specs.Room.{fresh_room}
use Rattle.room_wire.specs.declared.serving.stop.Why.{Why}
use Rattle.room_wire.specs.Serving.Ends.{Serves}
use Rattle.room_desk.specs.History.{History}
use Rattle.room_desk.specs.Serving.{AnswersMessage}
use Rattle.room_program.specs.declared.fault.Fault.{Fault}
use Rattle.room_program.specs.declared.fault.Fault.TheVariants.{Memory}
use Rattle.room_program.specs.Ends.{FailsNames}
use Rattle.room_program.specs.Faults.{done_of}
use Rattle.room_program.specs.Files.{TakesRoster}
use Rattle.room_program.specs.Machines.{Call}
use Rattle.room_program.specs.Rooms.{FailsRoster}

-- a fault before anything is read: a name is no principal, and nothing is asked of the machine; or the roster's file
-- gives no roster; or it does, and memory is wanting for the room
abbrev pub IsStartFault : {M C : Type 0} → (does : M → Call C → M → Type 0)
    → (roster owner group : List ℕ) → (old new : M) → Result (Unit {0}) Fault → Type 0
IsStartFault does roster owner group old new done =
    FailsNames owner group old new done
    ⊎ ((IsPrincipal owner × IsPrincipal group) × (FailsRoster does roster old new done
    ⊎ ((done ≡ Err Memory) × (users : List SubjectModel) × TakesRoster does roster old new (Ok users))))

-- nothing is read or written, or the messages of the users that the roster's file gives are served over the fresh room
-- of this owner and group
abbrev pub Replays : {M C : Type 0} → (does : M → Call C → M → Type 0)
    → (roster owner group : List ℕ) → (before later : M)
    → (left after old new : Option (List ℕ)) → Result (Unit {0}) Fault → Type 0
Replays does roster owner group before later left after old new done =
    (IsStartFault does roster owner group before later done × (after ≡ left) × (new ≡ old))
    ⊎ ((IsPrincipal owner × IsPrincipal group) × (users : List SubjectModel)
    × TakesRoster does roster before later (Ok users)
    × (why : Why) × (count : ℕ) × (next : History) × (done ≡ done_of why)
    × Serves (AnswersMessage users (fresh_room owner group)) [] next left after old new why count)
