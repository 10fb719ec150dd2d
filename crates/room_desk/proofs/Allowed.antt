-- A request that is accepted and not refused had every right.
use Rattle.room_desk.proofs.Common.{◌≡◌, Option, None, arith, common_steps, SubjectModel, CommandModel, Room, Refusal}
use Rattle.room_desk.proofs.Common.{IsNotDone, effect_by, EventModel, Slot, History, state_after, WasAllowed}
use Rattle.room_commands.specs.Checks.{first_refusal, checks}
use Rattle.room_commands.proofs.Rights.{rights_of_success}

none_if_not_refused : (room : Room) (caller : SubjectModel) (command : CommandModel) (o : Option Refusal)
    → (IsNotDone (effect_by room caller command o).reply → ⊥) → o ≡ None
none_if_not_refused room caller command o h = grind (arith, common_steps)

pub had_rights : (start : Room) (past : History) (event : EventModel) → WasAllowed start past event
had_rights start past (Slot q) = λ yes success.
    rights_of_success (state_after start past) q.caller q.command
    (none_if_not_refused (state_after start past) q.caller q.command
    (first_refusal (checks (state_after start past) q.caller q.command)) success)
had_rights start past event = tt
