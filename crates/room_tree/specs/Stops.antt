-- What stops a command.
use Rattle.std.specs.Prelude.{◌≡◌, Option, None, Some, Result, Ok, Err}
use Rattle.room_records.specs.declared.shelf.ShelfFault.{ShelfFault}
use Rattle.room_commands.specs.ReplyModel.{Refusal}
use Rattle.room_tree.specs.declared.refusal.Stop.{Stop}
use Rattle.room_tree.specs.declared.refusal.Stop.TheVariants.{Refused, Shelf}

-- the fault of the shelf, if it is one
abbrev pub fault_of : Stop → Option ShelfFault
fault_of (Refused refusal) = None
fault_of (Shelf fault) = Some fault

-- the fault of the shelf that a call answered
abbrev pub stop_fault : {T : Type 0} → Result T Stop → Option ShelfFault
stop_fault (Ok value) = None
stop_fault (Err stop) = fault_of stop

-- the refusal that a check without a shelf answered
abbrev pub refusal_in : {T : Type 0} → Result T Refusal → Option Refusal
refusal_in (Ok value) = None
refusal_in (Err refusal) = Some refusal

-- what stops a command is this refusal, or the shelf
abbrev pub Stopped : Option Refusal → Stop → Type 0
Stopped refused (Refused refusal) = refused ≡ Some refusal
Stopped refused (Shelf fault) = Unit {0}

-- stopped so, or else this
abbrev pub OrStopped : {T : Type 0} → Option Refusal → (T → Type 0) → Result T Stop → Type 0
OrStopped refused P (Ok value) = P value
OrStopped refused P (Err stop) = Stopped refused stop

-- stopped so, or else nothing is refused, and this
abbrev pub Passes : {T : Type 0} → Option Refusal → (T → Type 0) → Result T Stop → Type 0
Passes refused P result = OrStopped refused (λ value. (refused ≡ None) × P value) result
