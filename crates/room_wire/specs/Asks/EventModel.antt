-- An event, as contracts see it.
use Rattle.std.specs.Prelude.{ℕ, Bool, List}
use Rattle.room_acl.specs.SubjectModel.{SubjectModel}
use Rattle.room_commands.specs.CommandModel.{CommandModel, command_model}
use Rattle.room_wire.specs.declared.asks.event.Event.{Event}
use Rattle.room_wire.specs.declared.asks.event.Event.TheVariants as E

-- a request to a slot, and whether its reply is kept for a repeat
pub record Request : Type 0 where
  pub caller : SubjectModel
  pub sid : List ℕ
  pub slot : ℕ
  pub seq : ℕ
  pub command : CommandModel
  pub keep : Bool

pub data EventModel : Type 0 where
  Open : SubjectModel → List ℕ → ℕ → EventModel
  Close : SubjectModel → List ℕ → EventModel
  Slot : Request → EventModel

abbrev pub event_model : Event → EventModel
event_model (E.Open subject sid slots) = Open subject sid slots
event_model (E.Close subject sid) = Close subject sid
event_model (E.Slot subject sid slot seq command keep) =
    Slot (record { caller = subject; sid = sid; slot = slot; seq = seq; command = command_model command; keep = keep })
