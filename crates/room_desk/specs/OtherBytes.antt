-- Histories that differ in the bytes of documents alone.
use Rattle.std.specs.Prelude.{◌≡◌, false, true, List, [], ◌∷◌}
use Rattle.std.specs.Str.{bytes_eq}
use Rattle.room_acl.specs.Bits.{read_data}
use Rattle.room_acl.specs.SubjectModel.{SubjectModel}
use Rattle.room_records.specs.Names.{Path}
use Rattle.room_records.specs.Room.{Room}
use Rattle.room_commands.specs.CommandModel.{CommandModel, Read}
use Rattle.room_commands.specs.OtherBytes.{command_with, blank}
use Rattle.room_commands.specs.Sight.{may}
use Rattle.room_wire.specs.Asks.EventModel.{EventModel, Request, Slot}
use Rattle.room_wire.specs.Forms.Texts.{command_text}
use Rattle.room_desk.specs.AnswerModel.{AnswerModel, Reply}
use Rattle.room_desk.specs.History.{History, Accepted, accepted, state_after, original_reply}

-- two pasts of the same events, save that requests of others may ask to write other bytes, as many
pub data DifferInBytes (caller : SubjectModel) : History → History → Type 0 where
  NoEvents : DifferInBytes caller [] []
  Same : (past other : History) (event : EventModel) → DifferInBytes caller past other
      → DifferInBytes caller (event ∷ past) (event ∷ other)
  Written : (past other : History) (q : Request) (command : CommandModel)
      → bytes_eq caller.name q.caller.name ≡ false → command_with blank q.command ≡ command_with blank command
      → DifferInBytes caller past other
      → DifferInBytes caller (Slot q ∷ past) (Slot (record q { command = command }) ∷ other)

-- the event is the last request that was accepted in its slot, or that same request sent again; it is the caller's own,
-- and a READ that had READ_DATA when it was accepted; and the answer is its reply
abbrev pub TellsOfRead : Room → History → EventModel → AnswerModel → Type 0
TellsOfRead start past event answered =
    (q : Request) × (last : Accepted) × (earlier : List Accepted) × (path : Path) × (event ≡ Slot q)
    × (accepted (event ∷ past) q.sid q.slot ≡ last ∷ earlier) × (last.request.caller.name ≡ q.caller.name)
    × (q.seq ≡ last.request.seq) × (command_text q.command ≡ command_text last.request.command)
    × (last.request.command ≡ Read path)
    × (may (state_after start last.before) last.request.caller path read_data ≡ true)
    × (answered ≡ Reply (original_reply start last))
