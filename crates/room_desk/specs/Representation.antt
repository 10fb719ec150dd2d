-- Rows that stand for a history (our own rules).
use Rattle.std.specs.Prelude.{◌≡◌, ℕ, true, false, List, [], ◌∷◌, Option}
use Rattle.std.specs.Prelude.{None, Some, if◌then◌else◌}
use Rattle.std.specs.Option.{option_map, option_map_or}
use Rattle.room_slots.specs.KeptModel.{KeptModel}
use Rattle.room_records.specs.declared.session.SessionRow.{SessionRow}
use Rattle.room_records.specs.Records.{Records}
use Rattle.room_records.specs.Room.{Room}
use Rattle.room_records.specs.Representation.{RepresentsRoom}
use Rattle.room_records.specs.Shelf.{View}
use Rattle.room_commands.specs.ReplyModel.{IsNotDone}
use Rattle.room_commands.specs.Effect.{effect}
use Rattle.room_commands.specs.Needs.{NeedsAllowed}
use Rattle.room_wire.specs.Asks.EventModel.{EventModel, Slot}
use Rattle.room_desk.specs.History.{History, Session, session_of, is_open, Accepted, accepted, is_accepted, state_after}
use Rattle.room_desk.specs.History.{AcceptsLawful, changes_rows, kept_of_request}

abbrev pub session_row_of : List ℕ → Session → SessionRow
session_row_of sid session =
    record { sid = sid; owner = session.owner; slots = session.slots; is_open = is_open sid session }

-- what a slot keeps: nothing, or the last of its accepted requests
abbrev pub kept_after : Room → List Accepted → Option KeptModel
kept_after start [] = None
kept_after start (last ∷ earlier) = Some (kept_of_request (state_after start last.before) last.request)

-- a slot row is kept while its session is open, once a request was accepted
abbrev pub slot_row_of : Room → History → List ℕ → ℕ → Option KeptModel
slot_row_of start past sid slot =
    if option_map_or (is_open sid) (session_of past sid) false then kept_after start (accepted past sid slot) else None

-- the rows stand for a history that began with this room, and the commands that it accepted are lawful
pub record RepresentsHistory (start : Room) (r : Records) (past : History) : Type 0 where
  pub room : RepresentsRoom r.objects (state_after start past)
  pub sessions : (sid : List ℕ) → r.session sid ≡ option_map (session_row_of sid) (session_of past sid)
  pub slots : (sid : List ℕ) (slot : ℕ) → r.slot sid slot ≡ slot_row_of start past sid slot
  -- so the text that a slot keeps is a body that asks its command
  pub lawful : AcceptsLawful past

-- the rows stand for the history with this event, which changes what is kept
abbrev pub StandsWith : Room → History → EventModel → Records → Type 0
StandsWith start past event r = (changes_rows past event ≡ true) × RepresentsHistory start r (event ∷ past)

-- while a shelf is available, it is laid out and its rows stand for a history that began with this room
abbrev pub StandsFor : Room → History → View → Type 0
StandsFor start past shelf = shelf.is_available → shelf.is_laid_out × RepresentsHistory start shelf.records past

-- an accepted request that is not refused had every right that its command needs, by the lists then
abbrev pub WasAllowed : Room → History → EventModel → Type 0
WasAllowed start past (Slot q) =
    is_accepted past q ≡ true → (IsNotDone (effect (state_after start past) q.caller q.command).reply → ⊥)
    → NeedsAllowed (state_after start past) q.caller q.command
WasAllowed start past event = Unit {0}
