-- Histories that one caller cannot tell apart.
use Rattle.std.specs.Prelude.{◌≡◌, ◌⊎◌, ℕ, Bool, false, not, ◌&&◌, List, [], ◌∷◌, IsTrue, Result}
use Rattle.std.specs.Prelude.{if◌then◌else◌}
use Rattle.std.specs.Str.{bytes_eq}
use Rattle.room_acl.specs.SubjectModel.{SubjectModel}
use Rattle.room_records.specs.Room.{Room}
use Rattle.room_commands.specs.Lawful.{IsLawful}
use Rattle.room_commands.specs.Sight.{StayAlike}
use Rattle.room_wire.specs.declared.fault.WireFault.{WireFault}
use Rattle.room_wire.specs.Asks.AskOf.{AskModel}
use Rattle.room_wire.specs.Asks.EventModel.{EventModel, Open, Close, Slot}
use Rattle.room_desk.specs.AnswerModel.{AnswerModel}
use Rattle.room_desk.specs.History.{History, state_after, changes_rows}
use Rattle.room_desk.specs.Serving.{by_event}
use Rattle.room_desk.specs.Stops.{is_delay}

-- who asks, and which session name is used
abbrev pub caller_of : EventModel → SubjectModel
caller_of (Open caller sid slots) = caller
caller_of (Close caller sid) = caller
caller_of (Slot q) = q.caller

abbrev pub sid_of : EventModel → List ℕ
sid_of (Open caller sid slots) = sid
sid_of (Close caller sid) = sid
sid_of (Slot q) = q.sid

abbrev pub asks_lawfully : EventModel → Type 0
asks_lawfully (Slot q) = IsLawful q.command
asks_lawfully event = Unit {0}

-- an event leaves the caller's sessions alone: it uses no session name of the caller's own, whoever sends it; or it is
-- another's and changes nothing that is kept, as where it is refused because the name is taken
abbrev pub LeavesSessions : SubjectModel → (List ℕ → Bool) → History → EventModel → Type 0
LeavesSessions caller is_own_name past event = IsTrue (not (is_own_name (sid_of event)))
    ⊎ ((bytes_eq caller.name (caller_of event).name ≡ false) × (changes_rows past event ≡ false))

-- two pasts, from two rooms, that differ in what the caller may not see: its own events stand in both, in one order and
-- with session names of its own; those of others leave these sessions alone, and what they did the caller cannot see
pub data AlikePasts (caller : SubjectModel) (is_own_name : List ℕ → Bool) (a b : Room)
    : History → History → Type 0 where
  Begin : StayAlike caller a b → AlikePasts caller is_own_name a b [] []
  Both : (past other : History) (event : EventModel) → caller_of event ≡ caller → asks_lawfully event
      → IsTrue (is_own_name (sid_of event)) → AlikePasts caller is_own_name a b past other
      → AlikePasts caller is_own_name a b (event ∷ past) (event ∷ other)
  First : (past other : History) (event : EventModel) → asks_lawfully event
      → LeavesSessions caller is_own_name past event
      → StayAlike caller (state_after a past) (state_after a (event ∷ past))
      → AlikePasts caller is_own_name a b past other → AlikePasts caller is_own_name a b (event ∷ past) other
  Second : (past other : History) (event : EventModel) → asks_lawfully event
      → LeavesSessions caller is_own_name other event
      → StayAlike caller (state_after b other) (state_after b (event ∷ other))
      → AlikePasts caller is_own_name a b past other → AlikePasts caller is_own_name a b past (event ∷ other)
  -- what others do in both may be seen, where the rooms stay alike after it
  Others : (past other : History) (event event' : EventModel) → asks_lawfully event → asks_lawfully event'
      → LeavesSessions caller is_own_name past event → LeavesSessions caller is_own_name other event'
      → StayAlike caller (state_after a (event ∷ past)) (state_after b (event' ∷ other))
      → AlikePasts caller is_own_name a b past other → AlikePasts caller is_own_name a b (event ∷ past) (event' ∷ other)

-- the event is the caller's own, under a session name of its own
abbrev pub is_own : SubjectModel → (List ℕ → Bool) → EventModel → Bool
is_own caller is_own_name event = bytes_eq caller.name (caller_of event).name && is_own_name (sid_of event)

-- and so is the event that a message asks, if it asks one
abbrev pub asks_own : SubjectModel → (List ℕ → Bool) → Result AskModel WireFault → Bool
asks_own caller is_own_name ask = by_event (is_own caller is_own_name) false ask

-- the answers to those of some events, or messages, that are the caller's own, but DELAY: these laws say nothing of it
abbrev pub told : {X : Type 0} → (is_its_own : X → Bool) → List X → List AnswerModel → List AnswerModel
told is_its_own (x ∷ xs) (answered ∷ answers) = if is_its_own x && not (is_delay answered)
    then answered ∷ told is_its_own xs answers else told is_its_own xs answers
told is_its_own xs answers = []
