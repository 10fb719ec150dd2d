-- A client that asks until it is answered, in one slot of a session of its own (our own rules).
use Rattle.std.specs.Prelude.{◌≡◌, ℕ, ◌+◌, ◌<◌, ◌⊎◌, Bool, true, false, not, ◌&&◌, if◌then◌else◌, nat_lt}
use Rattle.std.specs.Prelude.{List, [], ◌∷◌, length, map, Option, None, Some}
use Rattle.std.specs.Prelude.{◌++◌, ◌≢◌}
use Rattle.std.specs.List.{Contains, AllByRecursion, AllZip}
use Rattle.std.specs.Str.{bytes_eq}
use Rattle.room_slots.specs.Slots.{next_number}
use Rattle.room_records.specs.Room.{Room}
use Rattle.room_commands.specs.CommandModel.{CommandModel}
use Rattle.room_commands.specs.Lawful.{IsLawful}
use Rattle.room_wire.specs.declared.answers.code.Code.TheVariants.{RetryUncached, SeqFalseRetry}
use Rattle.room_wire.specs.Asks.EventModel.{EventModel, Slot}
use Rattle.room_desk.specs.AnswerModel.{AnswerModel, Reply, Refused}
use Rattle.room_desk.specs.History.{History, Session, session_of, is_open, ends_session, is_for}
use Rattle.room_desk.specs.History.{Accepted, accepted, original_reply, answer_to}
use Rattle.room_desk.specs.Stops.{is_delay}

-- ---- a slot, and what it ran

-- a slot of a user's session, which one client uses
pub record Lane : Type 0 where
  pub user : List ℕ
  pub sid : List ℕ
  pub slot : ℕ

-- the session is open and the user's, and has the slot
pub record HoldsSlot (lane : Lane) (past : History) : Type 0 where
  pub session : Session
  pub named : session_of past lane.sid ≡ Some session
  pub owned : session.owner ≡ lane.user
  pub going : is_open lane.sid session ≡ true
  pub below : nat_lt lane.slot session.slots ≡ true

-- the commands that the slot accepted, the latest first
abbrev pub ran : Lane → History → List CommandModel
ran lane past = map (λ (a : Accepted). a.request.command) (accepted past lane.sid lane.slot)

-- ---- requests in turn, in a history

-- the user's request to this slot
abbrev pub is_of : Lane → EventModel → Bool
is_of lane (Slot q) = is_for lane.sid lane.slot q && bytes_eq lane.user q.caller.name
is_of lane event = false

-- what anybody may do meanwhile: all but such a request, and a CLOSE of this session by this user
abbrev pub is_others : Lane → EventModel → Bool
is_others lane event = not (is_of lane event) && not (ends_session lane.sid lane.user event)

-- such a request with the number after so many; and for this command, which is lawful
abbrev pub HasNumber : Lane → ℕ → EventModel → Type 0
HasNumber lane count (Slot q) = (is_of lane (Slot q) ≡ true) × (q.seq ≡ next_number count)
HasNumber lane count event = ⊥

abbrev pub IsAsk : Lane → ℕ → CommandModel → EventModel → Type 0
IsAsk lane count command (Slot q) = HasNumber lane count (Slot q) × (q.command ≡ command) × IsLawful command
IsAsk lane count command event = ⊥

-- such a request with the number of one of so many, which came after so many others
abbrev pub IsUsed : Lane → (count many : ℕ) → EventModel → Type 0
IsUsed lane count many event = (i : ℕ) × (i < many) × HasNumber lane (count + i) event

-- the latest of these commands is asked for by this event, and those before it by the history before
abbrev pub IsFirst : Lane → ℕ → List CommandModel → EventModel → (List CommandModel → Type 0) → Type 0
IsFirst lane count [] event Asked = ⊥
IsFirst lane count (command ∷ before) event Asked =
    IsAsk lane (count + length before) command event × Asked before

-- the client asks for these commands, the latest first, each with the number after all before it. Numbers that it used
-- may come again, also late; and others do as they like
abbrev pub Asks : Lane → ℕ → History → List CommandModel → Type 0
Asks lane count [] asked = asked ≡ []
Asks lane count (event ∷ later) asked =
    IsFirst lane count asked event (Asks lane count later)
    ⊎ ((IsUsed lane count (length asked) event ⊎ (is_others lane event ≡ true)) × Asks lane count later asked)

-- ---- the client, by what it sent and was told

-- an event that was sent, and its answer, if one came back
pub record Attempt : Type 0 where
  pub event : EventModel
  pub told : Option AnswerModel

-- an answer that tells that the command ran: its reply, or that it is not kept
abbrev pub tells_done : Option AnswerModel → Bool
tells_done (Some (Reply text)) = true
tells_done (Some (Refused RetryUncached)) = true
tells_done told = false

-- the commands of which that was told, the latest first; and those that were asked for since, with the next number
pub record Client : Type 0 where
  pub done : List CommandModel
  pub asking : List CommandModel

abbrev pub idle : Client
idle = record { done = []; asking = [] }

-- what it knows after it asked: that the command ran, if told; or, by a false retry, that the one other asked for did
abbrev pub KnowsThen : Client → CommandModel → Option AnswerModel → Client → Type 0
KnowsThen client command told next =
    (next ≡ (if tells_done told then record { done = command ∷ client.done; asking = [] }
    else record { done = client.done; asking = command ∷ client.asking }))
    ⊎ ((told ≡ Some (Refused SeqFalseRetry)) × (other : CommandModel)
    × AllByRecursion (λ c. (c ≡ other) ⊎ (c ≡ command)) client.asking
    × (next ≡ record { done = other ∷ client.done; asking = [] }))

-- it asks with the number after all that it knows to have run; the rest is others', or late copies of what it used
abbrev pub AsksOn : Lane → ℕ → Client → Attempt → Client → Type 0
AsksOn lane count client sent next =
    ((IsUsed lane count (length client.done) sent.event ⊎ (is_others lane sent.event ≡ true)) × (next ≡ client))
    ⊎ ((command : CommandModel) × IsAsk lane (count + length client.done) command sent.event
    × KnowsThen client command sent.told next)

abbrev pub KeepsRule : Lane → ℕ → Client → List Attempt → Client → Type 0
KeepsRule lane count client [] after = after ≡ client
KeepsRule lane count client (sent ∷ rest) after =
    (mid : Client) × AsksOn lane count client sent mid × KeepsRule lane count mid rest after

-- ---- the room, by what it did with each attempt

-- no answer came, or DELAY
abbrev pub is_lost : Option AnswerModel → Bool
is_lost None = true
is_lost (Some answered) = is_delay answered

-- the event is answered as the history says, and joins it; or no answer comes, or DELAY, and it joined or did not
abbrev pub Meets : Room → History → Attempt → History → Type 0
Meets start past sent next =
    ((sent.told ≡ Some (answer_to start past sent.event)) × (next ≡ sent.event ∷ past))
    ⊎ ((is_lost sent.told ≡ true) × ((next ≡ past) ⊎ (next ≡ sent.event ∷ past)))

abbrev pub Taken : Room → History → List Attempt → History → Type 0
Taken start past [] next = next ≡ past
Taken start past (sent ∷ rest) next = (mid : History) × Meets start past sent mid × Taken start mid rest next

-- the same attempts, where of some no answer came back
abbrev pub HearsLess : List Attempt → List Attempt → Type 0
HearsLess sent heard =
    AllZip (λ (s h : Attempt). (h.event ≡ s.event) × ((h.told ≡ s.told) ⊎ (h.told ≡ None))) sent heard

-- events, each with its answer, as attempts
abbrev pub attempts_of : List EventModel → List AnswerModel → List Attempt
attempts_of (event ∷ events) (answered ∷ answers) =
    record { event = event; told = Some answered } ∷ attempts_of events answers
attempts_of events answers = []

-- what answers a command that ran and is asked for again: the first reply, where that request asked that it be kept
abbrev pub answer_again : Room → Accepted → AnswerModel
answer_again start a = if a.request.keep then Reply (original_reply start a) else Refused RetryUncached

-- ---- what is promised

-- in its slot all have run of which it was told, each once, in order, and perhaps one that it asked for since, once
abbrev pub HasDone : Lane → Client → (past next : History) → Type 0
HasDone lane client past next = HoldsSlot lane next × ((ran lane next ≡ client.done ++ ran lane past)
    ⊎ ((c : CommandModel) × Contains client.asking c × (ran lane next ≡ c ∷ client.done ++ ran lane past)))

-- told, of the one run after all that it knew of: its reply; RETRY_UNCACHED, if not kept; a false retry, if another's
abbrev pub IsTold : Lane → Room → ℕ → Client → History → CommandModel → Option AnswerModel → Type 0
IsTold lane start count client next command told =
    (a : Accepted) × (earlier : List Accepted) × (accepted next lane.sid lane.slot ≡ a ∷ earlier)
    × (length earlier ≡ count + length client.done)
    × (((a.request.command ≡ command) × ((told ≡ Some (Reply (original_reply start a)))
    ⊎ ((told ≡ Some (Refused RetryUncached)) × (a.request.keep ≡ false))))
    ⊎ (Contains client.asking a.request.command × (a.request.command ≢ command)
    × (told ≡ Some (Refused SeqFalseRetry))))
