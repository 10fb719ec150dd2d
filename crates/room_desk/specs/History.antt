-- Histories: whose a session is, which requests are accepted, what the room is, and what is answered. Slots and their
-- numbers are those of RFC 8881, sections 2.10.6.1 and 18.46; who owns a session name, when it is open, and that the
-- first number is 1 are our own rules.
use Rattle.std.specs.Prelude.{ℕ, Bool, false, not, ◌&&◌, ◌==◌, List, [], ◌∷◌, length, map, Option}
use Rattle.std.specs.Prelude.{None, Some, if◌then◌else◌, nat_lt, is_some}
use Rattle.std.specs.List.{AllByRecursion, list_any}
use Rattle.std.specs.Bool.{then_some}
use Rattle.std.specs.Option.{option_map, option_map_or, option_or}
use Rattle.std.specs.Str.{bytes_eq}
use Rattle.room_acl.specs.SubjectModel.{SubjectModel}
use Rattle.room_slots.specs.KeptModel.{KeptModel}
use Rattle.room_slots.specs.Slots.{next_number}
use Rattle.room_records.specs.Room.{Room}
use Rattle.room_commands.specs.ReplyModel.{Done, Opened}
use Rattle.room_commands.specs.Lawful.{IsLawful}
use Rattle.room_commands.specs.Effect.{effect}
use Rattle.room_wire.specs.declared.answers.code.Code.TheVariants.{BadSession, BadSlot, SeqMisordered, SeqFalseRetry}
use Rattle.room_wire.specs.declared.answers.code.Code.TheVariants.{SessionTaken, RetryUncached}
use Rattle.room_wire.specs.Asks.EventModel.{EventModel, Request, Open, Close, Slot}
use Rattle.room_wire.specs.Forms.Texts.{command_text, reply_text}
use Rattle.room_desk.specs.AnswerModel.{AnswerModel, Reply, Refused}

-- the events so far, the latest first
abbrev pub History : Type 0
History = List EventModel

-- a session by its first OPEN, with the events since, the latest first (our own rule)
pub record Session : Type 0 where
  pub owner : List ℕ
  pub slots : ℕ
  pub since : List EventModel

-- the session that an event would open, if the name was never opened
abbrev pub opened_by : List ℕ → EventModel → Option Session
opened_by sid (Open caller name slots) =
    then_some (bytes_eq sid name) (record { owner = caller.name; slots = slots; since = [] })
opened_by sid event = None

-- whose a session name is: its first OPEN decides for good (our own rule)
abbrev pub session_of : History → List ℕ → Option Session
session_of [] sid = None
session_of (event ∷ past) sid =
    option_or (option_map (λ (session : Session). record session { since = event ∷ session.since })
    (session_of past sid)) (opened_by sid event)

-- the event is a CLOSE of the session by its owner
abbrev pub ends_session : List ℕ → List ℕ → EventModel → Bool
ends_session sid owner (Close caller name) = bytes_eq sid name && bytes_eq owner caller.name
ends_session sid owner event = false

-- it is open until a CLOSE by its owner, and never afterwards (our own rule)
abbrev pub is_open : List ℕ → Session → Bool
is_open sid session = not (list_any (ends_session sid session.owner) session.since)

abbrev pub is_open_for : List ℕ → SubjectModel → Option Session → Bool
is_open_for sid caller None = false
is_open_for sid caller (Some session) = bytes_eq session.owner caller.name && is_open sid session

abbrev pub slots_of : Option Session → ℕ
slots_of session = option_map_or (λ (s : Session). s.slots) session 0

pub record Accepted : Type 0 where
  pub request : Request
  pub before : History

-- a request that is accepted where so many were before it in its slot: its number is the one after their count, modulo
-- 2^32 (RFC 8881, section 2.10.6.1)
abbrev pub accepts : History → ℕ → Request → Bool
accepts past count q =
    is_open_for q.sid q.caller (session_of past q.sid)
    && (nat_lt q.slot (slots_of (session_of past q.sid)) && (q.seq == next_number count))

abbrev pub is_for : List ℕ → ℕ → Request → Bool
is_for sid slot q = bytes_eq sid q.sid && (slot == q.slot)

-- the accepted requests of a slot, the latest first
abbrev pub accepted : History → List ℕ → ℕ → List Accepted
accepted [] sid slot = []
accepted (Slot q ∷ past) sid slot =
    if is_for sid slot q && accepts past (length (accepted past sid slot)) q
    then record { request = q; before = past } ∷ accepted past sid slot
    else accepted past sid slot
accepted (event ∷ past) sid slot = accepted past sid slot

abbrev pub is_accepted : History → Request → Bool
is_accepted past q = accepts past (length (accepted past q.sid q.slot)) q

-- what the room that it began with becomes by the accepted requests of all slots, in their order
abbrev pub state_after : Room → History → Room
state_after start [] = start
state_after start (Slot q ∷ past) = if is_accepted past q
    then (effect (state_after start past) q.caller q.command).room else state_after start past
state_after start (event ∷ past) = state_after start past

-- the commands that a history accepts, in any slot, are lawful
abbrev pub AcceptsLawful : History → Type 0
AcceptsLawful past = (sid : List ℕ) (slot : ℕ)
    → AllByRecursion IsLawful (map (λ (a : Accepted). a.request.command) (accepted past sid slot))

-- the reply of an accepted request: that of its command on the room that stood before it
abbrev pub original_reply : Room → Accepted → List ℕ
original_reply start a = reply_text (effect (state_after start a.before) a.request.caller a.request.command).reply

-- what a slot keeps of a request that is accepted over this room: its number and command, and the reply if it asks so
abbrev pub kept_of_request : Room → Request → KeptModel
kept_of_request room q = record {
  seq = q.seq;
  request = command_text q.command;
  reply = then_some q.keep (reply_text (effect room q.caller q.command).reply);
}

-- a request that is not accepted, in a session that its caller may use: a repeat, a false retry (RFC 8881, section
-- 2.10.6.1.3.1) or misordered. A repeat is answered by the original reply where that is kept (section 2.10.6.1), and
-- else refused (section 2.10.6.1.3)
abbrev pub answer_unaccepted : Room → Request → List Accepted → AnswerModel
answer_unaccepted start q [] = Refused SeqMisordered
answer_unaccepted start q (last ∷ earlier) =
    if q.seq == last.request.seq
    then (if bytes_eq (command_text q.command) (command_text last.request.command)
    then option_map_or Reply (kept_of_request (state_after start last.before) last.request).reply
    (Refused RetryUncached) else Refused SeqFalseRetry)
    else Refused SeqMisordered

-- an OPEN of an unused name, or of an open one of the caller with the same slots, succeeds (our own rule)
abbrev pub answer_open : SubjectModel → List ℕ → ℕ → Option Session → AnswerModel
answer_open caller sid slots None = Reply (reply_text (Opened slots))
answer_open caller sid slots (Some session) =
    if bytes_eq session.owner caller.name
    then (if is_open sid session then (if slots == session.slots
    then Reply (reply_text (Opened slots)) else Refused SessionTaken) else Refused BadSession)
    else Refused SessionTaken

-- a CLOSE by the owner succeeds, also of a closed session (our own rule)
abbrev pub answer_close : SubjectModel → Option Session → AnswerModel
answer_close caller None = Refused BadSession
answer_close caller (Some session) =
    if bytes_eq session.owner caller.name then Reply (reply_text Done) else Refused BadSession

abbrev pub answer_to : Room → History → EventModel → AnswerModel
answer_to start past (Open caller sid slots) = answer_open caller sid slots (session_of past sid)
answer_to start past (Close caller sid) = answer_close caller (session_of past sid)
answer_to start past (Slot q) =
    if not (is_open_for q.sid q.caller (session_of past q.sid)) then Refused BadSession
    else (if not (nat_lt q.slot (slots_of (session_of past q.sid))) then Refused BadSlot
    else (if is_accepted past q then Reply (original_reply start (record { request = q; before = past }))
    else answer_unaccepted start q (accepted past q.sid q.slot)))

-- an OPEN of an unused name, a CLOSE that ends a session, and
-- an accepted request change what is kept; nothing else does
abbrev pub changes_rows : History → EventModel → Bool
changes_rows past (Open caller sid slots) = not (is_some (session_of past sid))
changes_rows past (Close caller sid) = is_open_for sid caller (session_of past sid)
changes_rows past (Slot q) = is_accepted past q

-- the event leaves no reply for a repeat: it is a request that is accepted and asks so
abbrev pub leaves_no_reply : History → EventModel → Bool
leaves_no_reply past (Slot q) = is_accepted past q && not q.keep
leaves_no_reply past event = false
