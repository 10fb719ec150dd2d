-- What a message asks of a room: a question, an event, or one of the refusals BAD_ROUTE, UNKNOWN_USER and BAD_REQUEST,
-- which are looked for in this order (our own rules).
use Rattle.std.specs.Prelude.{◌≡◌, ℕ, ◌^◌, Bool, ◌==◌, ◌||◌, ◌&&◌, not, nat_le, nat_lt, List, [], ◌∷◌, length}
use Rattle.std.specs.Prelude.{slice_index, Option, None, Some, Result, Ok, Err, if◌then◌else◌, option_map}
use Rattle.std.specs.Prelude.{option_and_then, ok_or, codes}
use Rattle.std.specs.List.{list_all}
use Rattle.std.specs.Char.{is_ascii_digit}
use Rattle.std.specs.Option.{option_zip}
use Rattle.std.specs.Str.Parse.{digits_value}
use Rattle.serde_json.specs.Data.{Data}
use Rattle.room_acl.specs.SubjectModel.{SubjectModel}
use Rattle.room_acl.specs.declared.subject.Subject.{Subject}
use Rattle.room_records.specs.Limits.{max_slots}
use Rattle.room_records.specs.Names.{is_sid}
use Rattle.room_records.specs.Roster.{user_named}
use Rattle.room_commands.specs.CommandModel.{CommandModel}
use Rattle.room_wire.specs.declared.asks.ask.Ask.{Ask}
use Rattle.room_wire.specs.declared.asks.ask.Ask.TheVariants as A
use Rattle.room_wire.specs.declared.fault.WireFault.{WireFault}
use Rattle.room_wire.specs.declared.fault.WireFault.TheVariants.{BadRoute, UnknownUser, BadRequest, Memory}
use Rattle.room_wire.specs.declared.asks.routing.SessionAction.{SessionAction}
use Rattle.room_wire.specs.declared.asks.routing.SessionAction.TheVariants as S
use Rattle.room_wire.specs.declared.asks.routing.Action.{Action}
use Rattle.room_wire.specs.declared.asks.routing.Action.TheVariants as T
use Rattle.room_wire.specs.declared.asks.routed.SentRequest.{SentRequest}
use Rattle.room_wire.specs.declared.asks.routed.Routed.{Routed}
use Rattle.room_wire.specs.declared.asks.routed.Routed.TheVariants as R
use Rattle.room_wire.specs.Forms.Commands.{command_of_body}
use Rattle.room_wire.specs.Asks.EventModel.{EventModel, Open, Close, Slot, event_model}
use Rattle.room_wire.specs.Messages.Fields.{values_named}
use Rattle.room_wire.specs.Questions.QuestionModel.{QuestionModel, question_model, question_of_body}
use Rattle.room_wire.specs.Forms.Reading.{json_of, has_count, number_at, principal_from}
use Rattle.room_wire.specs.Asks.Routing.{TargetModel}
use Rattle.room_wire.specs.Asks.Targets.{room_target}
use Rattle.room_wire.specs.Messages.MessageModel.{MessageModel, fields_of}

pub data AskModel : Type 0 where
  Check : QuestionModel → AskModel
  Event : EventModel → AskModel

abbrev pub ask_model : Ask → AskModel
ask_model (A.Check question) = Check (question_model question)
ask_model (A.Event event) = Event (event_model event)

-- the user whom the values of the fields `room-user` name: there is one such field, and it names a user of the roster
abbrev pub caller_by : List SubjectModel → List (List ℕ) → Option SubjectModel
caller_by users [] = None
caller_by users (value ∷ []) = option_and_then (user_named users) (principal_from value)
caller_by users (value ∷ other ∷ others) = None

abbrev pub sid_from : List ℕ → Option (List ℕ)
sid_from text = if is_sid text then Some text else None

-- decimal digits, and no zero before others
abbrev pub is_number : List ℕ → Bool
is_number text = nat_le 1 (length text)
    && (list_all is_ascii_digit text && (length text == 1 || not (slice_index text 0 == 48)))

-- the number of this text, below 2^32
abbrev pub number_from : List ℕ → Option ℕ
number_from text = if is_number text && nat_lt (digits_value 10 text) (2 ^ 32)
    then Some (digits_value 10 text) else None

abbrev pub slots_from : ℕ → Option ℕ
slots_from n = if nat_le 1 n && nat_le n max_slots then Some n else None

abbrev pub slots_asked : Data → Option ℕ
slots_asked d = if has_count 1 d then option_and_then slots_from (number_at (codes "slots") d) else None

-- how many slots the body of an OPEN asks: 1 to 16, the limit
abbrev pub slots_of_body : List ℕ → Option ℕ
slots_of_body body = option_and_then slots_asked (json_of body)

abbrev pub request_by : SubjectModel → Option (List ℕ) → (slot seq : Option ℕ) → Option (CommandModel × Bool)
    → Option EventModel
request_by caller sid slot seq asked =
    option_map (λ (sid, (slot, (seq, (command, keep)))). Slot (record {
      caller = caller;
      sid = sid;
      slot = slot;
      seq = seq;
      command = command;
      keep = keep;
    })) (option_zip sid (option_zip slot (option_zip seq asked)))

-- the event that a user asks; a CLOSE ignores its body
abbrev pub event_by : SessionAction → SubjectModel → TargetModel → (body : List ℕ) → Option EventModel
event_by S.Open caller target body =
    option_map (λ (sid, slots). Open caller sid slots) (option_zip (sid_from target.sid) (slots_of_body body))
event_by S.Close caller target body = option_map (Close caller) (sid_from target.sid)
event_by S.Run caller target body =
    request_by caller (sid_from target.sid) (number_from target.slot) (number_from target.seq) (command_of_body body)

abbrev pub event_asked : Option EventModel → Result AskModel WireFault
event_asked event = ok_or (option_map Event event) BadRequest

-- what is asked of a target: a question, or an event of the caller's, who is looked for first
abbrev pub ask_at : Action → (caller : Option SubjectModel) → TargetModel → (body : List ℕ) → Result AskModel WireFault
ask_at T.Check caller target body = ok_or (option_map Check (question_of_body body)) BadRequest
ask_at (T.Session action) None target body = Err UnknownUser
ask_at (T.Session action) (Some caller) target body = event_asked (event_by action caller target body)

abbrev pub ask_for : Option TargetModel → (caller : Option SubjectModel) → (body : List ℕ) → Result AskModel WireFault
ask_for None caller body = Err BadRoute
ask_for (Some target) caller body = ask_at target.action caller target body

-- what a message asks of a room with these users: the route and its method, then the user, then all else
abbrev pub ask_of : List SubjectModel → MessageModel → Result AskModel WireFault
ask_of users m = ask_for (room_target m.head.method m.head.target)
    (caller_by users (values_named (codes "room-user") (fields_of m.head))) m.body

-- the result is what was asked, unless memory was refused
abbrev pub DecodesAs : {X A : Type 0} → (X → A) → Result A WireFault → Result X WireFault → Type 0
DecodesAs show ask (Ok x) = ask ≡ Ok (show x)
DecodesAs show ask (Err BadRoute) = ask ≡ Err BadRoute
DecodesAs show ask (Err UnknownUser) = ask ≡ Err UnknownUser
DecodesAs show ask (Err BadRequest) = ask ≡ Err BadRequest
DecodesAs show ask (Err Memory) = Unit {0}

abbrev pub DecodesAsk : Result AskModel WireFault → Result Ask WireFault → Type 0
DecodesAsk = DecodesAs ask_model

-- the result is what was wanted, or a bad request where nothing was, unless memory was refused
abbrev pub ReadsAs : {X A : Type 0} → (X → A) → Option A → Result X WireFault → Type 0
ReadsAs show wanted (Ok x) = wanted ≡ Some (show x)
ReadsAs show wanted (Err BadRequest) = wanted ≡ None
ReadsAs show wanted (Err Memory) = Unit {0}
ReadsAs show wanted (Err BadRoute) = ⊥
ReadsAs show wanted (Err UnknownUser) = ⊥

-- the caller, or an unknown user where there is none, unless memory was refused
abbrev pub FindsCaller : Option SubjectModel → Result Subject WireFault → Type 0
FindsCaller wanted (Ok caller) = wanted ≡ Some caller
FindsCaller wanted (Err UnknownUser) = wanted ≡ None
FindsCaller wanted (Err Memory) = Unit {0}
FindsCaller wanted (Err BadRoute) = ⊥
FindsCaller wanted (Err BadRequest) = ⊥

-- the event that a request asks whose body is not read yet
abbrev pub sent_event : SentRequest → Option EventModel
sent_event sent =
    request_by sent.subject (Some sent.sid) (Some sent.slot) (Some sent.seq) (command_of_body sent.body.now)

-- what is asked, once the body of a request is read
abbrev pub routed_ask : Routed → Result AskModel WireFault
routed_ask (R.Ask ask) = Ok (ask_model ask)
routed_ask (R.Request sent) = event_asked (sent_event sent)

-- the result asks what was asked, whatever the body of a request holds, unless memory was refused
abbrev pub RoutesAsk : Result AskModel WireFault → Result Routed WireFault → Type 0
RoutesAsk ask (Ok routed) = ask ≡ routed_ask routed
RoutesAsk ask (Err fault) = DecodesAsk ask (Err fault)

-- with its body the result asks the event that was wanted, and is a bad request only where none was, unless memory was
-- refused
abbrev pub ReadsSent : Option EventModel → Result SentRequest WireFault → Type 0
ReadsSent wanted (Ok sent) = wanted ≡ sent_event sent
ReadsSent wanted (Err fault) = ReadsAs event_model wanted (Err fault)
