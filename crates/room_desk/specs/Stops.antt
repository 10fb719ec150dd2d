-- What a stop may leave after several calls (our own rules).
use Rattle.std.specs.Prelude.{◌≡◌, Result, Ok, ◌⊎◌, Bool, true, false, List, [], ◌∷◌, if◌then◌else◌}
use Rattle.std.specs.List.{AllByRecursion, Contains}
use Rattle.room_acl.specs.SubjectModel.{SubjectModel}
use Rattle.room_records.specs.Records.{Records}
use Rattle.room_records.specs.Room.{Room}
use Rattle.room_wire.specs.declared.answers.code.Code.TheVariants.{Delay}
use Rattle.room_wire.specs.declared.fault.WireFault.{WireFault}
use Rattle.room_wire.specs.Asks.AskOf.{AskModel, Event, ask_of}
use Rattle.room_wire.specs.Asks.EventModel.{EventModel}
use Rattle.room_wire.specs.Messages.MessageModel.{MessageModel}
use Rattle.room_desk.specs.AnswerModel.{AnswerModel, Refused}
use Rattle.room_desk.specs.History.{History}
use Rattle.room_desk.specs.Representation.{RepresentsHistory, StandsWith}
use Rattle.room_desk.specs.Serving.{AnswersMessage}

abbrev pub is_delay : AnswerModel → Bool
is_delay (Refused Delay) = true
is_delay _ = false

-- each of these answers is DELAY
abbrev pub AreDelayed : List AnswerModel → Type 0
AreDelayed answers = AllByRecursion (λ answered. answered ≡ Refused Delay) answers

-- what is in doubt once a message was answered: an event that was answered DELAY is too, and nothing is after another
-- answer to an event. A question and a refusal leave it as it is
abbrev pub doubt_after : (doubted : List EventModel) → Result AskModel WireFault → AnswerModel → List EventModel
doubt_after doubted (Ok (Event event)) answered = if is_delay answered then event ∷ doubted else []
doubt_after doubted ask answered = doubted

-- the events in doubt after these answers, where some were in doubt before them: those answered DELAY since the last
-- that was answered otherwise
abbrev pub in_doubt : (doubted : List EventModel) → List EventModel → List AnswerModel → List EventModel
in_doubt doubted [] answers = doubted
in_doubt doubted (event ∷ events) [] = doubted
in_doubt doubted (event ∷ events) (answered ∷ answers) =
    in_doubt (doubt_after doubted (Ok (Event event)) answered) events answers

-- the rows stand for the history, or for it with one of the events in doubt, which changes what is kept
abbrev pub StandsInDoubt : Room → History → (doubted : List EventModel) → Records → Type 0
StandsInDoubt start past doubted r =
    RepresentsHistory start r past
    ⊎ ((event : EventModel) × Contains doubted event × StandsWith start past event r)

-- a history, and the events in doubt beside it
pub record Doubt : Type 0 where
  pub past : History
  pub doubted : List EventModel

-- a history with nothing in doubt
abbrev pub no_doubt : History → Doubt
no_doubt past = record { past = past; doubted = [] }

-- a message is answered, and what is in doubt then
abbrev pub AnswersInDoubt : List SubjectModel → Room → Doubt → MessageModel → AnswerModel → Doubt → Type 0
AnswersInDoubt users start before m answered after =
    AnswersMessage users start before.past m answered after.past
    × (after.doubted ≡ doubt_after before.doubted (ask_of users m) answered)
