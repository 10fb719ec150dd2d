-- What is answered over a room to an event or a message and to runs of messages, and what calls of a desk leave (our
-- own rules).
use Rattle.std.specs.Prelude.{◌≡◌, ◌≢◌, ℕ, ◌⊎◌, Bool, true, false, List, ◌∷◌, Result, Ok, Err}
use Rattle.room_acl.specs.SubjectModel.{SubjectModel}
use Rattle.room_records.specs.Room.{Room}
use Rattle.room_records.specs.Shelf.{View, ShelfFrame, LeavesNew, LeavesOldOrNew}
use Rattle.room_wire.specs.declared.answers.code.Code.TheVariants.{Delay}
use Rattle.room_wire.specs.declared.fault.WireFault.{WireFault}
use Rattle.room_wire.specs.declared.fault.WireFault.TheVariants.{BadRoute, UnknownUser}
use Rattle.room_wire.specs.Asks.EventModel.{EventModel}
use Rattle.room_wire.specs.Asks.AskOf.{AskModel, Check, Event, ask_of}
use Rattle.room_wire.specs.Questions.CheckAnswers.{answer_text}
use Rattle.room_wire.specs.Serving.CheckService.{fault_code}
use Rattle.room_wire.specs.Messages.MessageModel.{MessageModel}
use Rattle.room_wire.specs.Serving.Outputs.{InTurn, Outputs}
use Rattle.room_desk.specs.AnswerModel.{AnswerModel, Reply, Refused, IsTurnedAway}
use Rattle.room_desk.specs.History.{History, answer_to, changes_rows}
use Rattle.room_desk.specs.Representation.{RepresentsHistory, StandsFor, StandsWith}
use Rattle.room_desk.specs.RowAnswers.{EventChangesFew}

-- what was asked is answered: a question and a refusal change nothing, and an event joins the history
abbrev pub AnswersAsk : Room → History → Result AskModel WireFault → AnswerModel → History → Type 0
AnswersAsk start past (Ok (Check question)) answered next = (answered ≡ Reply (answer_text question)) × (next ≡ past)
AnswersAsk start past (Ok (Event event)) answered next = (answered ≡ answer_to start past event) × (next ≡ event ∷ past)
AnswersAsk start past (Err fault) answered next = (answered ≡ Refused (fault_code fault)) × (next ≡ past)

-- it is answered, or is answered DELAY and changes nothing
abbrev pub AnswersOrDelays : Room → History → Result AskModel WireFault → AnswerModel → History → Type 0
AnswersOrDelays start past ask answered next =
    AnswersAsk start past ask answered next ⊎ ((answered ≡ Refused Delay) × (next ≡ past))

abbrev pub AnswersMessage : List SubjectModel → Room → History → MessageModel → AnswerModel → History → Type 0
AnswersMessage users start past m answered next = AnswersOrDelays start past (ask_of users m) answered next

-- an event is answered as the history says, and joins it; or it is answered DELAY, and does not
abbrev pub Step : Room → History → EventModel → AnswerModel → History → Type 0
Step start past event answered next = AnswersOrDelays start past (Ok (Event event)) answered next

-- a run of a history: one step after another
abbrev pub Run : Room → History → List EventModel → List AnswerModel → History → Type 0
Run start past events answers next = InTurn (Step start) past events answers next

-- a run over messages from a history to a history, with its output
abbrev pub IsRun : List SubjectModel → Room → History → List MessageModel → (out : List ℕ) → History → Type 0
IsRun users start past ms out next = Outputs (AnswersMessage users start) past ms out next

-- what holds of the event that is asked; of a question and a refusal, something else
abbrev pub by_event {ℓ} : {X : Type ℓ} → (EventModel → X) → X → Result AskModel WireFault → X
by_event of_event other (Ok (Event event)) = of_event event
by_event of_event other ask = other

-- what is asked may ask for rows: an event does, and so may a request of a user that is refused for what it asks. A
-- question does not, nor a message that is refused for its route or its user
abbrev pub may_ask_shelf : Result AskModel WireFault → Bool
may_ask_shelf (Ok (Check question)) = false
may_ask_shelf (Err BadRoute) = false
may_ask_shelf (Err UnknownUser) = false
may_ask_shelf ask = true

-- all that contracts see of the shelf is as it was
pub record IsLeftAlone (old new : View) : Type 0 where
  pub records : new.records ≡ old.records
  pub failures : new.failures ≡ old.failures
  pub intact : old.is_intact → new.is_intact
  pub available : old.is_available → new.is_available
  pub laid_out : old.is_laid_out → new.is_laid_out
  pub crash : LeavesNew new old.crash_may_leave
  pub leaves_laid_out : old.leaves_laid_out → new.leaves_laid_out

-- what a shelf is after an answer: the rows stand for the history before it, or for one event more. While the store is
-- available, they are the same rows after a refusal, and where what was asked changes nothing; an accepted request
-- changes few, and an OPEN and a CLOSE none of an object. Save where the answer is DELAY, the count of failures is the
-- same, and an intact store is available where an event was asked. A crash leaves what it could leave before, or, of an
-- event that changes what is kept and found the store there, the rows that stand for the history with it; and that
-- stays laid out. Where no rows may be asked for, the shelf is as it was
pub record Answered (ask : Result AskModel WireFault) (before : View)
    (answered : AnswerModel) (after : View) : Type 0 where
  pub frame : ShelfFrame before after
  pub quiet : answered ≢ Refused Delay → after.failures ≡ before.failures
  pub alive : after.is_intact → (event : EventModel) → ask ≡ Ok (Event event)
      → answered ≢ Refused Delay → after.is_available
  pub step : after.is_intact → (start : Room) (past : History) → StandsFor start past before →
      (next : History) × AnswersOrDelays start past ask answered next × StandsFor start next after
  pub refused : after.is_available → before.is_laid_out → IsTurnedAway answered → after.records ≡ before.records
  pub idle : after.is_available → before.is_laid_out → (start : Room) (past : History)
      → RepresentsHistory start before.records past →
      by_event (changes_rows past) false ask ≡ false → after.records ≡ before.records
  pub few : after.is_available → before.is_laid_out → (start : Room) (past : History)
      → RepresentsHistory start before.records past →
      answered ≢ Refused Delay
      → by_event (λ event. EventChangesFew start past event before.records after.records) (Unit {0}) ask
  pub crash : after.is_intact → (start : Room) (past : History) → StandsFor start past before →
      LeavesOldOrNew before after (λ left. before.is_available
      × by_event (λ event. StandsWith start past event left) ⊥ ask)
  pub stays_laid_out : after.is_intact → (start : Room) (past : History) → StandsFor start past before →
      before.leaves_laid_out → after.leaves_laid_out
  pub alone : may_ask_shelf ask ≡ false → IsLeftAlone before after

abbrev pub EventAnswered : {S : Type 0} (view : S → View) → S → EventModel → AnswerModel → S → Type 0
EventAnswered view before event answered after = Answered (Ok (Event event)) (view before) answered (view after)

abbrev pub MayAnswer : {S : Type 0} (view : S → View) → List SubjectModel → S → MessageModel → AnswerModel → S → Type 0
MayAnswer view users before m answered after = Answered (ask_of users m) (view before) answered (view after)
