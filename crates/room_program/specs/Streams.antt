-- A history that goes on by the messages of one stream after another.
use Rattle.std.specs.Prelude.{◌≡◌, ℕ, List, [], ◌∷◌, ◌++◌}
use Rattle.std.specs.List.{AllByRecursion}
use Rattle.room_acl.specs.SubjectModel.{SubjectModel}
use Rattle.room_records.specs.Room.{Room}
use Rattle.room_records.specs.Shelf.{View, ShelfFrame}
use Rattle.room_wire.specs.Asks.EventModel.{EventModel}
use Rattle.room_wire.specs.Messages.MessageModel.{MessageModel, IsMessage}
use Rattle.room_wire.specs.Serving.Ends.{Serves}
use Rattle.room_wire.specs.Answers.AnswerModel.{AnswerModel}
use Rattle.room_desk.specs.History.{History}
use Rattle.room_desk.specs.Representation.{StandsFor}
use Rattle.room_desk.specs.Serving.{AnswersMessage, IsRun, MayAnswer}
use Rattle.room_program.specs.Calls.{Exchange}

-- these users' messages are a run from the history to the next, which has their events more
pub record GoesOn (users : List SubjectModel) (start : Room) (past next : History) : Type 0 where
  pub messages : List MessageModel
  pub lawful : AllByRecursion IsMessage messages
  pub output : List ℕ
  pub run : IsRun users start past messages output next
  pub events : List EventModel
  pub on : next ≡ events ++ past

-- and so are the messages of one connection after another, each of the users that counted then: these stand in the
-- list, those of the last connection first
abbrev pub GoesOnBy : List (List SubjectModel) → Room → (past next : History) → Type 0
GoesOnBy [] start past next = next ≡ past
GoesOnBy (users ∷ earlier) start past next =
    (mid : History) × GoesOnBy earlier start past mid × GoesOn users start mid next

-- the bytes that went over a connection are messages and their answers, by a service that may change with each
abbrev pub Carries : {S : Type 0} → (may_answer : S → MessageModel → AnswerModel → S → Type 0)
    → S → Exchange → S → Type 0
Carries may_answer before e after =
    Serves may_answer before after e.input e.left e.output e.written e.end.why e.end.count

-- a connection was served over a shelf, as by `Desk::serve`: what went over it are messages of these users and their
-- answers, and the history has gone on by these messages while the store is there
pub record Served {S : Type 0} (view : S → View) (users : List SubjectModel)
    (before : S) (e : Exchange) (after : S) : Type 0 where
  pub frame : ShelfFrame (view before) (view after)
  pub messages : Carries (MayAnswer view users) before e after
  pub run : (view after).is_intact → (start : Room) (past : History) → StandsFor start past (view before) →
      (next : History) × Carries (AnswersMessage users start) past e next × StandsFor start next (view after)

-- and over some connections, while the store is there: the history has gone on
pub record ServesSome {S : Type 0} (view : S → View) (rosters : List (List SubjectModel)) (before after : S)
    : Type 0 where
  pub frame : ShelfFrame (view before) (view after)
  pub run : (view after).is_intact → (start : Room) (past : History) → StandsFor start past (view before) →
      (next : History) × GoesOnBy rosters start past next × StandsFor start next (view after)
