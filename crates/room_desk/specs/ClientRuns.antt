-- What the messages of a run sent, and to which rows it leads (our own rules).
use Rattle.std.specs.Prelude.{List, [], ◌∷◌, Some}
use Rattle.room_acl.specs.SubjectModel.{SubjectModel}
use Rattle.room_wire.specs.Asks.AskOf.{ask_of}
use Rattle.room_wire.specs.Messages.MessageModel.{MessageModel}
use Rattle.room_records.specs.Records.{Records}
use Rattle.room_records.specs.Room.{Room}
use Rattle.room_records.specs.Shelf.{View, LeavesNew}
use Rattle.room_desk.specs.AnswerModel.{AnswerModel}
use Rattle.room_desk.specs.Serving.{by_event}
use Rattle.room_desk.specs.History.{History}
use Rattle.room_desk.specs.Representation.{RepresentsHistory, StandsFor}
use Rattle.room_desk.specs.Client.{Attempt, Taken}

-- the events that messages ask, each with its answer; a question and a refusal ask none
abbrev pub attempts_in : List SubjectModel → List MessageModel → List AnswerModel → List Attempt
attempts_in users (m ∷ ms) (answered ∷ answers) =
    by_event (λ event. record { event = event; told = Some answered } ∷ attempts_in users ms answers)
    (attempts_in users ms answers) (ask_of users m)
attempts_in users ms answers = []

-- rows that stand for a history to which these attempts lead
abbrev pub Leads : Room → History → List Attempt → Records → Type 0
Leads start past sent left = (next : History) × Taken start past sent next × RepresentsHistory start left next

-- a crash leaves such rows, and they are laid out
abbrev pub LeadsBy : {S : Type 0} (view : S → View) → List Attempt → (before after : S) → Type 0
LeadsBy view sent before after = (start : Room) (past : History) → StandsFor start past (view before)
    → LeavesNew (view after) (Leads start past sent) × (view after).leaves_laid_out
