-- From one run to the next, over the files that the one before it left.
use Rattle.std.specs.Prelude.{◌≡◌, ◌⊎◌, List, [], ◌∷◌, true, Ok}
use Rattle.sqlite.specs.Recovery.{Image}
use Rattle.room_acl.specs.SubjectModel.{SubjectModel}
use Rattle.room_records.specs.Room.{Room}
use Rattle.room_records.specs.Shelf.{View, LeavesNew}
use Rattle.room_wire.specs.declared.answers.code.Code.TheVariants.{Delay}
use Rattle.room_wire.specs.Asks.AskOf.{Event, ask_of}
use Rattle.room_wire.specs.Asks.EventModel.{EventModel}
use Rattle.room_wire.specs.Messages.MessageModel.{MessageModel, IsMessage}
use Rattle.room_desk.specs.AnswerModel.{AnswerModel, Refused}
use Rattle.room_desk.specs.History.{History, answer_to, changes_rows}
use Rattle.room_desk.specs.Representation.{RepresentsHistory, StandsFor}
use Rattle.room_program.specs.Found.{HoldsRoom}
use Rattle.room_program.specs.Streams.{GoesOnBy}

-- ---- a stop, and the event that is sent again

-- an event that is sent again is answered as it would have been, and the history has it once; or it is answered DELAY
abbrev pub ActsOnce : Room → History → EventModel → AnswerModel → View → Type 0
ActsOnce start past event answered after =
    ((answered ≡ answer_to start past event) × StandsFor start (event ∷ past) after)
    ⊎ ((answered ≡ Refused Delay) × (StandsFor start past after ⊎ StandsFor start (event ∷ past) after))

-- ---- one run after another

-- the users of each connection of a run, those of the last one first
abbrev pub Rosters : Type 0
Rosters = List (List SubjectModel)

-- a message of the users of one of these connections asks this event
abbrev pub MayAsk : Rosters → EventModel → Type 0
MayAsk [] event = ⊥
MayAsk (users ∷ earlier) event =
    ((m : MessageModel) × IsMessage m × (ask_of users m ≡ Ok (Event event))) ⊎ MayAsk earlier event

-- this holds of a history, or of it with one event more, which such a message asks and which changes what is kept
abbrev pub OrMore : Rosters → History → (History → Type 0) → Type 0
OrMore rosters past Holds = Holds past
    ⊎ ((event : EventModel) × MayAsk rosters event × ((changes_rows past event ≡ true) × Holds (event ∷ past)))

-- a history went on by messages of each connection's users, and perhaps by an event that was under way as a fault shut
-- the store
abbrev pub GoesOnOrMore : Rosters → Room → (past next : History) → Type 0
GoesOnOrMore rosters start past next =
    (told : History) × GoesOnBy rosters start past told × OrMore rosters told (λ last. next ≡ last)

-- a room that the files held is in those that were left, and its history went on by messages of each connection's users
abbrev pub KeepsRoom : Rosters → (found left : Image) → Type 0
KeepsRoom rosters found left = (start : Room) (past : History) → HoldsRoom found start past
    → (next : History) × GoesOnBy rosters start past next × HoldsRoom left start next

-- the same, where a fault had shut the store
abbrev pub KeepsRoomOrMore : Rosters → (found left : Image) → Type 0
KeepsRoomOrMore rosters found left = (start : Room) (past : History) → HoldsRoom found start past
    → ∥ ((next : History) × GoesOnOrMore rosters start past next × HoldsRoom left start next) ∥₁

-- a step for each of these, one after another
abbrev pub Steps : {U A : Type 0} → (U → A → A → Type 0) → List U → A → A → Type 0
Steps step [] from to = to ≡ from
Steps {U} {A} step (one ∷ more) from to = (mid : A) × step one from mid × Steps step more mid to

-- messages of each connection's users were answered, and then a crash leaves records that stand for the history by
-- their answers, or for it with one event more, and that are laid out
abbrev pub AnswersOrMore : {S : Type 0} (view : S → View) → Rosters → S → S → Type 0
AnswersOrMore view rosters before after = (start : Room) (past : History) → StandsFor start past (view before)
    → (next : History) × GoesOnBy rosters start past next
    × LeavesNew (view after) (λ left. OrMore rosters next (RepresentsHistory start left))
    × (view after).leaves_laid_out
