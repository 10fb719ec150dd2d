-- What a call says that is to answer an event, with a fault where it gives up (our own rules).
use Rattle.std.specs.Prelude.{◌≡◌, false, ◌∷◌, Result, IfOk, OnOk}
use Rattle.room_records.specs.declared.shelf.ShelfFault.{ShelfFault}
use Rattle.room_records.specs.Room.{Room}
use Rattle.room_records.specs.Shelf.{View, ShelfCall, fault_in, LeavesOldOrNew}
use Rattle.room_wire.specs.declared.answers.answer.Answer.{Answer}
use Rattle.room_wire.specs.Asks.EventModel.{EventModel}
use Rattle.room_desk.specs.AnswerModel.{answer_model, IsTurnedAway}
use Rattle.room_desk.specs.History.{History, answer_to, changes_rows}
use Rattle.room_desk.specs.Representation.{RepresentsHistory, StandsFor, StandsWith}
use Rattle.room_desk.specs.RowAnswers.{EventChangesFew}

-- the call over rows that stood for this history: an answer is the history's, and the event joins it. The rows are the
-- same where the event changes nothing, an accepted request changes few, and an OPEN and a CLOSE none of an object. A
-- crash leaves what it could leave before, or, of an event that changes what is kept and found the store there, the
-- rows that stand for the history with it; and it stays laid out
pub record JoinsHistory (start : Room) (past : History) (event : EventModel)
    (old new : View) (result : Result Answer ShelfFault) : Type 0 where
  pub step : new.is_available → IfOk result (λ answer. (answer_model answer ≡ answer_to start past event)
      × RepresentsHistory start new.records (event ∷ past))
  pub idle : new.is_available → changes_rows past event ≡ false → new.records ≡ old.records
  pub few : new.is_available
      → IfOk result (λ answer. EventChangesFew start past event old.records new.records)
  pub crash : new.is_intact → LeavesOldOrNew old new (λ left. old.is_available × StandsWith start past event left)
  pub stays_laid_out : new.is_intact → old.leaves_laid_out → new.leaves_laid_out

-- the call over any shelf: where it answers, an intact store is there, and a refusal leaves the same rows
pub record EventTried (event : EventModel) (old new : View) (result : Result Answer ShelfFault) : Type 0 where
  pub there : new.is_intact → OnOk result new.is_available
  pub frame : ShelfCall old new (fault_in result)
  pub refused : new.is_available → old.is_laid_out →
      IfOk result (λ answer. IsTurnedAway (answer_model answer) → new.records ≡ old.records)
  pub joins : (start : Room) (past : History) → StandsFor start past old → JoinsHistory start past event old new result
