use Rattle.room_desk.proofs.Common.{◌≡◌, ◌≢◌, ◌≤◌, List, [], ◌∷◌, ◌++◌, length, map, take, vec_len, vec_capacity, Room}
use Rattle.room_desk.proofs.Common.{ShelfFrame, event_model, Delay, InTurn, AnswerModel, Refused, answer_model, History}
use Rattle.room_desk.proofs.Common.{StandsFor, EventAnswered, Run}
use Rattle.room_desk.proofs.desk.Desk.run.Given as goal

-- the answers so far are a run over the events so far
abbrev pub invariant-loop-event : goal.invariant-loop-event
invariant-loop-event g l = let s = g.S.Shelf in record {
  room : length l.events ≤ vec_capacity l.answers;
  count : vec_len l.answers ≡ l.event-index;
  frame : ShelfFrame (s.view l.fn.self) (s.view l.self);
  alive : (s.view l.self).is_intact → (before : List AnswerModel) (last : AnswerModel)
      → map answer_model l.answers.items ≡ before ++ last ∷ [] → last ≢ Refused Delay → (s.view l.self).is_available;
  run : (s.view l.self).is_intact → (start : Room) (past : History) → StandsFor start past (s.view l.fn.self) →
      (next : History) × Run start past (map event_model (take l.event-index l.events))
      (map answer_model l.answers.items) next × StandsFor start next (s.view l.self);
  each : InTurn (EventAnswered s.view) l.fn.self
      (map event_model (take l.event-index l.events)) (map answer_model l.answers.items) l.self;
}
