use Rattle.room_desk.proofs.Common.{outputs_then, AnswersMessage}
use Rattle.room_desk.proofs.run_laws.runs_in_turn_are_one_run.Goals as goal

pub returns : goal.returns
returns c = λ users start past mid next ms ks a b. outputs_then (AnswersMessage users start) past mid next ms ks a b
