use Rattle.room_desk.proofs.KeptRows.{answer_by_kept, accepted_by_kept}
use Rattle.room_desk.proofs.laws.the_kept_row_tells_the_answer.Goals as goal

pub returns-clause-answer : goal.returns-clause-answer
returns-clause-answer c = answer_by_kept

pub returns-clause-accepted : goal.returns-clause-accepted
returns-clause-accepted c = accepted_by_kept
