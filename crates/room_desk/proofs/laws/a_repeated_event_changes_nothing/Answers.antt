use Rattle.room_desk.proofs.Idle.{state_after_idle}
use Rattle.room_desk.proofs.Alike.{stand_after_idle}
use Rattle.room_desk.proofs.Repeats.{again_is_idle, same_answer_again, uncached_again}
use Rattle.room_desk.proofs.Common.{◌∷◌}
use Rattle.room_desk.proofs.laws.a_repeated_event_changes_nothing.Goals as goal

pub returns-clause-answer : goal.returns-clause-answer
returns-clause-answer c = same_answer_again

pub returns-clause-uncached : goal.returns-clause-uncached
returns-clause-uncached c = uncached_again

pub returns-clause-room : goal.returns-clause-room
returns-clause-room c = λ start past event. state_after_idle start (event ∷ past) event (again_is_idle past event)

pub returns-clause-rows : goal.returns-clause-rows
returns-clause-rows c = λ start r past event stand.
    stand_after_idle start r (event ∷ past) event (again_is_idle past event) stand
