use Rattle.room_desk.proofs.Idle.{state_after_idle, refused_is_idle}
use Rattle.room_desk.proofs.Alike.{stand_after_idle}
use Rattle.room_desk.proofs.laws.a_refused_event_changes_nothing.Goals as goal

pub returns-clause-room : goal.returns-clause-room
returns-clause-room c = λ start past event refused.
    state_after_idle start past event (refused_is_idle start past event refused)

pub returns-clause-rows : goal.returns-clause-rows
returns-clause-rows c = λ start r past event refused stand.
    stand_after_idle start r past event (refused_is_idle start past event refused) stand
