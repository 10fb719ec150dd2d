use Rattle.room_desk.proofs.Idle.{state_after_idle}
use Rattle.room_desk.proofs.Alike.{stand_after_idle}
use Rattle.room_desk.proofs.laws.an_idle_event_changes_nothing.Goals as goal

pub returns-clause-room : goal.returns-clause-room
returns-clause-room c = state_after_idle

pub returns-clause-rows : goal.returns-clause-rows
returns-clause-rows c = stand_after_idle
