use Rattle.room_desk.proofs.Beginnings.{state_is_room}
use Rattle.room_desk.proofs.laws.a_history_keeps_a_room.Goals as goal

pub returns : goal.returns
returns c = state_is_room
