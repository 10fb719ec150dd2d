use Rattle.room_desk.proofs.Beginnings.{stand_at_first}
use Rattle.room_desk.proofs.laws.a_history_begins_with_a_room.Goals as goal

pub returns : goal.returns
returns c = stand_at_first
