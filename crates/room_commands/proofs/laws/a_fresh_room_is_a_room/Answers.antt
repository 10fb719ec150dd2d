use Rattle.room_records.proofs.FreshRoom.{fresh_is_room}
use Rattle.room_commands.proofs.laws.a_fresh_room_is_a_room.Goals as goal

pub returns : goal.returns
returns c = fresh_is_room
