use Rattle.room_commands.proofs.RoomLaws.{success_had_rights}
use Rattle.room_commands.proofs.laws.a_success_had_every_right.Goals as goal

pub returns : goal.returns
returns c = success_had_rights
