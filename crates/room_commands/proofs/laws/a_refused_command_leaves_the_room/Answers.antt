use Rattle.room_commands.proofs.RoomLaws.{refused_leaves}
use Rattle.room_commands.proofs.laws.a_refused_command_leaves_the_room.Goals as goal

pub returns : goal.returns
returns c = refused_leaves
