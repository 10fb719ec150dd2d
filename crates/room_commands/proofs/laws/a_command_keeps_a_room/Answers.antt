use Rattle.room_commands.proofs.EffectIsRoom.{effect_is_room}
use Rattle.room_commands.proofs.laws.a_command_keeps_a_room.Goals as goal

pub returns : goal.returns
returns c = effect_is_room
