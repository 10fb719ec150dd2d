use Rattle.room_commands.proofs.BytesAlone.{stay_alike}
use Rattle.room_commands.proofs.CommandsStay.{command_stays}
use Rattle.room_commands.proofs.laws.rooms_that_look_alike_stay_alike.Goals as goal

pub returns-clause-every : goal.returns-clause-every
returns-clause-every c =
    λ a b caller command lawful room_a room_b alike. command_stays a b caller room_a room_b alike command lawful

pub returns-clause-bytes : goal.returns-clause-bytes
returns-clause-bytes c =
    λ a b caller command lawful alone room_a room_b alike.
    stay_alike a b caller room_a room_b alike command lawful alone
