use Rattle.room_program.proofs.Common.{inr}
use Rattle.room_program.proofs.making.make_at.Goals as goal

pub returns : goal.returns
returns g c =
    inr (c.in_ok-connection.connection, c.open.new.machine, c.in_ok-connection.ensures.opened, c.make_room.ensures)
