use Rattle.room_program.proofs.Common.{image_at}
use Rattle.room_program.proofs.Restarts.{known}
use Rattle.room_program.proofs.laws.what_holds_a_room_is_a_room.Goals as goal

pub returns : goal.returns
returns g c opened let_go start past held is none clean =
    known _ (image_at g.S.Start) start past held opened let_go is none clean
