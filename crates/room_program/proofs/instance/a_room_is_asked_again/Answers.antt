use Rattle.room_program.proofs.Again.{acted_once}
use Rattle.room_program.proofs.instance.a_room_is_asked_again.Goals as goal

pub returns : goal.returns
returns g c start past held intact none =
    acted_once _ c.args.files c.stop.result c.in_ok-take.field-0 c.asked_in-lost.result.1 c.in_ok-take-2.field-0
    c.asked_in.result.1 _ _ _ start past c.in_ok-take.ensures c.asked_in-lost.ensures c.stop.ensures.intact
    c.stop.ensures.left c.in_ok-take-2.ensures c.asked_in.ensures held intact none
