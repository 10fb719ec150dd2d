use Rattle.room_program.proofs.Again.{asked_so}
use Rattle.room_program.proofs.instance.asked.Goals as goal

pub returns : goal.returns
returns g c =
    asked_so g.S.Shelf.view _ _ _ _ _ c.new-next.ensures (c.left_by.ensures _ _ _ c.handle-answer.ensures.answered)
