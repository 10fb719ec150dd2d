use Rattle.room_program.proofs.Stopped.{old_or_new}
use Rattle.room_program.proofs.halts.an_event_cut_off_leaves_old_or_new.Goals as goal

pub returns : goal.returns
returns g c before event answered start past stands there call clean image left =
    let so = c.left_by.ensures before event answered call in
    old_or_new c.left_by.result start past event (so.rows start past stands there) (so.laid_out start past stands there)
    (c.files_of.ensures.intact clean) image (λ laid. c.files_of.ensures.left clean laid image left)
