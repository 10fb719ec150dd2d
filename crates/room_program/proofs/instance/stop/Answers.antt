use Rattle.room_program.proofs.Again.{were_clean}
use Rattle.room_program.proofs.instance.stop.Goals as goal

pub returns-clause-left : goal.returns-clause-left
returns-clause-left g c clean laid =
    c.files_of-files.ensures.left (were_clean _ _ _ _ c.crash.ensures.clean c.crash-2.ensures.clean clean) laid _
    (c.crash.ensures.left, c.crash-2.ensures.left)
