use Rattle.room_program.proofs.Stopped.{was_in, left_in_files}
use Rattle.room_program.proofs.halts.files_of.Goals as goal

pub returns-clause-intact : goal.returns-clause-intact
returns-clause-intact g c honest =
    was_in _ c.args.shelf.0.conn c.store_under.result c.store_under.ensures c.close.result c.close.ensures honest

pub returns-clause-left : goal.returns-clause-left
returns-clause-left g c honest laid image may =
    left_in_files _ c.args.shelf.0 c.store_under.result c.store_under.ensures c.close.result c.close.ensures honest
    laid image may
