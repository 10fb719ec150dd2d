use Rattle.room_desk.proofs.Common.{ask_of}
use Rattle.room_desk.proofs.Stops.{as_event, laid_out_in_turn}
use Rattle.room_desk.proofs.stop_laws.what_a_stop_leaves_is_laid_out.Goals as goal

pub returns-clause-run : goal.returns-clause-run
returns-clause-run g c before after events answers start past there stands run intact =
    laid_out_in_turn g.S.Shelf.view as_event before after events answers start past run intact stands
    (g.met.S.Shelf.leaves_laid_out before there (stands there).0)

pub returns-clause-stream : goal.returns-clause-stream
returns-clause-stream g c users before after ms out start past there stands run intact =
    laid_out_in_turn g.S.Shelf.view (ask_of users) before after ms run.0 start past run.1 intact stands
    (g.met.S.Shelf.leaves_laid_out before there (stands there).0)
