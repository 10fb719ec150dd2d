use Rattle.room_program.proofs.Streams.{connections_answered}
use Rattle.room_program.proofs.laws.connections_leave_what_was_answered.Goals as goal

pub returns : goal.returns
returns g c roster users n old last before between after ms out each lawful run there intact =
    connections_answered g.S.Shelf.view g.met.S.Shelf.settled g.met.S.Shelf.leaves_laid_out _ n old last before between
    each there users after ms out lawful run intact
