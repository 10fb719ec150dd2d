use Rattle.room_desk.proofs.Stops.{at_rest, left_from_there, left_by_shutting}
use Rattle.room_desk.proofs.StreamStops.{stream_from_there, stream_by_shutting}
use Rattle.room_desk.proofs.stop_laws.a_stop_leaves_what_was_answered.Goals as goal

pub returns-clause-there : goal.returns-clause-there
returns-clause-there g c = at_rest g.S.Shelf.view g.met.S.Shelf.settled

pub returns-clause-run : goal.returns-clause-run
returns-clause-run g c = left_from_there g.S.Shelf.view g.met.S.Shelf.settled

pub returns-clause-stream : goal.returns-clause-stream
returns-clause-stream g c = stream_from_there g.S.Shelf.view g.met.S.Shelf.settled

pub returns-clause-shut : goal.returns-clause-shut
returns-clause-shut g c = left_by_shutting g.S.Shelf.view g.met.S.Shelf.settled

pub returns-clause-stream_shut : goal.returns-clause-stream_shut
returns-clause-stream_shut g c = stream_by_shutting g.S.Shelf.view g.met.S.Shelf.settled
