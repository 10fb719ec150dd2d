use Rattle.room_desk.proofs.Stops.{sent_again, uncached_sent_again}
use Rattle.room_desk.proofs.stop_laws.a_request_sent_again_after_a_stop_acts_once.Goals as goal

pub returns-clause-kept : goal.returns-clause-kept
returns-clause-kept g c = sent_again g.S.Shelf.view

pub returns-clause-uncached : goal.returns-clause-uncached
returns-clause-uncached g c = uncached_sent_again g.S.Shelf.view
