use Rattle.room_wire.proofs.Lemmas.Asks.Targets.{route_is}
use Rattle.room_wire.proofs.asks.laws.check_route_is_one_target.Goals as goal

pub returns : goal.returns
returns c = route_is
