use Rattle.room_wire.proofs.Lemmas.Asks.Callers.{user_with}
use Rattle.room_wire.proofs.asks.caller.user_called.Goals as goal

pub returns-in_ok-groups-in-Some : goal.returns-in_ok-groups-in-Some
returns-in_ok-groups-in-Some c =
    user_with c.args.roster.now c.args.name c.in-Some.groups.now c.in_ok-groups-in-Some.groups.items
    c.in-Some.ensures c.in_ok-groups-in-Some.ensures
