use Rattle.room_wire.proofs.Common.{subst, codes, RoutesAsk, ask_for, caller_by, room_target, values_named}
use Rattle.room_wire.proofs.asks.route.route.Goals as goal

-- what was lent of the message is the message's
pub returns : goal.returns
returns c = λ m s.
    subst (λ ask. RoutesAsk ask c.route_parts.result) (λ i. ask_for (room_target (s.method i) (s.target i))
    (caller_by c.args.roster.now (values_named (codes "room-user") (s.fields i))) (s.body i)) c.route_parts.ensures
