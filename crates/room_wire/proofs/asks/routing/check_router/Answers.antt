use Rattle.room_wire.proofs.Common.{matchit_on_literals}
use Rattle.room_wire.proofs.asks.routing.check_router.Goals as goal

pub returns : goal.returns
unfolding matchit_on_literals
returns c =
    let a = rw c.new-router.ensures at c.in_ok-insert.ensures in
    a.1
