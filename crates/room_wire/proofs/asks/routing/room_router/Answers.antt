use Rattle.room_wire.proofs.Common.{matchit_on_literals}
use Rattle.room_wire.proofs.asks.routing.room_router.Goals as goal

pub returns : goal.returns
unfolding matchit_on_literals
returns c =
    let b = rw c.in_ok-router.ensures at c.in_ok-insert.ensures in
    let d = rw b.1 at c.in_ok-insert-2.ensures in
    d.1
