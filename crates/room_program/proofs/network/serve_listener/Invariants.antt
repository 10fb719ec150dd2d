use Rattle.room_program.proofs.Common.{ServesEach, Served}
use Rattle.room_program.proofs.network.serve_listener.Given as goal

-- so many connections were accepted and served
abbrev pub invariant-loop-served : goal.invariant-loop-served
invariant-loop-served g l =
    ServesEach g.L.Listener.accepts (Served g.S.Shelf.view l.roster) l.served l.fn.listener l.listener l.fn.desk l.desk
