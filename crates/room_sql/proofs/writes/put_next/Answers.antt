use Rattle.room_sql.proofs.Frames.{ok_then}
use Rattle.room_sql.proofs.Made.{next_set}
use Rattle.room_sql.proofs.writes.put_next.Goals as goal

pub returns-clause-ok : goal.returns-clause-ok
returns-clause-ok g c clean =
    ok_then c.run_or.result (c.run_or.ensures.done clean) (λ ran room.
    let it = next_set g.S.Store c.args.next c.args.tx.now.conn.now c.run_or.new.tx.conn.now room
    (rw c.params-to_sql.ensures at ran) in
    (record { steps = it.steps; nodes = it.nodes; entries = tt }, it.version))

pub returns-clause-beside : goal.returns-clause-beside
returns-clause-beside g c clean =
    ok_then c.run_or.result (c.run_or.ensures.done clean) (λ ran room.
    let it = next_set g.S.Store c.args.next c.args.tx.now.conn.now c.run_or.new.tx.conn.now room
    (rw c.params-to_sql.ensures at ran) in
    (it.sound, it.beside))
