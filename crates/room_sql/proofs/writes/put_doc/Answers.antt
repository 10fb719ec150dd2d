use Rattle.room_sql.proofs.Frames.{ok_then}
use Rattle.room_sql.proofs.Made.{doc_made}
use Rattle.room_sql.proofs.writes.put_doc.Goals as goal

pub returns-clause-ok : goal.returns-clause-ok
returns-clause-ok g c clean =
    ok_then c.run_or.result (c.run_or.ensures.done clean) (λ ran room.
    doc_made g.S.Store c.args.id c.args.bytes.now c.args.tx.now.conn.now c.run_or.new.tx.conn.now room
    (rw (c.params-to_sql.ensures, c.params-to_sql-2.ensures) at ran))
