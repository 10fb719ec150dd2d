use Rattle.room_sql.proofs.Frames.{ok_then}
use Rattle.room_sql.proofs.Made.{new_doc_made}
use Rattle.room_sql.proofs.writes.put_new_doc.Goals as goal

pub returns-clause-ok : goal.returns-clause-ok
returns-clause-ok g c clean =
    ok_then c.run.result (c.run.ensures.done clean) (λ ran room.
    new_doc_made c.args.id c.args.bytes.now _ _ ran.0 room
    (rw (c.params-to_sql.ensures, c.params-to_sql-2.ensures) at ran.1))
