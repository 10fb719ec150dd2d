use Rattle.room_sql.proofs.Common.{sym, lists_front}
use Rattle.room_sql.proofs.Frames.{ok_then}
use Rattle.room_sql.proofs.writes.drop_behind.Goals as goal

pub returns-clause-ok : goal.returns-clause-ok
returns-clause-ok g c clean =
    ok_then c.run.result (c.run.ensures.done clean) (λ done records before behind len was.
    lists_front _ _ c.args.id c.args.place done.0 before behind records (sym len) was
    (rw (c.params-to_sql.ensures, c.params-to_sql-2.ensures) at done.1))
