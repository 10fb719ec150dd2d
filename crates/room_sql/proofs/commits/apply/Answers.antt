use Rattle.room_sql.proofs.NewObjects.{no_entries_after_next}
use Rattle.room_sql.proofs.Frames.{ok_then}
use Rattle.room_sql.proofs.commits.apply.Goals as goal

pub returns-in-PutNext-clause-ok : goal.returns-in-PutNext-clause-ok
returns-in-PutNext-clause-ok g c clean =
    ok_then c.put_next.result (c.put_next.ensures.ok clean) (λ done room sound so.
    rw c.in-PutNext.is ((done room).0, tt, no_entries_after_next c.args.object c.in-PutNext.next _))
