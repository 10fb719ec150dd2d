use Rattle.room_sql.proofs.Common.{lists_none}
use Rattle.room_sql.proofs.Frames.{ok_then}
use Rattle.room_sql.proofs.writes.clear_entries.Goals as goal

pub returns-clause-ok : goal.returns-clause-ok
returns-clause-ok g c clean =
    ok_then c.run.result (c.run.ensures.done clean) (λ ran room.
    lists_none _ _ c.args.id ran.0 room
    (rw (c.params-to_sql.ensures) at ran.1))
