use Rattle.room_tables.proofs.Drops.{steps_drop}
use Rattle.room_sql.proofs.Frames.{ok_then}
use Rattle.room_sql.proofs.writes.drop_node.Goals as goal

pub returns-clause-ok : goal.returns-clause-ok
returns-clause-ok g c clean =
    ok_then c.run.result (c.run.ensures.done clean) (λ ran room.
    record {
      steps = steps_drop _ _ c.args.id ran.0 room (rw c.params-to_sql.ensures at ran.1);
      nodes = tt;
      entries = tt;
    })
