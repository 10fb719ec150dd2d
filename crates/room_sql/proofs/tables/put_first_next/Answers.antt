use Rattle.room_sql.proofs.Common.{first_sets_next, fills_next, next_sound}
use Rattle.room_sql.proofs.Frames.{ok_then}
use Rattle.room_sql.proofs.tables.put_first_next.Goals as goal

pub returns-clause-ok : goal.returns-clause-ok
returns-clause-ok g c clean = ok_then c.run.result (c.run.ensures.done clean) (λ ran room.
    let it = first_sets_next _ _ c.args.next ran.0 room (rw c.params-to_sql.ensures at ran.1) in
    (record { steps = it.steps; nodes = it.nodes; entries = tt }, it.version, it.sound))

pub returns-clause-spares : goal.returns-clause-spares
returns-clause-spares g c clean =
    ok_then c.run.result (c.run.ensures.done clean) (λ ran.
    fills_next _ _ c.args.next ran.0 (rw c.params-to_sql.ensures at ran.1))

pub returns-clause-sound : goal.returns-clause-sound
returns-clause-sound g c clean =
    ok_then c.run.result (c.run.ensures.done clean) (λ ran.
    next_sound _ _ c.args.next ran.0 (rw c.params-to_sql.ensures at ran.1))
