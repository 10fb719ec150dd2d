use Rattle.room_sql.proofs.Frames.{ok_then}
use Rattle.room_sql.proofs.Made.{slots_dropped}
use Rattle.room_sql.proofs.writes.drop_slots.Goals as goal

pub returns-clause-ok : goal.returns-clause-ok
returns-clause-ok g c clean =
    ok_then c.run.result (c.run.ensures.done clean) (λ ran room.
    slots_dropped c.args.sid.now _ _ ran.0 room (rw (c.params-to_sql.ensures, c.text-sid.ensures.value) at ran.1))
