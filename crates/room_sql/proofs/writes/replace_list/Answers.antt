use Rattle.room_sql.proofs.Frames.{was_clean, ok_then}
use Rattle.room_sql.proofs.writes.replace_list.Goals as goal

pub returns-clause-ok : goal.returns-clause-ok
returns-clause-ok g c clean =
    ok_then c.add_entries.result (c.add_entries.ensures.ok clean) (λ all room.
    all _ (c.in_ok-clear_entries.ensures.ok (was_clean c.add_entries.ensures.frame.crash clean) room))
