use Rattle.room_sql.proofs.Common.{state, lists_stored}
use Rattle.room_sql.proofs.Frames.{ok_then}
use Rattle.room_sql.proofs.Made.{entries_made}
use Rattle.room_sql.proofs.writes.put_kept.Goals as goal

pub returns-clause-ok : goal.returns-clause-ok
returns-clause-ok g c clean =
    let was = (state g.S.Store c.args.tx.now.conn.now).now in
    ok_then c.change_list.result (c.change_list.ensures.ok clean) (λ all room kept.
    entries_made c.args.id c.args.entries.now c.as_slice.result.now _ _ c.as_slice.ensures.value
    (c.change_list.ensures.frame.kept clean).was_open
    (all was (lists_stored was c.args.id c.args.stored.now room kept.rows kept.back)))
