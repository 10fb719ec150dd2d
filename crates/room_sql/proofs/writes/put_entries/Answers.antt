use Rattle.room_sql.proofs.Common.{sym, subst, subst₂, state, IsRoomDatabase, Lists}
use Rattle.room_sql.proofs.Frames.{was_clean, ok_then}
use Rattle.room_sql.proofs.Made.{entries_made}
use Rattle.room_sql.proofs.writes.put_entries.Goals as goal

pub returns-in-Ok-clause-ok : goal.returns-in-Ok-clause-ok
returns-in-Ok-clause-ok g c clean =
    let early = was_clean c.change_list.ensures.frame.crash clean in
    let was = (state g.S.Store c.args.tx.now.conn.now).now in
    ok_then c.change_list.result (c.change_list.ensures.ok clean) (λ all room.
    let stored = c.in_ok-rows.ensures.rows early room c.in-Ok.stored.items
    (rw c.as_slice.ensures.value at c.in-Ok.ensures.shown) c.in-Ok.ensures.back in
    entries_made c.args.id c.args.entries.now c.as_slice-in-Ok-2.result.now _ _ c.as_slice-in-Ok-2.ensures.value
    (λ is. (c.list_rows.ensures.frame.kept early).was_open ((c.change_list.ensures.frame.kept clean).was_open is))
    (all was (subst₂ (Lists was c.args.id) (sym c.as_slice-in-Ok.ensures.value)
    (sym (c.in_ok-rows.ensures.same early)) stored)))

pub returns-clause-ok : goal.returns-clause-ok
returns-clause-ok g c clean =
    let early = was_clean c.replace_list.ensures.frame.crash clean in
    let same = c.in_ok-rows.ensures.same early in
    let es = c.as_slice-in-Err.result.now in
    ok_then c.replace_list.result (c.replace_list.ensures.ok clean) (λ all room.
    entries_made c.args.id c.args.entries.now es _ _ c.as_slice-in-Err.ensures.value
    (λ is. (c.list_rows.ensures.frame.kept early).was_open ((c.replace_list.ensures.frame.kept clean).was_open is))
    (subst (λ db. Lists db c.args.id es (state g.S.Store c.replace_list.new.tx.conn.now).now) same
    (all (subst IsRoomDatabase (sym same) room))))
