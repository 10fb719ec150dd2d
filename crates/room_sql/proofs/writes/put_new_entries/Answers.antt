use Rattle.room_sql.proofs.Common.{IfOk-weaker, lists_bare}
use Rattle.room_sql.proofs.Made.{entries_made}
use Rattle.room_sql.proofs.writes.put_new_entries.Goals as goal

pub returns-clause-ok : goal.returns-clause-ok
returns-clause-ok g c clean =
    IfOk-weaker c.add_entries.result _ _ (λ _ all room none.
    entries_made c.args.id c.args.entries.now c.as_slice.result.now _ _ c.as_slice.ensures.value
    (c.add_entries.ensures.frame.kept clean).was_open (all _ (lists_bare _ c.args.id room none)))
    (c.add_entries.ensures.ok clean)

pub returns-clause-spares : goal.returns-clause-spares
returns-clause-spares g c clean = rw c.as_slice.ensures.value at (c.add_entries.ensures.spares clean)
