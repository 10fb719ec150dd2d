use Rattle.room_sql.proofs.Common.{IfOk-weaker, list_entries_selects, lists_shown}
use Rattle.room_sql.proofs.Frames.{asked_inside, asked_now}
use Rattle.room_sql.proofs.writes.list_rows.Goals as goal

pub returns-clause-frame : goal.returns-clause-frame
returns-clause-frame g c =
    asked_inside _ _ list_entries_selects c.query_all.ensures.same_reference c.requires c.query_all.ensures.ok
    c.query_all.ensures.err c.query_all.ensures.survives

pub returns-clause-same : goal.returns-clause-same
returns-clause-same g c clean =
    asked_now _ _ _ _ c.query_all.result list_entries_selects (c.query_all.ensures.ok clean)

pub returns-clause-rows : goal.returns-clause-rows
returns-clause-rows g c clean = IfOk-weaker c.query_all.result _ _ (λ rows h room stored are back.
    lists_shown _ _ c.args.id rows.items stored room are back h)
    (rw c.params-to_sql.ensures at (c.query_all.ensures.ok clean))
