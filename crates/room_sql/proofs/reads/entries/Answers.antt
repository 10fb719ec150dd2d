use Rattle.room_sql.proofs.Common.{◌∙◌, refl, state, list_entries_selects, asks_entries, rows_stored}
use Rattle.room_sql.proofs.Frames.{asked, made, failed, each}
use Rattle.room_sql.proofs.reads.entries.Goals as goal

pub returns-clause-frame : goal.returns-clause-frame
returns-clause-frame g c =
    made c.in_ok-rows.was (asked _ _ list_entries_selects c.query_all.ensures.ok c.query_all.ensures.err
    c.query_all.ensures.mode c.query_all.ensures.survives)

pub returns-in_err-rows-clause-frame : goal.returns-in_err-rows-clause-frame
returns-in_err-rows-clause-frame g c =
    failed c.from_residual.ensures.0 (asked _ _ list_entries_selects c.query_all.ensures.ok c.query_all.ensures.err
    c.query_all.ensures.mode c.query_all.ensures.survives)

pub returns-clause-value : goal.returns-clause-value
returns-clause-value g c clean room =
    let shown = rw (c.in_ok-rows.was, c.params-to_sql.ensures) at (c.query_all.ensures.ok clean) in
    each c.all_entries.result (λ list is.
    let found = rw is at c.all_entries.ensures in
    found.value ∙ rw (
      c.as_slice.ensures.value,
      asks_entries _ _ c.args.id _ room
          (rw c.as_slice.ensures.value at found.typed) shown,
    ) refl)

pub returns-clause-stored : goal.returns-clause-stored
returns-clause-stored g c clean room =
    let shown = rw (c.in_ok-rows.was, c.params-to_sql.ensures) at (c.query_all.ensures.ok clean) in
    each c.all_entries.result (λ list is placed.
    let found = rw is at c.all_entries.ensures in record {
      rows = rows_stored (state g.S.Store c.args.conn.now).now.trees c.args.id _ _
          (asks_entries _ _ c.args.id _ room (rw c.as_slice.ensures.value at found.typed) shown)
          (rw c.as_slice.ensures.value at (found.shown placed));
      back = found.back;
    })
