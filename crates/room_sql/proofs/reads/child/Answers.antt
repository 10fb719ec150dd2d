use Rattle.room_sql.proofs.Common.{◌∙◌, ap, option_map, slice_get, IfOk-weaker, node_of, find_child_selects}
use Rattle.room_sql.proofs.Common.{asks_child, named_found}
use Rattle.room_records.proofs.PathParts.{name_parts}
use Rattle.room_sql.proofs.Frames.{asked, made, failed}
use Rattle.room_sql.proofs.reads.child.Goals as goal

pub returns-clause-frame : goal.returns-clause-frame
returns-clause-frame g c =
    made c.in_ok-rows.was (asked _ _ find_child_selects c.query_all.ensures.ok c.query_all.ensures.err
    c.query_all.ensures.mode c.query_all.ensures.survives)

pub returns-in_err-rows-clause-frame : goal.returns-in_err-rows-clause-frame
returns-in_err-rows-clause-frame g c =
    failed c.from_residual.ensures.0 (asked _ _ find_child_selects c.query_all.ensures.ok c.query_all.ensures.err
    c.query_all.ensures.mode c.query_all.ensures.survives)

pub returns-clause-value : goal.returns-clause-value
returns-clause-value g c clean room =
    let shown = rw (c.in_ok-rows.was, c.params-to_sql.ensures, c.params-to_sql-2.ensures, c.text.ensures.value)
    at (c.query_all.ensures.ok clean) in
    IfOk-weaker c.first_node.result _ _ (λ found is.
    named_found _ c.args.parent c.args.name.now _ found room (name_parts c.args.name.now c.text.ensures.lawful).some
    (asks_child _ _ c.args.parent c.args.name.now _ room shown)
    (is ∙ ap (λ l. option_map node_of (slice_get l 0)) c.as_slice.ensures.value))
    c.first_node.ensures.value
