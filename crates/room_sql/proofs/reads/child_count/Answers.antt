use Rattle.room_sql.proofs.Common.{◌∙◌, length-map, IfOk-weaker, shown_node, count_children_selects, asks_count}
use Rattle.room_sql.proofs.Frames.{asked, made, failed}
use Rattle.room_sql.proofs.reads.child_count.Goals as goal

pub returns-clause-frame : goal.returns-clause-frame
returns-clause-frame g c =
    made c.in_ok-rows.was (asked _ _ count_children_selects c.query_all.ensures.ok c.query_all.ensures.err
    c.query_all.ensures.mode c.query_all.ensures.survives)

pub returns-in_err-rows-clause-frame : goal.returns-in_err-rows-clause-frame
returns-in_err-rows-clause-frame g c =
    failed c.from_residual.ensures.0 (asked _ _ count_children_selects c.query_all.ensures.ok c.query_all.ensures.err
    c.query_all.ensures.mode c.query_all.ensures.survives)

pub returns-clause-value : goal.returns-clause-value
returns-clause-value g c clean room =
    let shown = rw (c.in_ok-rows.was, c.params-to_sql.ensures) at (c.query_all.ensures.ok clean) in
    IfOk-weaker c.one_count.result _ _ (λ count is.
    is _ (c.as_slice.ensures.value ∙ asks_count _ _ c.args.parent _ room shown) ∙ length-map _ shown_node)
    c.one_count.ensures.value
