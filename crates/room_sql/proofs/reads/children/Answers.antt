use Rattle.room_sql.proofs.Common.{◌∙◌, ap, map, sym, subst, IfOk-weaker, node_of, list_children_selects}
use Rattle.room_sql.proofs.Common.{asks_children, are_children}
use Rattle.room_records.specs.Shelf.{AreChildren}
use Rattle.room_sql.proofs.Frames.{asked, made, failed}
use Rattle.room_sql.proofs.reads.children.Goals as goal

pub returns-clause-frame : goal.returns-clause-frame
returns-clause-frame g c =
    made c.in_ok-rows.was (asked _ _ list_children_selects c.query_all.ensures.ok c.query_all.ensures.err
    c.query_all.ensures.mode c.query_all.ensures.survives)

pub returns-in_err-rows-clause-frame : goal.returns-in_err-rows-clause-frame
returns-in_err-rows-clause-frame g c =
    failed c.from_residual.ensures.0 (asked _ _ list_children_selects c.query_all.ensures.ok c.query_all.ensures.err
    c.query_all.ensures.mode c.query_all.ensures.survives)

pub returns-clause-value : goal.returns-clause-value
returns-clause-value g c clean room =
    let shown = rw (c.in_ok-rows.was, c.params-to_sql.ensures) at (c.query_all.ensures.ok clean) in
    let rows = asks_children _ _ c.args.parent _ room shown in
    IfOk-weaker c.all_nodes.result _ _ (λ found is.
    subst (AreChildren _ c.args.parent) (sym (is ∙ ap (map node_of) c.as_slice.ensures.value))
    (are_children _ c.args.parent _ room rows.0 rows.1))
    c.all_nodes.ensures.value
