use Rattle.room_sql.proofs.Common.{◌∙◌, ap, filter_map, IfOk-weaker, listed_of, list_names_selects, asks_names}
use Rattle.room_sql.proofs.Frames.{asked, made, failed}
use Rattle.room_sql.proofs.reads.names.Goals as goal

pub returns-clause-frame : goal.returns-clause-frame
returns-clause-frame g c =
    made c.in_ok-rows.was (asked _ _ list_names_selects c.query_all.ensures.ok c.query_all.ensures.err
    c.query_all.ensures.mode c.query_all.ensures.survives)

pub returns-in_err-rows-clause-frame : goal.returns-in_err-rows-clause-frame
returns-in_err-rows-clause-frame g c =
    failed c.from_residual.ensures.0 (asked _ _ list_names_selects c.query_all.ensures.ok c.query_all.ensures.err
    c.query_all.ensures.mode c.query_all.ensures.survives)

pub returns-clause-value : goal.returns-clause-value
returns-clause-value g c clean room =
    let shown = rw (c.in_ok-rows.was, c.params-to_sql.ensures) at (c.query_all.ensures.ok clean) in
    IfOk-weaker c.all_names.result _ _ (λ found is.
    (_, asks_names _ _ c.args.parent _ room shown, is ∙ ap (filter_map listed_of) c.as_slice.ensures.value))
    c.all_names.ensures.value
