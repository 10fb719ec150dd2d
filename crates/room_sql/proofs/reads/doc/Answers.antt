use Rattle.room_sql.proofs.Common.{◌∙◌, refl, IfOk-weaker, find_doc_selects, asks_doc, only_permuted}
use Rattle.room_sql.proofs.Frames.{asked, made, failed}
use Rattle.room_sql.proofs.reads.doc.Goals as goal

pub returns-clause-frame : goal.returns-clause-frame
returns-clause-frame g c =
    made c.in_ok-rows.was (asked _ _ find_doc_selects c.query_all.ensures.ok c.query_all.ensures.err
    c.query_all.ensures.mode c.query_all.ensures.survives)

pub returns-in_err-rows-clause-frame : goal.returns-in_err-rows-clause-frame
returns-in_err-rows-clause-frame g c =
    failed c.from_residual.ensures.0 (asked _ _ find_doc_selects c.query_all.ensures.ok c.query_all.ensures.err
    c.query_all.ensures.mode c.query_all.ensures.survives)

pub returns-clause-value : goal.returns-clause-value
returns-clause-value g c clean room =
    let shown = rw (c.in_ok-rows.was, c.params-to_sql.ensures) at (c.query_all.ensures.ok clean) in
    IfOk-weaker c.one_doc.result _ _ (λ _ is. is
    ∙ rw (c.as_slice.ensures.value, only_permuted _ _ (asks_doc _ _ c.args.id _ room shown)) refl)
    c.one_doc.ensures.value
