use Rattle.room_sql.proofs.Common.{◌∙◌, refl, IfOk-weaker, find_next_selects, asks_next, only_permuted}
use Rattle.room_sql.proofs.Frames.{asked, made, failed}
use Rattle.room_sql.proofs.reads.next_id.Goals as goal

pub returns-clause-frame : goal.returns-clause-frame
returns-clause-frame g c =
    made c.in_ok-rows.was (asked _ _ find_next_selects c.query_all.ensures.ok c.query_all.ensures.err
    c.query_all.ensures.mode c.query_all.ensures.survives)

pub returns-in_err-rows-clause-frame : goal.returns-in_err-rows-clause-frame
returns-in_err-rows-clause-frame g c =
    failed c.from_residual.ensures.0 (asked _ _ find_next_selects c.query_all.ensures.ok c.query_all.ensures.err
    c.query_all.ensures.mode c.query_all.ensures.survives)

pub returns-clause-value : goal.returns-clause-value
returns-clause-value g c clean more schema =
    let shown = rw c.in_ok-rows.was at (c.query_all.ensures.ok clean) in
    IfOk-weaker c.one_number.result _ _ (λ _ is. is
    ∙ rw (c.as_slice.ensures.value, only_permuted _ _ (asks_next more _ _ _ schema shown)) refl)
    c.one_number.ensures.value
