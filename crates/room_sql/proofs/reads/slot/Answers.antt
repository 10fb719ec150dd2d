use Rattle.room_sql.proofs.Common.{◌∙◌, refl, IfOk-weaker, find_slot_selects, asks_slot, only_permuted}
use Rattle.room_sql.proofs.Frames.{asked, made, failed}
use Rattle.room_sql.proofs.reads.slot.Goals as goal

pub returns-clause-frame : goal.returns-clause-frame
returns-clause-frame g c =
    made c.in_ok-rows.was (asked _ _ find_slot_selects c.query_all.ensures.ok c.query_all.ensures.err
    c.query_all.ensures.mode c.query_all.ensures.survives)

pub returns-in_err-rows-clause-frame : goal.returns-in_err-rows-clause-frame
returns-in_err-rows-clause-frame g c =
    failed c.from_residual.ensures.0 (asked _ _ find_slot_selects c.query_all.ensures.ok c.query_all.ensures.err
    c.query_all.ensures.mode c.query_all.ensures.survives)

pub returns-clause-value : goal.returns-clause-value
returns-clause-value g c clean room =
    let shown = rw (c.in_ok-rows.was, c.params-to_sql.ensures, c.params-to_sql-2.ensures, c.text.ensures.value)
    at (c.query_all.ensures.ok clean) in
    IfOk-weaker c.one_kept.result _ _ (λ _ is. is
    ∙ rw (c.as_slice.ensures.value, only_permuted _ _ (asks_slot _ _ c.args.sid.now c.args.slot _ room shown)) refl)
    c.one_kept.ensures.value
