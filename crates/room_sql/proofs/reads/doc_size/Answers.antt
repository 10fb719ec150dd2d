use Rattle.room_sql.proofs.Common.{◌∙◌, IfOk-weaker, state, find_size_selects, asks_size, only_permuted}
use Rattle.room_tables.proofs.Sizes.{same_size}
use Rattle.room_sql.proofs.Frames.{asked, made, failed}
use Rattle.room_sql.proofs.reads.doc_size.Goals as goal

pub returns-clause-frame : goal.returns-clause-frame
returns-clause-frame g c =
    made c.in_ok-rows.was (asked _ _ find_size_selects c.query_all.ensures.ok c.query_all.ensures.err
    c.query_all.ensures.mode c.query_all.ensures.survives)

pub returns-in_err-rows-clause-frame : goal.returns-in_err-rows-clause-frame
returns-in_err-rows-clause-frame g c =
    failed c.from_residual.ensures.0 (asked _ _ find_size_selects c.query_all.ensures.ok c.query_all.ensures.err
    c.query_all.ensures.mode c.query_all.ensures.survives)

pub returns-clause-value : goal.returns-clause-value
returns-clause-value g c clean room =
    let shown = rw (c.in_ok-rows.was, c.params-to_sql.ensures) at (c.query_all.ensures.ok clean) in
    let frame = asked _ _ find_size_selects c.query_all.ensures.ok c.query_all.ensures.err
    c.query_all.ensures.mode c.query_all.ensures.survives in
    let there = frame.was_open clean ((rw c.in_ok-rows.was at (frame.answered clean)).0) in
    IfOk-weaker c.one_size.result _ _ (λ _ is. is
    ∙ rw (c.as_slice.ensures.value, only_permuted _ _ (asks_size _ _ c.args.id _ room shown))
    (same_size (state g.S.Store c.args.conn.now).now c.args.id room (c.schema-live.ensures.live there).0))
    c.one_size.ensures.value
