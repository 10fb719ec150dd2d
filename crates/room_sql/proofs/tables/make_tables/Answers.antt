use Rattle.room_sql.proofs.Frames.{was_clean, ok_then}
use Rattle.room_sql.proofs.tables.make_tables.Goals as goal

pub returns-clause-spares : goal.returns-clause-spares
returns-clause-spares g c clean =
    let third = was_clean c.make_kept.ensures.frame.crash clean in
    let second = was_clean c.make_session.ensures.frame.crash third in
    let first = was_clean c.make_doc.ensures.frame.crash second in
    ok_then c.make_kept.result (c.make_kept.ensures.spares clean) (λ four before none was.
    four before none (c.in_ok-make_session.ensures.spares third before none
    (c.in_ok-make_doc.ensures.spares second before none (c.in_ok-make_half.ensures.spares first before none was))))
