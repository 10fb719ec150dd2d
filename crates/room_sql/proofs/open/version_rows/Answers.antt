use Rattle.room_sql.proofs.Common.{IfOk-weaker, find_version_selects, asks_version}
use Rattle.room_sql.proofs.Frames.{asked}
use Rattle.room_sql.proofs.open.version_rows.Goals as goal

pub returns-clause-frame : goal.returns-clause-frame
returns-clause-frame g c =
    asked _ _ find_version_selects c.query_all.ensures.ok c.query_all.ensures.err
    c.query_all.ensures.mode c.query_all.ensures.survives

pub returns-clause-asked : goal.returns-clause-asked
returns-clause-asked g c clean more schema =
    IfOk-weaker c.query_all.result _ _ (λ rows h. asks_version more _ _ rows.items schema h)
    (c.query_all.ensures.ok clean)
