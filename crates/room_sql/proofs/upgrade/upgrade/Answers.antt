use Rattle.room_sql.proofs.Common.{IfOk-weaker}
use Rattle.room_sql.proofs.Frames.{was_clean, committed_then}
use Rattle.room_sql.proofs.Taken.{next_is, may_be, upgraded_from}
use Rattle.room_sql.proofs.upgrade.upgrade.Goals as goal

pub returns-clause-frame : goal.returns-clause-frame
returns-clause-frame g c =
    let frame = c.in_ok-next.ensures.frame in
    committed_then frame c.commit_move.ensures.frame (λ clean db may.
    let early = was_clean c.commit_move.ensures.frame.crash clean in
    let now = (frame.answered early).1 in
    may_be db now (next_is now (c.in_ok-next.ensures.value early)) may)

pub returns-clause-ok : goal.returns-clause-ok
returns-clause-ok g c clean =
    let early = was_clean c.commit_move.ensures.frame.crash clean in
    let now = (c.in_ok-next.ensures.frame.answered early).1 in
    IfOk-weaker c.commit_move.result _ _
    (λ _ done. (done.0, upgraded_from now (next_is now (c.in_ok-next.ensures.value early)) done.1))
    (c.commit_move.ensures.ok clean)
