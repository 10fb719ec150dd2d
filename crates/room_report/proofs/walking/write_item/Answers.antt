use Rattle.room_report.proofs.Common.{◌∙◌, item_lines}
use Rattle.room_report.proofs.Sent.{front_is, appends_is}
use Rattle.room_report.proofs.Written.{err_writes}
use Rattle.room_report.proofs.walking.write_item.Goals as goal

pub returns-in_err-send-clause-written : goal.returns-in_err-send-clause-written
returns-in_err-send-clause-written g c =
    let lines = item_lines c.args.report.now c.args.item.now in
    err_writes _ _ lines c.from_residual-in_err-send.result c.from_residual-in_err-send.ensures.0
    (front_is _ _ c.as_slice.result.now lines (c.as_slice.ensures.value ∙ c.in_ok-lines.ensures) c.in_err-send.ensures)

pub returns-clause-written : goal.returns-clause-written
returns-clause-written g c =
    appends_is _ _ c.as_slice.result.now (item_lines c.args.report.now c.args.item.now)
    (c.as_slice.ensures.value ∙ c.in_ok-lines.ensures) c.in_ok-send.ensures
