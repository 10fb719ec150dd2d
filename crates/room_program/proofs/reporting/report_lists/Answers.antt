use Rattle.room_program.proofs.reporting.report_lists.Goals as goal

pub returns : goal.returns
returns g c = let e = c.list_report.ensures in
    record { written = c.list_report.result; reported = e.value; read = e.frame; ends = c.done_of_report.ensures }
