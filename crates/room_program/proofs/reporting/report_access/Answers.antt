use Rattle.room_program.proofs.reporting.report_access.Goals as goal

pub returns : goal.returns
returns g c = let e = c.access_report.ensures in
    record { written = c.access_report.result; reported = e.value; read = e.frame; ends = c.done_of_report.ensures }
