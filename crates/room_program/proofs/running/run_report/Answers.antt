use Rattle.room_program.proofs.running.run_report.Goals as goal

pub returns : goal.returns
returns g c = (c.report-done.result, c.report-done.ensures, c.end_with.ensures)
