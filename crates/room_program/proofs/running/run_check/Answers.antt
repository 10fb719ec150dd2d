use Rattle.room_program.proofs.running.run_check.Goals as goal

pub returns : goal.returns
returns g c =
    let told = rw c.done_of.ensures at c.end_with.ensures in
    (c.serve_checks-end.result.why, c.serve_checks-end.result.count, c.serve_checks-end.ensures, told)
