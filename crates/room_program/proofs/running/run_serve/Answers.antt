use Rattle.room_program.proofs.running.run_serve.Goals as goal

pub returns : goal.returns
returns g c = (c.serve-done.result, c.serve-done.ensures, c.end_with.ensures)
