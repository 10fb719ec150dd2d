use Rattle.room_program.proofs.running.run_init.Goals as goal

pub returns : goal.returns
returns g c = (c.init-done.result, c.init-done.ensures, c.end_with.ensures)
