use Rattle.room_program.proofs.running.run_files.Goals as goal

pub returns : goal.returns
returns g c = c.run_machine.ensures
