use Rattle.room_program.proofs.running.run_replay.Goals as goal

pub returns : goal.returns
returns g c = (c.replay-done.result, c.replay-done.ensures, c.end_with.ensures)
