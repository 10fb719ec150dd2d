use Rattle.room_program.proofs.instance.asked_in.Goals as goal

pub returns : goal.returns
returns g c = c.asked.ensures
