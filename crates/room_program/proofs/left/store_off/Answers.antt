use Rattle.room_program.proofs.left.store_off.Goals as goal

pub returns : goal.returns
returns g c = c.taken_off.ensures
