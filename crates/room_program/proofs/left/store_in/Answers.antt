use Rattle.room_program.proofs.left.store_in.Goals as goal

pub returns : goal.returns
returns g c = c.taken_out.ensures
