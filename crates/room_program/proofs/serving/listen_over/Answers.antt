use Rattle.room_program.proofs.serving.listen_over.Goals as goal

pub returns : goal.returns
returns g c = rw c.into_shelf.ensures (rw c.new-desk.ensures at c.listen-done.ensures)
