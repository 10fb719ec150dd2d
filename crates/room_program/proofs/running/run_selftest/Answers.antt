use Rattle.room_program.proofs.Common.{inl}
use Rattle.room_program.proofs.running.run_selftest.Goals as goal

pub returns-in-Ok : goal.returns-in-Ok
returns-in-Ok g c = inl (c.in-Ok.ensures, c.show.ensures)
