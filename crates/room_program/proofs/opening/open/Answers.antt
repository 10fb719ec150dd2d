use Rattle.room_program.proofs.Jobs.{opened_outside}
use Rattle.room_program.proofs.opening.open.Goals as goal

pub returns-in-Ok-clause-opened : goal.returns-in-Ok-clause-opened
returns-in-Ok-clause-opened g c =
    opened_outside g.M.Machine.does c.args.path.now c.args.machine.now c.open.new.self c.outside.new.machine
    c.in-Ok.connection c.in-Ok.ensures.opened c.outside.result c.outside.ensures.kept c.outside.ensures.left
