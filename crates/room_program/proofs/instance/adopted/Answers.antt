use Rattle.room_program.proofs.Again.{adopted_as}
use Rattle.room_program.proofs.instance.adopted.Goals as goal

pub returns-in-Ok : goal.returns-in-Ok
returns-in-Ok g c =
    let e = c.in-Ok.ensures in
    adopted_as g.S.Store c.args.connection c.in-Ok.shelf c.new.result c.new.ensures.inner e.tables e.taken e.kept
    e.known c.new.ensures.true_of
