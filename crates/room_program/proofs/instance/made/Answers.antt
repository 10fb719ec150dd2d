use Rattle.room_program.proofs.Common.{subst, sym, Made}
use Rattle.room_program.proofs.instance.made.Goals as goal

pub returns-clause-made : goal.returns-clause-made
returns-clause-made g c =
    let e = c.in-Ok.ensures in
    subst (λ conn. Made g.S.Store c.args.standing.now.owner c.args.standing.now.group c.args.connection conn)
    (sym c.into_connection-connection.ensures.same) (e.absent, c.in-Ok.shelf.rests, e.fresh, e.made, e.beside)
