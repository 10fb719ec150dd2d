use Rattle.room_program.proofs.Common.{subst, IsTakenOut}
use Rattle.room_program.proofs.left.taken_off.Goals as goal

pub returns : goal.returns
returns g c =
    subst (λ conn. IsTakenOut g.S.Store conn c.taken_out.result) c.into_connection.ensures.same c.taken_out.ensures
