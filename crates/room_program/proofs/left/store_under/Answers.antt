use Rattle.room_program.proofs.Common.{subst, over_files, IsTakenOut}
use Rattle.room_program.proofs.left.store_under.Goals as goal

pub returns : goal.returns
returns g c =
    subst (λ shelf. IsTakenOut over_files shelf.conn c.store_off.result) c.into_inner.ensures c.store_off.ensures
