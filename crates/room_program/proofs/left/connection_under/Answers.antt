use Rattle.room_program.proofs.Common.{◌∙◌, ap}
use Rattle.room_program.proofs.left.connection_under.Goals as goal

pub returns : goal.returns
returns g c = c.into_connection.ensures.same ∙ ap (λ shelf. shelf.conn) c.into_inner.ensures
