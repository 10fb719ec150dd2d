use Rattle.std.proofs.lemmas.Option.{IfSome_then}
use Rattle.room_program.proofs.instance.take.Goals as goal

pub returns : goal.returns
returns g c =
    let opened = c.in_ok-connection in
    IfSome_then c.adopted.result c.adopted.ensures
    (λ taken is. (opened.connection, opened.ensures.found, opened.ensures.honest, is))
