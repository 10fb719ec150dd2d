use Rattle.room_sql.proofs.Frames.{was_clean, ok_then}
use Rattle.room_sql.proofs.tables.make_half.Goals as goal

pub returns-clause-spares : goal.returns-clause-spares
returns-clause-spares g c clean =
    let late = was_clean c.make_entry.ensures.frame.crash clean in
    let early = was_clean c.make_node.ensures.frame.crash late in
    ok_then c.make_entry.result (c.make_entry.ensures.spares clean) (λ three before none was.
    three before none (c.in_ok-make_node.ensures.spares late before none
    (c.in_ok-make_room.ensures.spares early before none was)))
