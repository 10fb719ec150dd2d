use Rattle.room_program.proofs.Again.{made_holds}
use Rattle.room_program.proofs.instance.a_room_is_made.Goals as goal

pub returns-in-Ok : goal.returns-in-Ok
returns-in-Ok g c empty clean =
    made_holds _ (λ file. g.met.D.Disk.seen_may_stay file) c.args.files c.in-Ok.left c.in_ok-opened.opened
    c.in_ok-connection.connection _ _ c.in_ok-opened.ensures.found c.in_ok-connection.ensures.live
    c.in-Ok.ensures.copied c.in_ok-connection.ensures.made empty clean
