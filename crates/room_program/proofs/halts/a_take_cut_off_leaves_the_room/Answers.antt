use Rattle.room_program.proofs.Stopped.{take_spared}
use Rattle.room_program.proofs.halts.a_take_cut_off_leaves_the_room.Goals as goal

pub returns : goal.returns
returns g c opened taken found is takes same honest image may =
    take_spared _ c.args.shut c.store_in.result c.store_in.ensures c.close.result c.close.ensures honest
    (λ file. g.met.D.Disk.seen_may_stay file.inner) found opened is image may taken takes same
