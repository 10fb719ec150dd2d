use Rattle.room_program.proofs.Stopped.{init_still, init_fresh, init_beside}
use Rattle.room_program.proofs.halts.an_init_cut_off_leaves_all_or_nothing.Goals as goal

pub returns-clause-still : goal.returns-clause-still
returns-clause-still g c opened owner group why found is ended honest image may =
    init_still _ c.args.shut c.store_in.result c.store_in.ensures c.close.result c.close.ensures honest
    (λ file. g.met.D.Disk.seen_may_stay file.inner) found opened is image may owner group why ended

pub returns-clause-fresh : goal.returns-clause-fresh
returns-clause-fresh g c opened owner group why found is ended honest image may empty =
    init_fresh _ c.args.shut c.store_in.result c.store_in.ensures c.close.result c.close.ensures honest
    (λ file. g.met.D.Disk.seen_may_stay file.inner) found opened is image may owner group why ended empty

pub returns-clause-beside : goal.returns-clause-beside
returns-clause-beside g c opened owner group why found is ended honest image may db held =
    init_beside _ c.args.shut c.store_in.result c.store_in.ensures c.close.result c.close.ensures honest
    (λ file. g.met.D.Disk.seen_may_stay file.inner) found opened is image may owner group why ended db held
