use Rattle.room_program.proofs.Stopped.{report_cut_off}
use Rattle.room_program.proofs.halts.a_report_cut_off_leaves_the_room.Goals as goal

pub returns : goal.returns
returns g c opened taken found kind users old new done is adopted writes honest image may =
    report_cut_off _ c.args.last c.store_under.result c.store_under.ensures c.close.result c.close.ensures honest
    (λ file. g.met.D.Disk.seen_may_stay file.inner) found opened taken is adopted kind users old new done writes image
    may
