use Rattle.room_program.proofs.Stopped.{close_served, close_shut, close_made}
use Rattle.room_program.proofs.halts.a_close_cut_off_leaves_the_room.Goals as goal

pub returns-clause-served : goal.returns-clause-served
returns-clause-served g c last start past found image same stands there at =
    close_served _ (λ file. g.met.D.Disk.seen_may_stay file.inner) c.args.closed c.closed_off.result
    c.closed_off.ensures found image at last start past same stands there

pub returns-clause-shut : goal.returns-clause-shut
returns-clause-shut g c opened taken last rosters found image same is adopted answers at =
    close_shut _ (λ file. g.met.D.Disk.seen_may_stay file.inner) c.args.closed c.closed_off.result
    c.closed_off.ensures found image at opened taken last rosters same is adopted answers

pub returns-clause-made : goal.returns-clause-made
returns-clause-made g c opened owner group found image is made empty at =
    close_made _ (λ file. g.met.D.Disk.seen_may_stay file.inner) c.args.closed c.closed_off.result
    c.closed_off.ensures found image at opened owner group is made empty
