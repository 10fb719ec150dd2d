use Rattle.room_program.proofs.Unopened.{stay_unopened}
use Rattle.room_program.proofs.halts.an_open_cut_off_leaves_the_database.Goals as goal

pub returns-in-Ok-clause-opened : goal.returns-in-Ok-clause-opened
returns-in-Ok-clause-opened g c = λ clean.
    let found = c.in-Ok.ensures.found clean in
    (c.in-Ok.ensures.opened clean, record { holds = found.holds; reads = found.reads }, c.in-Ok.ensures.plain clean)

pub returns-in-Err-clause-cut : goal.returns-in-Err-clause-cut
returns-in-Err-clause-cut g c found just sees held holds image at =
    stay_unopened _ found _ c.in-Err.rest (λ file. g.met.D.Disk.seen_may_stay file.inner)
    (c.args.files, just, λ clean. (c.in-Err.ensures.cause clean, c.in-Err.ensures.unharmed clean)) sees held holds image
    at
