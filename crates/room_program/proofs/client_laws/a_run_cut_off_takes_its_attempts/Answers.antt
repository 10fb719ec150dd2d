use Rattle.room_program.proofs.Common.{attempts_in}
use Rattle.room_program.proofs.Restarts.{settled}
use Rattle.room_desk.proofs.ClientStreams.{brings_messages, brings_then}
use Rattle.room_program.proofs.ClientFiles.{brings_over, cut_off_takes}
use Rattle.room_program.proofs.client_laws.a_run_cut_off_takes_its_attempts.Goals as goal

pub returns : goal.returns
returns g c opened taken between found roster users n bound over ms answers image is adopted each run clean may =
    cut_off_takes _ (λ file. g.met.D.Disk.seen_may_stay file.inner) found opened taken c.args.last is adopted _
    (brings_then _ taken between c.args.last _ (attempts_in users ms answers)
    (brings_over _ (settled _ (λ file. g.met.D.Disk.seen_may_stay file.inner)) _ n bound over taken between each)
    (brings_messages _ (settled _ (λ file. g.met.D.Disk.seen_may_stay file.inner)) users between c.args.last ms answers
    run))
    (c.files_of.ensures.intact clean) image (λ laid. c.files_of.ensures.left clean laid image may)
