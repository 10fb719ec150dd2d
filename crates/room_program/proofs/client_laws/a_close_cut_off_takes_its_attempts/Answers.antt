use Rattle.room_program.proofs.Common.{sym, subst, Closes}
use Rattle.room_program.proofs.Restarts.{settled}
use Rattle.room_program.proofs.ClientFiles.{brings_over, close_takes}
use Rattle.room_program.proofs.client_laws.a_close_cut_off_takes_its_attempts.Goals as goal

pub returns : goal.returns
returns g c opened taken last found roster n bound over image same is adopted each at =
    close_takes _ (λ file. g.met.D.Disk.seen_may_stay file.inner) found opened taken last is adopted _
    (brings_over _ (settled _ (λ file. g.met.D.Disk.seen_may_stay file.inner)) _ n bound over taken last each)
    c.closed_off.result
    (subst (λ k. Closes k c.closed_off.result) (sym same) c.closed_off.ensures) image at
