use Rattle.room_program.proofs.Common.{inl, refl, image_at, attempts_in}
use Rattle.room_program.proofs.Restarts.{settled}
use Rattle.room_desk.proofs.ClientStreams.{brings_messages, brings_then}
use Rattle.room_program.proofs.ClientFiles.{brings_over, told_meanwhile}
use Rattle.room_program.proofs.client_laws.a_client_is_told_of_its_one_run.Goals as goal

pub returns : goal.returns
returns g c start lane past runs found sent later asked command client opened taken between last roster users n bound
    over ms answers held holds steps is adopted each run intact less keeps few ask heard =
    told_meanwhile start lane past sent later asked command client holds keeps few ask heard _ (λ file. inl refl) runs
    found (image_at g.S.Start) opened taken last _ held steps is adopted
    (brings_then _ taken between last _ (attempts_in users ms answers)
    (brings_over _ (settled _ (λ file. inl refl)) _ n bound over taken between each)
    (brings_messages _ (settled _ (λ file. inl refl)) users between last ms answers run)) intact less
