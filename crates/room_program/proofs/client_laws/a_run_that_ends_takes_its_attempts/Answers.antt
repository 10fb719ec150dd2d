use Rattle.room_program.proofs.Common.{◌≡◌, inl, refl, image_at, IsUnknown, ActsOn}
use Rattle.room_program.proofs.Keeps.{run_takes}
use Rattle.room_program.proofs.client_laws.a_run_that_ends_takes_its_attempts.Goals as goal

pub returns : goal.returns
returns g c before later words old new status left ran none sees at =
    run_takes _ (image_at g.S.Start) (λ old call new. ActsOn (image_at g.S.Start) call old.left new.left)
    (λ host. host.left) (λ file. inl refl) (λ old new call did. did)
    (λ old e new. IsUnknown e × (new.left ≡ old.left)) (λ old new. new.left ≡ old.left)
    (λ old new e took. took.1) (λ old new failed. failed) before later left none sees at words old new status ran
