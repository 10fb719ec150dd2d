use Rattle.room_program.proofs.Common.{◌≡◌, inl, refl, image_at, IsUnknown, ActsOn}
use Rattle.room_program.proofs.Keeps.{run_keeps}
use Rattle.room_program.proofs.running.run_program.Goals as goal

pub returns-clause-files : goal.returns-clause-files
returns-clause-files g c left none sees at =
    run_keeps _ (image_at g.S.Start) (λ old call new. ActsOn (image_at g.S.Start) call old.left new.left)
    (λ host. host.left) (λ file. inl refl) (λ old new call did. did)
    (λ old e new. IsUnknown e × (new.left ≡ old.left)) (λ old new. new.left ≡ old.left)
    (λ old new e took. took.1) (λ old new failed. failed) _ _ left none sees at _ _ _ _ c.run_files.ensures
