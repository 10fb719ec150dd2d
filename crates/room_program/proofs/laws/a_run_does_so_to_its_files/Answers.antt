use Rattle.room_program.proofs.Common.{◌≡◌, inl, refl, image_at, IsUnknown, ActsOn}
use Rattle.room_program.proofs.Found.{served_on, reported_on, made_on, spares, not_made, roster_left, replay_left}
use Rattle.room_program.proofs.Found.{selftest_left}
use Rattle.room_program.proofs.laws.a_run_does_so_to_its_files.Goals as goal

pub returns-clause-serve : goal.returns-clause-serve
returns-clause-serve g c db roster first port count read taken over later shelf last done start past room listens
    closed clean held =
    served_on _ (image_at g.S.Start)
    (λ old call new. ActsOn (image_at g.S.Start) call old.left new.left)
    (λ host. host.left) (λ file. inl refl) (λ old new call did. did)
    start past held (λ old e new. IsUnknown e × (new.left ≡ old.left)) (λ old new. new.left ≡ old.left)
    db roster first port count read taken over later shelf last done room listens closed clean

pub returns-clause-report : goal.returns-clause-report
returns-clause-report g c db kind users read seen later taken last old new done start past room writes gone clean held =
    reported_on _ (image_at g.S.Start)
    (λ old call new. ActsOn (image_at g.S.Start) call old.left new.left)
    (λ host. host.left) (λ file. inl refl) (λ old new call did. did)
    start past held db kind users read seen later taken last old new done room writes gone clean

pub returns-clause-init : goal.returns-clause-init
returns-clause-init g c db owner group before begun later opened closed did made gone clean =
    made_on _ (image_at g.S.Start)
    (λ old call new. ActsOn (image_at g.S.Start) call old.left new.left)
    (λ host. host.left) (λ file. inl refl) (λ old new call did. did)
    db owner group before begun later opened closed did made gone clean

pub returns-clause-untaken : goal.returns-clause-untaken
returns-clause-untaken g c db read later why took =
    spares _ (image_at g.S.Start)
    (λ old call new. ActsOn (image_at g.S.Start) call old.left new.left)
    (λ host. host.left) (λ file. inl refl) (λ old new call did. did)
    db read later why took

pub returns-clause-unmade : goal.returns-clause-unmade
returns-clause-unmade g c db owner group before later why ends =
    not_made _ (image_at g.S.Start)
    (λ old call new. ActsOn (image_at g.S.Start) call old.left new.left)
    (λ host. host.left) (λ file. inl refl) (λ old new call did. did)
    db owner group before later why ends

pub returns-clause-roster : goal.returns-clause-roster
returns-clause-roster g c path before later taken took =
    roster_left _ (image_at g.S.Start)
    (λ old call new. ActsOn (image_at g.S.Start) call old.left new.left)
    (λ host. host.left) (λ file. inl refl) (λ old new call did. did)
    path before later taken took

pub returns-clause-replay : goal.returns-clause-replay
returns-clause-replay g c roster owner group before later input rest old new done ends =
    replay_left _ (image_at g.S.Start)
    (λ old call new. ActsOn (image_at g.S.Start) call old.left new.left)
    (λ host. host.left) (λ file. inl refl) (λ old new call did. did)
    roster owner group before later input rest old new done ends

pub returns-clause-selftest : goal.returns-clause-selftest
returns-clause-selftest g c before later done ends =
    selftest_left _ (image_at g.S.Start)
    (λ old call new. ActsOn (image_at g.S.Start) call old.left new.left)
    (λ host. host.left) (λ file. inl refl) (λ old new call did. did)
    (λ old e new. IsUnknown e × (new.left ≡ old.left)) (λ old new. new.left ≡ old.left)
    (λ old new e took. took.1) (λ old new failed. failed) before later done ends
