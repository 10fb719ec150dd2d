use Rattle.room_program.proofs.Common.{◌≡◌, inl, refl, image_at, IsUnknown, ActsOn}
use Rattle.room_program.proofs.Restarts.{served_run, served_shut, reported_run, untaken_run, no_room_run}
use Rattle.room_program.proofs.Restarts.{unmade_run}
use Rattle.room_program.proofs.laws.a_run_that_ends_keeps_the_room.Goals as goal

pub returns-clause-serve : goal.returns-clause-serve
returns-clause-serve g c db roster first port count read taken over later shelf last done left room listens closed
    is_open at =
    served_run _ (image_at g.S.Start)
    (λ old call new. ActsOn (image_at g.S.Start) call old.left new.left)
    (λ host. host.left) (λ file. inl refl) (λ old new call did. did)
    (λ old e new. IsUnknown e × (new.left ≡ old.left)) (λ old new. new.left ≡ old.left)
    db roster first port count read taken over later shelf last done left room listens closed is_open at

pub returns-clause-serve_shut : goal.returns-clause-serve_shut
returns-clause-serve_shut g c db roster first port count read taken over later shelf last done left room listens closed
    at =
    served_shut _ (image_at g.S.Start)
    (λ old call new. ActsOn (image_at g.S.Start) call old.left new.left)
    (λ host. host.left) (λ file. inl refl) (λ old new call did. did)
    (λ old e new. IsUnknown e × (new.left ≡ old.left)) (λ old new. new.left ≡ old.left)
    db roster first port count read taken over later shelf last done left room listens closed at

pub returns-clause-report : goal.returns-clause-report
returns-clause-report g c db kind users read seen later taken last old new done left room writes gone at =
    reported_run _ (image_at g.S.Start)
    (λ old call new. ActsOn (image_at g.S.Start) call old.left new.left)
    (λ host. host.left) (λ file. inl refl) (λ old new call did. did)
    db kind users read seen later taken last old new done left room writes gone at

pub returns-clause-untaken : goal.returns-clause-untaken
returns-clause-untaken g c db read later why left took none sees at =
    untaken_run _ (image_at g.S.Start)
    (λ old call new. ActsOn (image_at g.S.Start) call old.left new.left)
    (λ host. host.left) (λ file. inl refl) (λ old new call did. did)
    db read later why left took none sees at

pub returns-clause-no_room : goal.returns-clause-no_room
returns-clause-no_room g c db read later left held took none at holds =
    no_room_run _ (image_at g.S.Start)
    (λ old call new. ActsOn (image_at g.S.Start) call old.left new.left)
    (λ host. host.left) (λ file. inl refl) (λ old new call did. did)
    db read later left held took none at holds

pub returns-clause-init : goal.returns-clause-init
returns-clause-init g c db owner group before later why left ends none sees at =
    unmade_run _ (image_at g.S.Start)
    (λ old call new. ActsOn (image_at g.S.Start) call old.left new.left)
    (λ host. host.left) (λ file. inl refl) (λ old new call did. did)
    db owner group before later why left ends none sees at
