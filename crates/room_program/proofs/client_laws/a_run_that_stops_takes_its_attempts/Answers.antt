use Rattle.room_program.proofs.Common.{inl, refl, image_at, attempts_in}
use Rattle.room_program.proofs.Found.{was_sound}
use Rattle.room_program.proofs.Restarts.{settled}
use Rattle.room_desk.proofs.ClientStreams.{brings_messages, brings_then}
use Rattle.room_program.proofs.ClientFiles.{brings_over, leads_by, stop_takes, still_takes}
use Rattle.room_program.proofs.client_laws.a_run_that_stops_takes_its_attempts.Goals as goal

pub returns-clause-stopped : goal.returns-clause-stopped
returns-clause-stopped g c opened taken between roster users n bound over ms answers left is adopted each run sure may =
    let out = c.store_under.ensures in
    let clean = was_sound _ c.args.last.0.conn _ out sure in
    let brings = brings_then _ taken between c.args.last _ (attempts_in users ms answers)
    (brings_over _ (settled _ (λ file. inl refl)) _ n bound over taken between each)
    (brings_messages _ (settled _ (λ file. inl refl)) users between c.args.last ms answers run) in
    stop_takes _ (λ file. inl refl) (image_at g.S.Start) opened taken c.args.last is adopted left clean _
    (leads_by _ (λ file. inl refl) (image_at g.S.Start) opened taken c.args.last is adopted _ brings clean)
    c.args.last.0.conn.store (λ trees it. it) (out.was_numbered sure) may

pub returns-clause-still : goal.returns-clause-still
returns-clause-still g c left still = still_takes (image_at g.S.Start) left still
