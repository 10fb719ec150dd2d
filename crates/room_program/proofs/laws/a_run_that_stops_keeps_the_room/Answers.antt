use Rattle.room_program.proofs.Common.{inl, refl, image_at}
use Rattle.room_program.proofs.Found.{stopped_holds, was_sound}
use Rattle.room_program.proofs.Restarts.{keeps_room, keeps_room_or_more, report_still}
use Rattle.room_program.proofs.Streams.{serves_each}
use Rattle.room_program.proofs.laws.a_run_that_stops_keeps_the_room.Goals as goal

pub returns-clause-there : goal.returns-clause-there
returns-clause-there g c opened taken roster count bound over left is adopted each sure is_open may =
    let out = c.store_under.ensures in
    let clean = was_sound _ c.args.last.0.conn _ out sure in
    keeps_room _ (image_at g.S.Start) left opened taken c.args.last _ is adopted clean
    ((serves_each _ _ bound taken count over _ each).run clean) is_open
    (stopped_holds _ (λ file. inl refl) c.args.last.0 left out.live is_open (out.was_numbered sure) may)

pub returns-clause-report : goal.returns-clause-report
returns-clause-report g c opened taken kind users old new done left is adopted writes sure may =
    let out = c.store_under.ensures in
    report_still _ (image_at g.S.Start) left opened taken c.args.last is adopted (λ file. inl refl) kind users old new
    done writes (was_sound _ c.args.last.0.conn _ out sure) c.args.last.0.conn.store (λ trees it. it)
    (out.was_numbered sure) may

pub returns-clause-shut : goal.returns-clause-shut
returns-clause-shut g c opened taken rosters left is adopted answers sure may =
    let out = c.store_under.ensures in
    keeps_room_or_more _ (image_at g.S.Start) left opened taken c.args.last rosters is adopted
    (was_sound _ c.args.last.0.conn _ out sure) answers c.args.last.0.conn.store (λ trees it. it)
    (out.was_numbered sure) may
