use Rattle.room_program.proofs.Common.{inl, refl, image_at}
use Rattle.room_program.proofs.Restarts.{found_records}
use Rattle.room_program.proofs.Found.{found_database, stopped_holds, closed_holds, was_sound}
use Rattle.room_program.proofs.laws.the_next_run_finds_what_this_one_saw.Goals as goal

pub returns-clause-stop : goal.returns-clause-stop
returns-clause-stop g c is_open sure may is there =
    let out = c.store_off.ensures in
    found_database _ (image_at g.T.Start) _
    (stopped_holds _ (λ file. inl refl) c.args.was (image_at g.T.Start) out.live is_open (out.was_numbered sure) may)
    c.args.opened.now is there

pub returns-clause-closed : goal.returns-clause-closed
returns-clause-closed g c over later closed is_open at is there =
    found_database _ (image_at g.T.Start) _
    (closed_holds _ (λ file. inl refl) c.args.was.conn later.left (image_at g.S.Start) (image_at g.T.Start) closed
    is_open
    (c.args.was.rests is_open) at)
    c.args.opened.now is there

pub returns-clause-shut : goal.returns-clause-shut
returns-clause-shut g c sure laid may is there =
    let out = c.store_off.ensures in
    found_records _ _ c.args.was (image_at g.T.Start) c.args.opened.now (was_sound _ c.args.was.conn _ out sure) laid
    (out.was_numbered sure) may is there
