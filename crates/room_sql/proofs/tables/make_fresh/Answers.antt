use Rattle.room_sql.proofs.Common.{refl, state, beside_itself, made_room, filled_six}
use Rattle.room_sql.proofs.Frames.{was_clean, ok_then}
use Rattle.room_sql.proofs.tables.make_fresh.Goals as goal

pub returns-clause-ok : goal.returns-clause-ok
returns-clause-ok g c clean =
    let early = was_clean c.fill.ensures.frame.crash clean in
    ok_then c.fill.result (c.fill.ensures.ok clean) (λ all none.
    let made = c.in_ok-make_tables.ensures.ok early none in
    let last = all (made_room _ made).0 made.sound in
    filled_six _ _ c.args.root.now c.args.entries.now _ made last.0 refl last.1 last.2)

pub returns-clause-spares : goal.returns-clause-spares
returns-clause-spares g c clean =
    let early = was_clean c.fill.ensures.frame.crash clean in
    let before = (state g.S.Store c.args.tx.now.conn.now).now in
    ok_then c.fill.result (c.fill.ensures.spares clean) (λ all none.
    all before none (c.in_ok-make_tables.ensures.spares early before none (beside_itself before)))
