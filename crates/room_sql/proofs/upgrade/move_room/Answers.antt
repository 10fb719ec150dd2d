use Rattle.room_sql.proofs.Common.{state, upgraded}
use Rattle.room_sql.proofs.Frames.{was_clean, ok_then, both}
use Rattle.room_sql.proofs.upgrade.move_room.Goals as goal

pub returns-clause-ok : goal.returns-clause-ok
returns-clause-ok g c clean =
    let moved = c.in_ok-move_slots.ensures.ok (was_clean c.put_next.ensures.frame.crash clean) in
    let put = both c.put_next.result _ _ (c.put_next.ensures.ok clean) (c.put_next.ensures.beside clean) in
    ok_then c.put_next.result put (λ done. (
      moved.0,
      λ room sound is.
          let it = moved.1 room sound in
          let put = done.0 it.room in
          let beside = done.1 it.room in
          upgraded (state g.S.Store c.args.tx.now.conn.now) (state g.S.Store c.move_slots.new.tx.conn.now)
          (state g.S.Store c.put_next.new.tx.conn.now) c.args.next it is put.0.steps put.1 beside.0
          (beside.1 it.schema),
    ))
