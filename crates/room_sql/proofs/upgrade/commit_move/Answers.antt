use Rattle.room_sql.proofs.Common.{◌≡◌, rules, HasCleanDisk, state, survives_then, survives_begin, Upgraded}
use Rattle.room_sql.proofs.Common.{room_schema, IsUpgraded, MayBeMovedWith, by_trees}
use Rattle.room_sql.proofs.Frames.{was_clean}
use Rattle.room_sql.proofs.upgrade.commit_move.Goals as goal

pub returns-clause-frame : goal.returns-clause-frame
returns-clause-frame g c =
    let old = c.args.conn.now in
    let last = c.move_room.new.tx.conn.now in
    let begun = c.transaction-tx.ensures.begun in
    let ran = λ (clean : HasCleanDisk (state g.S.Store last)). rw begun at (c.in_ok-move_room.ensures.ok clean) in
    let same : c.commit.new.self.0 ≡ c.conn-2-1.given.0 = search rules in
    record {
      mode = search rules;
      was_open = search rules;
      crash = rw (← same) (survives_then (state g.S.Store old) (state g.S.Store last)
          (state g.S.Store c.commit.new.self.0) _ _ (MayBeMovedWith c.args.next (state g.S.Store old).now)
          (λ _ db none. absurd none)
          (λ clean db is next room.
          let it = ran (was_clean c.commit.ensures.survives clean) in
          let done = it.1 room (c.schema-live.ensures.live it.0).0 next in
          by_trees (room_schema Upgraded) (IsUpgraded (state g.S.Store old).now)
          (state g.S.Store last).now db done.schema is done)
          (survives_begin g.S.Store old (state g.S.Store last) _ (rw begun at c.move_room.ensures.frame.crash))
          c.commit.ensures.survives);
    }
