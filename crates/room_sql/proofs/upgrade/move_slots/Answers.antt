use Rattle.room_sql.proofs.Common.{none_moved, all_moved}
use Rattle.room_sql.proofs.Frames.{was_clean}
use Rattle.room_sql.proofs.upgrade.move_slots.Goals as goal

pub returns-then-branch-clause-ok : goal.returns-then-branch-clause-ok
returns-then-branch-clause-ok g c clean =
    let wide = c.in_ok-make_kept.ensures.beside (was_clean c.move_rows.ensures.frame.crash clean) in (
      wide.0,
      λ room sound.
          let moved = rw c.if-branch.true
          at (c.in_ok-move_rows.ensures.ok clean _ (none_moved _ _ wide.1 room)) in all_moved _ _ moved room sound,
    )
