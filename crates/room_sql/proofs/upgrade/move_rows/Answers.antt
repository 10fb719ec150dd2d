use Rattle.room_sql.proofs.Common.{◌≡◌, true, refl, rules, arith}
use Rattle.room_sql.proofs.Frames.{was_clean, inside_then, inside_ok}
use Rattle.room_sql.proofs.upgrade.move_rows.Goals as goal

pub rows-init : goal.rows-init
rows-init g c = record {
  frame = search rules;
  moving = λ clean before it. it;
  fewer = λ clean before it. omega arith;
}

pub rows-preserved : goal.rows-preserved
rows-preserved g c =
    let inv = c.rows.invariant in
    let more : c.in_ok-move_row.field-0 ≡ true = search rules in
    record {
      frame = inside_ok refl (inside_then inv.frame c.in_ok-move_row.ensures.frame);
      moving = λ clean before it.
          let early = was_clean c.move_row.ensures.frame.crash clean in
          rw more at (c.in_ok-move_row.ensures.ok clean before (inv.moving early before it));
      fewer = λ clean before it.
          let early = was_clean c.move_row.ensures.frame.crash clean in
          let one = c.in_ok-move_row.ensures.fewer clean before (inv.moving early before it) more in
          let were = inv.fewer early before it in
          omega (arith, one, were);
    }

pub returns-clause-ok : goal.returns-clause-ok
returns-clause-ok g c clean before it =
    let all = c.rows.invariant.fewer clean before it in
    let end = c.rows.auto.counter-end in
    let last = c.rows-test.false in
    omega (arith, all, end, last)
