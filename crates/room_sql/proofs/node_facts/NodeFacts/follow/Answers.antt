use Rattle.room_sql.proofs.Common.{◌≡◌, ◌<◌, ◌+◌, length, drop, sym, subst, arith, length-drop, nil_from_length}
use Rattle.room_sql.proofs.Common.{AfterAll}
use Rattle.room_sql.proofs.NodeRows.{next_change}
use Rattle.room_sql.proofs.node_facts.NodeFacts.follow.Goals as goal

pub loop-change-preserved : goal.loop-change-preserved
loop-change-preserved c = λ old new true_of all.
    let xs = c.args.changes.now in
    let k = c.loop-change.change-index in
    let was = c.loop-change.invariant old new true_of all in
    let within : k < length xs = omega arith in
    let next = rw (next_change k xs c.change-item.result within c.change-item.is) at was.2 in (
      next.0,
      c.follow_one.ensures was.0 next.0 was.1 next.1 next.2,
      subst (λ object. AfterAll object (drop (k + 1) xs) next.0 new) (sym c.after-object.ensures) next.3,
    )

pub returns : goal.returns
returns c old new true_of all =
    let xs = c.args.changes.now in
    let k = c.loop-change.change-index in
    let was = c.loop-change.invariant old new true_of all in
    let none : length (drop k xs) ≡ 0 = omega (arith, length-drop k xs) in
    rw (rw (nil_from_length (drop k xs) none) at was.2) was.1
