use Rattle.room_sql.proofs.Common.{◌≡◌, ◌∙◌, ◌≤◌, List, ◌++◌, length, take, drop, sym, ap, subst, arith, state}
use Rattle.room_sql.proofs.Common.{EntryModel, StandForEntries, take_all, length-take-le, length-drop, fills_more}
use Rattle.room_tables.specs.Beside.{Fills}
use Rattle.room_sql.proofs.Bound.{next_batch}
use Rattle.room_sql.proofs.Frames.{was_clean, inside_then, inside_err}
use Rattle.room_sql.proofs.writes.add_entries.Goals as goal

pub loop-batch-preserved : goal.loop-batch-preserved
loop-batch-preserved g c =
    let place = c.loop-batch.place in
    let xs = c.args.entries.now in
    let inv = c.loop-batch.invariant in
    let batch = c.in-Some.batch.now in
    let steps = c.in-Some.ensures.steps in
    let next = next_batch place xs _ batch _ inv.within inv.rest steps.1.0 in
    record {
      frame = inside_then inv.frame c.in_ok-add_batch.ensures.frame;
      size = steps.0 ∙ inv.size;
      rest = next.1;
      within = next.2;
      done = λ clean records was.
          let before = inv.done (was_clean c.add_batch.ensures.frame.crash clean) records was in
          rw next.0 (c.in_ok-add_batch.ensures.ok clean records (take place xs)
          (length-take-le place xs inv.within) before);
      spares = λ clean.
          let before = inv.spares (was_clean c.add_batch.ensures.frame.crash clean) in
          fills_more c.args.id (take c.args.from xs) (take place xs) (take place xs ++ batch) _ _ _ _ next.0 before
          (c.in_ok-add_batch.ensures.spares clean (take place xs) (length-take-le place xs inv.within));
    }

pub returns-clause-ok : goal.returns-clause-ok
returns-clause-ok g c clean records was =
    let xs = c.args.entries.now in
    let place = c.loop-batch.place in
    let none : length (drop place xs) ≡ 0 = ap length (sym c.loop-batch.invariant.rest) ∙ c.in-None.ensures.steps.1.0 in
    let all : length xs ≤ place = omega (arith, length-drop place xs, none) in
    rw take_all at (c.loop-batch.invariant.done clean records was)

pub returns-clause-spares : goal.returns-clause-spares
returns-clause-spares g c clean =
    let xs = c.args.entries.now in
    let place = c.loop-batch.place in
    let none : length (drop place xs) ≡ 0 = ap length (sym c.loop-batch.invariant.rest) ∙ c.in-None.ensures.steps.1.0 in
    let all : length xs ≤ place = omega (arith, length-drop place xs, none) in
    let Grows = λ (l : List EntryModel). Fills 3 (StandForEntries c.args.id (take c.args.from xs))
    (StandForEntries c.args.id l)
    (state g.S.Store c.args.tx.now.conn.now).now (state g.S.Store c.loop-batch.tx.conn.now).now in
    subst Grows (take_all place xs all) (c.loop-batch.invariant.spares clean)

pub returns-in_err-add_batch-clause-frame : goal.returns-in_err-add_batch-clause-frame
returns-in_err-add_batch-clause-frame g c =
    inside_err c.from_residual.ensures.0 (inside_then c.loop-batch.invariant.frame c.in_err-add_batch.ensures.frame)
