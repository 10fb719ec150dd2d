use Rattle.room_sql.proofs.Common.{◌≡◌, ◌∙◌, ◌++◌, ◌<◌, [], ◌∷◌, ◌+◌, length, take, drop, refl, sym, ap, subst, arith}
use Rattle.room_sql.proofs.Common.{take_more, length-drop, nil_from_length, state, steps_more, AfterAll}
use Rattle.room_sql.proofs.Frames.{was_clean, inside_then, inside_err}
use Rattle.room_sql.proofs.NodeRows.{next_change}
use Rattle.room_sql.proofs.commits.apply_all.Goals as goal

pub loop-change-preserved : goal.loop-change-preserved
loop-change-preserved g c =
    let xs = c.args.changes.now in
    let k = c.loop-change.change-index in
    let item = c.change-item.result in
    let inv = c.loop-change.invariant in
    let within : k < length xs = omega arith in
    let more : take (k + 1) xs ≡ take k xs ++ item ∷ [] =
    take_more xs k item within ∙ ap (λ x. take k xs ++ x ∷ []) (sym c.change-item.is) in
    record {
      frame = inside_then inv.frame c.in_ok-apply_over.ensures.frame;
      done = λ clean room stored.
          let was = inv.done (was_clean c.apply_over.ensures.frame.crash clean) room stored in
          let one = c.in_ok-apply_over.ensures.ok clean was.0.room (was.0.sound c.requires.sound) was.1
          (c.before-kept.ensures.mine _ was.2) in (
            steps_more _ _ _ (take k xs) (take (k + 1) xs) item more was.0 one.0.steps,
            rw c.after-known.ensures one.2,
            c.before-kept.ensures.others _ _ was.2 one.0.entries,
          );
      nodes = λ clean room stored last rest.
          let early = was_clean c.apply_over.ensures.frame.crash clean in
          let was = inv.done early room stored in
          let one = c.in_ok-apply_over.ensures.ok clean was.0.room (was.0.sound c.requires.sound) was.1
          (c.before-kept.ensures.mine _ was.2) in
          let rows = (state g.S.Store c.loop-change.tx.conn.now).now.trees 1 in
          let next = (state g.S.Store c.apply_over.new.tx.conn.now).now.trees 1 in
          inv.nodes early room stored last (subst (λ changes. AfterAll c.loop-change.known changes rows last)
          (sym (next_change k xs item within c.change-item.is)) (
            next,
            one.1,
            one.0.nodes,
            subst (λ object. AfterAll object (drop (k + 1) xs) next last) c.after-known.ensures rest,
          ));
    }

pub returns-in_err-apply_over-clause-frame : goal.returns-in_err-apply_over-clause-frame
returns-in_err-apply_over-clause-frame g c =
    inside_err c.from_residual.ensures.0 (inside_then c.loop-change.invariant.frame c.in_err-apply_over.ensures.frame)

pub returns-clause-nodes : goal.returns-clause-nodes
returns-clause-nodes g c clean room stored =
    let xs = c.args.changes.now in
    let k = c.loop-change.change-index in
    let none : length (drop k xs) ≡ 0 = omega (arith, length-drop k xs) in
    let rows = (state g.S.Store c.loop-change.tx.conn.now).now.trees 1 in
    c.loop-change.invariant.nodes clean room stored rows
    (subst (λ changes. AfterAll c.loop-change.known changes rows rows)
    (sym (nil_from_length (drop k xs) none)) refl)
