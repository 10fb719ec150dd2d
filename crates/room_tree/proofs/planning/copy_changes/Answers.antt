use Rattle.room_tree.proofs.Common.{◌≡◌, ◌∷◌, ◌++◌, ◌+◌, [], ap, sym, ◌∙◌, rules, take, take_more}
use Rattle.room_records.proofs.MemRecords.{same_push}
use Rattle.room_tree.proofs.planning.copy_changes.Goals as goal

pub loop-change-preserved : goal.loop-change-preserved
loop-change-preserved c =
    let now = c.loop-change in
    let change = c.change-item.result in
    let step = c.in_ok-step.step in
    let items : c.push.new.self.items ≡ now.copy.items ++ step ∷ [] = search rules in
    let front : take (now.change-index + 1) c.args.changes.now
    ≡ take now.change-index c.args.changes.now ++ change ∷ [] =
    take_more c.args.changes.now now.change-index change c.loop-change-test.true
    ∙ ap (λ x. take now.change-index c.args.changes.now ++ x ∷ []) (sym c.change-item.is) in
    rw items (rw front (same_push now.copy.items
    (take now.change-index c.args.changes.now) step change now.invariant c.in_ok-step.ensures))
