use Rattle.room_records.proofs.Common.{◌≡◌, ◌∷◌, ◌++◌, ◌+◌, [], ap, sym, ◌∙◌, rules, take, take_more, HasSpaceFor}
use Rattle.room_records.proofs.Lists.{all_append}
use Rattle.room_records.proofs.MemRecords.{spaces_kept, same_push}
use Rattle.room_records.proofs.mem.MemShelf.prepare.Goals as goal

pub loop-change-preserved : goal.loop-change-preserved
loop-change-preserved c =
    let now = c.loop-change in
    let change = c.change-item.result in
    let step = c.in_ok-step.step in
    let items : c.push.new.self.items ≡ now.steps.items ++ step ∷ [] = search rules in
    let front : take (now.change-index + 1) c.args.changes.now
    ≡ take now.change-index c.args.changes.now ++ change ∷ [] =
    take_more c.args.changes.now now.change-index change c.loop-change-test.true
    ∙ ap (λ x. take now.change-index c.args.changes.now ++ x ∷ []) (sym c.change-item.is) in
    record {
      same = c.reserve.ensures.same ∙ now.invariant.same;
      steps = rw (items, front) (same_push now.steps.items (take now.change-index c.args.changes.now)
          step change now.invariant.steps c.in_ok-step.ensures);
      room = rw items (all_append (HasSpaceFor c.reserve.new.self) now.steps.items (step ∷ [])
          (spaces_kept now.self c.reserve.new.self c.reserve.ensures.kept now.steps.items now.invariant.room)
          (c.in_ok-reserve.ensures.space, tt));
    }
