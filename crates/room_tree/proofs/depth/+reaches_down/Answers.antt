use Rattle.room_tree.proofs.Common.{◌≡◌, ◌+◌, ◌-◌, refl, ap, sym, ◌∙◌, subst, arith, [], ◌∷◌, ◌++◌, take, take_more}
use Rattle.room_tree.proofs.Common.{take_all, Node, Records, IsChild, name_of, all_at, all_append, read_then}
use Rattle.room_tree.specs.Depths.{StandsBelow}
use Rattle.room_tree.proofs.Below.{at_child, children_apart, itself_counts}
use Rattle.room_tree.proofs.Depths.{itself_below, none_below_file, one_level_more, child_path, none_below_children}
use Rattle.room_tree.proofs.InTurn.{both_tell}
use Rattle.room_tree.proofs.depth.+reaches_down.Goals as goal

pub returns-then-levels-eq0-clause-value : goal.returns-then-levels-eq0-clause-value
returns-then-levels-eq0-clause-value g m c = λ available laid_out t e room stand path node at stands kind.
    rw c.if-levels-eq0.true (itself_below stand path c.args.id node at stands)

pub returns-in-File-clause-value : goal.returns-in-File-clause-value
returns-in-File-clause-value g m c = λ available laid_out t e room stand path node at stands kind.
    none_below_file stand path c.args.id node c.args.levels at
    stands (kind ∙ c.in-File.is) (omega (arith, c.if-levels-eq0.false))

pub loop-node-init : goal.loop-node-init
loop-node-init g m c = record {
  frame = c.in_ok-nodes.ensures.frame;
  children = λ available laid_out t e room stand.
      rw c.deref-node-items.ensures.value
      (rw (← e) (c.in_ok-nodes.ensures.value available laid_out));
  none = λ available laid_out t e room stand path node at stands kind. tt;
  asks = λ available laid_out t e room stand path at. omega (arith, c.children.ensures.asks);
}

pub returns-then-deep-clause-value : goal.returns-then-deep-clause-value
returns-then-deep-clause-value g m c = λ available laid_out t e room stand path node at stands kind.
    let items = c.deref-node-items.result.now in
    let child = c.node-item.result in
    let told = both_tell _ _ c.loop-node.invariant.frame c.reaches_down.ensures.frame
    c.loop-node.invariant.children c.in_ok-deep.ensures.value available laid_out t e room stand in
    let are = told.0 in
    let Child : Node → Type 0 = λ n. IsChild t c.args.id n in
    let is_child : Child child = subst Child (sym c.node-item.is)
    (all_at Child items c.loop-node.node-index child are.each c.loop-node-test.true) in
    let found = told.1 (path ++ name_of child ∷ []) child
    (child_path stand path c.args.id child at is_child) is_child.stands refl in
    one_level_more room path (name_of child) c.args.levels
    (omega (arith, c.if-levels-eq0.false)) (rw c.if-deep.true at found)

pub loop-node-preserved : goal.loop-node-preserved
loop-node-preserved g m c =
    let items = c.deref-node-items.result.now in
    let i = c.loop-node.node-index in
    let child = c.node-item.result in
    record {
      frame = read_then _ _ _ _ c.in_ok-deep.ensures.frame c.loop-node.invariant.frame;
      children = λ available laid_out t e room stand.
          c.loop-node.invariant.children (c.reaches_down.ensures.frame.call.frame.was_available available)
          laid_out t e room stand;
      none = λ available laid_out t e room stand path node at stands kind.
          let before = c.reaches_down.ensures.frame.call.frame.was_available available in
          let declared = c.loop-node.invariant.frame.call.frame.laid_out before laid_out in
          let same = ap (λ (r : Records). r.objects) (c.loop-node.invariant.frame.same before laid_out) ∙ e in
          let are = c.loop-node.invariant.children before laid_out t e room stand in
          let Child : Node → Type 0 = λ n. IsChild t c.args.id n in
          let is_child : Child child =
          subst Child (sym c.node-item.is) (all_at Child items i child are.each c.loop-node-test.true) in
          let found = c.in_ok-deep.ensures.value available declared t same room stand (path ++ name_of child ∷ []) child
          (child_path stand path c.args.id child at is_child) is_child.stands refl in
          let Free : Node → Type 0 = λ n. StandsBelow room (path ++ name_of n ∷ []) (c.args.levels - 1) → ⊥ in
          let more : take (i + 1) items ≡ take i items ++ child ∷ [] =
          take_more items i child c.loop-node-test.true ∙ ap (λ n. take i items ++ n ∷ []) (sym c.node-item.is) in
          rw more (all_append Free (take i items) (child ∷ []) (c.loop-node.invariant.none before laid_out
          t e room stand path node at stands kind) (rw c.if-deep.false at found, tt));
      asks = λ available laid_out t e room stand path at.
          let told = at_child _ _ c.args.id items i child c.loop-node.invariant.frame c.reaches_down.ensures.frame
          c.loop-node.invariant.children c.loop-node.invariant.asks c.reaches_down.ensures.asks c.loop-node-test.true
          c.node-item.is available laid_out t e room stand path at in
          omega (arith, told.0 path at, told.1 (path ++ name_of child ∷ []) told.2.at, told.2.more);
    }

pub returns-clause-value : goal.returns-clause-value
returns-clause-value g m c = λ available laid_out t e room stand path node at stands kind.
    let items = c.deref-node-items.result.now in
    let are = c.loop-node.invariant.children available laid_out t e room stand in
    let none = c.loop-node.invariant.none available laid_out t e room stand path node at stands kind in
    none_below_children stand path c.args.id c.args.levels items at are (omega (arith, c.if-levels-eq0.false))
    (rw (← take_all c.loop-node.node-index items c.loop-node-test.false) none)

pub returns-in_err-nodes-clause-asks : goal.returns-in_err-nodes-clause-asks
returns-in_err-nodes-clause-asks g m c = λ available laid_out t e room stand path at.
    omega (arith, c.children.ensures.asks, itself_counts stand path c.args.id at)

pub returns-in_err-deep-clause-asks : goal.returns-in_err-deep-clause-asks
returns-in_err-deep-clause-asks g m c = λ available laid_out t e room stand path at.
    let child = c.node-item.result in
    let told = at_child _ _ c.args.id c.deref-node-items.result.now c.loop-node.node-index child
    c.loop-node.invariant.frame c.reaches_down.ensures.frame c.loop-node.invariant.children c.loop-node.invariant.asks
    c.reaches_down.ensures.asks c.loop-node-test.true c.node-item.is available laid_out t e room stand path at in
    omega (arith, told.0 path at, told.1 (path ++ name_of child ∷ []) told.2.at, told.2.more, told.2.apart)

pub returns-then-deep-clause-asks : goal.returns-then-deep-clause-asks
returns-then-deep-clause-asks g m c = λ available laid_out t e room stand path at.
    let child = c.node-item.result in
    let told = at_child _ _ c.args.id c.deref-node-items.result.now c.loop-node.node-index child
    c.loop-node.invariant.frame c.reaches_down.ensures.frame c.loop-node.invariant.children c.loop-node.invariant.asks
    c.reaches_down.ensures.asks c.loop-node-test.true c.node-item.is available laid_out t e room stand path at in
    omega (arith, told.0 path at, told.1 (path ++ name_of child ∷ []) told.2.at, told.2.more, told.2.apart)

pub returns-clause-asks : goal.returns-clause-asks
returns-clause-asks g m c = λ available laid_out t e room stand path at.
    let are = c.loop-node.invariant.children available laid_out t e room stand in
    omega (
      arith,
      c.loop-node.invariant.asks available laid_out t e room stand path at,
      children_apart stand path c.args.id c.deref-node-items.result.now c.loop-node.node-index at
          (are.in_order stand.rules.nodes),
    )
