use Rattle.room_tree.proofs.Common.{◌≡◌, ℕ, refl, ◌+◌, ◌-◌, ◌<◌, ◌≤◌, ap, sym, ◌∙◌, subst, arith, List, [], ◌∷◌, ◌++◌}
use Rattle.room_tree.proofs.Common.{length, append-nil, append_assoc, length-append, Some, File, Change, PutEntries}
use Rattle.room_tree.proofs.Common.{Node, max_names, Name, Path, ObjectRecords, Records, IsChild, name_of, all_at}
use Rattle.room_tree.proofs.Common.{read_then, some_is}
use Rattle.room_tree.proofs.Below.{at_child, children_apart, itself_counts}
use Rattle.room_tree.proofs.Depths.{child_path}
use Rattle.room_tree.proofs.EntriesAdded.{adds_none, adds_more, adds_one}
use Rattle.room_tree.proofs.InTurn.{both_tell}
use Rattle.room_tree.proofs.RenewingParts.{child_stays, renews_child}
use Rattle.room_tree.proofs.RenewingChildren.{renews_lowest, renews_file, none_so_far, one_more_so_far, all_so_far}
use Rattle.room_tree.proofs.renewing.+renew_within.Goals as goal

fewer_levels : (path : Path) (name : Name) (levels : ℕ) → 0 < levels
    → max_names ≤ length path + levels → max_names ≤ length (path ++ name ∷ []) + (levels - 1)
fewer_levels path name levels some deep = omega (arith, length-append path (name ∷ []), some, deep)

file_there : (t : ObjectRecords) (child : Node) → t.node child.id ≡ Some child
    → child.kind ≡ File → (node : Node) → t.node child.id ≡ Some node → node.kind ≡ File
file_there t child stands file node is = ap (λ (n : Node). n.kind) (some_is node child (sym is ∙ stands)) ∙ file

pub returns-then-levels-eq0-clause-value : goal.returns-then-levels-eq0-clause-value
returns-then-levels-eq0-clause-value g m c = λ available laid_out t e room stand path at file deep. record {
  added = [];
  goes_on = sym (append-nil c.args.out.now.items);
  renews = renews_lowest stand path c.args.list.now (omega (arith, c.if-levels-eq0.true, deep));
}

pub returns-in-File-clause-value : goal.returns-in-File-clause-value
returns-in-File-clause-value g m c = λ available laid_out t e room stand path at file deep. record {
  added = [];
  goes_on = sym (append-nil c.args.out.now.items);
  renews = renews_file stand path c.args.list.now c.args.id at (file c.in-File.is);
}

pub loop-node-init : goal.loop-node-init
loop-node-init g m c = record {
  frame = c.in_ok-nodes.ensures.frame;
  children = λ available laid_out t e room stand.
      rw c.deref-node-items.ensures.value
      (rw (← e) (c.in_ok-nodes.ensures.value available laid_out));
  renews = λ available laid_out t e room stand path at deep.
      none_so_far stand path c.args.list.now c.args.out.now.items;
  adds = adds_none c.args.out.now.items c.args.out.now.items refl;
  asks = λ available laid_out t e room stand path at. omega (arith, c.children.ensures.asks);
}

pub returns-clause-value : goal.returns-clause-value
returns-clause-value g m c = λ available laid_out t e room stand path at file deep.
    all_so_far stand path c.args.list.now c.args.out.now.items c.args.id
    c.deref-node-items.result.now c.loop-node.node-index c.loop-node.out.items at
    (c.loop-node.invariant.children available laid_out t e room stand) c.loop-node-test.false
    (c.loop-node.invariant.renews available laid_out t e room stand path at deep)

pub loop-node-preserved-in_default-2 : goal.loop-node-preserved-in_default-2
loop-node-preserved-in_default-2 g m c =
    let items = c.deref-node-items.result.now in
    let i = c.loop-node.node-index in
    let child = c.node-item.result in
    record {
      frame = read_then _ _ _ _ c.in_ok-renewed.ensures.frame c.loop-node.invariant.frame;
      children = λ available laid_out t e room stand.
          c.loop-node.invariant.children (c.renewed_list.ensures.frame.call.frame.was_available available)
          laid_out t e room stand;
      renews = λ available laid_out t e room stand path at deep.
          let before = c.renewed_list.ensures.frame.call.frame.was_available available in
          let declared = c.loop-node.invariant.frame.call.frame.laid_out before laid_out in
          let same = ap (λ (r : Records). r.objects) (c.loop-node.invariant.frame.same before laid_out) ∙ e in
          let are = c.loop-node.invariant.children before laid_out t e room stand in
          let Child : Node → Type 0 = λ n. IsChild t c.args.id n in
          let is_child : Child child =
          subst Child (sym c.node-item.is) (all_at Child items i child are.each c.loop-node-test.true) in
          let here = child_path stand path c.args.id child at is_child in
          let told = c.in_ok-renewed.ensures.value available declared t same
          room stand (path ++ name_of child ∷ []) here is_child.stands in
          one_more_so_far stand path c.args.list.now c.args.out.now.items
          c.args.id items i child c.loop-node.out.items c.loop-node.out.items [] are
          c.loop-node-test.true c.node-item.is
          (c.loop-node.invariant.renews before laid_out t e room stand path at deep)
          (child_stays t room stand path c.args.list.now (name_of child) child.id here (rw c.in_default-2.is at told))
          (sym (append-nil c.loop-node.out.items));
      adds = c.loop-node.invariant.adds;
      asks = λ available laid_out t e room stand path at.
          let told = at_child _ (λ t room. Unit {0}) c.args.id items i child c.loop-node.invariant.frame
          c.renewed_list.ensures.frame c.loop-node.invariant.children c.loop-node.invariant.asks
          (λ available laid_out t e room stand. tt) c.loop-node-test.true
          c.node-item.is available laid_out t e room stand path at in
          omega (arith, c.renewed_list.ensures.asks, told.0 path at, told.2.more, told.2.some);
    }

pub loop-node-preserved : goal.loop-node-preserved
loop-node-preserved g m c =
    let items = c.deref-node-items.result.now in
    let i = c.loop-node.node-index in
    let child = c.node-item.result in
    let renewed = c.in-Some.renewed in
    let read = c.renew_within.ensures.frame.call in
    record {
      frame = read_then _ _ _ _ c.in_ok-renew_within.ensures.frame
          (read_then _ _ _ _ c.in_ok-renewed.ensures.frame c.loop-node.invariant.frame);
      children = λ available laid_out t e room stand.
          c.loop-node.invariant.children
          (c.renewed_list.ensures.frame.call.frame.was_available (read.frame.was_available available)) laid_out t e
          room stand;
      renews = λ available laid_out t e room stand path at deep.
          let then_there = read.frame.was_available available in
          let before = c.renewed_list.ensures.frame.call.frame.was_available then_there in
          let declared = c.loop-node.invariant.frame.call.frame.laid_out before laid_out in
          let same = ap (λ (r : Records). r.objects) (c.loop-node.invariant.frame.same before laid_out) ∙ e in
          let then_declared = c.renewed_list.ensures.frame.call.frame.laid_out then_there declared in
          let then_same =
          ap (λ (r : Records). r.objects) (c.renewed_list.ensures.frame.same then_there declared) ∙ same in
          let are = c.loop-node.invariant.children before laid_out t e room stand in
          let Child : Node → Type 0 = λ n. IsChild t c.args.id n in
          let is_child : Child child =
          subst Child (sym c.node-item.is) (all_at Child items i child are.each c.loop-node-test.true) in
          let name = name_of child in
          let here = child_path stand path c.args.id child at is_child in
          let told = rw c.in-Some.is at (c.in_ok-renewed.ensures.value then_there
          declared t same room stand (path ++ name ∷ []) here is_child.stands) in
          let below = c.in_ok-renew_within.ensures.value available
          then_declared t then_same room stand (path ++ name ∷ []) here
          (file_there t child is_child.stands)
          (fewer_levels path name c.args.levels (omega (arith, c.if-levels-eq0.false)) deep) in
          let put : List Change = PutEntries child.id renewed ∷ [] in
          one_more_so_far stand path c.args.list.now c.args.out.now.items
          c.args.id items i child c.loop-node.out.items _ (below.added ++ put) are
          c.loop-node-test.true c.node-item.is
          (c.loop-node.invariant.renews before laid_out t e room stand path at deep)
          (renews_child t room path c.args.list.now name stand.rules child.id here renewed
          below.added told.0 told.1 (rw (← c.as_slice.ensures.value) below.renews))
          (c.in_ok-add_change.ensures.added ∙ ap (λ l. l ++ put) below.goes_on
          ∙ append_assoc c.loop-node.out.items below.added put);
      adds = adds_more c.args.out.now.items c.loop-node.out.items _ c.loop-node.invariant.adds
          (adds_more c.loop-node.out.items _ _ c.renew_within.ensures.adds
          (adds_one _ _ child.id renewed c.in_ok-add_change.ensures.added));
      asks = λ available laid_out t e room stand path at.
          let after = both_tell (λ t room. Unit {0}) _ c.in_ok-renewed.ensures.frame c.renew_within.ensures.frame
          (λ available laid_out t e room stand. tt) c.renew_within.ensures.asks in
          let told = at_child _ _ c.args.id items i child c.loop-node.invariant.frame
          (read_then _ _ _ _ c.renew_within.ensures.frame c.in_ok-renewed.ensures.frame)
          c.loop-node.invariant.children c.loop-node.invariant.asks after c.loop-node-test.true
          c.node-item.is available laid_out t e room stand path at in
          omega (
            arith,
            c.renewed_list.ensures.asks,
            told.0 path at,
            told.1.1 (path ++ name_of child ∷ []) told.2.at,
            told.2.more,
          );
    }

pub returns-then-levels-eq0-clause-asks : goal.returns-then-levels-eq0-clause-asks
returns-then-levels-eq0-clause-asks g m c = λ available laid_out t e room stand path at.
    omega (arith, itself_counts stand path c.args.id at)

pub returns-in-File-clause-asks : goal.returns-in-File-clause-asks
returns-in-File-clause-asks g m c = λ available laid_out t e room stand path at.
    omega (arith, itself_counts stand path c.args.id at)

pub returns-in_err-nodes-clause-asks : goal.returns-in_err-nodes-clause-asks
returns-in_err-nodes-clause-asks g m c = λ available laid_out t e room stand path at.
    omega (arith, c.children.ensures.asks, itself_counts stand path c.args.id at)

pub returns-in_err-renewed-clause-asks : goal.returns-in_err-renewed-clause-asks
returns-in_err-renewed-clause-asks g m c = λ available laid_out t e room stand path at.
    let child = c.node-item.result in
    let told = at_child _ (λ t room. Unit {0}) c.args.id c.deref-node-items.result.now c.loop-node.node-index child
    c.loop-node.invariant.frame c.renewed_list.ensures.frame c.loop-node.invariant.children c.loop-node.invariant.asks
    (λ available laid_out t e room stand. tt) c.loop-node-test.true c.node-item.is
    available laid_out t e room stand path at in
    omega (arith, c.renewed_list.ensures.asks, told.0 path at, told.2.more, told.2.some, told.2.apart)

pub returns-in_err-renew_within-clause-asks : goal.returns-in_err-renew_within-clause-asks
returns-in_err-renew_within-clause-asks g m c = λ available laid_out t e room stand path at.
    let child = c.node-item.result in
    let after = both_tell (λ t room. Unit {0}) _ c.in_ok-renewed.ensures.frame c.renew_within.ensures.frame
    (λ available laid_out t e room stand. tt) c.renew_within.ensures.asks in
    let told = at_child _ _ c.args.id c.deref-node-items.result.now c.loop-node.node-index child
    c.loop-node.invariant.frame (read_then _ _ _ _ c.renew_within.ensures.frame c.in_ok-renewed.ensures.frame)
    c.loop-node.invariant.children c.loop-node.invariant.asks after c.loop-node-test.true c.node-item.is
    available laid_out t e room stand path at in
    omega (
      arith,
      c.renewed_list.ensures.asks,
      told.0 path at,
      told.1.1 (path ++ name_of child ∷ []) told.2.at,
      told.2.more,
      told.2.apart,
    )

pub returns-in_err-add_change-clause-asks : goal.returns-in_err-add_change-clause-asks
returns-in_err-add_change-clause-asks g m c = λ available laid_out t e room stand path at.
    let child = c.node-item.result in
    let after = both_tell (λ t room. Unit {0}) _ c.in_ok-renewed.ensures.frame c.renew_within.ensures.frame
    (λ available laid_out t e room stand. tt) c.renew_within.ensures.asks in
    let told = at_child _ _ c.args.id c.deref-node-items.result.now c.loop-node.node-index child
    c.loop-node.invariant.frame (read_then _ _ _ _ c.renew_within.ensures.frame c.in_ok-renewed.ensures.frame)
    c.loop-node.invariant.children c.loop-node.invariant.asks after c.loop-node-test.true c.node-item.is
    available laid_out t e room stand path at in
    omega (
      arith,
      c.renewed_list.ensures.asks,
      told.0 path at,
      told.1.1 (path ++ name_of child ∷ []) told.2.at,
      told.2.more,
      told.2.apart,
    )

pub returns-clause-asks : goal.returns-clause-asks
returns-clause-asks g m c = λ available laid_out t e room stand path at.
    let are = c.loop-node.invariant.children available laid_out t e room stand in
    omega (
      arith,
      c.loop-node.invariant.asks available laid_out t e room stand path at,
      children_apart stand path c.args.id c.deref-node-items.result.now c.loop-node.node-index at
          (are.in_order stand.rules.nodes),
    )
