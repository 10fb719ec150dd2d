use Rattle.room_tree.proofs.Common.{take_all, none_on_the_way, one_further, read_then}
use Rattle.room_tree.proofs.finding.node_at.Goals as goal

pub returns-in_default-2-clause-value : goal.returns-in_default-2-clause-value
returns-in_default-2-clause-value g c = λ available laid_out room stand.
    let before = c.child.ensures.frame.call.frame.was_available available in
    let declared = c.loop-name.invariant.frame.call.frame.laid_out before laid_out in
    let none = rw (c.loop-name.invariant.frame.same before laid_out) at
    (rw c.in_default-2.is at (c.in_ok-next.ensures.value available declared)) in
    none_on_the_way (g.S.Shelf.view c.args.shelf.now).records.objects room stand
    c.args.path.now c.loop-name.name-index c.name-item.result c.loop-name.here.id
    (rw (← c.loop-name.invariant.names) c.loop-name-test.true)
    (rw (← c.loop-name.invariant.names) c.name-item.is)
    (c.loop-name.invariant.at before laid_out room stand) none

pub loop-name-preserved : goal.loop-name-preserved
loop-name-preserved g c =
    record {
      frame = read_then _ _ _ _ c.in_ok-next.ensures.frame c.loop-name.invariant.frame;
      there = c.in_ok-next.ensures.there;
      names = c.loop-name.invariant.names;
      at = λ available laid_out room stand.
          let before = c.child.ensures.frame.call.frame.was_available available in
          let declared = c.loop-name.invariant.frame.call.frame.laid_out before laid_out in
          let child = rw (c.loop-name.invariant.frame.same before laid_out) at
          (rw c.in-Some-2.is at (c.in_ok-next.ensures.value available declared)) in
          one_further (g.S.Shelf.view c.args.shelf.now).records.objects room stand c.args.path.now
          c.loop-name.name-index c.name-item.result c.loop-name.here.id c.in-Some-2.next
          (rw (← c.loop-name.invariant.names) c.loop-name-test.true)
          (rw (← c.loop-name.invariant.names) c.name-item.is)
          (c.loop-name.invariant.at before laid_out room stand) child;
      stands = λ available laid_out room stand.
          let before = c.child.ensures.frame.call.frame.was_available available in
          let declared = c.loop-name.invariant.frame.call.frame.laid_out before laid_out in
          let child = rw (c.loop-name.invariant.frame.same before laid_out) at
          (rw c.in-Some-2.is at (c.in_ok-next.ensures.value available declared)) in
          child.0.stands;
    }

pub returns-clause-value : goal.returns-clause-value
returns-clause-value g c = λ available laid_out room stand. (
  rw (← take_all c.loop-name.name-index c.args.path.now (rw (← c.loop-name.invariant.names) c.loop-name-test.false))
      (c.loop-name.invariant.at available laid_out room stand),
  c.loop-name.invariant.stands available laid_out room stand,
)
