use Rattle.room_tree.proofs.Common.{◌≡◌, ℕ, refl, subst, take, length, get_or, arith, [], get_or_default, take_all}
use Rattle.room_tree.proofs.Common.{read_then, IsLoaded}
use Rattle.room_tree.proofs.Walks.{walk_stopped, walk_goes_on, walk_ends, walk_is_cut, last_is_absent}
use Rattle.room_tree.proofs.Walks.{next_is_there, last_folder, walk_done}
use Rattle.room_tree.proofs.Stops.{handed_on, refused_as}
use Rattle.room_tree.proofs.InTurn.{both_tell}
use Rattle.room_tree.proofs.walking.walk_path.Goals as goal

pub returns-in_default-clause-value : goal.returns-in_default-clause-value
returns-in_default-clause-value g c = λ available laid_out t e room stand.
    absurd (rw c.in_default.is at (c.in_ok-here.ensures.value available laid_out t e room stand))

pub loop-index-init : goal.loop-index-init
loop-index-init g c = record {
  frame = c.in_ok-here.ensures.frame;
  asks = omega (arith, c.load_root.ensures.asks);
  names = c.names-names.ensures.value;
  walked = λ available laid_out t e room stand.
      (refl, rw c.in-Some.is at (c.in_ok-here.ensures.value available laid_out t e room stand), refl);
}

pub returns-in_err-check_way-clause-value : goal.returns-in_err-check_way-clause-value
returns-in_err-check_way-clause-value g c = λ available laid_out t e room stand.
    let path = c.args.path.now in
    let i = c.loop-index.index in
    let told = both_tell _ _ c.loop-index.invariant.frame c.check_way.ensures.frame
    c.loop-index.invariant.walked c.in_err-check_way.ensures.value available laid_out t e room stand in
    let so = told.0 in
    let below = rw c.names-names.ensures.value at c.loop-index-test.true in
    handed_on _ _ _ c.from_residual-in_err-check_way.result c.from_residual-in_err-check_way.ensures.1
    (walk_stopped room c.args.subject.now path i (get_or path i [])
    below (get_or_default path i [] (get_or path i []) below) _ so.0
    (told.1 (take i path) refl so.1))

pub returns-then-index-names-clause-value : goal.returns-then-index-names-clause-value
returns-then-index-names-clause-value g c = λ available laid_out t e room stand.
    let path = c.args.path.now in
    let i = c.loop-index.index in
    let told = both_tell _ _ c.loop-index.invariant.frame
    (read_then _ _ _ _ c.load_child.ensures.frame c.in_ok-check_way.ensures.frame) c.loop-index.invariant.walked
    (both_tell _ _ c.in_ok-check_way.ensures.frame c.load_child.ensures.frame c.in_ok-check_way.ensures.value
    c.in_ok-next.ensures.value) available laid_out t e room stand in
    let so = told.0 in
    let below = rw c.names-names.ensures.value at c.loop-index-test.true in
    refused_as c.of-then-index-names.result _ c.of-then-index-names.ensures
    (walk_is_cut room c.args.subject.now path i c.index-names-index.result below
    (rw (← c.names-names.ensures.value) c.index-names-index.is) so.0
    (told.1.0 (take i path) refl so.1).0
    (rw c.in_default-2.is at (told.1.1 (take i path) so.1))
    (rw (← c.names-names.ensures.value) c.if-index-names.true))

pub loop-index-preserved : goal.loop-index-preserved
loop-index-preserved g c =
    let path = c.args.path.now in
    let i = c.loop-index.index in
    let name = c.index-names-index.result in
    let below = rw c.names-names.ensures.value at c.loop-index-test.true in
    let is = rw c.names-names.ensures.value at c.index-names-index.is in
    record {
      frame = read_then _ _ _ _ c.in_ok-next.ensures.frame
          (read_then _ _ _ _ c.in_ok-check_way.ensures.frame c.loop-index.invariant.frame);
      asks = omega (arith, c.loop-index.invariant.asks, c.check_way.ensures.asks, c.load_child.ensures.asks);
      names = c.loop-index.invariant.names;
      walked = λ available laid_out t e room stand.
          let told = both_tell _ _ c.loop-index.invariant.frame
          (read_then _ _ _ _ c.load_child.ensures.frame c.in_ok-check_way.ensures.frame) c.loop-index.invariant.walked
          (both_tell _ _ c.in_ok-check_way.ensures.frame c.load_child.ensures.frame c.in_ok-check_way.ensures.value
          c.in_ok-next.ensures.value) available laid_out t e room stand in
          let so = told.0 in
          let At : ℕ → Type 0 = λ n. IsLoaded t room (take n path) c.loop-index.here in (
            walk_goes_on room c.args.subject.now path i name below is so.0
                (told.1.0 (take i path) refl so.1).0,
            next_is_there room c.args.subject.now path i name below is (λ p. IsLoaded t room p c.in-Some-2.next)
                (rw c.in-Some-2.is at (told.1.1 (take i path) so.1)),
            (omega arith, subst At (omega arith) so.1),
          );
    }

pub returns-clause-value : goal.returns-clause-value
returns-clause-value g c = λ available laid_out t e room stand.
    let path = c.args.path.now in
    let so = c.loop-index.invariant.walked available laid_out t e room stand in
    let all = rw c.names-names.ensures.value at c.loop-index-test.false in
    let within = rw c.names-names.ensures.value at c.loop-index.auto.index-end in
    let last : c.loop-index.index ≡ length path = omega (arith, all, within) in (
      walk_done room c.args.subject.now path c.loop-index.index so.0 all,
      (rw (← take_all c.loop-index.index path all) so.1, rw (← last) so.2),
    )

pub returns-in_default-2-clause-value : goal.returns-in_default-2-clause-value
returns-in_default-2-clause-value g c = λ available laid_out t e room stand.
    let path = c.args.path.now in
    let i = c.loop-index.index in
    let name = c.index-names-index.result in
    let told = both_tell _ _ c.loop-index.invariant.frame
    (read_then _ _ _ _ c.load_child.ensures.frame c.in_ok-check_way.ensures.frame) c.loop-index.invariant.walked
    (both_tell _ _ c.in_ok-check_way.ensures.frame c.load_child.ensures.frame c.in_ok-check_way.ensures.value
    c.in_ok-next.ensures.value) available laid_out t e room stand in
    let so = told.0 in
    let below = rw c.names-names.ensures.value at c.loop-index-test.true in
    let is = rw c.names-names.ensures.value at c.index-names-index.is in
    let last = rw c.names-names.ensures.value at c.if-index-names.false in
    let nothing = rw c.in_default-2.is at (told.1.1 (take i path) so.1) in (
      walk_ends room c.args.subject.now path i name below is so.0
          (told.1.0 (take i path) refl so.1).0 last,
      (
        last_is_absent room c.args.subject.now path i name below is nothing last,
        rw (← last_folder room c.args.subject.now path i name below is last) so.1,
      ),
    )
