use Rattle.room_tree.proofs.Common.{◌≡◌, refl, ap, ◌∙◌, List, ◌∷◌, ◌++◌, ◌||◌, Option, None, Some, arith, Node}
use Rattle.room_tree.proofs.Common.{object_at, list_under, Inval, first_refusal, refuse_if, is_root, is_at_or_below}
use Rattle.room_tree.proofs.Common.{Refusal, not_root_ends, all_none, Path, Ends, read_then, node_of, end_checks}
use Rattle.room_tree.proofs.Common.{move_rights, move_limits}
use Rattle.room_tree.proofs.Checking.{none_passes}
use Rattle.room_tree.proofs.Renamed.{paths_pass, rename_plans}
use Rattle.room_tree.proofs.Renewed.{is_change}
use Rattle.room_tree.proofs.Stops.{handed_on, in_front, past_front}
use Rattle.room_tree.proofs.InTurn.{both_tell}
use Rattle.room_tree.proofs.moving.plan_rename.Goals as goal

-- the last name of where it goes
end_of_move : (path to : Path) (checks : List (Option Refusal))
    → first_refusal (refuse_if (is_root path || is_root to || is_at_or_below to path) Inval ∷ checks) ≡ None
    → Ends to
end_of_move path to checks none =
    let first = all_none (refuse_if (is_root path || is_root to || is_at_or_below to path) Inval ∷ checks) none in
    not_root_ends to (paths_pass path to first.0).to_below_root

pub returns-in_err-moving-clause-effect : goal.returns-in_err-moving-clause-effect
returns-in_err-moving-clause-effect g c = λ available laid_out t e room stand.
    let path = c.args.path.now in
    let caller = c.args.subject.now in
    let to = c.args.to.now in
    let first = refuse_if (is_root path || is_root to || is_at_or_below to path) Inval
    ∷ (end_checks room caller path to ++ move_rights room caller path to) in
    handed_on _ _ _ c.from_residual.result c.from_residual.ensures.1
    (in_front first (move_limits room path to) _ (c.in_err-moving.ensures.value available laid_out t e room stand))

pub returns-in_err-check_limits-clause-effect : goal.returns-in_err-check_limits-clause-effect
returns-in_err-check_limits-clause-effect g c = λ available laid_out t e room stand.
    let path = c.args.path.now in
    let caller = c.args.subject.now in
    let to = c.args.to.now in
    let first = refuse_if (is_root path || is_root to || is_at_or_below to path) Inval
    ∷ (end_checks room caller path to ++ move_rights room caller path to) in
    let told = both_tell _ _ c.allowed_move.ensures.frame c.check_limits.ensures.frame
    c.in_ok-moving.ensures.value c.in_err-check_limits.ensures.value available laid_out t e room stand in
    let allowed = told.0 in
    handed_on _ _ _ c.from_residual-in_err-check_limits.result c.from_residual-in_err-check_limits.ensures.1
    (past_front first (move_limits room path to) _ allowed.0
    (told.1 path allowed.1))

pub returns-clause-effect : goal.returns-clause-effect
returns-clause-effect g c = λ available laid_out t e room stand.
    let path = c.args.path.now in
    let caller = c.args.subject.now in
    let to = c.args.to.now in
    let first = refuse_if (is_root path || is_root to || is_at_or_below to path) Inval
    ∷ (end_checks room caller path to ++ move_rights room caller path to) in
    let after = read_then _ _ _ _ c.with_list.ensures.frame c.in_ok-list.ensures.frame in
    let told = both_tell _ _ c.allowed_move.ensures.frame
    (read_then _ _ _ _ after c.in_ok-check_limits.ensures.frame) c.in_ok-moving.ensures.value
    (both_tell _ _ c.in_ok-check_limits.ensures.frame after c.in_ok-check_limits.ensures.value
    (both_tell _ _ c.in_ok-list.ensures.frame c.with_list.ensures.frame c.in_ok-list.ensures.value
    c.in_ok-changes.ensures.value)) available laid_out t e room stand in
    let allowed = told.0 in
    let limits = (told.1.0 path allowed.1).0 in
    let lawful = c.in_ok-moving.ensures.lawful in
    let move = c.in_ok-moving.moving in
    let there = allowed.1.loaded.is_there in
    let is : c.into_node-node.result ≡ node_of move.loaded = c.into_node-node.ensures in
    let given = list_under (object_at room path) (t.entries move.into.id) in
    let list = (rw is at (told.1.1.0 path)) there.at there.node_stands in
    rename_plans caller c.in_ok-moved.moved _ stand lawful.0 lawful.1
    (none_passes first (move_limits room path to) allowed.0 ∙ limits) allowed.1
    (λ folder name last. c.in_ok-moved.ensures folder name last
    ∙ ap (λ (n : Node). record n { parent = Some move.into.id; name = Some name }) is)
    c.in_ok-list.list (is_change (t.entries move.loaded.id) given c.in_ok-list.list list)
    (λ at stands kind. told.1.1.1 path (node_of move.loaded) at stands kind) refl

pub returns-in_err-check_limits-clause-asks : goal.returns-in_err-check_limits-clause-asks
returns-in_err-check_limits-clause-asks g c = λ available laid_out t e room stand.
    let told = both_tell _ _ c.allowed_move.ensures.frame c.check_limits.ensures.frame
    c.in_ok-moving.ensures.value c.check_limits.ensures.asks available laid_out t e room stand in
    omega (arith, c.allowed_move.ensures.asks, told.1 c.args.path.now told.0.1)

pub returns-in_err-list-clause-asks : goal.returns-in_err-list-clause-asks
returns-in_err-list-clause-asks g c = λ available laid_out t e room stand.
    let told = both_tell _ _ c.allowed_move.ensures.frame
    (read_then _ _ _ _ c.moved_list.ensures.frame c.in_ok-check_limits.ensures.frame) c.in_ok-moving.ensures.value
    (both_tell _ (λ t room. Unit {0}) c.in_ok-check_limits.ensures.frame c.moved_list.ensures.frame
    c.check_limits.ensures.asks (λ available laid_out t e room stand. tt)) available laid_out t e room stand in
    omega (arith, c.allowed_move.ensures.asks, told.1.0 c.args.path.now told.0.1, c.moved_list.ensures.asks)

pub returns-in_err-moved-clause-asks : goal.returns-in_err-moved-clause-asks
returns-in_err-moved-clause-asks g c = λ available laid_out t e room stand.
    let told = both_tell _ _ c.allowed_move.ensures.frame
    (read_then _ _ _ _ c.moved_list.ensures.frame c.in_ok-check_limits.ensures.frame) c.in_ok-moving.ensures.value
    (both_tell _ (λ t room. Unit {0}) c.in_ok-check_limits.ensures.frame c.moved_list.ensures.frame
    c.check_limits.ensures.asks (λ available laid_out t e room stand. tt)) available laid_out t e room stand in
    omega (arith, c.allowed_move.ensures.asks, told.1.0 c.args.path.now told.0.1, c.moved_list.ensures.asks)

pub returns-in_err-changes-clause-asks : goal.returns-in_err-changes-clause-asks
returns-in_err-changes-clause-asks g c = λ available laid_out t e room stand.
    let after = read_then _ _ _ _ c.with_list.ensures.frame c.in_ok-list.ensures.frame in
    let told = both_tell _ _ c.allowed_move.ensures.frame
    (read_then _ _ _ _ after c.in_ok-check_limits.ensures.frame) c.in_ok-moving.ensures.value
    (both_tell _ _ c.in_ok-check_limits.ensures.frame after c.check_limits.ensures.asks
    (both_tell (λ t room. Unit {0}) _ c.in_ok-list.ensures.frame c.with_list.ensures.frame
    (λ available laid_out t e room stand. tt) c.with_list.ensures.asks)) available laid_out t e room stand in
    let path = c.args.path.now in
    let last = end_of_move path c.args.to.now _ told.0.0 in
    let number : c.in_ok-moved.moved.id ≡ c.in_ok-moving.moving.loaded.id =
    ap (λ (n : Node). n.id) (c.in_ok-moved.ensures last.folder last.name last.is)
    ∙ ap (λ (n : Node). n.id) c.into_node-node.ensures in
    omega (
      arith,
      c.allowed_move.ensures.asks,
      told.1.0 path told.0.1,
      c.moved_list.ensures.asks,
      told.1.1.1 path (rw number told.0.1.loaded.is_there.at),
    )

pub returns-clause-asks : goal.returns-clause-asks
returns-clause-asks g c = λ available laid_out t e room stand.
    let after = read_then _ _ _ _ c.with_list.ensures.frame c.in_ok-list.ensures.frame in
    let told = both_tell _ _ c.allowed_move.ensures.frame
    (read_then _ _ _ _ after c.in_ok-check_limits.ensures.frame) c.in_ok-moving.ensures.value
    (both_tell _ _ c.in_ok-check_limits.ensures.frame after c.check_limits.ensures.asks
    (both_tell (λ t room. Unit {0}) _ c.in_ok-list.ensures.frame c.with_list.ensures.frame
    (λ available laid_out t e room stand. tt) c.with_list.ensures.asks)) available laid_out t e room stand in
    let path = c.args.path.now in
    let last = end_of_move path c.args.to.now _ told.0.0 in
    let number : c.in_ok-moved.moved.id ≡ c.in_ok-moving.moving.loaded.id =
    ap (λ (n : Node). n.id) (c.in_ok-moved.ensures last.folder last.name last.is)
    ∙ ap (λ (n : Node). n.id) c.into_node-node.ensures in
    omega (
      arith,
      c.allowed_move.ensures.asks,
      told.1.0 path told.0.1,
      c.moved_list.ensures.asks,
      told.1.1.1 path (rw number told.0.1.loaded.is_there.at),
    )
