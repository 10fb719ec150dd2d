use Rattle.room_tree.proofs.Common.{◌≡◌, ◌<◌, ◌^◌, arith, ap, sym, ◌∙◌, ◌∷◌, None, length, parent_of, check_size, Size}
use Rattle.room_tree.proofs.Common.{small_enough, read_then}
use Rattle.room_tree.proofs.Checking.{none_passes, stop, limit_checks, new_checks}
use Rattle.room_tree.proofs.Made.{create_plans}
use Rattle.room_tree.proofs.Stops.{handed_on, in_front, past_front, past_head}
use Rattle.room_tree.proofs.InTurn.{both_tell}
use Rattle.room_tree.proofs.making.plan_create.Goals as goal

pub returns-in_err-above-clause-effect : goal.returns-in_err-above-clause-effect
returns-in_err-above-clause-effect g c = λ available laid_out t e room stand.
    let path = c.args.path.now in
    handed_on _ _ _ c.from_residual.result c.from_residual.ensures.1
    (in_front (new_checks room c.args.subject.now path 0x2)
    (check_size (length c.args.bytes.now) ∷ limit_checks room path)
    _ (c.in_err-above.ensures.value available laid_out t e room stand))

pub returns-in_err-check_size-clause-effect : goal.returns-in_err-check_size-clause-effect
returns-in_err-check_size-clause-effect g c = λ available laid_out t e room stand.
    let path = c.args.path.now in
    let reached = c.in_ok-above.ensures.value available laid_out t e room stand in
    handed_on _ _ _ c.from_residual-in_err-check_size.result c.from_residual-in_err-check_size.ensures.1
    (none_passes (new_checks room c.args.subject.now path 0x2)
    (check_size (length c.args.bytes.now) ∷ limit_checks room path) reached.0
    ∙ stop (check_size (length c.args.bytes.now))
    (limit_checks room path) _ (sym c.in_err-check_size.ensures))

pub returns-in_err-id-clause-effect : goal.returns-in_err-id-clause-effect
returns-in_err-id-clause-effect g c = λ available laid_out t e room stand.
    let path = c.args.path.now in
    let told = both_tell _ _ c.folder_for_new.ensures.frame c.number_for_new.ensures.frame
    c.in_ok-above.ensures.value c.in_err-id.ensures.value available laid_out t e room stand in
    handed_on _ _ _ c.from_residual-in_err-id.result c.from_residual-in_err-id.ensures.1
    (past_front (new_checks room c.args.subject.now path 0x2)
    (check_size (length c.args.bytes.now) ∷ limit_checks room path) _ told.0.0
    (past_head (check_size (length c.args.bytes.now))
    (limit_checks room path) _ (sym c.in_ok-check_size.ensures) (told.1 (parent_of path) told.0.1)))

pub returns-clause-effect : goal.returns-clause-effect
returns-clause-effect g c = λ available laid_out t e room stand.
    let path = c.args.path.now in
    let told = both_tell _ _ c.folder_for_new.ensures.frame
    (read_then _ _ _ _ c.list_for_new.ensures.frame c.in_ok-id.ensures.frame) c.in_ok-above.ensures.value
    (both_tell _ _ c.in_ok-id.ensures.frame c.list_for_new.ensures.frame c.in_ok-id.ensures.value
    c.in_ok-list.ensures.value) available laid_out t e room stand in
    let reached = told.0 in
    let number = told.1.0 (parent_of path) reached.1 in
    let given = told.1.1 (parent_of path) reached.1 in
    let size : check_size (length c.args.bytes.now) ≡ None = sym c.in_ok-check_size.ensures in
    let fits : length c.args.bytes.now < 2 ^ 32 = omega (arith, small_enough room (length c.args.bytes.now) size) in
    create_plans c.args.bytes.now
    c.in_ok-list.list c.in_ok-copy.copy _ stand c.in_ok-above.ensures.lawful reached.0 size reached.1
    number c.in_ok-node.ensures given
    (c.in_ok-copy.ensures.items_if_clones_equal (λ x y is. is))
    c.in_ok-changes.ensures (ap Size (c.as_size.ensures fits))
