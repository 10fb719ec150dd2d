use Rattle.room_tree.proofs.Common.{◌≡◌, ◌≤◌, ap, sym, ◌∙◌, arith, [], ◌∷◌, None, length, children, nat_lt, Inval}
use Rattle.room_tree.proofs.Common.{NotEmpty, reply_model, refuse_if, is_root, not_refused, all_none}
use borrow.Author.Tests.{ltb-false}
use Rattle.room_tree.proofs.Checking.{none_passes, first_alone, removal_checks}
use Rattle.room_tree.proofs.RowsRemoved.{remove_plans}
use Rattle.room_tree.proofs.Stops.{handed_on, in_front}
use Rattle.room_tree.proofs.InTurn.{both_tell}
use Rattle.room_tree.proofs.removing.plan_remove.Goals as goal

pub returns-in_err-loaded-clause-effect : goal.returns-in_err-loaded-clause-effect
returns-in_err-loaded-clause-effect g c = λ available laid_out t e room stand.
    let path = c.args.path.now in
    handed_on _ _ _ c.from_residual.result c.from_residual.ensures.1
    (in_front (removal_checks room c.args.subject.now path)
    (refuse_if (nat_lt 0 (length (children room path))) NotEmpty ∷ []) _
    (c.in_err-loaded.ensures.value available laid_out t e room stand))

pub returns-in_err-check_empty-clause-effect : goal.returns-in_err-check_empty-clause-effect
returns-in_err-check_empty-clause-effect g c = λ available laid_out t e room stand.
    let path = c.args.path.now in
    let told = both_tell _ _ c.removable.ensures.frame c.count_children.ensures.frame
    c.in_ok-loaded.ensures.value c.in_ok-count.ensures.value available laid_out t e room stand in
    let count = told.1 path told.0.1 in
    let empty = refuse_if (nat_lt 0 (length (children room path))) NotEmpty in
    handed_on _ _ _ c.from_residual-in_err-check_empty.result c.from_residual-in_err-check_empty.ensures.1
    (none_passes (removal_checks room c.args.subject.now path) (empty ∷ []) told.0.0
    ∙ first_alone empty ∙ ap (λ n. refuse_if (nat_lt 0 n) NotEmpty) (sym count) ∙ sym c.in_err-check_empty.ensures)

pub returns-clause-effect : goal.returns-clause-effect
returns-clause-effect g c = λ available laid_out t e room stand.
    let path = c.args.path.now in
    let caller = c.args.subject.now in
    let told = both_tell _ _ c.removable.ensures.frame c.count_children.ensures.frame
    c.in_ok-loaded.ensures.value c.in_ok-count.ensures.value available laid_out t e room stand in
    let count = told.1 path told.0.1 in
    let first = removal_checks room caller path in
    let empty = refuse_if (nat_lt 0 (length (children room path))) NotEmpty in
    let alone : empty ≡ None =
    ap (λ n. refuse_if (nat_lt 0 n) NotEmpty) (sym count) ∙ sym c.in_ok-check_empty.ensures in
    let passed = none_passes first (empty ∷ []) told.0.0 ∙ first_alone empty ∙ alone in
    let few : length (children room path) ≤ 0 = ltb-false 0 (length (children room path))
    (not_refused (nat_lt 0 (length (children room path))) NotEmpty alone) in
    let none : length (children room path) ≡ 0 = omega (arith, few) in
    let root_off = not_refused (is_root path) Inval (all_none first told.0.0).0 in
    remove_plans caller c.in_ok-outcome.outcome stand told.0.1 passed root_off c.in_ok-loaded.ensures.lawful none
    c.in_ok-outcome.ensures.changes (ap reply_model c.in_ok-outcome.ensures.reply)
