use Rattle.room_tree.proofs.Common.{sym, ◌∙◌, ◌++◌, ◌||◌, Inval, refuse_if, is_root, is_at_or_below, end_checks}
use Rattle.room_tree.proofs.Common.{move_rights}
use Rattle.room_tree.proofs.Checking.{skip, stop, none_passes}
use Rattle.room_tree.proofs.Renamed.{paths_pass}
use Rattle.room_tree.proofs.Stops.{handed_on, past_head, in_front, past_front}
use Rattle.room_tree.proofs.InTurn.{both_tell}
use Rattle.room_tree.proofs.moving.allowed_move.Goals as goal

pub returns-in_err-check_paths-clause-value : goal.returns-in_err-check_paths-clause-value
returns-in_err-check_paths-clause-value g c = λ available laid_out t e room stand.
    let path = c.args.path.now in
    let caller = c.args.subject.now in
    let to = c.args.to.now in
    handed_on _ _ _ c.from_residual.result c.from_residual.ensures.1
    (stop (refuse_if (is_root path || is_root to || is_at_or_below to path) Inval)
    (end_checks room caller path to ++ move_rights room caller path to) _
    (sym c.in_err-check_paths.ensures.value))

pub returns-in_err-ends-clause-value : goal.returns-in_err-ends-clause-value
returns-in_err-ends-clause-value g c = λ available laid_out t e room stand.
    let path = c.args.path.now in
    let caller = c.args.subject.now in
    let to = c.args.to.now in
    let passed = sym c.in_ok-check_paths.ensures.value in
    handed_on _ _ _ c.from_residual-in_err-ends.result c.from_residual-in_err-ends.ensures.1
    (past_head (refuse_if (is_root path || is_root to || is_at_or_below to path) Inval)
    (end_checks room caller path to ++ move_rights room caller path to) _ passed
    (in_front (end_checks room caller path to) (move_rights room caller path to) _
    (c.in_err-ends.ensures.value available laid_out t e room stand (paths_pass path to passed).below_root)))

pub returns-in_err-check_rights-clause-value : goal.returns-in_err-check_rights-clause-value
returns-in_err-check_rights-clause-value g c = λ available laid_out t e room stand.
    let path = c.args.path.now in
    let caller = c.args.subject.now in
    let to = c.args.to.now in
    let passed = sym c.in_ok-check_paths.ensures.value in
    let told = both_tell _ _ c.ends_of_move.ensures.frame c.check_rights.ensures.frame
    c.in_ok-ends.ensures.value c.in_err-check_rights.ensures.value available laid_out t e room stand in
    let ended = told.0 (paths_pass path to passed).below_root in
    handed_on _ _ _ c.from_residual-in_err-check_rights.result c.from_residual-in_err-check_rights.ensures.1
    (past_head (refuse_if (is_root path || is_root to || is_at_or_below to path) Inval)
    (end_checks room caller path to ++ move_rights room caller path to) _ passed
    (past_front (end_checks room caller path to) (move_rights room caller path to)
    _ ended.0 (told.1 ended.1)))

pub returns-clause-value : goal.returns-clause-value
returns-clause-value g c = λ available laid_out t e room stand.
    let path = c.args.path.now in
    let caller = c.args.subject.now in
    let to = c.args.to.now in
    let passed = sym c.in_ok-check_paths.ensures.value in
    let told = both_tell _ _ c.ends_of_move.ensures.frame c.check_rights.ensures.frame
    c.in_ok-ends.ensures.value c.in_ok-check_rights.ensures.value available laid_out t e room stand in
    let ended = told.0 (paths_pass path to passed).below_root in (
      skip (refuse_if (is_root path || is_root to || is_at_or_below to path) Inval)
          (end_checks room caller path to ++ move_rights room caller path to) passed
          ∙ none_passes (end_checks room caller path to) (move_rights room caller path to) ended.0
          ∙ (told.1 ended.1).0,
      ended.1,
    )
