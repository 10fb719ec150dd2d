use Rattle.room_tree.proofs.Common.{◌∙◌, [], ◌∷◌, walk, check_absent}
use Rattle.room_tree.proofs.Checking.{none_passes, found_checks}
use Rattle.room_tree.proofs.Stops.{handed_on, in_front, past_front}
use Rattle.room_tree.proofs.InTurn.{both_tell}
use Rattle.room_tree.proofs.moving.ends_of_move.Goals as goal

pub returns-in_err-found-clause-value : goal.returns-in_err-found-clause-value
returns-in_err-found-clause-value g c = λ available laid_out t e room stand off.
    let caller = c.args.subject.now in
    let to = c.args.to.now in
    handed_on _ _ _ c.from_residual.result c.from_residual.ensures.1
    (in_front (found_checks room caller c.args.path.now) (walk room caller to ∷ check_absent room to ∷ []) _
    (c.in_err-found.ensures.value available laid_out t e room stand off))

pub returns-in_err-into-clause-value : goal.returns-in_err-into-clause-value
returns-in_err-into-clause-value g c = λ available laid_out t e room stand off.
    let path = c.args.path.now in
    let caller = c.args.subject.now in
    let to = c.args.to.now in
    let told = both_tell _ _ c.reach_with_folder.ensures.frame c.folder_of_free.ensures.frame
    c.in_ok-found.ensures.value c.in_err-into.ensures.value available laid_out t e room stand in
    let found = told.0 off in
    handed_on _ _ _ c.from_residual-in_err-into.result c.from_residual-in_err-into.ensures.1
    (past_front (found_checks room caller path) (walk room caller to ∷ check_absent room to ∷ []) _ found.0 (told.1))

pub returns-clause-value : goal.returns-clause-value
returns-clause-value g c = λ available laid_out t e room stand off.
    let path = c.args.path.now in
    let caller = c.args.subject.now in
    let to = c.args.to.now in
    let told = both_tell _ _ c.reach_with_folder.ensures.frame c.folder_of_free.ensures.frame
    c.in_ok-found.ensures.value c.in_ok-into.ensures.value available laid_out t e room stand in
    let found = told.0 off in
    let free = told.1 in (
      none_passes (found_checks room caller path) (walk room caller to ∷ check_absent room to ∷ []) found.0 ∙ free.0,
      record { loaded = found.1.0; from = found.1.1; into = free.1 },
    )
