use Rattle.room_tree.proofs.Common.{ap, ◌∙◌, [], ◌∷◌, Inval, refuse_if, is_root, walk, check_exists, check_removal}
use Rattle.room_tree.proofs.Checking.{skip, off_root, none_passes, first_alone, found_checks}
use Rattle.room_tree.proofs.Stops.{handed_on, at_head, past_head, in_front, past_front}
use Rattle.room_tree.proofs.InTurn.{both_tell}
use Rattle.room_tree.proofs.removing.removable.Goals as goal

pub returns-in_err-found-clause-value : goal.returns-in_err-found-clause-value
returns-in_err-found-clause-value g c = λ available laid_out t e room stand.
    let path = c.args.path.now in
    let caller = c.args.subject.now in
    let off = off_root path (rw (← c.names.ensures.value) c.if-names-eq0.false) in
    handed_on _ _ _ c.from_residual.result c.from_residual.ensures.1
    (past_head (refuse_if (is_root path) Inval) (walk room caller path ∷ check_exists room path
    ∷ check_removal room caller path ∷ []) _ (ap (λ b. refuse_if b Inval) off)
    (in_front (found_checks room caller path) (check_removal room caller path ∷ [])
    _ (c.in_err-found.ensures.value available laid_out t e room stand off)))

pub returns-in_err-check_removal-clause-value : goal.returns-in_err-check_removal-clause-value
returns-in_err-check_removal-clause-value g c = λ available laid_out t e room stand.
    let path = c.args.path.now in
    let caller = c.args.subject.now in
    let off = off_root path (rw (← c.names.ensures.value) c.if-names-eq0.false) in
    let told = both_tell _ _ c.reach_with_folder.ensures.frame c.check_removal.ensures.frame
    c.in_ok-found.ensures.value c.in_err-check_removal.ensures.value available laid_out t e room stand in
    let found = told.0 off in
    handed_on _ _ _ c.from_residual-in_err-check_removal.result c.from_residual-in_err-check_removal.ensures.1
    (past_head (refuse_if (is_root path) Inval) (walk room caller path ∷ check_exists room path
    ∷ check_removal room caller path ∷ []) _ (ap (λ b. refuse_if b Inval) off)
    (past_front (found_checks room caller path) (check_removal room caller path ∷ []) _ found.0
    (at_head (check_removal room caller path) [] _
    (told.1 found.1.0 found.1.1))))

pub returns-clause-value : goal.returns-clause-value
returns-clause-value g c = λ available laid_out t e room stand.
    let path = c.args.path.now in
    let caller = c.args.subject.now in
    let off = off_root path (rw (← c.names.ensures.value) c.if-names-eq0.false) in
    let told = both_tell _ _ c.reach_with_folder.ensures.frame c.check_removal.ensures.frame
    c.in_ok-found.ensures.value c.in_ok-check_removal.ensures.value available laid_out t e room stand in
    let found = told.0 off in (
      skip (refuse_if (is_root path) Inval) (walk room caller path ∷ check_exists room path
          ∷ check_removal room caller path ∷ []) (ap (λ b. refuse_if b Inval) off)
          ∙ none_passes (found_checks room caller path)
          (check_removal room caller path ∷ []) found.0 ∙ first_alone (check_removal room caller path)
          ∙ (told.1 found.1.0 found.1.1).0,
      found.1.0,
    )
