use Rattle.room_tree.proofs.Common.{◌∙◌, use_checks}
use Rattle.room_tree.proofs.Checking.{none_passes, found_checks}
use Rattle.room_tree.proofs.Stops.{handed_on, in_front, past_front}
use Rattle.room_tree.proofs.InTurn.{both_tell}
use Rattle.room_tree.proofs.reaching.reach_to_use.Goals as goal

pub returns-in_err-loaded-clause-value : goal.returns-in_err-loaded-clause-value
returns-in_err-loaded-clause-value g c = λ available laid_out t e room stand.
    let path = c.args.path.now in
    handed_on _ _ _ c.from_residual.result c.from_residual.ensures.1
    (in_front (found_checks room c.args.subject.now path)
    (use_checks room c.args.subject.now path c.args.only c.args.wanted) _
    (c.in_err-loaded.ensures.value available laid_out t e room stand))

pub returns-in_err-check_use-clause-value : goal.returns-in_err-check_use-clause-value
returns-in_err-check_use-clause-value g c = λ available laid_out t e room stand.
    let path = c.args.path.now in
    let told = both_tell _ _ c.reach.ensures.frame c.check_use.ensures.frame
    c.in_ok-loaded.ensures.value c.in_err-check_use.ensures.value available laid_out t e room stand in
    handed_on _ _ _ c.from_residual-in_err-check_use.result c.from_residual-in_err-check_use.ensures.1
    (past_front (found_checks room c.args.subject.now path)
    (use_checks room c.args.subject.now path c.args.only c.args.wanted) _ told.0.0
    (told.1 told.0.1))

pub returns-clause-value : goal.returns-clause-value
returns-clause-value g c = λ available laid_out t e room stand.
    let path = c.args.path.now in
    let told = both_tell _ _ c.reach.ensures.frame c.check_use.ensures.frame
    c.in_ok-loaded.ensures.value c.in_ok-check_use.ensures.value available laid_out t e room stand in (
      none_passes (found_checks room c.args.subject.now path)
          (use_checks room c.args.subject.now path c.args.only c.args.wanted) told.0.0
          ∙ (told.1 told.0.1).0,
      told.0.1,
    )
