use Rattle.room_tree.proofs.Common.{sym, ◌∙◌, [], ◌∷◌, check_folder, check_right, prefix_refusal}
use Rattle.room_tree.proofs.Checking.{way_check, skip, stop, first_alone}
use Rattle.room_tree.proofs.Stops.{handed_on, passes_by}
use Rattle.room_tree.proofs.loaded.LoadedObject.check_way.Goals as goal

pub returns-in_err-check_folder-clause-value : goal.returns-in_err-check_folder-clause-value
returns-in_err-check_folder-clause-value g c = λ available laid_out t e room stand at is found.
    let right = check_right room c.args.subject.now at 0x20 in
    handed_on _ _ _ c.from_residual.result c.from_residual.ensures.1
    (way_check found c.args.subject.now
    ∙ stop (check_folder room at) (right ∷ []) _ (sym (c.in_err-check_folder.ensures t room at found)))

pub returns-clause-value : goal.returns-clause-value
returns-clause-value g c = λ available laid_out t e room stand at is found.
    let right = check_right room c.args.subject.now at 0x20 in
    passes_by right (prefix_refusal room c.args.subject.now at) _ c.check_right.result
    (way_check found c.args.subject.now
    ∙ skip (check_folder room at) (right ∷ []) (sym (c.in_ok-check_folder.ensures t room at found)) ∙ first_alone right)
    (c.check_right.ensures.value available laid_out t e room stand at is found)
