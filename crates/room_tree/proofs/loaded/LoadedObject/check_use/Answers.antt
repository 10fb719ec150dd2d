use Rattle.room_tree.proofs.Common.{sym, ap, ◌∙◌, take, length, arith, [], ◌∷◌, take_all, Path, first_refusal}
use Rattle.room_tree.proofs.Common.{check_right, kind_checks, use_checks}
use Rattle.room_tree.proofs.Checking.{first_alone, some_stays, none_passes}
use Rattle.room_tree.proofs.Stops.{handed_on, passes_by}
use Rattle.room_tree.proofs.loaded.LoadedObject.check_use.Goals as goal

pub returns-in_err-check_kind-clause-value : goal.returns-in_err-check_kind-clause-value
returns-in_err-check_kind-clause-value g c = λ available laid_out t e room stand found.
    let path = c.args.path.now in
    let right = check_right room c.args.subject.now path c.args.wanted in
    handed_on _ _ _ c.from_residual.result c.from_residual.ensures.1
    (some_stays (kind_checks room path c.args.only) (right ∷ [])
    _ (sym (c.in_err-check_kind.ensures t room path found)))

pub returns-clause-value : goal.returns-clause-value
returns-clause-value g c = λ available laid_out t e room stand found.
    let path = c.args.path.now in
    let right = check_right room c.args.subject.now path c.args.wanted in
    passes_by right (first_refusal (use_checks room c.args.subject.now path c.args.only c.args.wanted))
    _ c.check_right.result
    (none_passes (kind_checks room path c.args.only) (right ∷ [])
    (sym (c.in_ok-check_kind.ensures t room path found)) ∙ first_alone right)
    (c.check_right.ensures.value available laid_out t e room stand path
    (ap (λ (p : Path). take (length p) path) c.names-count.ensures.value
    ∙ take_all (length path) path (omega arith)) found)
