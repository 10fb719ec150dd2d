use Rattle.room_tree.proofs.Common.{◌∙◌, [], ◌∷◌, check_absent, walk}
use Rattle.room_tree.proofs.Checking.{skip, stop, first_alone, is_absent, not_absent}
use Rattle.room_tree.proofs.Stops.{handed_on, refused_as, at_head}
use Rattle.room_tree.proofs.reaching.folder_of_free.Goals as goal

pub returns-in_err-walk_path-clause-value : goal.returns-in_err-walk_path-clause-value
returns-in_err-walk_path-clause-value g c = λ available laid_out t e room stand.
    handed_on _ _ _ c.from_residual.result c.from_residual.ensures.1
    (at_head (walk room c.args.subject.now c.args.path.now) (check_absent room c.args.path.now ∷ [])
    _ (c.in_err-walk_path.ensures.value available laid_out t e room stand))

pub returns-in-Found-clause-value : goal.returns-in-Found-clause-value
returns-in-Found-clause-value g c = λ available laid_out t e room stand.
    let path = c.args.path.now in
    let ended = rw c.in-Found.is at (c.in_ok-walk_path.ensures.value available laid_out t e room stand) in
    refused_as c.of.result _ c.of.ensures
    (skip (walk room c.args.subject.now path) (check_absent room path ∷ []) ended.0
    ∙ stop (check_absent room path) [] _ (not_absent ended.1.0))

pub returns-clause-value : goal.returns-clause-value
returns-clause-value g c = λ available laid_out t e room stand.
    let path = c.args.path.now in
    let ended = rw c.in-Absent.is at (c.in_ok-walk_path.ensures.value available laid_out t e room stand) in (
      skip (walk room c.args.subject.now path) (check_absent room path ∷ []) ended.0
          ∙ first_alone (check_absent room path) ∙ is_absent room path ended.1.0,
      ended.1.1,
    )
