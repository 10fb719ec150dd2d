use Rattle.room_tree.proofs.Common.{[], ◌∷◌, check_exists, walk}
use Rattle.room_tree.proofs.Checking.{passes_to, missing}
use Rattle.room_tree.proofs.Stops.{handed_on, refused_as, at_head}
use Rattle.room_tree.proofs.reaching.reach.Goals as goal

pub returns-in_err-walk_path-clause-value : goal.returns-in_err-walk_path-clause-value
returns-in_err-walk_path-clause-value g c = λ available laid_out t e room stand.
    handed_on _ _ _ c.from_residual.result c.from_residual.ensures.1
    (at_head (walk room c.args.subject.now c.args.path.now) (check_exists room c.args.path.now ∷ [])
    _ (c.in_err-walk_path.ensures.value available laid_out t e room stand))

pub returns-in-Absent-clause-value : goal.returns-in-Absent-clause-value
returns-in-Absent-clause-value g c = λ available laid_out t e room stand.
    let ended = rw c.in-Absent.is at (c.in_ok-walk_path.ensures.value available laid_out t e room stand) in
    refused_as c.of.result _ c.of.ensures
    (missing room c.args.path.now (walk room c.args.subject.now c.args.path.now) ended.0 ended.1.0)

pub returns-clause-value : goal.returns-clause-value
returns-clause-value g c = λ available laid_out t e room stand.
    let ended = rw c.in-Found.is at (c.in_ok-walk_path.ensures.value available laid_out t e room stand) in (
      passes_to ended.1.0 (walk room c.args.subject.now c.args.path.now) ended.0,
      ended.1.0,
    )
