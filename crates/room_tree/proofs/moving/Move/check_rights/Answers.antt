use Rattle.room_tree.proofs.Common.{◌≡◌, ℕ, ◌-◌, ap, sym, ◌∙◌, [], ◌∷◌, take, length, Path, parent_of, first_refusal}
use Rattle.room_tree.proofs.Common.{check_removal, check_right, right_to_add, object_or_default, kind_of, move_rights}
use Rattle.room_tree.proofs.Checking.{skip, first_alone}
use Rattle.room_tree.proofs.Stops.{handed_on, at_head, passes_by}
use Rattle.room_tree.proofs.InTurn.{both_tell}
use Rattle.room_tree.proofs.moving.Move.check_rights.Goals as goal

pub returns-in_err-check_removal-clause-value : goal.returns-in_err-check_removal-clause-value
returns-in_err-check_removal-clause-value g c = λ available laid_out t e room stand move.
    let path = c.args.path.now in
    handed_on _ _ _ c.from_residual.result c.from_residual.ensures.1
    (at_head (check_removal room c.args.subject.now path)
    (check_right room c.args.subject.now (parent_of c.args.to.now)
    (right_to_add (object_or_default room path).kind) ∷ []) _
    (c.in_err-check_removal.ensures.value available laid_out t e room stand move.loaded move.from))

pub returns-clause-value : goal.returns-clause-value
returns-clause-value g c = λ available laid_out t e room stand move.
    let path = c.args.path.now in
    let told = both_tell _ _ c.check_removal.ensures.frame c.check_right.ensures.frame
    c.in_ok-check_removal.ensures.value c.check_right.ensures.value available laid_out t e room stand in
    let caller = c.args.subject.now in
    let to = c.args.to.now in
    let removal = (told.0 move.loaded move.from).0 in
    let there = move.loaded.is_there in
    let asks : c.right_to_add-wanted.result ≡ right_to_add (object_or_default room path).kind =
    c.right_to_add-wanted.ensures ∙ ap right_to_add there.shows.kind
    ∙ ap (λ o. right_to_add (kind_of o)) (sym there.object_stands) in
    let front : take c.saturating_sub-count.result to ≡ parent_of to =
    ap (λ (n : ℕ). take n to) c.saturating_sub-count.ensures
    ∙ ap (λ (p : Path). take (length p - 1) to) c.names.ensures.value in
    let whole = skip (check_removal room caller path)
    (check_right room caller (parent_of to) (right_to_add (object_or_default room path).kind) ∷ []) removal
    ∙ first_alone (check_right room caller (parent_of to) (right_to_add (object_or_default room path).kind)) in
    passes_by (check_right room caller (parent_of to) c.right_to_add-wanted.result)
    (first_refusal (move_rights room caller path to)) _ c.check_right.result
    (whole ∙ sym (ap (check_right room caller (parent_of to)) asks))
    (told.1 (parent_of to) front move.into)
