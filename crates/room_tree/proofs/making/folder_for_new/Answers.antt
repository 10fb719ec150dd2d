use Rattle.room_tree.proofs.Common.{◌≡◌, ◌-◌, ap, ◌∙◌, [], ◌∷◌, take, length, Path, parent_of, Exist, refuse_if}
use Rattle.room_tree.proofs.Common.{is_root, walk, check_absent, check_right}
use Rattle.room_tree.proofs.Checking.{skip, off_root, none_passes, first_alone}
use Rattle.room_tree.proofs.Stops.{handed_on, past_head, in_front, past_front, at_head}
use Rattle.room_tree.proofs.InTurn.{both_tell}
use Rattle.room_tree.proofs.making.folder_for_new.Goals as goal

pub returns-in_err-above-clause-value : goal.returns-in_err-above-clause-value
returns-in_err-above-clause-value g c = λ available laid_out t e room stand.
    let path = c.args.path.now in
    let caller = c.args.subject.now in
    let right = check_right room caller (parent_of path) c.args.wanted in
    let off = off_root path (rw (← c.names-count.ensures.value) c.if-count-eq0.false) in
    handed_on _ _ _ c.from_residual.result c.from_residual.ensures.1
    (past_head (refuse_if (is_root path) Exist)
    (walk room caller path ∷ check_absent room path ∷ right ∷ []) _ (ap (λ b. refuse_if b Exist) off)
    (in_front (walk room caller path ∷ check_absent room path ∷ []) (right ∷ [])
    _ (c.in_err-above.ensures.value available laid_out t e room stand)))

pub returns-in_err-check_right-clause-value : goal.returns-in_err-check_right-clause-value
returns-in_err-check_right-clause-value g c = λ available laid_out t e room stand.
    let path = c.args.path.now in
    let caller = c.args.subject.now in
    let right = check_right room caller (parent_of path) c.args.wanted in
    let off = off_root path (rw (← c.names-count.ensures.value) c.if-count-eq0.false) in
    let told = both_tell _ _ c.folder_of_free.ensures.frame c.check_right.ensures.frame
    c.in_ok-above.ensures.value c.in_err-check_right.ensures.value available laid_out t e room stand in
    let count : take (length c.names-count.result.now - 1) path ≡ parent_of path =
    ap (λ (p : Path). take (length p - 1) path) c.names-count.ensures.value in
    handed_on _ _ _ c.from_residual-in_err-check_right.result c.from_residual-in_err-check_right.ensures.1
    (past_head (refuse_if (is_root path) Exist)
    (walk room caller path ∷ check_absent room path ∷ right ∷ []) _ (ap (λ b. refuse_if b Exist) off)
    (past_front (walk room caller path ∷ check_absent room path ∷ []) (right ∷ []) _ told.0.0
    (at_head right [] _
    (told.1 (parent_of path) count told.0.1))))

pub returns-clause-value : goal.returns-clause-value
returns-clause-value g c = λ available laid_out t e room stand.
    let path = c.args.path.now in
    let caller = c.args.subject.now in
    let right = check_right room caller (parent_of path) c.args.wanted in
    let off = off_root path (rw (← c.names-count.ensures.value) c.if-count-eq0.false) in
    let told = both_tell _ _ c.folder_of_free.ensures.frame c.check_right.ensures.frame
    c.in_ok-above.ensures.value c.in_ok-check_right.ensures.value available laid_out t e room stand in
    let count : take (length c.names-count.result.now - 1) path ≡ parent_of path =
    ap (λ (p : Path). take (length p - 1) path) c.names-count.ensures.value in (
      skip (refuse_if (is_root path) Exist)
          (walk room caller path ∷ check_absent room path ∷ right ∷ []) (ap (λ b. refuse_if b Exist) off)
          ∙ none_passes (walk room caller path ∷ check_absent room path ∷ []) (right ∷ []) told.0.0 ∙ first_alone right
          ∙ (told.1 (parent_of path) count told.0.1).0,
      told.0.1,
    )
