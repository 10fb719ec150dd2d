use Rattle.room_tree.proofs.Common.{ap, sym, ◌∙◌, arith, cond, [], ◌∷◌, None, nat_le, max_children, path_eq, parent_of}
use Rattle.room_tree.proofs.Common.{FolderFull, refuse_if, check_depth, check_folder_full}
use Rattle.room_tree.proofs.Checking.{skip, first_alone}
use Rattle.room_tree.proofs.Renamed.{same_folder, other_folder}
use Rattle.room_tree.proofs.Stops.{handed_on, at_head}
use Rattle.room_tree.proofs.InTurn.{both_tell}
use Rattle.room_tree.proofs.moving.Move.check_limits.Goals as goal

pub returns-in_err-check_depth-clause-value : goal.returns-in_err-check_depth-clause-value
returns-in_err-check_depth-clause-value g c = λ available laid_out t e room stand path move.
    let to = c.args.to.now in
    handed_on _ _ _ c.from_residual.result c.from_residual.ensures.1
    (at_head (check_depth room path to)
    (cond (path_eq (parent_of path) (parent_of to)) None (check_folder_full room (parent_of to)) ∷ []) _
    (c.in_err-check_depth.ensures.value available laid_out t e room stand path move.loaded))

pub returns-then-self-clause-value : goal.returns-then-self-clause-value
returns-then-self-clause-value g c = λ available laid_out t e room stand path move.
    let to = c.args.to.now in
    let depth = (c.in_ok-check_depth.ensures.value available laid_out t e room stand path move.loaded).0 in
    let full = cond (path_eq (parent_of path) (parent_of to)) None (check_folder_full room (parent_of to)) in
    let one = same_folder stand move.from move.into c.if-self.true in (
      skip (check_depth room path to) (full ∷ []) depth ∙ first_alone full
          ∙ ap (λ b. cond b None (check_folder_full room (parent_of to))) one,
      tt,
    )

pub returns-in_err-check_children-clause-value : goal.returns-in_err-check_children-clause-value
returns-in_err-check_children-clause-value g c = λ available laid_out t e room stand path move.
    let to = c.args.to.now in
    let told = both_tell _ _ c.check_depth.ensures.frame c.count_children.ensures.frame
    c.in_ok-check_depth.ensures.value c.in_ok-count.ensures.value available laid_out t e room stand in
    let depth = (told.0 path move.loaded).0 in
    let count = told.1 (parent_of to) move.into in
    let full = cond (path_eq (parent_of path) (parent_of to)) None (check_folder_full room (parent_of to)) in
    let two = other_folder stand move.from move.into c.if-self.false in
    handed_on _ _ _ c.from_residual-in_err-check_children.result c.from_residual-in_err-check_children.ensures.1
    (skip (check_depth room path to) (full ∷ []) depth ∙ first_alone full
    ∙ ap (λ b. cond b None (check_folder_full room (parent_of to))) two
    ∙ ap (λ n. refuse_if (nat_le max_children n) FolderFull) (sym count) ∙ sym c.in_err-check_children.ensures)

pub returns-clause-value : goal.returns-clause-value
returns-clause-value g c = λ available laid_out t e room stand path move.
    let to = c.args.to.now in
    let told = both_tell _ _ c.check_depth.ensures.frame c.count_children.ensures.frame
    c.in_ok-check_depth.ensures.value c.in_ok-count.ensures.value available laid_out t e room stand in
    let depth = (told.0 path move.loaded).0 in
    let count = told.1 (parent_of to) move.into in
    let full = cond (path_eq (parent_of path) (parent_of to)) None (check_folder_full room (parent_of to)) in
    let two = other_folder stand move.from move.into c.if-self.false in (
      skip (check_depth room path to) (full ∷ []) depth ∙ first_alone full
          ∙ ap (λ b. cond b None (check_folder_full room (parent_of to))) two
          ∙ ap (λ n. refuse_if (nat_le max_children n) FolderFull) (sym count) ∙ sym c.in_ok-check_children.ensures,
      tt,
    )

pub returns-in_err-check_depth-clause-asks : goal.returns-in_err-check_depth-clause-asks
returns-in_err-check_depth-clause-asks g c = λ available laid_out t e room stand path move.
    omega (arith, c.check_depth.ensures.asks available laid_out t e room stand path move.loaded)

pub returns-then-self-clause-asks : goal.returns-then-self-clause-asks
returns-then-self-clause-asks g c = λ available laid_out t e room stand path move.
    omega (arith, c.check_depth.ensures.asks available laid_out t e room stand path move.loaded)

pub returns-in_err-count-clause-asks : goal.returns-in_err-count-clause-asks
returns-in_err-count-clause-asks g c = λ available laid_out t e room stand path move.
    let told = both_tell _ (λ t room. Unit {0}) c.in_ok-check_depth.ensures.frame c.count_children.ensures.frame
    c.check_depth.ensures.asks (λ available laid_out t e room stand. tt) available laid_out t e room stand in
    omega (arith, told.0 path move.loaded, c.count_children.ensures.asks)

pub returns-in_err-check_children-clause-asks : goal.returns-in_err-check_children-clause-asks
returns-in_err-check_children-clause-asks g c = λ available laid_out t e room stand path move.
    let told = both_tell _ (λ t room. Unit {0}) c.in_ok-check_depth.ensures.frame c.count_children.ensures.frame
    c.check_depth.ensures.asks (λ available laid_out t e room stand. tt) available laid_out t e room stand in
    omega (arith, told.0 path move.loaded, c.count_children.ensures.asks)

pub returns-clause-asks : goal.returns-clause-asks
returns-clause-asks g c = λ available laid_out t e room stand path move.
    let told = both_tell _ (λ t room. Unit {0}) c.in_ok-check_depth.ensures.frame c.count_children.ensures.frame
    c.check_depth.ensures.asks (λ available laid_out t e room stand. tt) available laid_out t e room stand in
    omega (arith, told.0 path move.loaded, c.count_children.ensures.asks)
