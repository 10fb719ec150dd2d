use Rattle.room_tree.proofs.Common.{◌≡◌, refl, ap, sym, ◌∙◌, arith, take, length, Option, None, Some, true, false, not}
use Rattle.room_tree.proofs.Common.{is_some, take_all, Path, parent_of, Refusal, Access, check_right, removal_refusal}
use Rattle.room_tree.proofs.InTurn.{both_tell}
use Rattle.room_tree.proofs.removing.check_removal.Goals as goal

-- one of the rights is enough
by_own : (path : Path) (own by_folder : Option Refusal)
    → true ≡ not (is_some own) → removal_refusal path own by_folder ≡ None
by_own path None by_folder allowed = refl
by_own path (Some r) by_folder allowed = cc

by_above : (path : Path) (own by_folder : Option Refusal)
    → true ≡ not (is_some by_folder) → removal_refusal path own by_folder ≡ None
by_above path None by_folder allowed = refl
by_above path (Some r) None allowed = refl
by_above path (Some r) (Some s) allowed = cc

-- and where both are refused it is the object and DELETE
by_none : (path : Path) (own by_folder : Option Refusal) → false ≡ not (is_some own) → false ≡ not (is_some by_folder)
    → removal_refusal path own by_folder ≡ Some (record { code = Access; place = Some (path, 0x10000) })
by_none path None by_folder own_off above_off = cc
by_none path (Some r) None own_off above_off = cc
by_none path (Some r) (Some s) own_off above_off = refl

pub returns-then-own-clause-value : goal.returns-then-own-clause-value
returns-then-own-clause-value g c = λ available laid_out t e room stand here folder.
    let path = c.args.path.now in (
      by_own path (check_right room c.args.subject.now path 0x10000) (check_right room c.args.subject.now
          (parent_of path) 0x40)
          (sym c.if-own.true ∙ c.in_ok-own.ensures.value available laid_out t e room stand path here),
      tt,
    )

pub returns-then-by_folder-clause-value : goal.returns-then-by_folder-clause-value
returns-then-by_folder-clause-value g c = λ available laid_out t e room stand here folder.
    let path = c.args.path.now in
    let told = both_tell _ _ c.allows.ensures.frame c.allows-2.ensures.frame
    c.in_ok-own.ensures.value c.in_ok-by_folder.ensures.value available laid_out t e room stand in (
      by_above path (check_right room c.args.subject.now path 0x10000) (check_right room c.args.subject.now
          (parent_of path) 0x40) (sym c.if-by_folder.true ∙ told.1 (parent_of path) folder),
      tt,
    )

pub returns-clause-value : goal.returns-clause-value
returns-clause-value g c = λ available laid_out t e room stand here folder.
    let path = c.args.path.now in
    let told = both_tell _ _ c.allows.ensures.frame c.allows-2.ensures.frame
    c.in_ok-own.ensures.value c.in_ok-by_folder.ensures.value available laid_out t e room stand in
    let whole : take (length c.names.result.now) path ≡ path =
    ap (λ (p : Path). take (length p) path) c.names.ensures.value ∙ take_all (length path) path (omega arith) in
    by_none path (check_right room c.args.subject.now path 0x10000)
    (check_right room c.args.subject.now (parent_of path) 0x40)
    (sym c.if-own.false ∙ told.0 path here) (sym c.if-by_folder.false ∙ told.1 (parent_of path) folder)
    ∙ ap (λ (p : Path). Some (record { code = Access; place = Some (p, 0x10000) })) (sym (c.in_ok-at.ensures ∙ whole))
    ∙ ap (λ bits. Some (record { code = Access; place = Some (c.in_ok-at.at, bits) })) (sym c.bits.ensures.value)
