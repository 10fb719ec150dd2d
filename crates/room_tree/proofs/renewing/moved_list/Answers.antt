use Rattle.room_tree.proofs.Common.{◌≡◌, ℕ, ap, sym, ◌∙◌, true, eqb, Option, None, Some, eqb-true}
use Rattle.std.specs.Option.{option_eq}
use Rattle.room_tree.proofs.ListsByRows.{stays_in_folder, under_alike}
use Rattle.room_tree.proofs.InTurn.{both_tell}
use Rattle.room_tree.proofs.renewing.moved_list.Goals as goal

is_in : (parent : Option ℕ) (folder : ℕ) → option_eq eqb parent (Some folder) ≡ true → parent ≡ Some folder
is_in None folder same = cc
is_in (Some other) folder same = ap Some (eqb-true other folder same)

pub returns-then-eq-clause-value : goal.returns-then-eq-clause-value
returns-then-eq-clause-value g c = λ available laid_out t e room stand path at stands.
    stays_in_folder stand path c.args.node.now at stands c.args.into
    (is_in c.args.node.now.parent c.args.into (sym c.eq.ensures ∙ c.if-eq.true))

pub returns-clause-value : goal.returns-clause-value
returns-clause-value g c = λ available laid_out t e room stand path at stands.
    let told = both_tell _ _ c.list_above.ensures.frame c.renewed_list.ensures.frame
    c.in_ok-above.ensures.value c.renewed_list.ensures.value available laid_out t e room stand in
    (rw (under_alike stand path c.args.node.now at stands c.as_slice.result.now (t.entries c.args.into)
    (λ on. c.as_slice.ensures.value ∙ told.0 on)) at (told.1 path at stands))
