use Rattle.room_tree.proofs.Common.{ap, sym, ◌∙◌, Path, denied_at}
use Rattle.room_acl.specs.declared.access.Decision.TheVariants.{Denied}
use Rattle.room_tree.proofs.loaded.LoadedObject.check_right.Goals as goal

pub returns-in-Allowed-clause-value : goal.returns-in-Allowed-clause-value
returns-in-Allowed-clause-value g c = λ available laid_out t e room stand at is found. (
  c.in_ok-decision.ensures.value available laid_out t e room stand at found ∙ ap (denied_at at) c.in-Allowed.is,
  tt,
)

pub returns-in_ok-at-in-Denied-clause-value : goal.returns-in_ok-at-in-Denied-clause-value
returns-in_ok-at-in-Denied-clause-value g c = λ available laid_out t e room stand at is found.
    c.in_ok-decision.ensures.value available laid_out t e room stand at found ∙ ap (denied_at at) c.in-Denied.is
    ∙ ap (λ (p : Path). denied_at p (Denied c.in-Denied.bit)) (sym (c.in_ok-at-in-Denied.ensures ∙ is))
