use Rattle.room_tree.proofs.Common.{ap, sym, ◌∙◌, Option, not, is_some, Refusal, denied_at}
use Rattle.room_tree.proofs.loaded.LoadedObject.allows.Goals as goal

pub returns-in-Allowed-clause-value : goal.returns-in-Allowed-clause-value
returns-in-Allowed-clause-value g c = λ available laid_out t e room stand at found.
    ap (λ (o : Option Refusal). not (is_some o))
    (sym (c.in_ok-decision.ensures.value available laid_out t e room stand at found
    ∙ ap (denied_at at) c.in-Allowed.is))

pub returns-in-Denied-clause-value : goal.returns-in-Denied-clause-value
returns-in-Denied-clause-value g c = λ available laid_out t e room stand at found.
    ap (λ (o : Option Refusal). not (is_some o))
    (sym (c.in_ok-decision.ensures.value available laid_out t e room stand at found
    ∙ ap (denied_at at) c.in-Denied.is))
