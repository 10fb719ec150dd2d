use Rattle.room_tree.proofs.Common.{ap, sym, ◌∙◌, ObjectRecords}
use Rattle.room_tree.proofs.LoadedObjects.{root_is_loaded}
use Rattle.room_tree.proofs.walking.load_root.Goals as goal

pub returns-clause-value : goal.returns-clause-value
returns-clause-value g c = λ available laid_out t e room stand.
    root_is_loaded stand c.in-Some.root c.of.result
    (sym (rw c.in-Some.is at (c.in_ok-root.ensures.value available laid_out) ∙ ap (λ (r : ObjectRecords). r.node 1) e))
    c.of.ensures
