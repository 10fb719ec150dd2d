use Rattle.room_report.proofs.Common.{refl, ap, ◌∙◌, List, ℕ, ◌∷◌, ◌++◌, ObjectRecords, name_of}
use Rattle.room_report.proofs.Items.{child_is_item}
use Rattle.room_report.proofs.item.item_below.Goals as goal

pub returns-clause-value : goal.returns-clause-value
returns-clause-value g c = λ intact laid_out t e room stand path folder child.
    let node = c.args.node.now in
    child_is_item t room stand path c.args.above.now _ node folder child
    refl refl refl c.in_ok-clone.ensures c.in_ok-clone-2.ensures
    (c.in_ok-list.ensures.value (c.in_ok-list.ensures.there intact) laid_out
    ∙ ap (λ (r : ObjectRecords). r.entries node.id) e)
    (c.in_ok-names.ensures ∙ ap (λ (names : List ℕ). names ++ 47 ∷ name_of node) c.deref.ensures.value)
