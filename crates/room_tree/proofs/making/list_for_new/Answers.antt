use Rattle.room_tree.proofs.Common.{ap, ◌∙◌, List, EntryModel, handed_down}
use Rattle.room_tree.proofs.making.list_for_new.Goals as goal

pub returns-clause-value : goal.returns-clause-value
returns-clause-value g c = λ available laid_out t e room stand folder found.
    c.in_ok-list.ensures ∙ ap (λ (list : List EntryModel). handed_down list c.args.kind)
    (c.as_slice.ensures.value ∙ c.in_ok-given.ensures.value available laid_out t e room stand folder found)
