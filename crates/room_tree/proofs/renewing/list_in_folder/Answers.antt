use Rattle.room_tree.proofs.Common.{ap, ◌∙◌, List, EntryModel, with_inherited}
use Rattle.room_tree.proofs.ListsByRows.{inherited_alike}
use Rattle.room_tree.proofs.renewing.list_in_folder.Goals as goal

pub returns-clause-value : goal.returns-clause-value
returns-clause-value g c = λ available laid_out t e room stand.
    c.in_ok-list.ensures ∙ ap (λ (l : List EntryModel). with_inherited c.args.own.items c.args.aclflag c.args.kind l)
    c.as_slice.ensures.value
    ∙ inherited_alike c.args.own.items c.args.aclflag c.args.kind _ _
    (c.in_ok-above.ensures.value available laid_out t e room stand)
