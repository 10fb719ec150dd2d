use Rattle.room_tree.proofs.Common.{◌≡◌, ◌≢◌, ap, sym, ◌∙◌, List, Option, None, Some, MatchOption, Vec, Global}
use Rattle.room_tree.proofs.Common.{EntryModel, own_part, with_inherited, ObjectRecords, object_at, list_under, follows}
use Rattle.room_tree.proofs.Common.{object_at_node}
use Rattle.room_tree.proofs.ListsByRows.{list_by_rows, unfollowed}
use Rattle.room_tree.proofs.renewing.renewed_list.Goals as goal

changed_as : (result : Option (Vec EntryModel Global)) (list stored was now : List EntryModel)
    → list ≡ now → stored ≡ was
    → MatchOption result (list ≡ stored) (λ changed. (changed.items ≡ list) × (list ≢ stored))
    → MatchOption result (was ≡ now) (λ changed. (changed.items ≡ now) × (changed.items ≢ was))
changed_as None list stored was now list_is stored_is told = sym stored_is ∙ sym told ∙ list_is
changed_as (Some changed) list stored was now list_is stored_is told =
    (told.0 ∙ list_is, (λ same. told.1 (sym told.0 ∙ same ∙ sym stored_is)))

pub returns-then-not-follows-clause-value : goal.returns-then-not-follows-clause-value
returns-then-not-follows-clause-value g c = λ available laid_out t e room stand path at stands.
    let node = c.args.node.now in
    let found = object_at_node t room stand path node.id node at stands in
    found.2.entries
    ∙ unfollowed room path found.0 found.1
    (ap follows (sym found.2.aclflag) ∙ sym c.follows.ensures ∙ c.if-not-follows.true) c.args.above.now

pub returns-clause-value : goal.returns-clause-value
returns-clause-value g c = λ available laid_out t e room stand path at stands.
    let node = c.args.node.now in
    let stored : c.in_ok-stored.stored.items ≡ t.entries node.id =
    c.in_ok-stored.ensures.value available laid_out ∙ ap (λ (r : ObjectRecords). r.entries node.id) e in
    let own : c.in_ok-own.own.items ≡ own_part (t.entries node.id) =
    c.in_ok-own.ensures ∙ ap own_part (c.as_slice.ensures.value ∙ stored) in
    changed_as c.if_changed.result c.in_ok-list.list.items c.as_slice-2.result.now
    (t.entries node.id) (list_under (object_at room path) c.args.above.now)
    (c.in_ok-list.ensures ∙ ap (λ (l : List EntryModel). with_inherited l node.aclflag node.kind c.args.above.now) own
    ∙ list_by_rows stand path node at stands c.args.above.now) (c.as_slice-2.ensures.value ∙ stored)
    c.if_changed.ensures
