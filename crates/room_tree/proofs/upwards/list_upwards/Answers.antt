use Rattle.room_tree.proofs.Common.{◌≡◌, ap, sym, ◌∙◌, Some, Records, own_number, none_is_some}
use Rattle.room_tree.proofs.ListsUpwards.{node_there, few_names}
use Rattle.room_tree.proofs.upwards.list_upwards.Goals as goal

pub returns-in_default-clause-value : goal.returns-in_default-clause-value
returns-in_default-clause-value g c = λ available laid_out room stand path at.
    let t = (g.S.Shelf.view c.args.shelf.now).records.objects in
    absurd (node_there stand path c.args.id at (sym (c.in_ok-node.ensures.value available laid_out) ∙ c.in_default.is))

pub returns-clause-value : goal.returns-clause-value
returns-clause-value g c = λ available laid_out room stand path at.
    let t = (g.S.Shelf.view c.args.shelf.now).records.objects in
    let node = c.in-Some.node in
    let before = c.list_within.ensures.frame.call.frame.was_available available in
    let declared = c.node.ensures.frame.call.frame.laid_out before laid_out in
    let same = ap (λ (r : Records). r.objects) (c.node.ensures.frame.same before laid_out) in
    let there : t.node c.args.id ≡ Some node = sym (c.in_ok-node.ensures.value before laid_out) ∙ c.in-Some.is in
    let number : node.id ≡ c.args.id = (stand.rules.numbered c.args.id node there).0 in
    c.list_within.ensures.value available declared t same room stand path
    (rw number (at)) (own_number t stand.rules c.args.id node there)
    (few_names stand path c.args.id node at there)

pub returns-clause-absent : goal.returns-clause-absent
returns-clause-absent g c = λ available laid_out none.
    let before = c.list_within.ensures.frame.call.frame.was_available available in
    absurd (none_is_some c.in-Some.node (sym none ∙ sym (c.in_ok-node.ensures.value before laid_out) ∙ c.in-Some.is))
