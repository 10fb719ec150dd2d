use Rattle.room_tree.proofs.Common.{refl, ap, ◌∙◌, [], ◌∷◌, PutNode, Node, Object, reply_model, chown_is_room}
use Rattle.room_commands.specs.CommandModel as C
use Rattle.room_tree.proofs.Changed.{replaced_plans, row_replaces}
use Rattle.room_tree.proofs.FewRows.{few_one}
use Rattle.room_tree.proofs.Stops.{handed_on}
use Rattle.room_tree.proofs.changing.plan_chown.Goals as goal

pub returns-in_err-loaded-clause-effect : goal.returns-in_err-loaded-clause-effect
returns-in_err-loaded-clause-effect g c = λ available laid_out t e room stand.
    handed_on _ _ _ c.from_residual.result c.from_residual.ensures.1
    (c.in_err-loaded.ensures.value available laid_out t e room stand)

pub returns-clause-effect : goal.returns-clause-effect
returns-clause-effect g c = λ available laid_out t e room stand.
    let path = c.args.path.now in
    let caller = c.args.subject.now in
    let owner = c.args.owner.now in
    let group = c.args.group.now in
    let reached = c.in_ok-loaded.ensures.value available laid_out t e room stand in
    let change : Object → Object = λ o. record o { owner = owner; group = group } in
    let node = c.in_ok-node.node in
    let is = c.in_ok-node.ensures in
    let r = row_replaces stand reached.1 change (chown_is_room room caller group owner path stand.lawful reached.0) node
    (record {
      id = ap (λ (n : Node). n.id) is;
      parent = ap (λ (n : Node). n.parent) is;
      name = ap (λ (n : Node). n.name) is;
      kind = ap (λ (n : Node). n.kind) is;
    })
    (ap (λ (n : Node). n.owner) is) (ap (λ (n : Node). n.group) is)
    (ap (λ (n : Node). n.aclflag) is ∙ reached.1.is_there.shows.aclflag) refl refl refl refl in
    replaced_plans caller (C.Chown c.args.group.now c.args.owner.now path) c.in_ok-outcome.outcome
    (PutNode node ∷ []) stand
    r reached.0 (ap reply_model c.in_ok-outcome.ensures.reply) c.in_ok-outcome.ensures.changes
    (tt, tt) (r.rules, tt) (few_one t (PutNode node) (λ k. refl)) (λ q. refl)
