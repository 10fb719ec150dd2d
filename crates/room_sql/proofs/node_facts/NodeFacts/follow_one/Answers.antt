use Rattle.room_sql.proofs.Common.{◌∙◌, sym}
use Rattle.room_sql.proofs.node_facts.NodeFacts.follow_one.Goals as goal

pub returns-in-PutNode : goal.returns-in-PutNode
returns-in-PutNode c = λ old new true_of fresh after.
    let is = c.in-PutNode.is in
    c.follow_put.ensures old new true_of (λ new. (rw is at fresh) (sym c.is_new.ensures ∙ new)) (rw is at after)
