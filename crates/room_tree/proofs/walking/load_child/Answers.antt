use Rattle.room_tree.proofs.Common.{no_child}
use Rattle.room_tree.proofs.LoadedObjects.{child_is_loaded}
use Rattle.room_tree.proofs.walking.load_child.Goals as goal

pub returns-in_default-clause-value : goal.returns-in_default-clause-value
returns-in_default-clause-value g c = λ available laid_out t e room stand path folder.
    no_child t room stand path c.args.name.now c.args.here.now.id folder.is_there.at
    (rw (← e) (rw c.in_default.is at (c.in_ok-node.ensures.value available laid_out)))

pub returns-clause-value : goal.returns-clause-value
returns-clause-value g c = λ available laid_out t e room stand path folder.
    let child = rw e at (rw c.in-Some.is at (c.in_ok-node.ensures.value available laid_out)) in
    child_is_loaded stand path c.args.name.now c.args.here.now c.of.result c.in-Some.node folder child c.of.ensures
