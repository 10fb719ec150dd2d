use Rattle.room_tree.proofs.Common.{◌≡◌, length, subst, IfOk, IfOk-weaker, ObjectRecords, children, IsChildCount}
use Rattle.room_tree.proofs.Common.{child_count_is}
use Rattle.room_tree.proofs.reaching.count_children.Goals as goal

pub returns-clause-value : goal.returns-clause-value
returns-clause-value g c = λ available laid_out t e room stand path found.
    let id = c.args.loaded.now.id in
    let Counted : ObjectRecords → Type 0 = λ r. IfOk c.child_count.result (IsChildCount r id) in
    IfOk-weaker c.child_count.result (IsChildCount t id) (λ count. count ≡ length (children room path))
    (child_count_is t room stand path id found.is_there.at)
    (subst Counted e (c.child_count.ensures.value available laid_out))
