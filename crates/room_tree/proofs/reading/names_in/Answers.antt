use Rattle.room_tree.proofs.Common.{◌≡◌, ◌∙◌, subst, IfOk, IfOk-weaker, ObjectRecords, children, AreNames}
use Rattle.room_tree.proofs.Common.{nodes_are_children}
use Rattle.room_tree.proofs.Replies.{all_listed}
use Rattle.room_tree.proofs.reading.names_in.Goals as goal

pub returns-clause-value : goal.returns-clause-value
returns-clause-value g c = λ available laid_out t e room stand path found.
    let id = c.args.loaded.now.id in
    let Told : ObjectRecords → Type 0 = λ r. IfOk c.names.result (λ names. AreNames r id names.items) in
    IfOk-weaker c.names.result (λ names. AreNames t id names.items) (λ names. names.items ≡ children room path)
    (λ names told.
    told.2 ∙ all_listed t stand.rules id told.0 told.1.each
    ∙ nodes_are_children t room stand path id found.is_there.at told.0 told.1)
    (subst Told e (c.names.ensures.value available laid_out))
