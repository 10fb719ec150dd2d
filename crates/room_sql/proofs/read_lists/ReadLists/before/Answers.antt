use Rattle.room_sql.proofs.ReadLists.{others_stored, all_stored, none_kept}
use Rattle.room_sql.proofs.read_lists.ReadLists.before.Goals as goal

pub returns-in-PutEntries-clause-others : goal.returns-in-PutEntries-clause-others
returns-in-PutEntries-clause-others c = λ old new stored leaves.
    others_stored _ _ _ old new c.remove.ensures.updates.0 stored (rw c.in-PutEntries.is at leaves)

pub returns-in-PutNode-clause-others : goal.returns-in-PutNode-clause-others
returns-in-PutNode-clause-others c = λ old new stored leaves.
    all_stored _ old new (rw c.in-PutNode.is at leaves) stored

pub returns-in_default : goal.returns-in_default
returns-in_default c = record {
  mine = λ trees stored. none_kept c.args.change.now trees;
  others = λ old new stored leaves. c.forget.ensures new;
}
