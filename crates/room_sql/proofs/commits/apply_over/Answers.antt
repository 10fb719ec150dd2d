use Rattle.room_sql.proofs.Common.{sym, subst, state, IsStored}
use Rattle.room_sql.proofs.NewObjects.{no_entries_after_entries}
use Rattle.room_sql.proofs.Frames.{ok_then}
use Rattle.room_sql.proofs.commits.apply_over.Goals as goal

pub returns-in-PutEntries-clause-ok : goal.returns-in-PutEntries-clause-ok
returns-in-PutEntries-clause-ok g c clean =
    let id = c.in-PutEntries.id in
    let was = (state g.S.Store c.args.tx.now.conn.now).now.trees in
    ok_then c.put_kept.result (c.put_kept.ensures.ok clean) (λ done room sound so kept.
    let is : IsStored id c.in-Some.stored.items was = rw (c.in-PutEntries.is, c.in-Some.is) at kept in
    rw c.in-PutEntries.is (
      done room (subst (λ l. IsStored id l was) (sym c.as_slice.ensures.value) is),
      tt,
      no_entries_after_entries c.args.object id c.in-PutEntries.entries _,
    ))
