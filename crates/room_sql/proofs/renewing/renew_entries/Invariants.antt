use Rattle.room_sql.proofs.Common.{◌≤◌, ◌-◌, ◌++◌, take, drop, Ok, HasCleanDisk, state, Database, Lists, InsideFrame}
use Rattle.room_sql.proofs.renewing.renew_entries.Given as goal

abbrev pub invariant-loop-place : goal.invariant-loop-place
invariant-loop-place g l =
    let old = state g.S.Store l.fn.tx.conn.now in
    let now = state g.S.Store l.tx.conn.now in
    record {
      within : l.place ≤ l.both;
      frame : InsideFrame g.S.Store {T = Unit {0}} l.fn.tx l.tx (Ok tt);
      done : HasCleanDisk now → (was : Database) → Lists was l.id l.stored old.now
          → Lists was l.id (take l.place l.entries ++ drop l.place l.stored) now.now;
    }

abbrev pub decreases-loop-place : goal.decreases-loop-place
decreases-loop-place g l = l.initial.both - l.place
