use Rattle.room_sql.proofs.Common.{◌+◌, ◌≤◌, length, Ok, HasCleanDisk, state, Database, IsMoving, InsideFrame}
use Rattle.room_sql.proofs.upgrade.move_rows.Given as goal

abbrev pub invariant-rows : goal.invariant-rows
invariant-rows g l =
    let old = state g.S.Store l.fn.tx.conn.now in
    let now = state g.S.Store l.tx.conn.now in
    record {
      frame : InsideFrame g.S.Store {T = Unit {0}} l.fn.tx l.tx (Ok tt);
      moving : HasCleanDisk now → (before : Database) → IsMoving before old.now → IsMoving before now.now;
      fewer : HasCleanDisk now → (before : Database) → IsMoving before old.now
          → length (now.now.trees 8) + l.counter ≤ length (old.now.trees 8);
    }
