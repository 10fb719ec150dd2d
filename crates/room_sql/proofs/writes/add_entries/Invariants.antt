use Rattle.room_sql.proofs.Common.{◌≡◌, ◌≤◌, take, drop, length, Ok, HasCleanDisk, state, Database, Lists}
use Rattle.room_sql.proofs.Common.{StandForEntries, InsideFrame}
use Rattle.room_tables.specs.Beside.{Fills}
use Rattle.room_sql.proofs.writes.add_entries.Given as goal

abbrev pub invariant-loop-batch : goal.invariant-loop-batch
invariant-loop-batch g l =
    let old = state g.S.Store l.fn.tx.conn.now in
    let now = state g.S.Store l.tx.conn.now in
    record {
      frame : InsideFrame g.S.Store {T = Unit {0}} l.fn.tx l.tx (Ok tt);
      size : l.batch-iterator.size ≡ 4;
      rest : l.batch-iterator.rest.now ≡ drop l.place l.entries;
      within : l.place ≤ length l.entries;
      done : HasCleanDisk now → (was : Database) → Lists was l.id (take l.from l.entries) old.now
          → Lists was l.id (take l.place l.entries) now.now;
      spares : HasCleanDisk now
          → Fills 3 (StandForEntries l.id (take l.from l.entries)) (StandForEntries l.id (take l.place l.entries))
          old.now now.now;
    }
