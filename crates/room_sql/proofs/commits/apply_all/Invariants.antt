use Rattle.room_sql.proofs.Common.{List, take, drop, Ok, Row, HasCleanDisk, state, IsRoomDatabase, Steps, Unknown}
use Rattle.room_sql.proofs.Common.{InsideFrame, AfterAll, AreStored}
use Rattle.room_records.specs.Changes.{apply_changes}
use Rattle.room_sql.specs.NewObject.{NoEntriesIfKnown}
use Rattle.room_sql.proofs.commits.apply_all.Given as goal

abbrev pub invariant-loop-change : goal.invariant-loop-change
invariant-loop-change g l =
    let old = state g.S.Store l.fn.tx.conn.now in
    let now = state g.S.Store l.tx.conn.now in
    record {
      frame : InsideFrame g.S.Store {T = Unit {0}} l.fn.tx l.tx (Ok tt);
      done : HasCleanDisk now → IsRoomDatabase old.now → AreStored l.fn.lists old.now.trees
          → Steps old now (apply_changes (take l.change-index l.changes)) × NoEntriesIfKnown l.known now.now.trees
          × AreStored l.lists now.now.trees;
      nodes : HasCleanDisk now → IsRoomDatabase old.now → AreStored l.fn.lists old.now.trees → (last : List Row)
          → AfterAll l.known (drop l.change-index l.changes) (now.now.trees 1) last
          → AfterAll Unknown l.changes (old.now.trees 1) last;
    }
