use Rattle.room_sql.proofs.Common.{List, drop, Row, Unknown, AfterAll}
use Rattle.room_sql.specs.NodeFacts.{KnowsRows}
use Rattle.room_sql.proofs.node_facts.NodeFacts.follow.Given as goal

-- it is true of rows that the rest of the changes makes into the last
abbrev pub invariant-loop-change : goal.invariant-loop-change
invariant-loop-change l = (old new : List Row) → KnowsRows l.initial.self old → AfterAll Unknown l.changes old new
    → (mid : List Row) × KnowsRows l.self mid × AfterAll l.object (drop l.change-index l.changes) mid new
