use Rattle.room_sql.proofs.Common.{◌≡◌, take, map, node_of}
use Rattle.room_sql.proofs.rows.all_nodes.Given as goal

abbrev pub invariant-loop-row : goal.invariant-loop-row
invariant-loop-row l = l.nodes.items ≡ map node_of (take l.row-index l.rows)
