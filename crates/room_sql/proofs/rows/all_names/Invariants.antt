use Rattle.room_sql.proofs.Common.{◌≡◌, take, filter_map, listed_of}
use Rattle.room_sql.proofs.rows.all_names.Given as goal

abbrev pub invariant-loop-row : goal.invariant-loop-row
invariant-loop-row l = l.names.items ≡ filter_map listed_of (take l.row-index l.rows)
