use Rattle.room_sql.proofs.Common.{◌≡◌, take, map, true, AllByRecursion, entry_of, five_columns, HasEntryColumns}
use Rattle.room_sql.proofs.Common.{placed, IsReadBack}
use Rattle.room_sql.proofs.rows.all_entries.Given as goal

abbrev pub invariant-loop-row : goal.invariant-loop-row
invariant-loop-row l = record {
  value : l.entries.items ≡ map entry_of (take l.row-index l.rows);
  typed : AllByRecursion HasEntryColumns (take l.row-index l.rows);
  shown : l.is_placed ≡ true → map five_columns (take l.row-index l.rows) ≡ placed 0 l.entries.items;
  back : AllByRecursion IsReadBack l.entries.items;
}
