use Rattle.room_sql.proofs.Common.{◌≡◌, map, drop, list_all, has_column}
use Rattle.room_sql.proofs.open.has_columns.Given as goal

-- the columns passed so far are there
abbrev pub invariant-loop-column : goal.invariant-loop-column
invariant-loop-column g l =
    list_all (has_column l.fn.conn.schema l.fn.table) (map (λ c. c.now) l.fn.columns)
    ≡ list_all (has_column l.fn.conn.schema l.fn.table) (map (λ c. c.now) (drop l.column-index l.fn.columns))
