use Rattle.room_sql.proofs.Common.{◌∙◌, ◌+◌, refl, sym, ap, map, ◌&&◌, List, ℕ, Bor, arith, drop, Bool, list_all}
use Rattle.room_sql.proofs.Common.{at_drop_more, at_drop_all, has_column}
use Rattle.sqlite.specs.Schema.{Schema}
use Rattle.room_sql.proofs.open.has_columns.Goals as goal

-- what is to be said of the columns from a place on
abbrev rest : Schema → List ℕ → List (Bor (List ℕ)) → Bool
rest schema table columns = list_all (has_column schema table) (map (λ c. c.now) columns)

pub loop-column-init : goal.loop-column-init
loop-column-init g c = refl

pub returns-then-not-has_column : goal.returns-then-not-has_column
returns-then-not-has_column g c =
    let more = c.loop-column.invariant ∙ at_drop_more (rest c.args.conn.now.schema c.args.table.now)
    c.args.columns.now c.loop-column.column-index _ c.loop-column-test.true in
    sym (more ∙ ap (λ b. b && rest c.args.conn.now.schema c.args.table.now (drop (c.loop-column.column-index + 1)
    c.args.columns.now)) (sym c.has_column.ensures ∙ c.if-not-has_column.true))

pub loop-column-preserved : goal.loop-column-preserved
loop-column-preserved g c =
    c.loop-column.invariant ∙ at_drop_more (rest c.args.conn.now.schema c.args.table.now)
    c.args.columns.now c.loop-column.column-index _ c.loop-column-test.true
    ∙ ap (λ b. b && rest c.args.conn.now.schema c.args.table.now
    (drop (c.loop-column.column-index + 1) c.args.columns.now))
    (sym c.has_column.ensures ∙ c.if-not-has_column.false)

pub returns : goal.returns
returns g c = sym (c.loop-column.invariant ∙ at_drop_all (rest c.args.conn.now.schema c.args.table.now)
    c.args.columns.now c.loop-column.column-index (omega (arith, c.loop-column-test.false)))
