-- What was in a database stays beside what is made there.
use Rattle.std.specs.Prelude.{◌≡◌, ◌≢◌, ℕ, ◌==◌, List, [], ◌∷◌, ◌++◌, false, if◌then◌else◌}
use Rattle.std.specs.List.{AllByRecursion}
use Rattle.sqlite_value.specs.Order.{Row}
use Rattle.sqlite.specs.Change.{KeepsRows}
use Rattle.sqlite.specs.Does.{lacks_sequence}
use Rattle.sqlite.specs.Effect.{Database}
use Rattle.sqlite.specs.Schema.{Schema}
use Rattle.sqlite.specs.Table.{Table}
use Rattle.sqlite_trees.specs.Tree.{Trees, no_trees}
use Rattle.room_tables.specs.Tables.{has_a_table, Fresh, own_indexes, room_schema}

-- a table behind others: its rows lie in none of their trees, and it has no AUTOINCREMENT
pub record IsApart (others : List Table) (table : Table) : Type 0 where
  pub uncounted : table.is_counted ≡ false
  pub trees : AllByRecursion (λ (t : Table). t.tree ≢ table.tree) others

-- The tables are ours, in their order, but for their trees, which differ; and each has the rows that are held at the
-- number of ours.
abbrev pub AreOurs : (ours : List Table) → (held : Trees) → Trees → (tables : List Table) → Type 0
AreOurs [] held trees [] = Unit {0}
AreOurs (o ∷ ours) held trees (t ∷ tables) = (t ≡ record o { tree = t.tree }) × (trees t.tree ≡ held o.tree)
    × AllByRecursion (λ (other : Table). other.tree ≢ t.tree) tables × AreOurs ours held trees tables
AreOurs _ held trees _ = ⊥

-- Where a table has AUTOINCREMENT, `sqlite_sequence` is there. SQLite makes it with the first of them; where it was
-- missing, the next CREATE TABLE would make it too, among ours.
abbrev pub HasItsSequence : Schema → Type 0
HasItsSequence schema = lacks_sequence schema ≡ false

-- The tables, indexes and views that were there stand first, as they were, and each table has its rows. Behind them
-- stand ours with their indexes, and nothing else, where `sqlite_sequence` was not missing.
pub record IsBeside (ours : List Table) (held : Trees) (before after : Database) : Type 0 where
  pub tables : List Table
  pub tables_are : after.schema.tables ≡ before.schema.tables ++ tables
  pub are : HasItsSequence before.schema → AreOurs ours held after.trees tables
  pub apart : AllByRecursion (IsApart before.schema.tables) tables
  pub indexes : after.schema.indexes ≡ before.schema.indexes ++ own_indexes tables
  pub views : after.schema.views ≡ before.schema.views
  pub rows : KeepsRows before.schema.tables before.trees after.trees

-- where ours stood without rows behind whatever was there, the next ones do now
abbrev pub AddsTables : Schema → Schema → Database → Database → Type 0
AddsTables ours next old new = (before : Database) → has_a_table before.schema ≡ false
    → IsBeside ours.tables no_trees before old → IsBeside next.tables no_trees before new

abbrev pub six : List Table
six = (room_schema Fresh).tables

abbrev pub with_rows : ℕ → List Row → Trees → Trees
with_rows tree rows held = λ n. if n == tree then rows else held n

-- rows go into one of the six, and all else is as it was
abbrev pub Fills : (tree : ℕ) → (Had Has : List Row → Type 0) → Database → Database → Type 0
Fills tree Had Has old new = (before : Database) (held : Trees) → has_a_table before.schema ≡ false
    → (HasItsSequence before.schema → Had (held tree)) → IsBeside six held before old
    → (rows : List Row) × (HasItsSequence before.schema → Has rows) × IsBeside six (with_rows tree rows held) before new
