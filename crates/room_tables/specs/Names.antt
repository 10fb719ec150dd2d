-- The order of rows of nodes, and a count as a row.
use Rattle.std.specs.Prelude.{◌≡◌, ℕ, pos, false, min, List, [], ◌∷◌, map, IsPermutation}
use Rattle.std.specs.Ordering.{is_gt}
use Rattle.sqlite_value.specs.declared.value.Value.TheVariants.{Int}
use Rattle.sqlite_value.specs.declared.keys.Collation.TheVariants.{Binary}
use Rattle.sqlite_value.specs.Keys.{ascending}
use Rattle.sqlite_value.specs.Order.{Row}
use Rattle.sqlite_trees.specs.Tree.{Trees, IsAscending}
use Rattle.sqlite_sql.specs.Query.{key_cmp}
use Rattle.room_tables.specs.Rows.{one_column, child_rows, name_and_kind}

-- the name of the one is not above that of the other
abbrev pub ByName : Row → Row → Type 0
ByName a b = is_gt (key_cmp 0 (ascending Binary ∷ []) (one_column 2 a) (one_column 2 b)) ≡ false

-- these are the names and kinds of a folder's rows, in order of the names
abbrev pub AreNameRows : Trees → ℕ → List Row → Type 0
AreNameRows db parent rows = (nodes : List Row) × IsPermutation (child_rows db parent) nodes × IsAscending ByName nodes
    × (rows ≡ map name_and_kind nodes)

-- the greatest count that is told
abbrev pub most : ℕ
most = 9223372036854775807

abbrev pub counted_row : ℕ → Row
counted_row n = Int (pos (min n most)) ∷ []
