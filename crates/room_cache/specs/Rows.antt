-- Rows that are remembered.
use Rattle.std.specs.Prelude.{◌+◌, ℕ, List, [], ◌∷◌, Option}
use Rattle.std.specs.BTreeMap.{is_at}
use Rattle.std.specs.Map.{lookup}
use Rattle.std.specs.declared.cmp.Ordering.{Ordering}

-- rows of a kind
abbrev pub max_rows : ℕ
max_rows = 256

-- entries of a list
abbrev pub max_entries : ℕ
max_entries = 64

-- decisions of an object
abbrev pub max_decisions : ℕ
max_decisions = 16

abbrev pub row_at : {K V : Type 0} → (K → K → Ordering) → List (K × V) → K → Option V
row_at cmp rows key = lookup (is_at (cmp key)) rows

-- the sum of what each row weighs
abbrev pub weight : {K V : Type 0} → (V → ℕ) → List (K × V) → ℕ
weight w [] = 0
weight w (row ∷ rows) = w row.1 + weight w rows
