-- What a database answers when it is asked for its version.
use Rattle.std.specs.Prelude.{ℕ, List, [], codes}
use Rattle.sqlite_value.specs.Order.{Row}
use Rattle.sqlite.specs.State.{State, Shown}

abbrev pub find_version_text : List ℕ
find_version_text = codes "SELECT version FROM room WHERE one = 1"

-- the rows that it answered have this property
abbrev pub TellsVersion : State → State → (List Row → Type 0) → Type 0
TellsVersion old new P = (rows : List Row) × Shown find_version_text [] old new rows × P rows
