-- How far down a subtree reaches.
use Rattle.std.specs.Prelude.{◌≡◌, ℕ, Bool, true, false, ◌++◌, length, Some}
use Rattle.room_records.specs.Names.{Path}
use Rattle.room_records.specs.Room.{Object, Room, object_at}

-- an object stands this many levels below a path
pub record StandsBelow (room : Room) (path : Path) (levels : ℕ) : Type 0 where
  pub rest : Path
  pub object : Object
  pub stands : object_at room (path ++ rest) ≡ Some object
  pub deep : length rest ≡ levels

-- whether one does
abbrev pub TellsBelow : Room → Path → ℕ → Bool → Type 0
TellsBelow room path levels true = StandsBelow room path levels
TellsBelow room path levels false = StandsBelow room path levels → ⊥
