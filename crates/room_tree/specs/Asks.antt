-- How often a command calls the shelf. All of it is our own rule.
use Rattle.std.specs.Prelude.{ℕ, ◌+◌, ◌*◌, length}
use Rattle.std.specs.List.{count_by}
use Rattle.room_records.specs.Names.{Path}
use Rattle.room_records.specs.Room.{Object, Room}
use Rattle.room_records.specs.Shelf.{View}
use Rattle.room_commands.specs.Checks.{is_at_or_below}
use Rattle.room_commands.specs.CommandModel.{CommandModel, paths_of}
use Rattle.room_commands.specs.CommandModel as C
use Rattle.room_tree.specs.LoadedObjects.{OfRoom}

-- how many objects stand at a path or below it
abbrev pub at_or_below : Room → Path → ℕ
at_or_below room path = count_by (λ (e : Path × Object). is_at_or_below e.0 path) room.objects

-- how many calls a command takes at most, where so many objects stand at its path or below it: two for each name of its
-- paths, and a few more; SETLIST two for each of these objects, and RENAME three
abbrev pub most_asks : CommandModel → ℕ → ℕ
most_asks (C.Rename path to) below = 2 * (length path + length to) + 3 * below + 8
most_asks (C.SetList flag entries path) below = 2 * length path + 2 * below + 4
most_asks command below = 2 * length (paths_of command).0 + 5

-- so many calls are a bound: for SETLIST and RENAME while the rows stand for a room, for the others whatever they are
abbrev pub BoundedBy : View → View → CommandModel → (ℕ → Type 0) → Type 0
BoundedBy old new (C.Rename path to) AtMost =
    OfRoom old new (λ t room. AtMost (most_asks (C.Rename path to) (at_or_below room path)))
BoundedBy old new (C.SetList flag entries path) AtMost =
    OfRoom old new (λ t room. AtMost (most_asks (C.SetList flag entries path) (at_or_below room path)))
BoundedBy old new command AtMost = AtMost (most_asks command 0)
