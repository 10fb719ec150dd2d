-- What a command asks, as contracts see it. The thirteen commands are our own.
use Rattle.std.specs.Prelude.{ℕ, List}
use Rattle.room_acl.specs.Entries.{EntryModel}
use Rattle.room_records.specs.Names.{Path}
use Rattle.room_commands.specs.declared.command.Command.{Command}
use Rattle.room_commands.specs.declared.command.Command.TheVariants as C

pub data CommandModel : Type 0 where
  Stat : Path → CommandModel
  ListNames : Path → CommandModel
  Mkdir : Path → CommandModel
  Create : List ℕ → Path → CommandModel
  Read : Path → CommandModel
  Write : List ℕ → Path → CommandModel
  Append : List ℕ → Path → CommandModel
  Remove : Path → CommandModel
  Rename : Path → Path → CommandModel
  GetList : Path → CommandModel
  SetList : ℕ → List EntryModel → Path → CommandModel
  Chown : List ℕ → List ℕ → Path → CommandModel
  Access : ℕ → Path → CommandModel

-- what a command of the program asks
abbrev pub command_model : Command → CommandModel
command_model (C.Stat path) = Stat path
command_model (C.List path) = ListNames path
command_model (C.Mkdir path) = Mkdir path
command_model (C.Create bytes path) = Create bytes.items path
command_model (C.Read path) = Read path
command_model (C.Write bytes path) = Write bytes.items path
command_model (C.Append bytes path) = Append bytes.items path
command_model (C.Remove path) = Remove path
command_model (C.Rename path to) = Rename path to
command_model (C.GetList path) = GetList path
command_model (C.SetList aclflag entries path) = SetList aclflag entries.items path
command_model (C.Chown group owner path) = Chown group owner path
command_model (C.Access mask path) = Access mask path

-- the path that a command names, and the second one of a RENAME
abbrev pub paths_of : CommandModel → Path × Path
paths_of (Stat path) = (path, path)
paths_of (ListNames path) = (path, path)
paths_of (Mkdir path) = (path, path)
paths_of (Create bytes path) = (path, path)
paths_of (Read path) = (path, path)
paths_of (Write bytes path) = (path, path)
paths_of (Append bytes path) = (path, path)
paths_of (Remove path) = (path, path)
paths_of (Rename path to) = (path, to)
paths_of (GetList path) = (path, path)
paths_of (SetList aclflag entries path) = (path, path)
paths_of (Chown group owner path) = (path, path)
paths_of (Access mask path) = (path, path)
