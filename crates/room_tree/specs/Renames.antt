-- What the calls that read a room for RENAME say.
use Rattle.std.specs.Prelude.{List, [], ◌∷◌, Option, None, if◌then◌else◌}
use Rattle.room_acl.specs.SubjectModel.{SubjectModel}
use Rattle.room_records.specs.Names.{Path, path_eq}
use Rattle.room_records.specs.Records.{ObjectRecords}
use Rattle.room_records.specs.Room.{Room, parent_of}
use Rattle.room_tree.specs.declared.moving.Move.{Move}
use Rattle.room_commands.specs.ReplyModel.{Refusal}
use Rattle.room_commands.specs.Checks.{walk, check_exists, check_absent, check_removal, check_right, right_to_add}
use Rattle.room_commands.specs.Checks.{object_or_default}
use Rattle.room_commands.specs.Checks.{check_depth, check_folder_full}
use Rattle.room_tree.specs.LoadedObjects.{IsLoaded}

-- what is there, and what is not
abbrev pub end_checks : Room → SubjectModel → Path → Path → List (Option Refusal)
end_checks room caller path to =
    walk room caller path ∷ check_exists room path ∷ walk room caller to ∷ check_absent room to ∷ []

-- the rights on an object that goes to another folder
abbrev pub move_rights : Room → SubjectModel → Path → Path → List (Option Refusal)
move_rights room caller path to = check_removal room caller path
    ∷ check_right room caller (parent_of to) (right_to_add (object_or_default room path).kind) ∷ []

-- the limits that a move keeps
abbrev pub move_limits : Room → Path → Path → List (Option Refusal)
move_limits room path to =
    check_depth room path to
    ∷ (if path_eq (parent_of path) (parent_of to) then None else check_folder_full room (parent_of to)) ∷ []

-- the object that is moved, its folder, and the folder where it goes
pub record IsMove (t : ObjectRecords) (room : Room) (path to : Path) (move : Move) : Type 0 where
  pub loaded : IsLoaded t room path move.loaded
  pub from : IsLoaded t room (parent_of path) move.from
  pub into : IsLoaded t room (parent_of to) move.into
