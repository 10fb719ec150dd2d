-- The rights that a command needs, by the meaning of the bits in RFC 8881, section 6.2.1.3.1, said apart from the
-- checks. Which command is which operation is our own rule.
use Rattle.std.specs.Prelude.{◌≡◌, ℕ, ◌⊎◌, ◌∷◌, ◌++◌, Option, Some, ⊤}
use Rattle.room_acl.specs.declared.subject.Kind.TheVariants.{File, Folder}
use Rattle.room_acl.specs.Bits.{read_data, list_directory, write_data, add_file, append_data, add_subdirectory, execute}
use Rattle.room_acl.specs.Bits.{delete_child, read_attributes, delete_object, read_acl, write_acl, write_owner}
use Rattle.room_acl.specs.SubjectModel.{SubjectModel}
use Rattle.room_acl.specs.Access.{AllowsMask}
use Rattle.room_records.specs.Names.{Name, Path}
use Rattle.room_records.specs.Room.{Object, Room, object_at, list_of, standing_of, parent_of}
use Rattle.room_commands.specs.CommandModel.{CommandModel, paths_of}
use Rattle.room_commands.specs.CommandModel as C
use Rattle.room_commands.specs.declared.reply.RefusalCode.TheVariants.{Access}
use Rattle.room_commands.specs.ReplyModel.{ReplyModel, NotDone}

-- an object is at the path, and its list allows the caller the right
abbrev pub HasRight : Room → SubjectModel → Path → ℕ → Type 0
HasRight room caller path right =
    (o : Object) × (object_at room path ≡ Some o) × AllowsMask (list_of room path) caller (standing_of o) right

-- DELETE on the object or DELETE_CHILD on its folder (RFC 8881, section 6.2.1.3.2, without its fallback to ADD_FILE)
abbrev pub HasRemoval : Room → SubjectModel → Path → Type 0
HasRemoval room caller path =
    HasRight room caller path delete_object ⊎ HasRight room caller (parent_of path) delete_child

-- the rights that a command needs, but for those on the way
abbrev pub HasRights : Room → SubjectModel → CommandModel → Type 0
HasRights room caller (C.Stat path) = HasRight room caller path read_attributes
HasRights room caller (C.ListNames path) = HasRight room caller path list_directory
HasRights room caller (C.Mkdir path) = HasRight room caller (parent_of path) add_subdirectory
HasRights room caller (C.Create bytes path) = HasRight room caller (parent_of path) add_file
HasRights room caller (C.Read path) = HasRight room caller path read_data
HasRights room caller (C.Write bytes path) = HasRight room caller path write_data
HasRights room caller (C.Append bytes path) = HasRight room caller path append_data
HasRights room caller (C.Remove path) = HasRemoval room caller path
HasRights room caller (C.Rename path to) = HasRemoval room caller path
    × ((o : Object) → object_at room path ≡ Some o →
    (o.kind ≡ File → HasRight room caller (parent_of to) add_file)
    × (o.kind ≡ Folder → HasRight room caller (parent_of to) add_subdirectory))
HasRights room caller (C.GetList path) = HasRight room caller path read_acl
HasRights room caller (C.SetList aclflag entries path) = HasRight room caller path write_acl
HasRights room caller (C.Chown group owner path) = HasRight room caller path write_owner
HasRights room caller (C.Access mask path) = ⊤

-- EXECUTE on every folder on the way to a path
abbrev pub HasWay : Room → SubjectModel → Path → Type 0
HasWay room caller path =
    (front rest : Path) (name : Name) → path ≡ front ++ name ∷ rest → HasRight room caller front execute

abbrev pub NeedsAllowed : Room → SubjectModel → CommandModel → Type 0
NeedsAllowed room caller command =
    HasRights room caller command × HasWay room caller (paths_of command).0 × HasWay room caller (paths_of command).1

-- the reply refuses the command for a right
abbrev pub IsDenial : ReplyModel → Type 0
IsDenial reply = (place : Option (Path × ℕ)) × (reply ≡ NotDone (record { code = Access; place = place }))
