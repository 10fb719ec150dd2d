-- The checks of a command, in order. The first that fails gives the reply. Which right a command needs follows the
-- meaning of the bits in RFC 8881, section 6.2.1.3.1; the order, the codes and the limits are our own rules.
use Rattle.std.specs.Prelude.{ℕ, ◌+◌, ◌-◌, Bool, true, false, not, ◌||◌, List, [], ◌∷◌, map, length, Option, None}
use Rattle.std.specs.Prelude.{Some, if◌then◌else◌, is_none, is_some, max, nat_lt, nat_le, ◌==◌}
use Rattle.std.specs.Bool.{then_some}
use Rattle.std.specs.List.{starts_with}
use Rattle.std.specs.Option.{option_map_or, unwrap_or}
use Rattle.room_acl.specs.declared.subject.Kind.{Kind}
use Rattle.room_acl.specs.declared.subject.Kind.TheVariants.{File, Folder}
use Rattle.room_acl.specs.declared.access.Decision.{Decision}
use Rattle.room_acl.specs.declared.access.Decision.TheVariants.{Allowed, Denied}
use Rattle.room_acl.specs.declared.inheritance.ListFault.{ListFault}
use Rattle.room_acl.specs.declared.inheritance.ListFault.TheVariants as L
use Rattle.room_acl.specs.Bits.{read_data, list_directory, write_data, add_file, append_data, add_subdirectory, execute}
use Rattle.room_acl.specs.Bits.{delete_child, read_attributes, delete_object, read_acl, write_acl, write_owner}
use Rattle.room_acl.specs.Bits.{no_list_flags}
use Rattle.room_acl.specs.SubjectModel.{SubjectModel}
use Rattle.room_acl.specs.Entries.{EntryModel}
use Rattle.room_acl.specs.Access.{decision}
use Rattle.room_acl.specs.Inheritance.{own_entries_fault}
use Rattle.room_records.specs.Limits.{max_names, max_children, max_document}
use Rattle.room_records.specs.Names.{Path, name_eq, path_eq}
use Rattle.room_commands.specs.CommandModel.{CommandModel}
use Rattle.room_commands.specs.CommandModel as C
use Rattle.room_commands.specs.declared.reply.RefusalCode.{RefusalCode}
use Rattle.room_commands.specs.declared.reply.RefusalCode.TheVariants.{NoEnt, NotDir, IsDir, Exist, Access, NotEmpty}
use Rattle.room_commands.specs.declared.reply.RefusalCode.TheVariants.{Inval, AttrNotSupp, FBig, TooDeep, FolderFull}
use Rattle.room_commands.specs.declared.reply.RefusalCode.TheVariants.{RoomFull}
use Rattle.room_records.specs.Room.{Object, Room, object_at, list_of, standing_of, parent_of, children}
use Rattle.room_commands.specs.ReplyModel.{Refusal}
use Rattle.room_commands.specs.SetList.{own_entries_of_setlist}

-- the first refusal of a list of checks, if one refuses
abbrev pub first_refusal : {X : Type 0} → List (Option X) → Option X
first_refusal [] = None
first_refusal (None ∷ others) = first_refusal others
first_refusal (Some x ∷ others) = Some x

-- a refusal other than that of a right
abbrev pub refusal_without_place : RefusalCode → Refusal
refusal_without_place code = record { code = code; place = None }

abbrev pub refuse_if : Bool → RefusalCode → Option Refusal
refuse_if refused code = then_some refused (refusal_without_place code)

-- a refusal of a right names the path whose list was asked, and the bit
abbrev pub denied_at : Path → Decision → Option Refusal
denied_at path Allowed = None
denied_at path (Denied bit) = Some (record { code = Access; place = Some (path, bit) })

-- the wanted bits, by the list of the object (RFC 8881, section 6.2.1)
abbrev pub check_right : Room → SubjectModel → Path → ℕ → Option Refusal
check_right room caller path wanted =
    option_map_or (λ (o : Object). denied_at path (decision (list_of room path) caller (standing_of o) wanted))
    (object_at room path) (Some (refusal_without_place NoEnt))

-- the caller has a right on a path
abbrev pub may : Room → SubjectModel → Path → ℕ → Bool
may room caller path right = is_none (check_right room caller path right)

abbrev pub is_file : Kind → Bool
is_file File = true
is_file Folder = false

abbrev pub is_kind : Kind → Option Object → Bool
is_kind kind None = false
is_kind File (Some o) = is_file o.kind
is_kind Folder (Some o) = not (is_file o.kind)

abbrev pub check_exists : Room → Path → Option Refusal
check_exists room path = refuse_if (not (is_some (object_at room path))) NoEnt

abbrev pub check_absent : Room → Path → Option Refusal
check_absent room path = refuse_if (is_some (object_at room path)) Exist

-- it is no file
abbrev pub check_folder : Room → Path → Option Refusal
check_folder room path = refuse_if (is_kind File (object_at room path)) NotDir

-- it is no folder
abbrev pub check_file : Room → Path → Option Refusal
check_file room path = refuse_if (is_kind Folder (object_at room path)) IsDir

abbrev pub is_root : Path → Bool
is_root [] = true
is_root (name ∷ path) = false

-- the folders on the way to a path, from the root down
abbrev pub proper_prefixes : Path → List Path
proper_prefixes [] = []
proper_prefixes (name ∷ path) = [] ∷ map (λ front. name ∷ front) (proper_prefixes path)

-- a folder on the way is there, is a folder, and allows EXECUTE
abbrev pub prefix_refusal : Room → SubjectModel → Path → Option Refusal
prefix_refusal room caller front =
    first_refusal (check_exists room front ∷ check_folder room front ∷ check_right room caller front execute ∷ [])

-- the walk: the first fault on the way to a path (our own rule)
abbrev pub walk : Room → SubjectModel → Path → Option Refusal
walk room caller path = first_refusal (map (prefix_refusal room caller) (proper_prefixes path))

-- the folder has room for one child more
abbrev pub check_folder_full : Room → Path → Option Refusal
check_folder_full room folder = refuse_if (nat_le max_children (length (children room folder))) FolderFull

-- no number is left
abbrev pub is_full : Room → Bool
is_full room = room.left == 0

abbrev pub check_room_full : Room → Option Refusal
check_room_full room = refuse_if (is_full room) RoomFull

abbrev pub check_size : ℕ → Option Refusal
check_size size = refuse_if (nat_lt max_document size) FBig

-- an object that is not there, where one is asked for
abbrev pub no_object : Object
no_object = record { kind = File; owner = []; group = []; aclflag = no_list_flags; own = []; bytes = [] }

abbrev pub object_or_default : Room → Path → Object
object_or_default room path = unwrap_or (object_at room path) no_object

abbrev pub bytes_at : Room → Path → List ℕ
bytes_at room path = (object_or_default room path).bytes

abbrev pub is_at_or_below : Path → Path → Bool
is_at_or_below path top = starts_with name_eq path top

-- DELETE on the object or DELETE_CHILD on its folder (RFC 8881, section 6.2.1.3.2, without its fallback to ADD_FILE).
-- One of them is enough to remove it
abbrev pub may_delete : Room → SubjectModel → Path → Bool
may_delete room caller path = may room caller path delete_object || may room caller (parent_of path) delete_child

-- a refusal names the object and DELETE
abbrev pub check_removal : Room → SubjectModel → Path → Option Refusal
check_removal room caller path =
    if may_delete room caller path then None else denied_at path (Denied delete_object)

-- the right to add an object of a kind to a folder
abbrev pub right_to_add : Kind → ℕ
right_to_add File = add_file
right_to_add Folder = add_subdirectory

-- how many names longer than a path the longest path at or below it is
abbrev pub depth_in : Path → List (Path × Object) → ℕ
depth_in path [] = 0
depth_in path (e ∷ es) =
    if is_at_or_below e.0 path then max (length e.0 - length path) (depth_in path es) else depth_in path es

-- no object of the moved subtree would have too many names
abbrev pub check_depth : Room → Path → Path → Option Refusal
check_depth room path to = refuse_if (nat_lt max_names (length to + depth_in path room.objects)) TooDeep

-- how what is wrong with own entries is answered
abbrev pub list_fault_code : ListFault → RefusalCode
list_fault_code L.Inval = Inval
list_fault_code L.AttrNotSupp = AttrNotSupp

abbrev pub check_lawful : Option ListFault → Option Refusal
check_lawful None = None
check_lawful (Some fault) = Some (refusal_without_place (list_fault_code fault))

-- a kind of check, with what it asks
pub data RoomCheck : Type 0 where
  -- what is made, removed or moved is not the root, and nothing moves into itself
  MakesBelowRoot : Path → RoomCheck
  RemovesBelowRoot : Path → RoomCheck
  MovesOutside : Path → Path → RoomCheck
  -- what is there, on the way and at its end
  Walks : Path → RoomCheck
  IsThere : Path → RoomCheck
  IsFree : Path → RoomCheck
  IsNoFile : Path → RoomCheck
  IsNoFolder : Path → RoomCheck
  IsEmpty : Path → RoomCheck
  -- rights: on an object, to remove it, and to add to the folder of the second path what is at the first
  IsAllowed : Path → ℕ → RoomCheck
  MayRemove : Path → RoomCheck
  MayMoveTo : Path → Path → RoomCheck
  -- limits: of a new object, of what moves, of a number of bytes alone or behind those of a file, and of own entries
  FolderTakes : Path → RoomCheck
  RoomTakes : RoomCheck
  FolderTakesMoved : Path → Path → RoomCheck
  DepthFits : Path → Path → RoomCheck
  SizeFits : ℕ → RoomCheck
  LongerFits : Path → ℕ → RoomCheck
  EntriesFit : List EntryModel → Path → RoomCheck

abbrev pub run_check : Room → SubjectModel → RoomCheck → Option Refusal
run_check room caller (MakesBelowRoot path) = refuse_if (is_root path) Exist
run_check room caller (RemovesBelowRoot path) = refuse_if (is_root path) Inval
run_check room caller (MovesOutside path to) = refuse_if (is_root path || is_root to || is_at_or_below to path) Inval
run_check room caller (Walks path) = walk room caller path
run_check room caller (IsThere path) = check_exists room path
run_check room caller (IsFree path) = check_absent room path
run_check room caller (IsNoFile path) = check_folder room path
run_check room caller (IsNoFolder path) = check_file room path
run_check room caller (IsEmpty path) = refuse_if (nat_lt 0 (length (children room path))) NotEmpty
run_check room caller (IsAllowed path right) = check_right room caller path right
run_check room caller (MayRemove path) = check_removal room caller path
run_check room caller (MayMoveTo path to) =
    check_right room caller (parent_of to) (right_to_add (object_or_default room path).kind)
run_check room caller (FolderTakes folder) = check_folder_full room folder
run_check room caller RoomTakes = check_room_full room
run_check room caller (FolderTakesMoved path to) =
    if path_eq (parent_of path) (parent_of to) then None else check_folder_full room (parent_of to)
run_check room caller (DepthFits path to) = check_depth room path to
run_check room caller (SizeFits size) = check_size size
run_check room caller (LongerFits path more) = check_size (length (bytes_at room path) + more)
run_check room caller (EntriesFit own path) = check_lawful (own_entries_fault own (object_or_default room path).kind)

-- the checks of each command (our own rule)
abbrev pub checks_of : CommandModel → List RoomCheck
checks_of (C.Stat path) = Walks path ∷ IsThere path ∷ IsAllowed path read_attributes ∷ []
checks_of (C.ListNames path) = Walks path ∷ IsThere path ∷ IsNoFile path ∷ IsAllowed path list_directory ∷ []
checks_of (C.Mkdir path) = MakesBelowRoot path ∷ Walks path ∷ IsFree path ∷ IsAllowed (parent_of path) add_subdirectory
    ∷ FolderTakes (parent_of path) ∷ RoomTakes ∷ []
checks_of (C.Create bytes path) = MakesBelowRoot path ∷ Walks path ∷ IsFree path ∷ IsAllowed (parent_of path) add_file
    ∷ SizeFits (length bytes) ∷ FolderTakes (parent_of path) ∷ RoomTakes ∷ []
checks_of (C.Read path) = Walks path ∷ IsThere path ∷ IsNoFolder path ∷ IsAllowed path read_data ∷ []
checks_of (C.Write bytes path) = Walks path ∷ IsThere path ∷ IsNoFolder path ∷ IsAllowed path write_data
    ∷ SizeFits (length bytes) ∷ []
checks_of (C.Append bytes path) = Walks path ∷ IsThere path ∷ IsNoFolder path ∷ IsAllowed path append_data
    ∷ LongerFits path (length bytes) ∷ []
checks_of (C.Remove path) = RemovesBelowRoot path ∷ Walks path ∷ IsThere path ∷ MayRemove path ∷ IsEmpty path ∷ []
checks_of (C.Rename path to) = MovesOutside path to ∷ Walks path ∷ IsThere path ∷ Walks to ∷ IsFree to ∷ MayRemove path
    ∷ MayMoveTo path to ∷ DepthFits path to ∷ FolderTakesMoved path to ∷ []
checks_of (C.GetList path) = Walks path ∷ IsThere path ∷ IsAllowed path read_acl ∷ []
checks_of (C.SetList aclflag entries path) = Walks path ∷ IsThere path ∷ IsAllowed path write_acl
    ∷ EntriesFit (own_entries_of_setlist path aclflag entries) path ∷ []
checks_of (C.Chown group owner path) = Walks path ∷ IsThere path ∷ IsAllowed path write_owner ∷ []
checks_of (C.Access mask path) = Walks path ∷ IsThere path ∷ []

abbrev pub checks : Room → SubjectModel → CommandModel → List (Option Refusal)
checks room caller command = map (run_check room caller) (checks_of command)
