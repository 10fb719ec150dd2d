-- What a caller may see of a room, and when two rooms look alike to it. Which right shows what follows the meaning of
-- the bits in RFC 8881, section 6.2.1.3.1. What shows beyond that meaning follows from our own order of checks, and is
-- named below: the first fault on the way, that something is there, `kind`, `rights`, `size`, `depth` and `full`.
use Rattle.std.specs.Prelude.{◌≡◌, ℕ, Bool, true, false, not, ◌&&◌, ◌||◌, List, [], ◌∷◌, ◌++◌}
use Rattle.std.specs.Prelude.{length, Option, None, Some, Result, Ok, Err, ⊤, bit_and, nat_lt, if◌then◌else◌}
use Rattle.std.specs.Bool.{then_some}
use Rattle.std.specs.Option.{option_map, option_map_or}
use Rattle.room_acl.specs.declared.subject.Kind.{Kind}
use Rattle.room_acl.specs.declared.subject.Kind.TheVariants.{File, Folder}
use Rattle.room_acl.specs.Bits.{read_data, list_directory, add_file, append_data, add_subdirectory, read_attributes}
use Rattle.room_acl.specs.Bits.{read_acl, write_acl, write_owner}
use Rattle.room_acl.specs.SubjectModel.{SubjectModel}
use Rattle.room_acl.specs.Entries.{EntryModel}
use Rattle.room_acl.specs.Access.{allowed_mask}
use Rattle.room_acl.specs.Inheritance.{handed_down}
use Rattle.room_records.specs.Names.{Name, Path}
use Rattle.room_records.specs.Room.{Object, Room, object_at, list_of, standing_of, parent_of, children}
use Rattle.room_commands.specs.CommandModel.{CommandModel}
use Rattle.room_commands.specs.CommandModel as C
use Rattle.room_commands.specs.declared.reply.RefusalCode.TheVariants.{NotDir, IsDir, NotEmpty}
use Rattle.room_commands.specs.ReplyModel.{Refusal, Attributes, ReplyModel}
use Rattle.room_commands.specs.ReplyModel.{Done, About, Names, Size, Bytes, Entries, Allowed, NotDone}
use Rattle.room_commands.specs.Lawful.{IsLawful}
use Rattle.room_commands.specs.Checks.{may_delete, walk, is_file, is_kind, is_root, right_to_add, is_full}
use Rattle.room_commands.specs.Checks.{object_or_default, refusal_without_place}
pub use Rattle.room_commands.specs.Checks.{may, depth_in}
use Rattle.room_commands.specs.Effect.{attributes_of, effect}

-- the caller may remove an object, or move it: by DELETE on it, or by DELETE_CHILD on its folder
abbrev pub may_remove : Room → SubjectModel → Path → Bool
may_remove room caller path = not (is_root path) && may_delete room caller path

-- or add to it, if it is a folder
abbrev pub may_add : Room → SubjectModel → Path → Bool
may_add room caller path = may room caller path add_file || may room caller path add_subdirectory

-- or set its list or its owner
abbrev pub may_set : Room → SubjectModel → Path → Bool
may_set room caller path = may room caller path write_acl || may room caller path write_owner

-- what a caller may see of an object that it can reach
pub record Sight : Type 0 where
  -- without any right on it
  pub kind : Kind
  -- which rights the caller itself has there: ACCESS tells them
  pub rights : ℕ
  -- by READ_ATTRIBUTES
  pub attributes : Option Attributes
  -- by LIST_DIRECTORY, of a folder
  pub names : Option (List (Name × Kind))
  -- by READ_DATA, of a file
  pub bytes : Option (List ℕ)
  -- its list flags and its list, by READ_ACL, which its owner always has
  pub entries : Option (ℕ × List EntryModel)
  -- by APPEND_DATA, how long a file is: the reply of APPEND, and FBIG
  pub size : Option ℕ
  -- by a right to remove it, how deep it goes: NOTEMPTY and TOO_DEEP
  pub depth : Option ℕ
  -- by a right to add to a folder, whether the room has no number left: ROOM_FULL
  pub full : Option Bool

abbrev pub sight_of : Room → SubjectModel → Path → Object → Sight
sight_of room caller path o = record {
  kind = o.kind;
  rights = allowed_mask (list_of room path) caller (standing_of o);
  attributes = then_some (may room caller path read_attributes) (attributes_of room path o);
  names = then_some (not (is_file o.kind) && may room caller path list_directory) (children room path);
  bytes = then_some (is_file o.kind && may room caller path read_data) o.bytes;
  entries = then_some (may room caller path read_acl) (o.aclflag, list_of room path);
  size = then_some (is_file o.kind && may room caller path append_data) (length o.bytes);
  depth = then_some (may_remove room caller path) (depth_in path room.objects);
  full = then_some (not (is_file o.kind) && may_add room caller path) (is_full room);
}

-- what is seen at a path: the first fault on the way (a folder that is missing, is a file, or denies EXECUTE), and
-- nothing behind it; else what is there
abbrev pub view : Room → SubjectModel → Path → Result (Option Sight) Refusal
view room caller path =
    option_map_or Err (walk room caller path) (Ok (option_map (sight_of room caller path) (object_at room path)))

-- two rooms of which a caller may see the same, at each path
abbrev pub LooksAlike : SubjectModel → Room → Room → Type 0
LooksAlike caller a b = (path : Path) → view a caller path ≡ view b caller path

-- each thing seen, but `full`, is the answer to a command of the caller's own; of `depth` it tells whether it is 0
pub record IsSightTold (room : Room) (caller : SubjectModel) (path : Path) (s : Sight) : Type 0 where
  pub file : s.kind ≡ File → (effect room caller (C.ListNames path)).reply ≡ NotDone (refusal_without_place NotDir)
  pub folder : s.kind ≡ Folder → (effect room caller (C.Read path)).reply ≡ NotDone (refusal_without_place IsDir)
  pub rights : (mask : ℕ) → (effect room caller (C.Access mask path)).reply ≡ Allowed (bit_and mask s.rights)
  pub attributes : (x : Attributes) → s.attributes ≡ Some x → (effect room caller (C.Stat path)).reply ≡ About x
  pub names : (names : List (Name × Kind)) → s.names ≡ Some names
      → (effect room caller (C.ListNames path)).reply ≡ Names names
  pub bytes : (bytes : List ℕ) → s.bytes ≡ Some bytes → (effect room caller (C.Read path)).reply ≡ Bytes bytes
  pub entries : (aclflag : ℕ) (entries : List EntryModel) → s.entries ≡ Some (aclflag, entries)
      → (effect room caller (C.GetList path)).reply ≡ Entries aclflag entries
  pub size : (size : ℕ) → s.size ≡ Some size → (effect room caller (C.Append [] path)).reply ≡ Size size
  pub depth : (depth : ℕ) → s.depth ≡ Some depth → (effect room caller (C.Remove path)).reply
      ≡ (if nat_lt 0 depth then NotDone (refusal_without_place NotEmpty) else Done)

-- the command changes nothing, or the bytes of a file alone
abbrev pub changes_bytes_alone : CommandModel → Bool
changes_bytes_alone (C.Mkdir path) = false
changes_bytes_alone (C.Create bytes path) = false
changes_bytes_alone (C.Remove path) = false
changes_bytes_alone (C.Rename path to) = false
changes_bytes_alone (C.SetList aclflag entries path) = false
changes_bytes_alone (C.Chown group owner path) = false
changes_bytes_alone command = true

-- what stands at a path and below it is the same in both rooms
abbrev pub SameBelow : Room → Room → Path → Type 0
SameBelow a b path = (rest : Path) → object_at a (path ++ rest) ≡ object_at b (path ++ rest)

-- what the list of its folder hands down to an object, whether or not it follows
abbrev pub handed_to : Room → Path → List EntryModel
handed_to room path =
    option_map_or (λ (o : Object). handed_down (list_of room (parent_of path)) o.kind) (object_at room path) []

-- two rooms that look alike to a caller, and will after each of its own commands
pub record StayAlike (caller : SubjectModel) (a b : Room) : Type 0 where
  pub now : LooksAlike caller a b
  -- what it adds to a folder takes one of the numbers that are left, and it may use them up; it gets the folder's group
  -- and what its list hands down, and as the owner it may read both
  pub adding : (folder : Path) (name : Name) (kind : Kind) → walk a caller (folder ++ name ∷ []) ≡ None
      → may a caller folder (right_to_add kind) ≡ true
      → (a.left ≡ b.left) × ((object_or_default a folder).group ≡ (object_or_default b folder).group)
      × (handed_down (list_of a folder) kind ≡ handed_down (list_of b folder) kind)
  -- what it may move it may put below a list of its own
  pub moving : (path : Path) → walk a caller path ≡ None → may_remove a caller path ≡ true → SameBelow a b path
  -- where it may set the list or the owner, it may give itself each right; on a folder, so also the right to add
  pub setting : (path : Path) → walk a caller path ≡ None → may_set a caller path ≡ true
      → SameBelow a b path × (handed_to a path ≡ handed_to b path)
      × (is_kind Folder (object_at a path) ≡ true → a.left ≡ b.left)

-- a command of the caller's own, or of somebody else
pub data Turn : Type 0 where
  Own : CommandModel → Turn
  Other : SubjectModel → CommandModel → Turn

abbrev pub own_turns : List Turn → List Turn
own_turns [] = []
own_turns (Own command ∷ turns) = Own command ∷ own_turns turns
own_turns (Other other command ∷ turns) = own_turns turns

-- the answers to the caller's own commands, one after another, where others have their turns
abbrev pub replies_among : Room → SubjectModel → List Turn → List ReplyModel
replies_among room caller [] = []
replies_among room caller (Own command ∷ turns) =
    (effect room caller command).reply ∷ replies_among (effect room caller command).room caller turns
replies_among room caller (Other other command ∷ turns) =
    replies_among (effect room other command).room caller turns

-- what others do in their turns the caller cannot see, now or later
abbrev pub OthersUnseen : SubjectModel → Room → List Turn → Type 0
OthersUnseen caller room [] = ⊤
OthersUnseen caller room (Own command ∷ turns) =
    IsLawful command × OthersUnseen caller (effect room caller command).room turns
OthersUnseen caller room (Other other command ∷ turns) =
    IsLawful command × StayAlike caller room (effect room other command).room
    × OthersUnseen caller (effect room other command).room turns

-- the caller may not see the bytes of a file, nor how many they are
abbrev pub BytesUnseen : SubjectModel → Room → Path → Type 0
BytesUnseen caller room path = walk room caller path ≡ None → (may room caller path read_data ≡ false)
    × (may room caller path append_data ≡ false) × (may room caller path read_attributes ≡ false)

-- and it can do nothing to the file, nor to a folder above it, that would let it see them
abbrev pub HasNoPower : SubjectModel → Room → Path → Type 0
HasNoPower caller room path = (front rest : Path) → path ≡ front ++ rest → walk room caller front ≡ None
    → (may_remove room caller front ≡ false) × (may_set room caller front ≡ false)
