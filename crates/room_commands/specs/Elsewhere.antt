-- What a command of anybody's may change for a caller elsewhere (our own rules).
use Rattle.std.specs.Prelude.{◌≡◌, ℕ, true, false, ◌||◌, [], ◌∷◌, ◌++◌, Option, None, Some, is_none, Result}
use Rattle.std.specs.Option.{option_map}
use Rattle.std.specs.Result.{result_map_both}
use Rattle.room_acl.specs.declared.subject.Kind.TheVariants.{Folder}
use Rattle.room_acl.specs.Bits.{list_directory, read_acl, read_attributes}
use Rattle.room_acl.specs.SubjectModel.{SubjectModel}
use Rattle.room_acl.specs.Access.{allowed_mask}
use Rattle.room_records.specs.Names.{Name, Path}
use Rattle.room_records.specs.Room.{Object, Room, object_at, list_of, standing_of, parent_of}
use Rattle.room_commands.specs.ReplyModel.{Refusal, Attributes}
use Rattle.room_commands.specs.Checks.{walk, is_at_or_below}
use Rattle.room_commands.specs.Sight.{Sight, view, may, may_add, may_set, HasNoPower}

-- a path is not at or below either of two, unless the caller cannot reach that one
abbrev pub IsOff : SubjectModel → Room → Path × Path → Path → Type 0
IsOff caller room paths path = (is_at_or_below path paths.0 ≡ true → is_none (walk room caller paths.0) ≡ false)
    × (is_at_or_below path paths.1 ≡ true → is_none (walk room caller paths.1) ≡ false)

-- it is the folder of neither
abbrev pub HoldsNeither : Path × Path → Path → Type 0
HoldsNeither paths path = (name : Name) → (paths.0 ≡ path ++ name ∷ [] → ⊥) × (paths.1 ≡ path ++ name ∷ [] → ⊥)

-- and above neither
abbrev pub IsAboveNeither : Path × Path → Path → Type 0
IsAboveNeither paths path = (is_at_or_below paths.0 path ≡ false) × (is_at_or_below paths.1 path ≡ false)

-- what is seen of an object, but for whether a number is left
abbrev pub but_full : Sight → Sight
but_full s = record s { full = None }

-- and but for how deep it goes
abbrev pub but_depth : Sight → Sight
but_depth s = record (but_full s) { depth = None }

-- and but for the names in a folder, and how many they are
abbrev pub but_names : Sight → Sight
but_names s = record (but_depth s) {
  names = None;
  attributes = option_map (λ (x : Attributes). record x { size = 0 }) s.attributes;
}

-- what is seen at a path, with less of what is there
abbrev pub view_less : (Sight → Sight) → Room → SubjectModel → Path → Result (Option Sight) Refusal
view_less less room caller path = result_map_both (option_map less) (λ fault. fault) (view room caller path)

-- in the folder of a path the caller sees neither the names nor how many they are
abbrev pub IsUnlisted : SubjectModel → Room → Path → Type 0
IsUnlisted caller room path = walk room caller (parent_of path) ≡ None
    → (may room caller (parent_of path) list_directory ≡ false)
    × (may room caller (parent_of path) read_attributes ≡ false)

-- nor can it reach the path; and it has no power over the folders above
abbrev pub IsOutOfSight : SubjectModel → Room → Path → Type 0
IsOutOfSight caller room path = (is_none (walk room caller path) ≡ false) × IsUnlisted caller room path
    × HasNoPower caller room path

-- the caller may add to no folder, nor give itself the right to
abbrev pub AddsNowhere : SubjectModel → Room → Type 0
AddsNowhere caller room = (folder : Path) (o : Object) → object_at room folder ≡ Some o → o.kind ≡ Folder
    → walk room caller folder ≡ None → (may_add room caller folder || may_set room caller folder) ≡ false

-- which rights the caller has on what is at a path
abbrev pub rights_at : Room → SubjectModel → Path → Option ℕ
rights_at room caller path =
    option_map (λ (o : Object). allowed_mask (list_of room path) caller (standing_of o)) (object_at room path)

-- at and below a path the caller sees no list, and keeps its rights; at the path it sees no owner, group and list flags
pub record ListUnseen (caller : SubjectModel) (room later : Room) (path : Path) : Type 0 where
  pub rights : (rest : Path) → walk room caller (path ++ rest) ≡ None
      → rights_at room caller (path ++ rest) ≡ rights_at later caller (path ++ rest)
  pub lists : (rest : Path) → walk room caller (path ++ rest) ≡ None → may room caller (path ++ rest) read_acl ≡ false
  pub attributes : walk room caller path ≡ None → may room caller path read_attributes ≡ false
