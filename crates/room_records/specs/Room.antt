-- A room: a finite map from paths to objects. It holds no inherited entry and no object number.
-- Which objects follow their folder, what a list is made of and every limit are our own rules; masks,
-- flags and `who` are those of RFC 8881, section 6.2.1, and list flags those of section 6.4.3.2.
use Rattle.std.specs.Prelude.{◌≡◌, ℕ, ◌-◌, true, not, List, [], ◌∷◌, ◌++◌, reverse, length, take, Option, None}
use Rattle.std.specs.Prelude.{Some, if◌then◌else◌, ◌≤◌, IsTrue}
use Rattle.std.specs.List.{filter_map, list_all}
use Rattle.std.specs.Map.{lookup}
use Rattle.std.specs.Option.{option_map}
use Rattle.std.specs.BTreeMap.{insert_entry}
use Rattle.std.specs.declared.cmp.Ordering.{Ordering}
use Rattle.room_acl.specs.declared.subject.Kind.{Kind}
use Rattle.room_acl.specs.declared.subject.Kind.TheVariants.{Folder}
use Rattle.room_acl.specs.declared.subject.Standing.{Standing}
use Rattle.room_acl.specs.declared.who.Who.{Who}
use Rattle.room_acl.specs.declared.who.Who.TheVariants.{Owner, Group}
use Rattle.room_acl.specs.Bits.{all_rights, reading_rights, inherit_flags, no_list_flags, is_inherited}
pub use Rattle.room_acl.specs.Bits.{follows}
use Rattle.room_acl.specs.Entries.{EntryModel}
use Rattle.room_acl.specs.Inheritance.{with_inherited, max_own_entries}
use Rattle.room_records.specs.Limits.{max_children, max_document, max_objects}
use Rattle.room_records.specs.Names.{Name, Path, IsPath, name_cmp, name_eq, path_eq}

-- a folder or a file (our own rule)
pub record Object : Type 0 where
  pub kind : Kind
  pub owner : List ℕ
  pub group : List ℕ
  -- its list flags
  pub aclflag : ℕ
  -- its own entries, without those that its folder hands down
  pub own : List EntryModel
  -- of a file, its document
  pub bytes : List ℕ

-- each path stands once. `left` is how many objects can still be made: it never rises (our own rule)
pub record Room : Type 0 where
  pub objects : List (Path × Object)
  pub left : ℕ

abbrev pub object_at : Room → Path → Option Object
object_at room path = lookup (path_eq path) room.objects

-- an object keeps to the limits: at most 32 own entries, none of them inherited, at most 65,536 bytes, and a folder has
-- none (our own rule)
pub record IsObject (o : Object) : Type 0 where
  pub few_entries : length o.own ≤ max_own_entries
  pub own_entries : IsTrue (list_all (λ entry. not (is_inherited entry.flags)) o.own)
  pub small : length o.bytes ≤ max_document
  pub folder : o.kind ≡ Folder → o.bytes ≡ []

-- each path is one of at most 16 file names, each object keeps to the limits, and each path stands once (our own rule)
abbrev pub AreObjects : List (Path × Object) → Type 0
AreObjects [] = Unit {0}
AreObjects (e ∷ es) = IsPath e.0 × IsObject e.1 × (lookup (path_eq e.0) es ≡ None) × AreObjects es

-- the folder that a path stands in; the root's is the root
abbrev pub parent_of : Path → Path
parent_of path = take (length path - 1) path

-- the last name of a path that stands right in this folder
abbrev pub name_in : Path → Path → Option Name
name_in [] [] = None
name_in [] (name ∷ []) = Some name
name_in [] (name ∷ other ∷ path) = None
name_in (a ∷ folder) [] = None
name_in (a ∷ folder) (b ∷ path) = if name_eq a b then name_in folder path else None

abbrev pub child_in : Path → Path × Object → Option (Name × Kind)
child_in folder e = option_map (λ (name : Name). (name, e.1.kind)) (name_in folder e.0)

-- entries in the order of their keys
abbrev pub in_order : {K V : Type 0} → (K → K → Ordering) → List (K × V) → List (K × V)
in_order cmp [] = []
in_order cmp (e ∷ es) = insert_entry cmp (in_order cmp es) e.0 e.1

abbrev pub by_name : List (Name × Kind) → List (Name × Kind)
by_name es = in_order name_cmp es

-- what is right in a folder, rising by the bytes of names (our own rule)
abbrev pub children : Room → Path → List (Name × Kind)
children room folder = by_name (filter_map (child_in folder) room.objects)

-- what makes a room of a map: the root is a folder, the parent of every other path is a folder of the map, and no
-- folder has more than 256 children (our own rule)
pub record IsRoom (room : Room) : Type 0 where
  pub root : (o : Object) × (object_at room [] ≡ Some o) × (o.kind ≡ Folder)
  pub parents : (path : Path) (name : Name) (o : Object) → object_at room (path ++ name ∷ []) ≡ Some o
      → (above : Object) × (object_at room path ≡ Some above) × (above.kind ≡ Folder)
  pub once : AreObjects room.objects
  pub few : (path : Path) → length (children room path) ≤ max_children

abbrev pub list_under : Option Object → List EntryModel → List EntryModel
list_under None above = []
list_under (Some o) above = with_inherited o.own o.aclflag o.kind above

-- the own entries of the root, which never follows (our own rule)
abbrev pub root_list : Option Object → List EntryModel
root_list None = []
root_list (Some o) = o.own

-- the list of an object: its own entries, then, where it follows, what its folder's list hands down (our own rule). The
-- names come from below
abbrev pub list_upwards : Room → List Name → List EntryModel
list_upwards room [] = root_list (object_at room [])
list_upwards room (name ∷ above) = list_under (object_at room (reverse (name ∷ above))) (list_upwards room above)

abbrev pub list_of : Room → Path → List EntryModel
list_of room path = list_upwards room (reverse path)

-- what entries for OWNER@ and GROUP@ are matched with (RFC 8881, section 6.2.1.5)
abbrev pub standing_of : Object → Standing
standing_of o = record { owner = o.owner; group = o.group }

-- an entry that allows these rights, and that files and folders inherit
abbrev pub fresh_entry : Who → ℕ → EntryModel
fresh_entry who mask = record { allow = true; flags = inherit_flags; mask = mask; who = who }

-- the owner may do everything, and the group may list, read and traverse (our own rule)
abbrev pub fresh_entries : List EntryModel
fresh_entries = fresh_entry Owner all_rights ∷ fresh_entry Group reading_rights ∷ []

abbrev pub fresh_object : List ℕ → List ℕ → Object
fresh_object owner group =
    record { kind = Folder; owner = owner; group = group; aclflag = no_list_flags; own = fresh_entries; bytes = [] }

-- a fresh room: a root folder with these entries, and nothing in it (our own rule)
abbrev pub fresh_room : List ℕ → List ℕ → Room
fresh_room owner group = record { objects = ([], fresh_object owner group) ∷ []; left = max_objects - 1 }
