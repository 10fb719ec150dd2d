-- What the calls that read a room for a command say.
use Rattle.std.specs.Prelude.{◌≡◌, ℕ, ◌-◌, ◌≤◌, List, [], ◌∷◌, ◌++◌, take, length, Option, None, Some}
use Rattle.room_acl.specs.Bits.{auto_inherit_flag}
use Rattle.room_acl.specs.SubjectModel.{SubjectModel}
use Rattle.room_records.specs.declared.node.Node.{Node}
use Rattle.room_records.specs.Names.{Name, Path}
use Rattle.room_records.specs.Records.{ObjectRecords}
use Rattle.room_records.specs.Shelf.{View}
use Rattle.room_records.specs.Room.{Object, Room, object_at, parent_of}
use Rattle.room_records.specs.Representation.{RepresentsRoom, NodeIsObject}
use Rattle.room_tree.specs.declared.loaded.LoadedObject.{LoadedObject}
use Rattle.room_acl.specs.declared.subject.Kind.{Kind}
use Rattle.room_acl.specs.declared.subject.Kind.TheVariants.{File, Folder}
use Rattle.room_tree.specs.declared.walking.Walk.{Walk}
use Rattle.room_tree.specs.declared.walking.Walk.TheVariants.{Absent, Found}
use Rattle.room_commands.specs.ReplyModel.{Refusal}
use Rattle.room_commands.specs.Checks.{check_file, check_folder, check_right}

-- what a call says of each room that the rows stand for as it begins
abbrev pub OfRoom : View → View → (ObjectRecords → Room → Type 0) → Type 0
OfRoom old new P =
    new.is_available → old.is_laid_out → (t : ObjectRecords)
    → old.records.objects ≡ t → (room : Room) → RepresentsRoom t room → P t room

-- the row of a found object
abbrev pub node_of : LoadedObject → Node
node_of loaded = record {
  id = loaded.id;
  parent = loaded.parent;
  name = loaded.name;
  kind = loaded.kind;
  owner = loaded.standing.owner;
  group = loaded.standing.group;
  aclflag = loaded.aclflag;
}

-- the row of the object at a path
pub record IsLoaded (t : ObjectRecords) (room : Room) (path : Path) (loaded : LoadedObject) : Type 0 where
  pub object : Object
  pub is_there : NodeIsObject t room loaded.id (node_of loaded) path object

-- the folder above the first names of a path
abbrev pub IsAbove : ObjectRecords → Room → Path → ℕ → Option LoadedObject → Type 0
IsAbove t room path count None = count ≡ 0
IsAbove t room path count (Some loaded) = (1 ≤ count) × IsLoaded t room (take (count - 1) path) loaded

-- where the walk of a path ends
abbrev pub IsWalk : ObjectRecords → Room → Path → Walk → Type 0
IsWalk t room path (Absent above) = (object_at room path ≡ None) × IsLoaded t room (parent_of path) above
IsWalk t room path (Found here above) = IsLoaded t room path here × IsAbove t room path (length path) above

-- which kind alone is asked for
abbrev pub kind_checks : Room → Path → Option Kind → List (Option Refusal)
kind_checks room path None = []
kind_checks room path (Some File) = check_file room path ∷ []
kind_checks room path (Some Folder) = check_folder room path ∷ []

-- the kind and a right
abbrev pub use_checks : Room → SubjectModel → Path → Option Kind → ℕ → List (Option Refusal)
use_checks room caller path kind wanted = kind_checks room path kind ++ check_right room caller path wanted ∷ []

-- the row of an object that is made at a path: the caller's, with the folder's group, and it follows
pub record IsNewNode (caller : SubjectModel) (path : Path)
    (above : LoadedObject) (kind : Kind) (id : ℕ) (node : Node) : Type 0 where
  pub number : node.id ≡ id
  pub parent : node.parent ≡ Some above.id
  pub name : (folder : Path) (name : Name) → path ≡ folder ++ name ∷ [] → node.name ≡ Some name
  pub kind_is : node.kind ≡ kind
  pub owner : node.owner ≡ caller.name
  pub group : node.group ≡ above.standing.group
  pub aclflag : node.aclflag ≡ auto_inherit_flag
