-- Rows that stand for a room.
use Rattle.std.specs.Prelude.{◌≡◌, ℕ, ◌+◌, List, [], ◌∷◌, reverse, Option, None, Some, unwrap_or}
use Rattle.room_records.specs.declared.node.Node.{Node}
use Rattle.room_records.specs.Limits.{max_objects}
use Rattle.room_records.specs.Names.{Name, Path}
use Rattle.room_records.specs.Records.{ObjectRecords, root_number}
use Rattle.room_records.specs.Rules.{ObjectRules}
use Rattle.room_records.specs.Room.{Object, Room, IsRoom, object_at, list_of}

-- reading names upwards by parent numbers gives these
abbrev pub NamesUpwards : ObjectRecords → List Name → ℕ → Type 0
NamesUpwards t [] id = id ≡ root_number
NamesUpwards t (name ∷ above) id =
    (node : Node) × (parent : ℕ) × (t.node id ≡ Some node) × (node.name ≡ Some name)
    × (node.parent ≡ Some parent) × NamesUpwards t above parent

abbrev pub HasPath : ObjectRecords → Path → ℕ → Type 0
HasPath t path id = NamesUpwards t (reverse path) id

pub record RowsShowObject (t : ObjectRecords) (node : Node) (room : Room) (path : Path) (o : Object) : Type 0 where
  pub kind : node.kind ≡ o.kind
  pub owner : node.owner ≡ o.owner
  pub group : node.group ≡ o.group
  pub aclflag : node.aclflag ≡ o.aclflag
  -- the whole list
  pub entries : t.entries node.id ≡ list_of room path
  pub bytes : unwrap_or (t.document node.id) [] ≡ o.bytes

pub record NodeIsObject (t : ObjectRecords) (room : Room) (id : ℕ)
    (node : Node) (path : Path) (o : Object) : Type 0 where
  pub at : HasPath t path id
  pub node_stands : t.node id ≡ Some node
  pub object_stands : object_at room path ≡ Some o
  pub shows : RowsShowObject t node room path o

pub record RepresentsRoom (t : ObjectRecords) (room : Room) : Type 0 where
  pub rules : ObjectRules t
  pub lawful : IsRoom room
  -- each node has a path, where an object is that it shows
  pub nodes : (id : ℕ) (node : Node) → t.node id ≡ Some node
      → (path : Path) × (o : Object) × NodeIsObject t room id node path o
  -- each object has a node that shows it
  pub objects : (path : Path) (o : Object) → object_at room path ≡ Some o
      → (id : ℕ) × (node : Node) × NodeIsObject t room id node path o
  pub next : t.next + room.left ≡ max_objects + 1

-- the node at a path, if an object is there
abbrev pub IsNodeAt : ObjectRecords → Room → Path → Option Node → Type 0
IsNodeAt t room path None = object_at room path ≡ None
IsNodeAt t room path (Some node) = HasPath t path node.id × (t.node node.id ≡ Some node)
