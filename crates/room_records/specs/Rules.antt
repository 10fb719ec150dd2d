-- The record rules.
use Rattle.std.specs.Prelude.{◌≡◌, ◌≢◌, ℕ, ◌+◌, ◌<◌, ◌≤◌, List, [], Option, None, Some, IsSome, IfSome}
use Rattle.room_acl.specs.declared.subject.Kind.TheVariants.{File, Folder}
use Rattle.room_records.specs.declared.node.Node.{Node}
use Rattle.room_records.specs.declared.session.SessionRow.{SessionRow}
use Rattle.room_records.specs.Limits.{max_objects}
use Rattle.room_records.specs.Names.{Name, IsFileName}
use Rattle.room_records.specs.Records.{ObjectRecords, Records, root_number}

-- the root is a folder without parent and name
pub record IsRoot (node : Node) : Type 0 where
  pub no_parent : node.parent ≡ None
  pub no_name : node.name ≡ None
  pub folder : node.kind ≡ Folder

-- another node has a name, and a folder above it that is there
pub record IsBelow (nodes : ℕ → Option Node) (node : Node) : Type 0 where
  pub above : ℕ
  pub parent : Node
  pub has_parent : node.parent ≡ Some above
  pub stands : nodes above ≡ Some parent
  pub folder : parent.kind ≡ Folder
  pub name : Name
  pub named : node.name ≡ Some name
  pub lawful : IsFileName name

pub record NodeRules (nodes : ℕ → Option Node) : Type 0 where
  pub root : IfSome (nodes root_number) IsRoot
  pub has_root : IsSome (nodes root_number)
  pub below : (id : ℕ) (node : Node) → nodes id ≡ Some node → id ≢ root_number → IsBelow nodes node
  -- a name stands once in a folder
  pub once : (a b : Node) → nodes a.id ≡ Some a → nodes b.id ≡ Some b
      → a.parent ≡ b.parent → a.name ≡ b.name → a.id ≡ b.id

pub record ObjectRules (t : ObjectRecords) : Type 0 where
  pub numbered : (id : ℕ) (node : Node) → t.node id ≡ Some node → (node.id ≡ id) × (1 ≤ id) × (id < t.next)
  pub nodes : NodeRules t.node
  pub entries : (id : ℕ) → t.node id ≡ None → t.entries id ≡ []
  -- a document belongs to a file that is there
  pub documents : (id : ℕ) → IsSome (t.document id) → (node : Node) × (t.node id ≡ Some node) × (node.kind ≡ File)
  pub next : t.next ≤ max_objects + 1

-- a slot row belongs to a session row and lies below its number of slots
pub record SlotRules (r : Records) : Type 0 where
  pub sessions : (sid : List ℕ) (row : SessionRow) → r.session sid ≡ Some row → row.sid ≡ sid
  pub slots : (sid : List ℕ) (slot : ℕ) → IsSome (r.slot sid slot)
      → (row : SessionRow) × (r.session sid ≡ Some row) × (slot < row.slots)

pub record RulesHold (r : Records) : Type 0 where
  pub objects : ObjectRules r.objects
  pub slots : SlotRules r
