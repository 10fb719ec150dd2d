-- Nodes by number and by place.
use Rattle.std.specs.Prelude.{◌≡◌, ℕ, Option, Some}
use Rattle.std.specs.Option.{option_map, option_and_then, option_cmp}
use Rattle.std.specs.Ordering.{nat_cmp, ordering_then}
use Rattle.std.specs.declared.cmp.Ordering.{Ordering}
use Rattle.std.specs.BTreeMap.{BTreeMap}
use Rattle.room_records.specs.declared.node.Node.{Node}
use Rattle.room_records.specs.Names.{Name, name_cmp}
use Rattle.room_records.specs.Table.{held, HasSpace}

-- the number of the parent, and the name
abbrev pub PlaceKey : Type 0
PlaceKey = ℕ × Option Name

abbrev pub place_cmp : PlaceKey → PlaceKey → Ordering
place_cmp a b = ordering_then (nat_cmp a.0 b.0) (option_cmp name_cmp a.1 b.1)

abbrev pub Nodes : Type 0
Nodes = BTreeMap ℕ (Option Node)

abbrev pub Places : Type 0
Places = BTreeMap PlaceKey (Option ℕ)

abbrev pub node_in : Nodes → ℕ → Option Node
node_in = held nat_cmp

abbrev pub id_at : Places → PlaceKey → Option ℕ
id_at = held place_cmp

-- where a node is, if it has a parent
abbrev pub place_of : Node → Option PlaceKey
place_of node = option_map (λ parent. (parent, node.name)) node.parent

-- each node stands at its number
abbrev pub IsNumbered : (ℕ → Option Node) → Type 0
IsNumbered nodes = (id : ℕ) (node : Node) → nodes id ≡ Some node → node.id ≡ id

-- the index has each node that has a place
abbrev pub ArePlaced : (ℕ → Option Node) → (PlaceKey → Option ℕ) → Type 0
ArePlaced nodes places =
    (id : ℕ) (node : Node) (place : PlaceKey) → nodes id ≡ Some node
    → place_of node ≡ Some place → places place ≡ Some id

-- at each place of the index its node is
abbrev pub AreAtPlace : (ℕ → Option Node) → (PlaceKey → Option ℕ) → Type 0
AreAtPlace nodes places =
    (place : PlaceKey) (id : ℕ) → places place ≡ Some id → option_and_then place_of (nodes id) ≡ Some place

pub record HasSpaceForNode (nodes : Nodes) (places : Places) (node : Node) : Type 0 where
  pub number : HasSpace nat_cmp nodes node.id
  pub place : (place : PlaceKey) → place_of node ≡ Some place → HasSpace place_cmp places place

-- no other node has this node's parent and name
abbrev pub IsFreeFor : (ℕ → Option Node) → Node → Type 0
IsFreeFor nodes node = (other : Node) → nodes other.id ≡ Some other
    → other.parent ≡ node.parent → other.name ≡ node.name → other.id ≡ node.id
