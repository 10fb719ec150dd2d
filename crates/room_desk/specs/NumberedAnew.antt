-- Rows whose objects have other numbers (our own rules).
use Rattle.std.specs.Prelude.{◌≡◌, ◌<◌, ◌≤◌, ◌⊎◌, ℕ, [], None, Some, IsSome}
use Rattle.std.specs.Option.{option_map}
use Rattle.room_records.specs.declared.node.Node.{Node}
use Rattle.room_records.specs.Records.{ObjectRecords, root_number}

-- a node with its new number, and that of its folder
abbrev pub node_anew : (ℕ → ℕ) → Node → Node
node_anew to node = record node { id = to node.id; parent = option_map to node.parent }

-- `to` gives each object its new number. (No two get one: at one number their rows would be one, and so their paths)
pub record AreNumberedAnew (to : ℕ → ℕ) (old anew : ObjectRecords) : Type 0 where
  pub root : to root_number ≡ root_number
  pub numbers : (id : ℕ) → IsSome (old.node id) → (1 ≤ to id) × (to id < anew.next)
  pub nodes : (id : ℕ) (node : Node) → old.node id ≡ Some node → anew.node (to id) ≡ Some (node_anew to node)
  pub entries : (id : ℕ) → IsSome (old.node id) → anew.entries (to id) ≡ old.entries id
  pub documents : (id : ℕ) → IsSome (old.node id) → anew.document (to id) ≡ old.document id
  -- there are no other rows
  pub others : (number : ℕ) → ((id : ℕ) × IsSome (old.node id) × (to id ≡ number))
      ⊎ ((anew.node number ≡ None) × (anew.entries number ≡ []) × (anew.document number ≡ None))
