-- The nodes in a folder, by name, are what the room has there.
use Rattle.room_records.proofs.Common.{◌≡◌, ℕ, ap, sym, ◌∙◌, arith, inl, inr, List, [], ◌∷◌, ◌++◌, map, length}
use Rattle.room_records.proofs.Common.{Contains, Option, Some, unwrap_or, lookup, keys_of, AllByRecursion}
use Rattle.room_records.proofs.Common.{IsStrictlySortedBy, cases_Bool, nat_list_eq_equiv, get_or-map, length-map}
use Rattle.room_records.proofs.Common.{lookup-from_Contains, Kind, Node, Name, Path, name_eq, ObjectRecords, IsChild}
use Rattle.room_records.proofs.Common.{ObjectRules, Object, Room, object_at, children, HasPath, RepresentsRoom, name_of}
use Rattle.room_records.proofs.Common.{InNameOrder, AreChildren, IsChildCount}
use Rattle.room_records.proofs.Children.{named_by_rules}
use Rattle.room_records.proofs.Options.{none_if}
use Rattle.room_records.proofs.Paths.{child_is_at, child_there, object_at_node}
use Rattle.room_records.proofs.RoomsMap.{none_is_some}
use Rattle.room_records.proofs.RoomsChildren.{Rises, above_all, same_name, same_entries, children_rise, keys_apart}
use Rattle.room_records.proofs.RoomsChildren.{kind_of_child}
use Rattle.room_records.proofs.RulesKept.{some_or_none}

-- what a listing shows of a node
abbrev pub pair_of : Node → Name × Kind
pair_of node = (name_of node, node.kind)

pairs_rise : (nodes : List Node) → InNameOrder nodes → Rises (map pair_of nodes)
unfolding IsStrictlySortedBy
pairs_rise [] order = tt
pairs_rise (a ∷ []) order = (tt, tt)
pairs_rise (a ∷ b ∷ nodes) order =
    let rest = pairs_rise (b ∷ nodes) order.1 in
    ((order.0, above_all (name_of a) (name_of b) (keys_of (map pair_of nodes)) order.0 rest.0), rest)

-- a node in a folder has a name
pub child_named : (t : ObjectRecords) → ObjectRules t → (id : ℕ) (node : Node)
    → IsChild t id node → node.name ≡ Some (name_of node)
child_named t rules id node child =
    let name = named_by_rules t rules.nodes id node child in
    name.1 ∙ ap (λ (n : Option Name). Some (unwrap_or n [])) (sym name.1)

listed_node : (name : Name) (kind : Kind) (nodes : List Node) (P : Node → Type 0) → AllByRecursion P nodes
    → lookup (name_eq name) (map pair_of nodes) ≡ Some kind → (node : Node) × P node × (name_of node ≡ name)
listed_node name kind [] P all found = absurd (none_is_some kind found)
listed_node name kind (node ∷ nodes) P all found = elim (cases_Bool (name_eq name (name_of node))) [
  | inl here ↦ (node, all.0, sym (same_name name (name_of node) here))
  | inr there ↦ listed_node name kind nodes P all.1 (rw there at found)
]

listed_kind : (nodes : List Node) → InNameOrder nodes → (node : Node) → Contains nodes node
    → lookup (name_eq (name_of node)) (map pair_of nodes) ≡ Some node.kind
listed_kind nodes order node (k, below, is) =
    lookup-from_Contains nat_list_eq_equiv (name_of node) node.kind (map pair_of nodes)
    (keys_apart (map pair_of nodes) (pairs_rise nodes order)) (
      k,
      omega (arith, below, length-map nodes pair_of),
      get_or-map pair_of nodes k node (pair_of node) below ∙ ap pair_of is,
    )

module _ (t : ObjectRecords) (room : Room) (stand : RepresentsRoom t room)
    (path : Path) (id : ℕ) (at : HasPath t path id) where
  child_object : (node : Node) (name : Name) → IsChild t id node → name_of node ≡ name
      → (o : Object) × (object_at room (path ++ name ∷ []) ≡ Some o) × (node.kind ≡ o.kind)
  child_object node name child is =
      let below = child_is_at t stand.rules path name id node at child
      (child_named t stand.rules id node child ∙ ap Some is) in
      let found = object_at_node t room stand (path ++ name ∷ []) node.id node below child.stands in
      (found.0, found.1, found.2.kind)

  pub object_child : (name : Name) (o : Object) → object_at room (path ++ name ∷ []) ≡ Some o
      → (node : Node) × IsChild t id node × (node.name ≡ Some name)
  object_child name o stands = child_there t room stand path name id o at stands

  same_kinds : (nodes : List Node) → AreChildren t id nodes → (name : Name)
      → lookup (name_eq name) (map pair_of nodes) ≡ lookup (name_eq name) (children room path)
  same_kinds nodes are name = elim (some_or_none (object_at room (path ++ name ∷ []))) [
    | inl none ↦
        none_if _ (λ kind found.
        let child = listed_node name kind nodes (IsChild t id) are.each found in
        let there = child_object child.0 name child.1 child.2 in none_is_some there.0 (sym none ∙ there.1))
        ∙ sym (rw none at (kind_of_child room path name))
    | inr found ↦ (
        let child = object_child name found.0 found.1 in
        let is : name_of child.0 ≡ name = ap (λ (n : Option Name). unwrap_or n []) child.2 in
        let there = child_object child.0 name child.1 is in
        rw is at (listed_kind nodes (are.in_order stand.rules.nodes) child.0 (are.every child.0 child.1))
        ∙ ap Some there.2 ∙ sym (rw there.1 at (kind_of_child room path name)))
  ]

  -- the nodes in a folder, by name, show what is in it
  pub nodes_are_children : (nodes : List Node) → AreChildren t id nodes → map pair_of nodes ≡ children room path
  nodes_are_children nodes are = same_entries (map pair_of nodes) (children room path)
      (pairs_rise nodes (are.in_order stand.rules.nodes)) (children_rise room path) (same_kinds nodes are)

  -- and a count of them is how many there are
  pub child_count_is : (count : ℕ) → IsChildCount t id count → count ≡ length (children room path)
  child_count_is count counted =
      counted.2 ∙ sym (length-map counted.0 pair_of) ∙ ap length (nodes_are_children counted.0 counted.1)
