-- Found objects: the root, and a child of a found folder.
use Rattle.room_tree.proofs.Common.{common_steps, arith, ◌≡◌, sym, subst, [], ◌∷◌, ◌++◌, Some, Node, Name, Path}
use Rattle.room_tree.proofs.Common.{ObjectRecords, IsChildNamed, Room, HasPath, NodeIsObject, RepresentsRoom}
use Rattle.room_tree.proofs.Common.{object_at_node, child_is_at, LoadedObject, IsLoaded, node_of}

module _ {t : ObjectRecords} {room : Room} (stand : RepresentsRoom t room) where
  -- a node with a path
  is_loaded : (path : Path) (node : Node) (loaded : LoadedObject)
      → HasPath t path node.id → t.node node.id ≡ Some node → node_of loaded ≡ node → IsLoaded t room path loaded
  is_loaded path node loaded at stands is =
      let found = object_at_node t room stand path node.id node at stands in
      let shown : NodeIsObject t room node.id node path found.0 =
      record { at = at; node_stands = stands; object_stands = found.1; shows = found.2 } in
      record {
        object = found.0;
        is_there = (let P : Node → Type 0 = λ n. NodeIsObject t room n.id n path found.0 in subst P (sym is) shown);
      }

  pub root_is_loaded : (node : Node) (loaded : LoadedObject) → t.node 1 ≡ Some node
      → node_of loaded ≡ node → IsLoaded t room [] loaded
  root_is_loaded node loaded stands is = grind (arith, common_steps)

  pub child_is_loaded : (path : Path) (name : Name) (above loaded : LoadedObject) (node : Node)
      → IsLoaded t room path above → IsChildNamed t above.id name (Some node)
      → node_of loaded ≡ node → IsLoaded t room (path ++ name ∷ []) loaded
  child_is_loaded path name above loaded node folder child is =
      is_loaded (path ++ name ∷ []) node loaded
      (child_is_at t stand.rules path name above.id node folder.is_there.at child.0 child.1) child.0.stands is
