-- Paths of nodes, where rows stand for a room.
use Rattle.room_records.proofs.Common.{◌≡◌, ℕ, ◌+◌, refl, ap, sym, ◌∙◌, List, [], ◌∷◌, ◌++◌, reverse, take, drop}
use Rattle.room_records.proofs.Common.{length, get_or, ◌<◌, Option, None, Some, reverse-append, reverse-reverse}
use Rattle.room_records.proofs.Common.{take_more, take-append-drop, Node, Name, Path, ObjectRecords, IsChild, NodeRules}
use Rattle.room_records.proofs.Common.{ObjectRules, IsRoot, IsChildNamed, Object, Room, object_at, NamesUpwards}
use Rattle.room_records.proofs.Common.{HasPath, RowsShowObject, RepresentsRoom}
use Rattle.room_records.proofs.Options.{none_if}
use Rattle.room_records.proofs.RoomsMap.{some_is, none_is_some, nothing_below}

-- node 1 is in no folder
pub root_alone : (nodes : ℕ → Option Node) → NodeRules nodes → (node : Node) (parent : ℕ)
    → nodes 1 ≡ Some node → node.parent ≡ Some parent → ⊥
root_alone nodes rules node parent stands inside =
    let root : IsRoot node = rw stands at rules.root in none_is_some parent (sym root.no_parent ∙ inside)

module _ (t : ObjectRecords) (rules : ObjectRules t) where
  pub own_number : (id : ℕ) (node : Node) → t.node id ≡ Some node → t.node node.id ≡ Some node
  own_number id node h = ap t.node (rules.numbered id node h).0 ∙ h

  -- a path is that of one node
  pub reads_one : (names : List Name) (a b : ℕ) → NamesUpwards t names a → NamesUpwards t names b → a ≡ b
  reads_one [] a b up down = up ∙ sym down
  reads_one (name ∷ above) a b (n, p, stands, named, inside, up) (m, q, stands', named', inside', up') =
      let parents : p ≡ q = reads_one above p q up up' in
      let same : n.id ≡ m.id = rules.nodes.once n m (own_number a n stands) (own_number b m stands')
      (inside ∙ ap Some parents ∙ sym inside') (named ∙ sym named') in
      sym (rules.numbered a n stands).0 ∙ same ∙ (rules.numbered b m stands').0

  pub root_only : (node : Node) (parent : ℕ) → t.node 1 ≡ Some node → node.parent ≡ Some parent → ⊥
  root_only = root_alone t.node rules.nodes

  -- a node has one path
  pub one_path : (names others : List Name) (id : ℕ)
      → NamesUpwards t names id → NamesUpwards t others id → names ≡ others
  one_path [] [] id up up' = refl
  one_path [] (other ∷ others) id up (m, q, stands', named', inside', up') =
      absurd (root_only m q (rw up at stands') inside')
  one_path (name ∷ names) [] id (n, p, stands, named, inside, up) up' =
      absurd (root_only n p (rw up' at stands) inside)
  one_path (name ∷ names) (other ∷ others) id (n, p, stands, named, inside, up) (m, q, stands', named', inside', up') =
      let node : n ≡ m = some_is n m (sym stands ∙ stands') in
      let parent : p ≡ q = some_is p q (sym inside ∙ rw node inside') in
      let first : name ≡ other = some_is name other (sym named ∙ rw node named') in
      let rest : names ≡ others = one_path names others q (rw parent at up) up' in
      (λ i. first i ∷ rest i)

  pub child_is_at : (path : Path) (name : Name) (id : ℕ) (node : Node) → HasPath t path id
      → IsChild t id node → node.name ≡ Some name → HasPath t (path ++ name ∷ []) node.id
  child_is_at path name id node at child named =
      rw (reverse-append path (name ∷ [])) (node, id, child.stands, named, child.inside, at)

module _ (t : ObjectRecords) (room : Room) (stand : RepresentsRoom t room) where
  -- the object at a node's path is one that its rows show
  pub object_at_node : (path : Path) (id : ℕ) (node : Node) → HasPath t path id → t.node id ≡ Some node
      → (o : Object) × (object_at room path ≡ Some o) × RowsShowObject t node room path o
  object_at_node path id node at stands =
      let here = stand.nodes id node stands in
      let same : here.0 ≡ path = sym (reverse-reverse here.0)
      ∙ ap reverse (one_path t stand.rules (reverse here.0) (reverse path) id here.2.at at) ∙ reverse-reverse path in
      (here.1, rw same at here.2.object_stands, rw same at here.2.shows)

  -- what is in a folder is a child of its node
  pub child_there : (path : Path) (name : Name) (id : ℕ) (o : Object) → HasPath t path id
      → object_at room (path ++ name ∷ []) ≡ Some o → (node : Node) × IsChild t id node × (node.name ≡ Some name)
  child_there path name id o at stands =
      let found = stand.objects (path ++ name ∷ []) o stands in
      let above = rw (reverse-append path (name ∷ [])) at found.2.at in
      let parent : above.1 ≡ id = reads_one t stand.rules (reverse path) above.1 id above.5 at in (
        above.0,
        record { stands = own_number t stand.rules found.0 above.0 above.2; inside = above.4 ∙ ap Some parent },
        above.3,
      )

  pub no_child : (path : Path) (name : Name) (id : ℕ) → HasPath t path id
      → IsChildNamed t id name None → object_at room (path ++ name ∷ []) ≡ None
  no_child path name id at none = none_if _ (λ o e.
      let child = child_there path name id o at e in none child.0 child.1 child.2)

  pub none_on_the_way : (path : Path) (i : ℕ) (name : Name) (id : ℕ)
      → i < length path → name ≡ get_or path i name → HasPath t (take i path) id
      → IsChildNamed t id name None → object_at room path ≡ None
  none_on_the_way path i name id below is at none =
      let front : object_at room (take (i + 1) path) ≡ None =
      rw (take_more path i name below, ← is) (no_child (take i path) name id at none) in
      rw (← take-append-drop (i + 1) path)
      (nothing_below room stand.lawful (drop (i + 1) path) (take (i + 1) path) front)

  pub one_further : (path : Path) (i : ℕ) (name : Name) (id : ℕ) (node : Node)
      → i < length path → name ≡ get_or path i name → HasPath t (take i path) id
      → IsChildNamed t id name (Some node) → HasPath t (take (i + 1) path) node.id
  one_further path i name id node below is at child =
      rw (take_more path i name below, ← is) (child_is_at t stand.rules (take i path) name id node at child.0 child.1)
