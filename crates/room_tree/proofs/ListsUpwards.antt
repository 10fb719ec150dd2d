-- The list of an object by its rows and those of the folders above it.
use Rattle.room_tree.proofs.Common.{◌≡◌, ℕ, ◌+◌, ◌≤◌, refl, ap, sym, ◌∙◌, arith, Bool, true, false, cond, inl, inr}
use Rattle.room_tree.proofs.Common.{List, [], ◌∷◌, ◌++◌, length, reverse, append-nil, None, Some, reverse-append}
use Rattle.room_tree.proofs.Common.{length_push, EntryModel, handed_down, own_part, Node, Path, ObjectRecords}
use Rattle.room_tree.proofs.Common.{max_names, Object, Room, object_at, list_of, follows, HasPath, RepresentsRoom}
use Rattle.room_tree.proofs.Common.{object_at_node, root_only, list_of_child, list_of_root, some_is, none_is_some, Ends}
use Rattle.room_tree.proofs.Common.{path_of_object, path_parts}
use Rattle.room_tree.proofs.OwnPart.{root_or_below, own_part_of_list}
use Rattle.room_tree.proofs.StoredLists.{node_at_path}

-- the folder above a node, on its path
pub record IsUnder (t : ObjectRecords) (room : Room) (path : Path) (id : ℕ) (node : Node) (above : ℕ) : Type 0 where
  pub folder : Path
  pub at : HasPath t folder above
  pub one_more : length folder + 1 ≡ length path
  pub list : own_part (t.entries id)
      ++ cond (follows node.aclflag) (handed_down (list_of room folder) node.kind) [] ≡ list_of room path

-- a number that has a path is a node's
pub node_there : {t : ObjectRecords} {room : Room} → RepresentsRoom t room → (path : Path) (id : ℕ) → HasPath t path id
    → t.node id ≡ None → ⊥
node_there stand path id at none =
    let node = node_at_path stand path id at in none_is_some node.0 (sym none ∙ node.1)

module _ {t : ObjectRecords} {room : Room} (stand : RepresentsRoom t room) (path : Path) (id : ℕ) (node : Node)
    (at : HasPath t path id) (stands : t.node id ≡ Some node) where
  number : node.id ≡ id
  number = (stand.rules.numbered id node stands).0

  -- the names that a path has
  pub few_names : length path ≤ max_names
  few_names =
      let found = object_at_node t room stand path id node at stands in
      (path_parts path (path_of_object room stand.lawful path found.0 found.1)).short

  -- the own entries of the object there
  own_of : (o : Object) → object_at room path ≡ Some o → own_part (t.entries id) ≡ o.own
  own_of o there =
      let found = object_at_node t room stand path id node at stands in
      ap (λ k. own_part (t.entries k)) (sym number) ∙ ap own_part found.2.entries
      ∙ own_part_of_list room stand.lawful path o there

  at_root : path ≡ [] → own_part (t.entries id) ≡ list_of room path
  at_root root =
      let found = object_at_node t room stand path id node at stands in
      own_of found.0 found.1 ∙ sym (list_of_root room found.0 (ap (object_at room) (sym root) ∙ found.1))
      ∙ ap (list_of room) (sym root)

  above_of : (end : Ends path) → (above : ℕ) × (node.parent ≡ Some above) × HasPath t end.folder above
  above_of end =
      let up = rw (ap reverse end.is ∙ reverse-append end.folder (end.name ∷ [])) at at in
      (up.1, ap (λ (n : Node). n.parent) (some_is node up.0 (sym stands ∙ up.2)) ∙ up.4, up.5)

  list_below : (end : Ends path) → own_part (t.entries id)
      ++ cond (follows node.aclflag) (handed_down (list_of room end.folder) node.kind) [] ≡ list_of room path
  list_below end =
      let found = object_at_node t room stand path id node at stands in
      let there : object_at room (end.folder ++ end.name ∷ []) ≡ Some found.0 =
      ap (object_at room) (sym end.is) ∙ found.1 in
      let above = list_of room end.folder in
      ap (λ (own : List EntryModel). own ++ cond (follows node.aclflag) (handed_down above node.kind) [])
      (own_of found.0 found.1)
      ∙ ap (λ flag. found.0.own ++ cond (follows flag) (handed_down above node.kind) []) found.2.aclflag
      ∙ ap (λ kind. found.0.own ++ cond (follows found.0.aclflag) (handed_down above kind) []) found.2.kind
      ∙ sym (list_of_child room end.folder end.name found.0 there) ∙ ap (list_of room) (sym end.is)

  -- the root has its own entries alone
  pub list_in_none : node.parent ≡ None → own_part (t.entries id) ≡ list_of room path
  list_in_none none = elim (root_or_below path) [
    | inl root ↦ at_root root
    | inr end ↦ absurd (let above = above_of end in none_is_some above.0 (sym none ∙ above.1))
  ]

  -- as has what does not follow
  pub list_of_its_own : follows node.aclflag ≡ false → own_part (t.entries id) ≡ list_of room path
  list_of_its_own off = elim (root_or_below path) [
    | inl root ↦ at_root root
    | inr end ↦
        sym (append-nil (own_part (t.entries id)))
        ∙ ap (λ b. own_part (t.entries id) ++ cond b (handed_down (list_of room end.folder) node.kind) [])
        (sym off) ∙ list_below end
  ]

  -- another's goes on with what its folder hands down
  pub under : (above : ℕ) → node.parent ≡ Some above → IsUnder t room path id node above
  under above inside = elim (root_or_below path) [
    | inl root ↦ absurd (
        let one : id ≡ 1 = rw root at at in
        root_only t stand.rules node above (ap t.node (sym one) ∙ stands) inside)
    | inr end ↦ (
        let up = above_of end in
        let same : up.0 ≡ above = some_is up.0 above (sym up.1 ∙ inside) in
        record {
          folder = end.folder;
          at = rw (← same) up.2;
          one_more = omega (arith, ap length end.is, length_push end.folder end.name);
          list = list_below end;
        })
  ]

  -- where the list goes on with no folder's, it ends
  pub list_ends : cond (follows node.aclflag) node.parent None ≡ None → own_part (t.entries id) ≡ list_of room path
  list_ends none = by_test (follows node.aclflag) refl
    where
      by_test : (b : Bool) → follows node.aclflag ≡ b → own_part (t.entries id) ≡ list_of room path
      by_test true is = list_in_none (ap (λ b. cond b node.parent None) (sym is) ∙ none)
      by_test false is = list_of_its_own is

  -- and else the folder is the one above
  pub goes_on : (above : ℕ) → cond (follows node.aclflag) node.parent None ≡ Some above
      → IsUnder t room path id node above
  goes_on above some = by_test (follows node.aclflag) refl
    where
      by_test : (b : Bool) → follows node.aclflag ≡ b → IsUnder t room path id node above
      by_test true is = under above (ap (λ b. cond b node.parent None) (sym is) ∙ some)
      by_test false is = absurd (none_is_some above (ap (λ b. cond b node.parent None) (sym is) ∙ some))
