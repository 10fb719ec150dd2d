-- The rows of entries of a node hold its list; and what a list does not depend on.
use Rattle.room_tree.proofs.Common.{common_steps, arith, ◌≡◌, ℕ, refl, ap, sym, ◌∙◌, inl, inr, List, [], ◌∷◌, reverse}
use Rattle.room_tree.proofs.Common.{Option, None, Some, IsSome, option_map, reverse-append, Kind, EntryModel}
use Rattle.room_tree.proofs.Common.{with_inherited, Node, Name, Path, ObjectRecords, Object, Room, object_at, list_of}
use Rattle.room_tree.proofs.Common.{list_upwards, list_under, root_list, HasPath, RepresentsRoom, object_at_node}
use Rattle.room_tree.proofs.OwnPart.{root_or_below}

pub is_present : {X : Type 0} (o : Option X) → IsSome o → (x : X) × (o ≡ Some x)
is_present None h = let f = h in cc
is_present (Some x) h = (x, refl)

-- a number that has a path is a node's
pub node_at_path : {t : ObjectRecords} {room : Room} → RepresentsRoom t room → (path : Path) (id : ℕ)
    → HasPath t path id → (node : Node) × (t.node id ≡ Some node)
node_at_path {t} stand path id at = elim (root_or_below path) [
  | inl root ↦ (
      let one : id ≡ 1 = rw root at at in
      let first = is_present (t.node 1) stand.rules.nodes.has_root in
      (first.0, ap t.node one ∙ first.1))
  | inr end ↦ (
      let up = rw (ap reverse end.is ∙ reverse-append end.folder (end.name ∷ [])) at at in
      (up.0, up.2))
]

-- its rows hold the list of the object there
pub stored_list : {t : ObjectRecords} {room : Room} → RepresentsRoom t room → (path : Path) (id : ℕ)
    → HasPath t path id → t.entries id ≡ list_of room path
stored_list {t} {room} stand path id at =
    let node = node_at_path stand path id at in
    let found = object_at_node t room stand path id node.0 at node.1 in
    ap t.entries (sym (stand.rules.numbered id node.0 node.1).0) ∙ found.2.entries

-- what a list is made of, of an object
abbrev pub list_part : Option Object → Option (List EntryModel × ℕ × Kind)
list_part found = option_map (λ (o : Object). (o.own, o.aclflag, o.kind)) found

abbrev list_of_part : Option (List EntryModel × ℕ × Kind) → List EntryModel → List EntryModel
list_of_part None above = []
list_of_part (Some part) above = with_inherited part.0 part.1 part.2 above

under_by_part : (found : Option Object) (above : List EntryModel)
    → list_under found above ≡ list_of_part (list_part found) above
under_by_part None above = refl
under_by_part (Some o) above = refl

abbrev root_of_part : Option (List EntryModel × ℕ × Kind) → List EntryModel
root_of_part None = []
root_of_part (Some part) = part.0

root_by_part : (found : Option Object) → root_list found ≡ root_of_part (list_part found)
root_by_part None = refl
root_by_part (Some o) = refl

-- where the objects of two rooms have the same own entries, list flags and kinds, lists are the same
pub lists_alike : (room other : Room)
    → ((path : Path) → list_part (object_at room path) ≡ list_part (object_at other path))
    → (path : Path) → list_of room path ≡ list_of other path
lists_alike room other same path = upwards (reverse path)
  where
    upwards : (names : List Name) → list_upwards room names ≡ list_upwards other names
    upwards [] = root_by_part (object_at room []) ∙ ap root_of_part (same []) ∙ sym (root_by_part (object_at other []))
    upwards (name ∷ above) =
        let here = reverse (name ∷ above) in
        under_by_part (object_at room here) (list_upwards room above)
        ∙ ap (λ part. list_of_part part (list_upwards room above)) (same here)
        ∙ ap (list_of_part (list_part (object_at other here))) (upwards above)
        ∙ sym (under_by_part (object_at other here) (list_upwards other above))

pub same_parts : (a b : Object) → a.own ≡ b.own → a.aclflag ≡ b.aclflag
    → a.kind ≡ b.kind → list_part (Some a) ≡ list_part (Some b)
same_parts a b own aclflag kind = grind (arith, common_steps)
