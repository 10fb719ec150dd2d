-- The list of an object by its rows, under a list of its folder.
use Rattle.room_tree.proofs.Common.{◌≡◌, ℕ, refl, ap, sym, ◌∙◌, Bool, true, false, cond, inl, inr, List, [], ◌++◌}
use Rattle.room_tree.proofs.Common.{append-nil, Some, Kind, EntryModel, handed_down, own_part, with_inherited, Node}
use Rattle.room_tree.proofs.Common.{Path, ObjectRecords, HasPath, RepresentsRoom, Object, Room, object_at, list_of}
use Rattle.room_tree.proofs.Common.{list_under, follows, object_at_node, list_of_child, list_of_root}
use Rattle.room_tree.proofs.ListsUpwards.{under}
use Rattle.room_tree.proofs.OwnPart.{own_part_of_list, root_or_below}
use Rattle.room_tree.proofs.StoredLists.{stored_list}

-- the list of the folder counts only where the object follows
pub inherited_alike : (own : List EntryModel) (aclflag : ℕ) (kind : Kind) (above other : List EntryModel)
    → (follows aclflag ≡ true → above ≡ other)
    → with_inherited own aclflag kind above ≡ with_inherited own aclflag kind other
inherited_alike own aclflag kind above other same = by_test (follows aclflag) refl
  where
    by_test : (b : Bool) → follows aclflag ≡ b
        → own ++ cond b (handed_down above kind) [] ≡ own ++ cond b (handed_down other kind) []
    by_test true is = ap (λ (l : List EntryModel). own ++ handed_down l kind) (same is)
    by_test false is = refl

-- an object that does not follow has its own entries alone, whatever its folder's list is
pub unfollowed : (room : Room) (path : Path) (o : Object) → object_at room path ≡ Some o
    → follows o.aclflag ≡ false → (above : List EntryModel)
    → list_of room path ≡ list_under (object_at room path) above
unfollowed room path o there off above = elim (root_or_below path) [
  | inl root ↦ ap (list_of room) root ∙ list_of_root room o (ap (object_at room) (sym root) ∙ there) ∙ sym plain
  | inr end ↦
      ap (list_of room) end.is
      ∙ list_of_child room end.folder end.name o (ap (object_at room) (sym end.is) ∙ there)
      ∙ ap (λ b. o.own ++ cond b (handed_down (list_of room end.folder) o.kind) []) off
      ∙ append-nil o.own
      ∙ sym plain
]
  where
    plain : list_under (object_at room path) above ≡ o.own
    plain = ap (λ found. list_under found above) there
        ∙ ap (λ b. o.own ++ cond b (handed_down above o.kind) []) off ∙ append-nil o.own

module _ {t : ObjectRecords} {room : Room} (stand : RepresentsRoom t room) (path : Path) (node : Node)
    (at : HasPath t path node.id) (stands : t.node node.id ≡ Some node) where
  -- the own part of its entries, and what that list hands down
  pub list_by_rows : (above : List EntryModel)
      → with_inherited (own_part (t.entries node.id)) node.aclflag node.kind above
      ≡ list_under (object_at room path) above
  list_by_rows above =
      let found = object_at_node t room stand path node.id node at stands in
      ap (λ (own : List EntryModel). with_inherited own node.aclflag node.kind above)
      (ap own_part found.2.entries ∙ own_part_of_list room stand.lawful path found.0 found.1)
      ∙ ap (λ flag. with_inherited found.0.own flag node.kind above) found.2.aclflag
      ∙ ap (λ kind. with_inherited found.0.own found.0.aclflag kind above) found.2.kind
      ∙ ap (λ o. list_under o above) (sym found.1)

  -- two lists that are the same where it follows
  pub under_alike : (above other : List EntryModel) → (follows node.aclflag ≡ true → above ≡ other)
      → list_under (object_at room path) above ≡ list_under (object_at room path) other
  under_alike above other same =
      let found = object_at_node t room stand path node.id node at stands in
      ap (λ o. list_under o above) found.1
      ∙ inherited_alike found.0.own found.0.aclflag found.0.kind above other
      (λ on. same (ap follows found.2.aclflag ∙ on))
      ∙ ap (λ o. list_under o other) (sym found.1)

  -- under the stored list of its own folder it has the list that is stored
  pub stays_in_folder : (folder : ℕ) → node.parent ≡ Some folder
      → t.entries node.id ≡ list_under (object_at room path) (t.entries folder)
  stays_in_folder folder inside =
      let up = under stand path node.id node at stands folder inside in
      stored_list stand path node.id at ∙ sym up.list
      ∙ ap (with_inherited (own_part (t.entries node.id)) node.aclflag node.kind)
      (sym (stored_list stand up.folder folder up.at)) ∙ list_by_rows (t.entries folder)
