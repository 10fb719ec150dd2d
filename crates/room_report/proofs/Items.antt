-- What is carried down of an object.
use Rattle.room_report.proofs.Common.{◌≡◌, ℕ, refl, ap, sym, ◌∙◌, List, Some, [], ◌∷◌, ◌++◌, append-nil, flat_map}
use Rattle.room_report.proofs.Common.{flat_map-append, SubjectModel, Node, Name, Path, path_text, ObjectRecords}
use Rattle.room_report.proofs.Common.{IsChild, Room, HasPath, RepresentsRoom, name_of, Report, Access, Lists, mask_line}
use Rattle.room_report.proofs.Common.{access_line, entry_line, head_line, IsItem, names_text, shown_path, item_lines}
use Rattle.room_report.proofs.Common.{lines_of}
use Rattle.room_acl.specs.Access.{allowed_mask}
use Rattle.room_records.proofs.Paths.{child_is_at, object_at_node}
use Rattle.room_records.proofs.Folders.{child_named}
use Rattle.room_report.specs.declared.item.Item.{Item}

pub path_shown : (path : Path) → shown_path (names_text path) ≡ path_text path
path_shown [] = refl
path_shown (name ∷ path) = refl

pub names_longer : (path : Path) (name : Name) → names_text (path ++ name ∷ []) ≡ names_text path ++ 47 ∷ name
names_longer path name =
    flat_map-append (λ n. 47 ∷ n) path (name ∷ []) ∙ ap (λ more. names_text path ++ more) (append-nil (47 ∷ name))

same_lines : (f g : SubjectModel → List ℕ) → ((user : SubjectModel) → f user ≡ g user)
    → (users : List SubjectModel) → flat_map f users ≡ flat_map g users
same_lines f g same [] = refl
same_lines f g same (user ∷ users) = λ i. same user i ++ same_lines f g same users i

-- the lines of what is carried are those of the object
pub lines_are : (t : ObjectRecords) (room : Room) (path : Path) (item : Item) (report : Report)
    → (is : IsItem t room path item)
    → item_lines report item ≡ lines_of report room (path, is.object)
lines_are t room path item (Access users) is =
    let shown : shown_path item.names.items ≡ path_text path = ap shown_path is.names ∙ path_shown path in
    same_lines (λ user. mask_line (allowed_mask item.list.items user item.standing)
    user.name (shown_path item.names.items)) (access_line room (path, is.object))
    (λ user i. mask_line (allowed_mask (is.list i) user (is.standing i)) user.name (shown i)) users.items
lines_are t room path item Lists is =
    let shown : shown_path item.names.items ≡ path_text path = ap shown_path is.names ∙ path_shown path in
    λ i. head_line (is.kind i) (is.aclflag i) (is.standing i).owner (is.standing i).group (shown i)
    ++ flat_map entry_line (is.list i)

module _ (t : ObjectRecords) (room : Room) (stand : RepresentsRoom t room) where
  -- the root is carried first
  pub root_is_item : (item : Item) (node : Node) → t.node 1 ≡ Some node
      → item.id ≡ node.id → item.kind ≡ node.kind → item.aclflag ≡ node.aclflag
      → item.standing.owner ≡ node.owner → item.standing.group ≡ node.group
      → item.list.items ≡ t.entries node.id → item.names.items ≡ []
      → IsItem t room [] item
  root_is_item item node stands id kind aclflag owner group list names =
      let one : node.id ≡ 1 = (stand.rules.numbered 1 node stands).0 in
      let found = object_at_node t room stand [] node.id node one (ap t.node one ∙ stands) in
      let shows = found.2 in
      record {
        object = found.0;
        node = node;
        at = id ∙ one;
        node_stands = ap t.node (id ∙ one) ∙ stands;
        object_stands = found.1;
        kind = kind ∙ shows.kind;
        aclflag = aclflag ∙ shows.aclflag;
        standing = λ i. record { owner = (owner ∙ shows.owner) i; group = (group ∙ shows.group) i };
        list = list ∙ shows.entries;
        names = names;
      }

  -- a child of what is carried is carried in its turn
  pub child_is_item : (path : Path) (above item : Item) (node : Node)
      → IsItem t room path above → IsChild t above.id node
      → item.id ≡ node.id → item.kind ≡ node.kind → item.aclflag ≡ node.aclflag
      → item.standing.owner ≡ node.owner → item.standing.group ≡ node.group
      → item.list.items ≡ t.entries node.id
      → item.names.items ≡ above.names.items ++ 47 ∷ name_of node
      → IsItem t room (path ++ name_of node ∷ []) item
  child_is_item path above item node folder child id kind aclflag owner group list names =
      let named = child_named t stand.rules above.id node child in
      let at : HasPath t (path ++ name_of node ∷ []) node.id =
      child_is_at t stand.rules path (name_of node) above.id node folder.at child named in
      let found = object_at_node t room stand (path ++ name_of node ∷ []) node.id node at child.stands in
      let shows = found.2 in
      record {
        object = found.0;
        node = node;
        at = rw id at;
        node_stands = ap t.node id ∙ child.stands;
        object_stands = found.1;
        kind = kind ∙ shows.kind;
        aclflag = aclflag ∙ shows.aclflag;
        standing = λ i. record { owner = (owner ∙ shows.owner) i; group = (group ∙ shows.group) i };
        list = list ∙ shows.entries;
        names = names ∙ ap (λ text. text ++ 47 ∷ name_of node) folder.names ∙ sym (names_longer path (name_of node));
      }
