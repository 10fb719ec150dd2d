-- What the calls that walk a room for a report say.
use Rattle.std.specs.Prelude.{◌≡◌, ℕ, Bool, true, false, List, [], ◌∷◌, ◌++◌, Option, Some, Result, Ok, Err, cond}
use Rattle.std.specs.List.{flat_map, filter}
use Rattle.room_acl.specs.SubjectModel.{SubjectModel}
use Rattle.room_acl.specs.Access.{allowed_mask}
use Rattle.room_records.specs.declared.node.Node.{Node}
use Rattle.room_records.specs.Names.{Path, name_eq}
use Rattle.room_records.specs.Records.{ObjectRecords}
use Rattle.room_records.specs.Room.{Object, Room, object_at, list_of, standing_of}
use Rattle.room_records.specs.Representation.{RepresentsRoom, HasPath}
use Rattle.room_records.specs.Shelf.{View}
use Rattle.room_records.specs.Writers.{Sent}
pub use Rattle.room_records.specs.Writers.{AppendsFront}
use Rattle.room_report.specs.declared.item.Item.{Item}
use Rattle.room_report.specs.declared.lines.Report.{Report}
use Rattle.room_report.specs.declared.lines.Report.TheVariants.{Access, Lists}
use Rattle.room_report.specs.Lines.{in_path_order, mask_line, access_line, entry_line, head_line, object_line}

-- what a call says of each room that the rows stand for as it begins, also where a fault has shut the store
abbrev pub OfIntactRoom : View → View → (ObjectRecords → Room → Type 0) → Type 0
OfIntactRoom old new P =
    new.is_intact → old.is_laid_out → (t : ObjectRecords) → old.records.objects ≡ t
    → (room : Room) → RepresentsRoom t room → P t room

-- names with a / before each: the text of a path but for the root's
abbrev pub names_text : Path → List ℕ
names_text path = flat_map (λ n. 47 ∷ n) path

-- and the text of the path with these
abbrev pub shown_path : List ℕ → List ℕ
shown_path [] = 47 ∷ []
shown_path (b ∷ names) = b ∷ names

-- what is carried down of the object at a path
pub record IsItem (t : ObjectRecords) (room : Room) (path : Path) (item : Item) : Type 0 where
  pub object : Object
  pub node : Node
  pub at : HasPath t path item.id
  pub node_stands : t.node item.id ≡ Some node
  pub object_stands : object_at room path ≡ Some object
  pub kind : item.kind ≡ object.kind
  pub aclflag : item.aclflag ≡ object.aclflag
  pub standing : item.standing ≡ standing_of object
  pub list : item.list.items ≡ list_of room path
  pub names : item.names.items ≡ names_text path

-- the lines of one object in a report
abbrev pub lines_of : Report → Room → Path × Object → List ℕ
lines_of (Access users) room e = flat_map (access_line room e) users.items
lines_of Lists room e = object_line e ++ flat_map entry_line (list_of room e.0)

-- the same, from what is carried
abbrev pub item_lines : Report → Item → List ℕ
item_lines (Access users) item =
    flat_map (λ (user : SubjectModel).
    mask_line (allowed_mask item.list.items user item.standing) user.name (shown_path item.names.items)) users.items
item_lines Lists item =
    head_line item.kind item.aclflag item.standing.owner item.standing.group (shown_path item.names.items)
    ++ flat_map entry_line item.list.items

-- whether a path begins with these names
abbrev pub is_front : Path → Path → Bool
is_front [] path = true
is_front (a ∷ front) [] = false
is_front (a ∷ front) (b ∷ path) = cond (name_eq a b) (is_front front path) false

-- the object at a path and all below it, in path order
abbrev pub objects_below : Room → Path → List (Path × Object)
objects_below room path = filter (λ (e : Path × Object). is_front path e.0) (in_path_order room.objects)

abbrev pub text_below : Report → Room → Path → List ℕ
text_below report room path = flat_map (lines_of report room) (objects_below room path)

-- a writer took these bytes at Ok, and a beginning of them at Err
abbrev pub Writes : {X E : Type 0} → Option (List ℕ) → Option (List ℕ) → List ℕ → Result X E → Type 0
Writes old new bytes (Ok x) = Sent old new bytes true
Writes old new bytes (Err e) = Sent old new bytes false
