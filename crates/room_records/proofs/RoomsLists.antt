-- The list of an object: in its own words, and what it depends on.
use Rattle.room_records.proofs.Common.{◌≡◌, arith, refl, ap, sym, ◌∙◌, cond, List, [], ◌∷◌, ◌++◌, reverse, Option, Some}
use Rattle.room_records.proofs.Common.{append-nil, append_assoc, reverse-append, reverse-reverse, Name, Path, Object}
use Rattle.room_records.proofs.Common.{Room, object_at, follows, list_under, root_list, list_upwards, list_of}
use Rattle.std.proofs.Common.{option_map}
use Rattle.room_acl.specs.Entries.{EntryModel}
use Rattle.room_acl.specs.Inheritance.{handed_down}

-- the list of an object in a folder is made under that of the folder
pub list_in_folder : (room : Room) (path : Path) (name : Name)
    → list_of room (path ++ name ∷ []) ≡ list_under (object_at room (path ++ name ∷ [])) (list_of room path)
list_in_folder room path name =
    ap (list_upwards room) (reverse-append path (name ∷ []))
    ∙ ap (λ p. list_under (object_at room p) (list_upwards room (reverse path)))
    (ap reverse (sym (reverse-append path (name ∷ []))) ∙ reverse-reverse (path ++ name ∷ []))

pub list_of_child : (room : Room) (path : Path) (name : Name) (o : Object) → object_at room (path ++ name ∷ []) ≡ Some o
    → list_of room (path ++ name ∷ []) ≡ o.own ++ cond (follows o.aclflag) (handed_down (list_of room path) o.kind) []
list_of_child room path name o there =
    list_in_folder room path name ∙ ap (λ found. list_under found (list_of room path)) there

pub list_of_root : (room : Room) (o : Object) → object_at room [] ≡ Some o → list_of room [] ≡ o.own
list_of_root room o there = ap root_list there

-- a room with other bytes
abbrev pub without_bytes : Option Object → Option Object
without_bytes o = option_map (λ (found : Object). record found { bytes = [] }) o

list_of_bare : (o : Option Object) (l : List EntryModel) → list_under o l ≡ list_under (without_bytes o) l
list_of_bare o l = grind arith

root_of_bare : (o : Option Object) → root_list o ≡ root_list (without_bytes o)
root_of_bare o = grind arith

-- where two rooms differ in bytes alone, lists are the same
pub lists_without_bytes : (room other : Room)
    → ((path : Path) → without_bytes (object_at room path) ≡ without_bytes (object_at other path))
    → (path : Path) → list_of room path ≡ list_of other path
lists_without_bytes room other same path = upwards (reverse path)
  where
    upwards : (names : List Name) → list_upwards room names ≡ list_upwards other names
    upwards [] =
        root_of_bare (object_at room []) ∙ ap root_list (same []) ∙ sym (root_of_bare (object_at other []))
    upwards (name ∷ above) =
        let here = reverse (name ∷ above) in
        list_of_bare (object_at room here) (list_upwards room above)
        ∙ (λ i. list_under (same here i) (upwards above i))
        ∙ sym (list_of_bare (object_at other here) (list_upwards other above))

-- a list depends on the object and the folders above it alone
pub lists_by_objects_above : (room other : Room) (path : Path)
    → ((front rest : Path) → path ≡ front ++ rest → object_at room front ≡ object_at other front)
    → list_of room path ≡ list_of other path
lists_by_objects_above room other path same =
    upwards (reverse path) (λ names above is.
    same (reverse above) (reverse names) (sym (reverse-reverse path) ∙ ap reverse is ∙ reverse-append names above))
  where
    upwards : (names : List Name) → ((front above : List Name) → names ≡ front ++ above
        → object_at room (reverse above) ≡ object_at other (reverse above))
        → list_upwards room names ≡ list_upwards other names
    upwards [] alike = ap root_list (alike [] [] refl)
    upwards (name ∷ above) alike =
        let lists = upwards above (λ front rest is. alike (name ∷ front) rest (ap (λ names. name ∷ names) is)) in
        (λ i. list_under (alike [] (name ∷ above) refl i) (lists i))

-- below two folders with one list, in two rooms, lists are the same where the objects are
pub lists_below : (room other : Room) (rest top there : Path) → list_of room top ≡ list_of other there
    → ((below : Path) → object_at room (top ++ below) ≡ object_at other (there ++ below))
    → list_of room (top ++ rest) ≡ list_of other (there ++ rest)
lists_below room other [] top there lists objects = rw (append-nil top, append-nil there) lists
lists_below room other (name ∷ rest) top there lists objects =
    let here : list_of room (top ++ name ∷ []) ≡ list_of other (there ++ name ∷ []) =
    list_in_folder room top name ∙ (λ i. list_under (objects (name ∷ []) i) (lists i))
    ∙ sym (list_in_folder other there name) in
    rw (← append_assoc top (name ∷ []) rest, ← append_assoc there (name ∷ []) rest)
    (lists_below room other rest (top ++ name ∷ []) (there ++ name ∷ []) here
    (λ below. rw (append_assoc top (name ∷ []) below, append_assoc there (name ∷ []) below) (objects (name ∷ below))))
