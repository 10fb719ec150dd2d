-- The lists below an object that gets another list, from one level to the next.
use Rattle.room_tree.proofs.Common.{◌≡◌, refl, ap, sym, ◌∙◌, List, [], ◌∷◌, ◌++◌, reverse, append_assoc, reverse-append}
use Rattle.room_tree.proofs.Common.{reverse-reverse, EntryModel, Name, Path, Room, object_at, list_under, list_below}

-- the list below a path is the list below a front of what is below, where that has its list below the path
below_front : (room : Room) (path front : Path) (list : List EntryModel) (names : List Name)
    → list_below room path list (names ++ reverse front)
    ≡ list_below room (path ++ front) (list_below room path list (reverse front)) names
below_front room path front list [] = refl
below_front room path front list (name ∷ above) =
    let turned : reverse ((name ∷ above) ++ reverse front) ≡ front ++ reverse (name ∷ above) =
    reverse-append (name ∷ above) (reverse front) ∙ ap (λ p. p ++ reverse (name ∷ above)) (reverse-reverse front) in
    let there : path ++ reverse ((name ∷ above) ++ reverse front) ≡ (path ++ front) ++ reverse (name ∷ above) =
    ap (λ p. path ++ p) turned ∙ sym (append_assoc path front (reverse (name ∷ above))) in
    ap (λ p. list_under (object_at room p) (list_below room path list (above ++ reverse front))) there
    ∙ ap (list_under (object_at room ((path ++ front) ++ reverse (name ∷ above))))
    (below_front room path front list above)

-- lists below a child follow from the child's
pub list_below_child : (room : Room) (path : Path) (name : Name) (rest : Path) (list : List EntryModel)
    → list_below room path list (reverse (name ∷ rest))
    ≡ list_below room (path ++ name ∷ []) (list_below room path list (name ∷ [])) (reverse rest)
list_below_child room path name rest list =
    ap (list_below room path list) (reverse-append (name ∷ []) rest)
    ∙ below_front room path (name ∷ []) list (reverse rest)
