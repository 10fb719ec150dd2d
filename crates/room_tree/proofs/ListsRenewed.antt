-- Lists in a room where the list of one object changed, or where it went elsewhere.
use Rattle.room_tree.proofs.Common.{common_steps, ◌≡◌, ◌≢◌, refl, ap, sym, ◌∙◌, arith, false, List, [], ◌∷◌, ◌++◌}
use Rattle.room_tree.proofs.Common.{length-append, reverse, append-nil, append_assoc, reverse-append, reverse-reverse}
use Rattle.room_tree.proofs.Common.{Name, Path, Room, object_at, list_of, list_under, list_in_folder}
use Rattle.room_tree.proofs.Common.{lists_by_objects_above, is_at_or_below, list_below}

not_empty_end : (front : Path) (name : Name) → front ++ name ∷ [] ≢ []
not_empty_end [] name e = cc
not_empty_end (first ∷ front) name e = cc

module _ (room after : Room) (path there : Path)
    (same : (below : Path) → below ≢ [] → object_at after (there ++ below) ≡ object_at room (path ++ below)) where
  names_renewed : (names : List Name)
      → list_of after (there ++ reverse names) ≡ list_below room path (list_of after there) names
  names_renewed [] = ap (list_of after) (append-nil there)
  names_renewed (name ∷ above) =
      let turned : reverse (name ∷ above) ≡ reverse above ++ name ∷ [] = reverse-append (name ∷ []) above in
      let split : there ++ reverse (name ∷ above) ≡ (there ++ reverse above) ++ name ∷ [] =
      ap (λ p. there ++ p) turned ∙ sym (append_assoc there (reverse above) (name ∷ [])) in
      let some : reverse (name ∷ above) ≢ [] = (λ e. not_empty_end (reverse above) name (sym turned ∙ e)) in
      let object : object_at after ((there ++ reverse above) ++ name ∷ [])
      ≡ object_at room (path ++ reverse (name ∷ above)) =
      ap (object_at after) (sym split) ∙ same (reverse (name ∷ above)) some in
      ap (list_of after) split ∙ list_in_folder after (there ++ reverse above) name
      ∙ ap (list_under (object_at after ((there ++ reverse above) ++ name ∷ []))) (names_renewed above)
      ∙ ap (λ o. list_under o (list_below room path (list_of after there) above)) object

  -- lists below a place follow from the list there, and from the objects that stood below the path before
  pub lists_renewed : (rest : Path)
      → list_of after (there ++ rest) ≡ list_below room path (list_of after there) (reverse rest)
  lists_renewed rest = ap (λ p. list_of after (there ++ p)) (sym (reverse-reverse rest)) ∙ names_renewed (reverse rest)

-- where the list stays, so do those below
pub lists_stay : (room : Room) (path rest : Path)
    → list_below room path (list_of room path) (reverse rest) ≡ list_of room (path ++ rest)
lists_stay room path rest = sym (lists_renewed room room path path (λ below some. refl) rest)

-- a front of a path that is not below another is not below it either
pub front_off : (q path front rest : Path) → q ≡ front ++ rest
    → is_at_or_below q path ≡ false → is_at_or_below front path ≡ false
front_off q path front rest split off = grind (arith, common_steps)

-- away from the path lists stay
pub lists_away : (room after : Room) (path : Path)
    → ((q : Path) → is_at_or_below q path ≡ false → object_at after q ≡ object_at room q)
    → (q : Path) → is_at_or_below q path ≡ false → list_of after q ≡ list_of room q
lists_away room after path same q off =
    lists_by_objects_above after room q (λ front rest split. same front (front_off q path front rest split off))

-- and away from two paths
pub lists_away_from_both : (room after : Room) (path to : Path)
    → ((q : Path) → is_at_or_below q path ≡ false → is_at_or_below q to ≡ false → object_at after q ≡ object_at room q)
    → (q : Path) → is_at_or_below q path ≡ false → is_at_or_below q to ≡ false → list_of after q ≡ list_of room q
lists_away_from_both room after path to same q off off_to =
    lists_by_objects_above after room q (λ front rest split.
    same front (front_off q path front rest split off) (front_off q to front rest split off_to))

-- the folder of an object that alone changed keeps its list
pub list_above_stays : (room after : Room) (path folder : Path) (name : Name) → path ≡ folder ++ name ∷ []
    → ((q : Path) → (q ≡ path → ⊥) → object_at after q ≡ object_at room q) → list_of after folder ≡ list_of room folder
list_above_stays room after path folder name is same =
    grind (arith, common_steps, lists_by_objects_above, length-append)
