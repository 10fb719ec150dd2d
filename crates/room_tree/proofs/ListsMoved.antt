-- Lists in a room with a subtree moved.
use Rattle.room_tree.proofs.Common.{common_steps, arith, ◌≡◌, ap, sym, ◌∙◌, false, [], ◌∷◌, ◌++◌, reverse, append-nil}
use Rattle.room_tree.proofs.Common.{None, Some, with_inherited, Name, Path, Object, Room, IsRoom, object_at, list_of}
use Rattle.room_tree.proofs.Common.{list_of_child, is_at_or_below, renamed, at_new_place, away, off_to, list_below}
use Rattle.room_tree.proofs.ListsRenewed.{lists_renewed, lists_away_from_both, front_off}

module _ (room : Room) (lawful : IsRoom room) (path to : Path) (o : Object)
    (apart : is_at_or_below to path ≡ false) (there : object_at room path ≡ Some o)
    (free : object_at room to ≡ None) where
  abbrev after : Room
  after = renamed room path to

  -- what is not moved keeps its list
  pub list_of_stayed : (q : Path) (other : Object) → object_at room q ≡ Some other
      → is_at_or_below q path ≡ false → list_of after q ≡ list_of room q
  list_of_stayed q other stands off =
      lists_away_from_both room after path to (away room lawful path to o apart there free)
      q off (off_to room lawful path to o apart there free q other stands)

  moved_there : object_at after to ≡ Some o
  moved_there = ap (object_at after) (sym (append-nil to))
      ∙ at_new_place room lawful path to o apart there free [] ∙ ap (object_at room) (append-nil path) ∙ there

  -- the object has what its new folder hands down
  pub list_of_moved : (folder : Path) (name : Name) (above : Object)
      → to ≡ folder ++ name ∷ [] → object_at room folder ≡ Some above
      → list_of after to ≡ with_inherited o.own o.aclflag o.kind (list_of room folder)
  list_of_moved folder name above is stands =
      grind (arith, common_steps, list_of_child, moved_there, list_of_stayed, front_off)

  -- and what is below it the lists that follow
  pub lists_of_moved : (rest : Path)
      → list_of after (to ++ rest) ≡ list_below room path (list_of after to) (reverse rest)
  lists_of_moved rest =
      lists_renewed room after path to (λ below some. at_new_place room lawful path to o apart there free below) rest
