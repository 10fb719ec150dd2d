use Rattle.room_tree.proofs.Common.{◌≡◌, ◌+◌, ◌*◌, ◌≤◌, take, drop, None, ShelfRead, walk, OfRoom, IsLoaded, IsAbove}
use Rattle.room_tree.proofs.Walks.{walk_from}
use Rattle.room_tree.proofs.walking.walk_path.Given as goal

-- the shelf is as it was, asked twice for each name so far, and `here` is at these names, under `above`
abbrev pub invariant-loop-index : goal.invariant-loop-index
invariant-loop-index g l = let s = g.S.Shelf in record {
  frame : ShelfRead (s.view l.fn.shelf) (s.view l.shelf) None;
  asks : s.calls_left l.fn.shelf ≤ s.calls_left l.shelf + 2 * l.index + 1;
  names : l.names ≡ l.path;
  walked : OfRoom (s.view l.fn.shelf) (s.view l.shelf) (λ t room.
      (walk room l.subject l.path ≡ walk_from room l.subject (take l.index l.path) (drop l.index l.path))
      × IsLoaded t room (take l.index l.path) l.here × IsAbove t room l.path l.index l.above);
}
