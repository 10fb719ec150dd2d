use Rattle.room_tree.proofs.Common.{◌≡◌, take, None, Some, ShelfRead, Room, RepresentsRoom, HasPath}
use Rattle.room_tree.proofs.finding.node_at.Given as goal

-- the shelf is as it was, and `here` is the node of the names so far
abbrev pub invariant-loop-name : goal.invariant-loop-name
invariant-loop-name g l = let s = g.S.Shelf in record {
  frame : ShelfRead (s.view l.fn.shelf) (s.view l.shelf) None;
  there : (s.view l.shelf).is_intact → (s.view l.shelf).is_available;
  names : l.name-items ≡ l.path;
  at : (s.view l.shelf).is_available → (s.view l.fn.shelf).is_laid_out
      → (room : Room) → RepresentsRoom (s.view l.fn.shelf).records.objects room
      → HasPath (s.view l.fn.shelf).records.objects (take l.name-index l.path) l.here.id;
  stands : (s.view l.shelf).is_available → (s.view l.fn.shelf).is_laid_out
      → (room : Room) → RepresentsRoom (s.view l.fn.shelf).records.objects room
      → (s.view l.fn.shelf).records.objects.node l.here.id ≡ Some l.here;
}
