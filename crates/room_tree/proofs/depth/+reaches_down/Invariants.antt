use Rattle.room_tree.proofs.Common.{◌≡◌, ◌+◌, ◌-◌, ◌≤◌, take, None, Some, Node, Path, HasPath, AreChildren, ShelfRead}
use Rattle.room_tree.proofs.Common.{OfRoom}
use Rattle.room_tree.proofs.Below.{below_each}
use Rattle.room_tree.proofs.Depths.{NoneBelowEach}
use Rattle.room_tree.proofs.depth.+reaches_down.Given as goal

abbrev pub decreases-reaches_down : goal.decreases-reaches_down
decreases-reaches_down g l = l.levels

-- the shelf is as it was, asked once for each object below so far, and nothing was found below the children so far
abbrev pub invariant-loop-node : goal.invariant-loop-node
invariant-loop-node g l = let s = g.S.Shelf in record {
  frame : ShelfRead (s.view l.fn.shelf) (s.view l.shelf) None;
  children : OfRoom (s.view l.fn.shelf) (s.view l.shelf) (λ t room. AreChildren t l.fn.id l.node-items);
  none : OfRoom (s.view l.fn.shelf) (s.view l.shelf) (λ t room. (path : Path) (node : Node) → HasPath t path l.fn.id
      → t.node l.fn.id ≡ Some node → node.kind ≡ l.fn.kind
      → NoneBelowEach room path (l.levels - 1) (take l.node-index l.node-items));
  asks : OfRoom (s.view l.fn.shelf) (s.view l.shelf) (λ t room. (path : Path) → HasPath t path l.fn.id
      → s.calls_left l.fn.shelf
      ≤ s.calls_left l.shelf + 1 + below_each room path (take l.node-index l.node-items));
}
