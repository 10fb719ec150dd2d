use Rattle.room_tree.proofs.Common.{◌+◌, ◌*◌, ◌≤◌, length, take, None, max_names, Path, HasPath, AreChildren, ShelfRead}
use Rattle.room_tree.proofs.Common.{OfRoom, AddsEntries}
use Rattle.room_tree.proofs.Below.{below_each}
use Rattle.room_tree.proofs.RenewingChildren.{RenewsSoFar}
use Rattle.room_tree.proofs.renewing.+renew_within.Given as goal

abbrev pub decreases-renew_within : goal.decreases-renew_within
decreases-renew_within g l = l.levels

-- the shelf is as it was, asked twice for each object below so far; what is below the children so far is renewed, and
-- nothing but entries was added
abbrev pub invariant-loop-node : goal.invariant-loop-node
invariant-loop-node g l = let s = g.S.Shelf in record {
  frame : ShelfRead (s.view l.fn.shelf) (s.view l.shelf) None;
  children : OfRoom (s.view l.fn.shelf) (s.view l.shelf) (λ t room. AreChildren t l.fn.id l.node-items);
  renews : OfRoom (s.view l.fn.shelf) (s.view l.shelf) (λ t room. (path : Path) → HasPath t path l.fn.id
      → max_names ≤ length path + l.fn.levels
      → RenewsSoFar t room path l.fn.list (take l.node-index l.node-items) l.fn.out.items l.out.items);
  asks : OfRoom (s.view l.fn.shelf) (s.view l.shelf) (λ t room. (path : Path) → HasPath t path l.fn.id
      → s.calls_left l.fn.shelf
      ≤ s.calls_left l.shelf + 1 + 2 * below_each room path (take l.node-index l.node-items));
  adds : AddsEntries l.fn.out.items l.out.items;
}
