use Rattle.room_report.proofs.Common.{◌≡◌, ◌+◌, None, [], ◌∷◌, ◌++◌, take, length, flat_map, Node, Path, ShelfRead}
use Rattle.room_report.proofs.Common.{AreChildren, name_of, OfIntactRoom, IsItem, item_lines, text_below}
use Rattle.std.specs.Io.KnownBytes.{Appends}
use Rattle.room_records.specs.Limits.{max_names}
use Rattle.room_report.proofs.walking.+report_below.Given as goal

abbrev pub decreases-report_below : goal.decreases-report_below
decreases-report_below g l = l.depth

-- the shelf is as it was and there, and what is below the nodes so far is written
abbrev pub invariant-loop-node : goal.invariant-loop-node
invariant-loop-node g l = let s = g.S.Shelf in record {
  there : (s.view l.shelf).is_intact → (s.view l.shelf).is_available;
  frame : ShelfRead (s.view l.fn.shelf) (s.view l.shelf) None;
  written : OfIntactRoom (s.view l.fn.shelf) (s.view l.shelf) (λ t room. (path : Path)
      → IsItem t room path l.item → length path + l.depth ≡ max_names →
      AreChildren t l.item.id l.node-items
      × Appends (g.W.Write.contents l.fn.writer) (g.W.Write.contents l.writer)
      (item_lines l.report l.item ++ flat_map (λ (node : Node). text_below l.report room (path ++ name_of node ∷ []))
      (take l.node-index l.node-items)));
}
