use Rattle.room_records.proofs.Common.{◌≡◌, ◌++◌, node_in}
use Rattle.room_records.proofs.Children.{shown, places_between}
use Rattle.room_records.proofs.mem.nodes.NodeIndex.children.Given as goal

abbrev pub invariant-loop-slot : goal.invariant-loop-slot
invariant-loop-slot l =
    l.found.items ++ shown (node_in l.self.nodes.slots) l.slot-iterator
    ≡ shown (node_in l.self.nodes.slots) (places_between l.parent l.self.places.slots.entries)
