use Rattle.room_records.proofs.Common.{◌≡◌, ◌+◌, ◌^◌, ◌<◌, length, node_in}
use Rattle.room_records.proofs.Children.{shown, places_between}
use Rattle.room_records.proofs.mem.nodes.NodeIndex.child_count.Given as goal

abbrev pub invariant-loop-slot : goal.invariant-loop-slot
invariant-loop-slot l = record {
  so_far : l.count + length (shown (node_in l.self.nodes.slots) l.slot-iterator)
      ≡ length (shown (node_in l.self.nodes.slots) (places_between l.parent l.self.places.slots.entries));
  few : l.count + length l.slot-iterator < 2 ^ 63;
}
