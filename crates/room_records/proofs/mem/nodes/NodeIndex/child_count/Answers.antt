use Rattle.room_records.proofs.Common.{◌≡◌, length, arith, node_in}
use Rattle.room_records.proofs.Children.{children_are, shown, places_between}
use Rattle.room_records.proofs.NodePlaces.{index_of}
use Rattle.room_records.proofs.mem.nodes.NodeIndex.child_count.Goals as goal

pub returns : goal.returns
returns c = λ t same.
    let self = c.args.self.now in
    let nodes = node_in self.nodes.slots in
    let are = children_are t self.places.slots (rw same (index_of self)) c.range-slot-items.ensures.ordered
    c.args.parent in
    let none_left : length (shown nodes c.loop-slot.slot-iterator) ≡ 0 = rw c.in-None.ensures.steps.0 in (
      shown nodes (places_between c.args.parent self.places.slots.entries),
      rw (← same) are,
      omega (arith, c.loop-slot.invariant.so_far, none_left),
    )
