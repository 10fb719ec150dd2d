use Rattle.room_records.proofs.Common.{◌≡◌, sym, ◌∙◌, append-nil, node_in}
use Rattle.room_records.proofs.Children.{children_are, shown, places_between}
use Rattle.room_records.proofs.NodePlaces.{index_of}
use Rattle.room_records.proofs.mem.nodes.NodeIndex.children.Goals as goal

pub returns : goal.returns
returns c = λ t same.
    let self = c.args.self.now in
    let nodes = node_in self.nodes.slots in
    let found = c.loop-slot.found.items in
    let items : shown nodes (places_between c.args.parent self.places.slots.entries) ≡ found =
    sym c.loop-slot.invariant ∙ rw c.in-None.ensures.steps.0 (append-nil found) in
    rw (← items, ← same) (children_are t self.places.slots (rw same (index_of self))
    c.range-slot-items.ensures.ordered c.args.parent)
