use Rattle.room_records.proofs.NodePlaces.{index_of, index_same}
use Rattle.room_records.proofs.mem.nodes.NodeIndex.reserve.Goals as goal

pub invariant_of-self-2 : goal.invariant_of-self-2
invariant_of-self-2 c =
    let index = index_same (index_of c.args.self.now) c.reserve.ensures.same c.reserve-2.ensures.same in
    record { numbered = index.numbered; placed = index.placed; at_place = index.at_place }

pub returns-clause-kept : goal.returns-clause-kept
returns-clause-kept c = λ other room. record {
  number = c.reserve.ensures.kept other.id room.number;
  place = λ place at. c.reserve-2.ensures.kept place (room.place place at);
}
