use Rattle.room_records.proofs.Common.{ap, option_map}
use Rattle.room_records.proofs.Keys.{put_number}
use Rattle.room_records.proofs.NodePlaces.{index_of, index_with}
use Rattle.room_records.proofs.mem.nodes.NodeIndex.add.Goals as goal

pub invariant_of-self : goal.invariant_of-self
invariant_of-self c =
    let node = c.args.node in
    let index = index_with (index_of c.args.self.now) node c.requires.absent (put_number c.put.ensures.held)
    (ap (option_map (λ parent. (parent, node.name))) c.in-None.is) in
    record { numbered = index.numbered; placed = index.placed; at_place = index.at_place }

pub returns-in-None-clause-others : goal.returns-in-None-clause-others
returns-in-None-clause-others c = (put_number c.put.ensures.held).other
