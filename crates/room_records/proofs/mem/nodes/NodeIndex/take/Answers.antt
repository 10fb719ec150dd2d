use Rattle.room_records.proofs.Common.{◌≡◌, ap, sym, ◌∙◌, None, Some, rules, option_map, option_and_then, node_in}
use Rattle.room_records.proofs.Common.{place_of}
use Rattle.room_records.proofs.Keys.{put_number, put_place}
use Rattle.room_records.proofs.NodePlaces.{index_of, index_without, index_without_child}
use Rattle.room_records.proofs.mem.nodes.NodeIndex.take.Goals as goal

pub invariant_of-self-in-Break-branch-2 : goal.invariant_of-self-in-Break-branch-2
invariant_of-self-in-Break-branch-2 c =
    let is : node_in c.args.self.now.nodes.slots c.args.id ≡ Some c.in_ok-node.node =
    sym c.take.ensures.old ∙ c.in_ok-node.was in
    let no_parent : c.in_ok-node.node.parent ≡ None = search rules in
    let index = index_without (index_of c.args.self.now) (put_number c.take.ensures.held)
    (ap (option_and_then place_of) is ∙ ap (option_map (λ parent. (parent, c.in_ok-node.node.name))) no_parent) in
    record { numbered = index.numbered; placed = index.placed; at_place = index.at_place }

pub invariant_of-self-2 : goal.invariant_of-self-2
invariant_of-self-2 c =
    let name = c.in_ok-node.node.name in
    let index = index_without_child (index_of c.args.self.now) (put_number c.take.ensures.held)
    (sym c.take.ensures.old ∙ c.in_ok-node.was) (ap (option_map (λ parent. (parent, name))) c.in_ok-node-2.was
    ∙ ap (λ parent. Some (parent, name)) (sym c.from.ensures)) (put_place c.take-2.ensures.held) in
    record { numbered = index.numbered; placed = index.placed; at_place = index.at_place }

pub returns-clause-kept : goal.returns-clause-kept
returns-clause-kept c = λ other room. record {
  number = c.take.ensures.kept other.id room.number;
  place = λ place at. c.take-2.ensures.kept place (room.place place at);
}
