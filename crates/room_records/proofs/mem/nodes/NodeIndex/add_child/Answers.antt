use Rattle.room_records.proofs.Common.{◌≡◌, arith, ap, sym, ◌∙◌, None, Some, nat_cmp, Option, ℕ, List, cond, refl, true}
use Rattle.room_records.proofs.Common.{false, Bor, eq_by_cmp, option_copied, Node, node_in, place_of}
use Rattle.std.specs.Option.{is_some}
use Rattle.room_records.proofs.Keys.{put_number, put_place}
use Rattle.room_records.proofs.NodePlaces.{index_of, index_with_child, taken_is_not_free}
use Rattle.room_records.proofs.mem.nodes.NodeIndex.add_child.Goals as goal

-- the place that the code makes is that of the node
own_place : (node : Node) (parent made : ℕ) (name : Option (List ℕ)) → node.parent ≡ Some parent
    → made ≡ parent → name ≡ node.name → place_of node ≡ Some (made, name)
own_place node parent made name h e n = rw (h, e, n) refl

copied_some : {X : Type 0} (o : Option (Bor X)) → is_some o ≡ true → (x : X) × (option_copied o ≡ Some x)
copied_some None h = absurd cc
copied_some (Some x) h = (x.now, refl)

copied_none : {X : Type 0} (o : Option (Bor X)) → is_some o ≡ false → option_copied o ≡ None
copied_none o h = grind arith

pub returns-then-is_some-clause-nodes : goal.returns-then-is_some-clause-nodes
returns-then-is_some-clause-nodes c = λ free.
    let node = c.args.node in
    let found = copied_some c.get.result (sym c.is_some.ensures ∙ c.if-is_some.true) in
    absurd (taken_is_not_free (index_of c.args.self.now) node c.requires.absent
    (own_place node c.args.parent c.from.result c.take.result c.requires.parent c.from.ensures c.take.ensures.value)
    (sym c.get.ensures ∙ found.1) free)

pub put-requires : goal.put-requires
put-requires c = c.requires.space.place (c.from.result, c.take.result) (own_place c.args.node
    c.args.parent c.from.result c.take.result c.requires.parent c.from.ensures c.take.ensures.value)

pub invariant_of-self : goal.invariant_of-self
invariant_of-self c =
    let node = c.args.node in
    let index = index_with_child (index_of c.args.self.now) node c.requires.absent
    (put_number (λ k. c.put-2.ensures.held k ∙ ap (λ name. cond (eq_by_cmp nat_cmp node.id k)
    (Some (record node { name = name })) (node_in c.args.self.now.nodes.slots k)) c.take.ensures.value))
    (own_place node c.args.parent c.from.result c.take.result c.requires.parent c.from.ensures c.take.ensures.value)
    (sym c.get.ensures ∙ copied_none c.get.result (sym c.is_some.ensures ∙ c.if-is_some.false))
    (put_place c.put.ensures.held) in
    record { numbered = index.numbered; placed = index.placed; at_place = index.at_place }

pub returns-clause-kept : goal.returns-clause-kept
returns-clause-kept c = λ other room. record {
  number = c.put-2.ensures.kept other.id room.number;
  place = λ place at. c.put.ensures.kept place (room.place place at);
}

pub returns-clause-others : goal.returns-clause-others
returns-clause-others c = (put_number c.put-2.ensures.held).other
