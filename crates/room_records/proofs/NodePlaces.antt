-- Nodes and their index by place, after one of them changes.
use Rattle.room_records.proofs.Common.{◌≡◌, ℕ, ap, sym, ◌∙◌, ◌⊎◌, Option, None, Some, arith, option_map}
use Rattle.room_records.proofs.Common.{option_and_then, option_and_then_some, Node, Name, PlaceKey, node_in, id_at}
use Rattle.room_records.proofs.Common.{place_of, IsNumbered, ArePlaced, AreAtPlace, IsFreeFor}
use Rattle.room_records.specs.declared.mem.nodes.NodeIndex.{NodeIndex}
use Rattle.room_records.proofs.Keys.{Updated, same_place}
use Rattle.room_records.proofs.RoomsMap.{none_is_some}

pub record IsIndex (nodes : ℕ → Option Node) (places : PlaceKey → Option ℕ) : Type 0 where
  pub numbered : IsNumbered nodes
  pub placed : ArePlaced nodes places
  pub at_place : AreAtPlace nodes places

-- the index that a value keeps
pub index_of : (self : NodeIndex) → IsIndex (node_in self.nodes.slots) (id_at self.places.slots)
index_of self = record { numbered = self.numbered; placed = self.placed; at_place = self.at_place }

pub index_same : {nodes new_nodes : ℕ → Option Node} {places new_places : PlaceKey → Option ℕ}
    → IsIndex nodes places → ((id : ℕ) → new_nodes id ≡ nodes id)
    → ((place : PlaceKey) → new_places place ≡ places place) → IsIndex new_nodes new_places
index_same index same_nodes same_places = record {
  numbered = λ id node h. index.numbered id node (sym (same_nodes id) ∙ h);
  placed = λ id node place h own. same_places place ∙ index.placed id node place (sym (same_nodes id) ∙ h) own;
  at_place = λ place id h. rw (same_nodes id) (index.at_place place id (sym (same_places place) ∙ h));
}

module _ {nodes new_nodes : ℕ → Option Node} {places : PlaceKey → Option ℕ}
    (index : IsIndex nodes places) {id : ℕ} (taken : Updated new_nodes nodes id None) where
  still : {k : ℕ} {node : Node} → new_nodes k ≡ Some node → (k ≡ id → ⊥) × (nodes k ≡ Some node)
  still {k} {node} h = grind (arith, taken.here, taken.other k)

  -- without a node that has no place
  pub index_without : option_and_then place_of (nodes id) ≡ None → IsIndex new_nodes places
  index_without no_place = record {
    numbered = λ k node h. index.numbered k node (still h).1;
    placed = λ k node place h own. index.placed k node place (still h).1 own;
    at_place = λ place k h. grind (arith, taken.other k, index.at_place place k h);
  }

  -- without a node and its place
  pub index_without_child : {node : Node} {place : PlaceKey} {new_places : PlaceKey → Option ℕ}
      → nodes id ≡ Some node → place_of node ≡ Some place
      → Updated new_places places place None → IsIndex new_nodes new_places
  index_without_child {node} {place} is own freed = record {
    numbered = λ k other h. index.numbered k other (still h).1;
    placed = λ k other q h here. grind (
      arith,
      still h,
      same_place q place,
      freed.other q,
      index.placed k other q,
      index.placed id node place is own,
    );
    at_place = λ q k h. grind (arith, same_place q place, freed.here, freed.other q, index.at_place q k, taken.other k);
  }

module _ {nodes new_nodes : ℕ → Option Node} {places : PlaceKey → Option ℕ}
    (index : IsIndex nodes places) (node : Node) (absent : nodes node.id ≡ None)
    (put : Updated new_nodes nodes node.id (Some node)) where
  new_or_old : {k : ℕ} {other : Node} → new_nodes k ≡ Some other
      → ((k ≡ node.id) × (node ≡ other)) ⊎ (nodes k ≡ Some other)
  new_or_old {k} {other} h = grind (arith, put.here, put.other k)

  numbered_with : IsNumbered new_nodes
  numbered_with k other h = grind (arith, new_or_old h, index.numbered k other)

  there : (q : PlaceKey) (k : ℕ) → places q ≡ Some k → option_and_then place_of (new_nodes k) ≡ Some q
  there q k h = grind (arith, put.other k, index.at_place q k h)

  -- with a node that has no place
  pub index_with : place_of node ≡ None → IsIndex new_nodes places
  index_with no_place = record {
    numbered = numbered_with;
    placed = λ k other q h here. grind (arith, new_or_old h, index.placed k other q);
    at_place = there;
  }

  -- with a node at a free place
  pub index_with_child : {place : PlaceKey} {new_places : PlaceKey → Option ℕ}
      → place_of node ≡ Some place → places place ≡ None
      → Updated new_places places place (Some node.id) → IsIndex new_nodes new_places
  index_with_child {place} own free used = record {
    numbered = numbered_with;
    placed = λ k other q h here. grind (
      arith,
      new_or_old h,
      same_place q place,
      used.here,
      used.other q,
      index.placed k other q,
    );
    at_place = λ q k h. grind (arith, same_place q place, used.here, used.other q, there q k, put.here);
  }

pub place_parts : (parent : Option ℕ) (name : Option Name) (place : PlaceKey)
    → option_map (λ p. (p, name)) parent ≡ Some place → (parent ≡ Some place.0) × (name ≡ place.1)
place_parts parent name place own = grind arith

-- a place that is taken is not free
pub taken_is_not_free : {nodes : ℕ → Option Node} {places : PlaceKey → Option ℕ}
    → IsIndex nodes places → (node : Node) {place : PlaceKey} {id : ℕ}
    → nodes node.id ≡ None → place_of node ≡ Some place → places place ≡ Some id → IsFreeFor nodes node → ⊥
taken_is_not_free {nodes} index node {place} {id} absent own taken free =
    option_and_then_some place_of (nodes id) place (index.at_place place id taken) (λ other is here.
    let numbered : other.id ≡ id = index.numbered id other is in
    let a = place_parts other.parent other.name place here in
    let b = place_parts node.parent node.name place own in
    let same : other.id ≡ node.id = free other (ap nodes numbered ∙ is) (a.0 ∙ sym b.0) (a.1 ∙ sym b.1) in
    none_is_some other (sym absent ∙ ap nodes (sym same ∙ numbered) ∙ is))
