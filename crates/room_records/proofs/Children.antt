-- The nodes in a folder, read off the index by place.
use Rattle.room_records.proofs.Common.{◌≡◌, ℕ, ◌+◌, refl, ap, sym, ◌∙◌, Bool, true, List, [], ◌∷◌, Option, None, Some}
use Rattle.room_records.proofs.Common.{arith, nat_cmp, inl, inr, ◌⊎◌, map, false, eqb, not, ◌&&◌, AllByRecursion}
use Rattle.room_records.proofs.Common.{IsDistinct, filter_map, IsStrictlySortedBy, keys_of, lookup, option_and_then}
use Rattle.room_records.proofs.Common.{option_cmp, is_le, ordering_then, Ordering, Less, Equal, Greater, IsOrdered, get}
use Rattle.room_records.proofs.Common.{is_at, cases_Bool, cases_eq, ne_eqb, tied_itself, nat_cmp_total, All-found}
use Rattle.room_records.proofs.Common.{tells_apart, option_and_then_some, Node, Name, name_cmp, ObjectRecords, IsChild}
use Rattle.room_records.proofs.Common.{NodeRules, AreChildren, IsChildNamed, InNameOrder, name_of, value_in, PlaceKey}
use Rattle.room_records.proofs.Common.{Places, place_cmp, place_of, id_at}
use Rattle.std.specs.List.{Contains}
use Rattle.std.specs.declared.ops.Bound.TheVariants.{Included, Excluded}
use Rattle.std.specs.BTreeMap.Range.{range_contains, entries_between}
use Rattle.std.proofs.lemmas.List.Elements.{All-weaker, recursion_from_All}
use Rattle.std.proofs.lemmas.Map.Keys.{sorted_head, sorted_tail}
use Rattle.room_records.proofs.Keys.{place_total, exact_places}
use Rattle.room_records.proofs.Lists.{contains_later, contains_first}
use Rattle.room_records.proofs.NodePlaces.{IsIndex, place_parts}
use Rattle.room_records.proofs.Paths.{root_alone}
use Rattle.room_records.proofs.RoomsMap.{some_is, none_is_some}
use Rattle.room_records.proofs.RulesKept.{some_or_none}

abbrev pub PlaceEntry : Type 0
PlaceEntry = PlaceKey × Option ℕ

abbrev pub shown : (ℕ → Option Node) → List PlaceEntry → List Node
shown nodes es = filter_map (λ (e : PlaceEntry). option_and_then nodes e.1) es

abbrev pub is_place_in : ℕ → PlaceKey → Bool
is_place_in parent = range_contains place_cmp (Included (parent, None)) (Excluded (parent + 1, None))

abbrev pub places_between : ℕ → List PlaceEntry → List PlaceEntry
places_between parent es = entries_between place_cmp (Included (parent, None)) (Excluded (parent + 1, None)) es

not_below_itself : (p q : PlaceKey) → place_cmp p q ≡ Less → p ≡ q → ⊥
not_below_itself p q less same =
    let tied = tied_itself place_total q in
    let less = ap (λ k. place_cmp k q) (sym same) ∙ less in
    absurd (let bad : Equal ≡ Less = sym tied ∙ less in cc)

none_first : (name : Option Name) → option_cmp name_cmp None name ≡ Greater → ⊥
none_first name e = grind arith

only_one : (p q : ℕ) (o : Ordering) → (o ≡ Greater → ⊥)
    → (is_le (ordering_then (nat_cmp p q) o) && not (is_le (ordering_then (nat_cmp (p + 1) q) o))) ≡ true → q ≡ p
only_one p q o never h = grind arith

each_one : (p : ℕ) (o : Ordering) → (o ≡ Greater → ⊥)
    → (is_le (ordering_then (nat_cmp p p) o) && not (is_le (ordering_then (nat_cmp (p + 1) p) o))) ≡ true
each_one p o never = grind arith

pub in_range : (parent : ℕ) (place : PlaceKey) → is_place_in parent place ≡ true → place.0 ≡ parent
in_range parent place h = only_one parent place.0 (option_cmp name_cmp None place.1) (none_first place.1) h

pub range_has : (parent : ℕ) (name : Option Name) → is_place_in parent (parent, name) ≡ true
range_has parent name = each_one parent (option_cmp name_cmp None name) (none_first name)

-- what a node at a place of the folder is
module _ (t : ObjectRecords) (places : PlaceKey → Option ℕ) (index : IsIndex t.node places) (parent : ℕ) where
  -- the node is in the folder, and the place is its own
  record IsAt (place : PlaceKey) (node : Node) : Type 0 where
    child : IsChild t parent node
    named : node.name ≡ place.1
    inside : place.0 ≡ parent

  is_at_place : (place : PlaceKey) (id : ℕ) (node : Node) → places place ≡ Some id
      → place.0 ≡ parent → t.node id ≡ Some node → IsAt place node
  is_at_place place id node held inside is =
      let here : place_of node ≡ Some place = rw is at (index.at_place place id held) in
      let parts = place_parts node.parent node.name place here in
      record {
        child = record { stands = ap t.node (index.numbered id node is) ∙ is; inside = parts.0 ∙ ap Some inside };
        named = parts.1;
        inside = inside;
      }

  placed : (node : Node) → IsChild t parent node → places (parent, node.name) ≡ Some node.id
  placed node child = index.placed node.id node (parent, node.name) child.stands (rw child.inside)

  -- the child of a name
  pub named_child : (name : Name) → IsChildNamed t parent name (option_and_then t.node (places (parent, Some name)))
  named_child name = by (places (parent, Some name)) refl
    where
      by : (o : Option ℕ) → places (parent, Some name) ≡ o → IsChildNamed t parent name (option_and_then t.node o)
      by None held = λ node child named. none_is_some node.id (sym held ∙ rw named at (placed node child))
      by (Some id) held =
          option_and_then_some place_of (t.node id) (parent, Some name) (index.at_place (parent, Some name) id held)
          (λ node is _. let found = is_at_place (parent, Some name) id node held refl is in
          rw is (found.child, found.named))

  -- the entries hold what the index holds
  abbrev pub AreHeld : List PlaceEntry → Type 0
  AreHeld es = AllByRecursion (λ (e : PlaceEntry). places e.0 ≡ e.1) es

  abbrev children_in : List PlaceEntry → List Node
  children_in es = shown t.node (places_between parent es)

  -- an entry shows no node of the folder, or the one at its place
  next_shown : (e : PlaceEntry) (es : List PlaceEntry) → places e.0 ≡ e.1
      → (children_in (e ∷ es) ≡ children_in es)
      ⊎ ((node : Node) × (children_in (e ∷ es) ≡ node ∷ children_in es) × IsAt e.0 node)
  next_shown e es held = elim (cases_Bool (is_place_in parent e.0)) [
    | inl inside ↦ elim (some_or_none (option_and_then t.node e.1)) [
      | inl none ↦ inl (rw (inside, none) refl)
      | inr found ↦ inr (option_and_then_some t.node e.1 found.0 found.1 (λ id at is. (
        found.0,
        rw (inside, found.1) refl,
        is_at_place e.0 id found.0 (held ∙ at) (in_range parent e.0 inside) is,
      )))
    ]
    | inr outside ↦ inl (rw outside refl)
  ]

  each_shown : (es : List PlaceEntry) → AreHeld es → AllByRecursion (IsChild t parent) (children_in es)
  each_shown [] held = tt
  each_shown (e ∷ es) held = elim (next_shown e es held.0) [
    | inl same ↦ rw same (each_shown es held.1)
    | inr next ↦ rw next.1 (next.2.child, each_shown es held.1)
  ]

  every_shown : (es : List PlaceEntry) → AreHeld es → (name : Option Name) (id : ℕ) (node : Node)
      → lookup (is_at (place_cmp (parent, name))) es ≡ Some (Some id)
      → t.node id ≡ Some node → Contains (children_in es) node
  every_shown [] held name id node found is = absurd (none_is_some (Some id) found)
  every_shown (e ∷ es) held name id node found is = elim (cases_Bool (is_at (place_cmp (parent, name)) e.0)) [
    | inl here ↦ (
        let slot : e.1 ≡ Some id = some_is e.1 (Some id) (rw here at found) in
        rw (← tells_apart exact_places (parent, name) e.0 here, range_has parent name, slot, is)
        (contains_first (children_in es) node))
    | inr other ↦ (
        let rest = every_shown es held.1 name id node (rw other at found) is in
        elim (next_shown e es held.0) [
          | inl same ↦ rw same rest
          | inr next ↦ rw next.1 (contains_later (children_in es) node next.0 rest)
        ])
  ]

  -- what an order of places says of the nodes at them
  abbrev TellsOf : (Node → Node → Type 0) → Type 0
  TellsOf R = (p q : PlaceKey) (a b : Node) → IsAt p a → IsAt q b → place_cmp p q ≡ Less → R a b

  -- each node and each one after it
  abbrev EachPair : (Node → Node → Type 0) → List Node → Type 0
  EachPair R [] = Unit {0}
  EachPair R (a ∷ nodes) = AllByRecursion (R a) nodes × EachPair R nodes

  module _ (R : Node → Node → Type 0) (tells : TellsOf R) where
    all_behind : (place : PlaceKey) (a : Node) → IsAt place a → (es : List PlaceEntry) → AreHeld es
        → AllByRecursion (λ k. place_cmp place k ≡ Less) (keys_of es) → AllByRecursion (R a) (children_in es)
    all_behind place a here [] held less = tt
    all_behind place a here (e ∷ es) held less = elim (next_shown e es held.0) [
      | inl same ↦ rw same (all_behind place a here es held.1 less.1)
      | inr next ↦ rw next.1 (
        tells place e.0 a next.0 here next.2 less.0,
        all_behind place a here es held.1 less.1,
      )
    ]

    pairs_shown : (es : List PlaceEntry) → AreHeld es
        → IsStrictlySortedBy place_cmp (keys_of es) → EachPair R (children_in es)
    pairs_shown [] held sorted = tt
    pairs_shown (e ∷ es) held sorted =
        let rest = pairs_shown es held.1 (sorted_tail place_cmp e.0 (keys_of es) sorted) in
        elim (next_shown e es held.0) [
          | inl same ↦ rw same rest
          | inr next ↦ rw next.1 (
            all_behind e.0 next.0 next.2 es held.1 (sorted_head place_cmp e.0 (keys_of es) sorted),
            rest,
          )
        ]

  -- another place has another node
  abbrev AreApart : Node → Node → Type 0
  AreApart a b = eqb a.id b.id ≡ false

  are_apart : TellsOf AreApart
  are_apart p q a b at_p at_q less = ne_eqb a.id b.id (λ same.
      let node : a ≡ b = some_is a b (sym at_p.child.stands ∙ ap t.node same ∙ at_q.child.stands) in
      let place : p ≡ q = (λ i. (
        (at_p.inside ∙ sym at_q.inside) i,
        (sym at_p.named ∙ ap (λ (n : Node). n.name) node ∙ at_q.named) i,
      )) in
      not_below_itself p q less place)

  pub once_shown : (es : List PlaceEntry) → AreHeld es → IsStrictlySortedBy place_cmp (keys_of es)
      → IsDistinct eqb (map (λ (node : Node). node.id) (children_in es))
  unfolding IsDistinct
  once_shown es held sorted = distinct (children_in es) (pairs_shown AreApart are_apart es held sorted)
    where
      heads : (a : Node) (nodes : List Node) → AllByRecursion (AreApart a) nodes
          → AllByRecursion (λ id. eqb a.id id ≡ false) (map (λ (node : Node). node.id) nodes)
      heads a [] all = tt
      heads a (b ∷ nodes) all = (all.0, heads a nodes all.1)

      distinct : (nodes : List Node) → EachPair AreApart nodes
          → IsDistinct eqb (map (λ (node : Node). node.id) nodes)
      distinct [] pairs = tt
      distinct (a ∷ nodes) pairs = (heads a nodes pairs.0, distinct nodes pairs.1)

  -- each child has a name
  abbrev pub AreNamed : Type 0
  AreNamed = (node : Node) → IsChild t parent node → (name : Name) × (node.name ≡ Some name)

  abbrev pub IsBefore : Node → Node → Type 0
  IsBefore a b = name_cmp (name_of a) (name_of b) ≡ Less

  is_before : AreNamed → TellsOf IsBefore
  is_before named p q a b at_p at_q less =
      let m = named a at_p.child in
      let n = named b at_q.child in
      rw (m.1, n.1) (rw (
        at_p.inside,
        at_q.inside,
        ← at_p.named,
        ← at_q.named,
        m.1,
        n.1,
        tied_itself nat_cmp_total parent,
      ) at less)

  in_order : (nodes : List Node) → EachPair IsBefore nodes → InNameOrder nodes
  in_order [] pairs = tt
  in_order (a ∷ []) pairs = tt
  in_order (a ∷ b ∷ nodes) pairs = (pairs.0.0, in_order (b ∷ nodes) pairs.1)

  order_shown : AreNamed → (es : List PlaceEntry) → AreHeld es
      → IsStrictlySortedBy place_cmp (keys_of es) → InNameOrder (children_in es)
  order_shown named es held sorted =
      in_order (children_in es) (pairs_shown IsBefore (is_before named) es held sorted)

-- by the rules each child has a name
pub named_by_rules : (t : ObjectRecords) → NodeRules t.node → (parent : ℕ) (node : Node)
    → IsChild t parent node → (name : Name) × (node.name ≡ Some name)
named_by_rules t rules parent node child = elim (cases_eq node.id 1) [
  | inl one ↦ absurd (root_alone t.node rules node parent (ap t.node (sym one) ∙ child.stands) child.inside)
  | inr other ↦ (let below = rules.below node.id node child.stands other in (below.name, below.named))
]

module _ (t : ObjectRecords) (places : Places) (index : IsIndex t.node (id_at places))
    (ordered : IsOrdered place_cmp places) where
  are_held : AllByRecursion (λ (e : PlaceEntry). id_at places e.0 ≡ e.1) places.entries
  are_held = recursion_from_All _ places.entries (All-weaker (λ (e : PlaceEntry). get place_cmp places e.0 ≡ Some e.1)
      (λ (e : PlaceEntry). id_at places e.0 ≡ e.1) (λ e h. ap value_in h) places.entries
      (All-found place_total places ordered))

  slot_of : (o : Option (Option ℕ)) (id : ℕ) → value_in o ≡ Some id → o ≡ Some (Some id)
  slot_of o id h = grind arith

  pub children_are : (parent : ℕ) → AreChildren t parent (shown t.node (places_between parent places.entries))
  children_are parent = record {
    each = each_shown t (id_at places) index parent places.entries are_held;
    every = λ node child. every_shown t (id_at places) index parent places.entries are_held node.name node.id node
        (slot_of (get place_cmp places (parent, node.name)) node.id (placed t (id_at places) index parent node child))
        child.stands;
    once = once_shown t (id_at places) index parent places.entries are_held ordered;
    in_order = λ rules. order_shown t (id_at places) index parent
        (named_by_rules t rules parent) places.entries are_held ordered;
  }
