-- A row put where its place is free.
use Rattle.room_tree.proofs.Common.{common_steps, ◌≡◌, ◌≢◌, ℕ, ◌<◌, ◌≤◌, refl, ap, sym, ◌∙◌, arith, ◌⊎◌, inl, inr, []}
use Rattle.room_tree.proofs.Common.{◌∷◌, ◌++◌, None, Some, AllByRecursion, Folder, Node, PutNode, Name, Path}
use Rattle.room_tree.proofs.Common.{IsFileName, ObjectRecords, IsChild, NodeRules, ObjectRules, apply_to_objects, Room}
use Rattle.room_tree.proofs.Common.{object_at, RepresentsRoom, HasPath, child_is_at, object_at_node, none_is_some}
use Rattle.room_tree.proofs.Common.{same_or_other, if_same, if_other}

-- a row in a folder that has not its name, of a number that is free, or whose object keeps its kind
pub record IsFree (t : ObjectRecords) (node : Node) (above : ℕ) (name : Name) : Type 0 where
  pub off_root : node.id ≢ 1
  pub positive : 1 ≤ node.id
  pub below : node.id < t.next
  pub parent : Node
  pub stands : t.node above ≡ Some parent
  pub folder : parent.kind ≡ Folder
  pub inside : node.parent ≡ Some above
  pub named : node.name ≡ Some name
  pub lawful : IsFileName name
  pub alone : (other : Node) → IsChild t above other → other.name ≡ Some name → ⊥
  pub kind : (before : Node) → t.node node.id ≡ Some before → node.kind ≡ before.kind

-- where no object is, no row of the folder has the name
pub no_child : {t : ObjectRecords} {room : Room} → RepresentsRoom t room
    → (folder : Path) (name : Name) (above : ℕ) → HasPath t folder above → object_at room (folder ++ name ∷ []) ≡ None
    → (other : Node) → IsChild t above other → other.name ≡ Some name → ⊥
no_child {t} {room} stand folder name above at free other child named =
    let there = object_at_node t room stand (folder ++ name ∷ []) other.id other
    (child_is_at t stand.rules folder name above other at child named) child.stands in
    none_is_some there.0 (sym free ∙ there.1)

module _ {t : ObjectRecords} (rules : ObjectRules t) {node : Node} {above : ℕ} {name : Name}
    (free : IsFree t node above name) where
  abbrev later : ObjectRecords
  later = apply_to_objects (PutNode node) t

  away : (id : ℕ) → id ≢ node.id → later.node id ≡ t.node id
  away id other = if_other id node.id (Some node) (t.node id) other

  forth : (id : ℕ) (found : Node) → t.node id ≡ Some found
      → (after : Node) × (later.node id ≡ Some after) × (after.kind ≡ found.kind)
  forth id found stands = elim (same_or_other id node.id) [
    | inl same ↦ (
      node,
      if_same id node.id (Some node) (t.node id) same,
      free.kind found (ap t.node (sym same) ∙ stands),
    )
    | inr other ↦ (found, away id other ∙ stands, refl)
  ]

  back : (id : ℕ) (found : Node) → later.node id ≡ Some found
      → ((id ≡ node.id) × (node ≡ found)) ⊎ (t.node id ≡ Some found)
  back id found stands = grind (arith, common_steps)

  gone_before : (id : ℕ) → later.node id ≡ None → t.node id ≡ None
  gone_before id gone = grind (arith, common_steps)

  in_folder : (other : Node) → t.node other.id ≡ Some other → other.parent ≡ node.parent → other.name ≡ node.name → ⊥
  in_folder other stands parent named =
      free.alone other (record { stands = stands; inside = parent ∙ free.inside }) (named ∙ free.named)

  nodes_put_free : NodeRules later.node
  nodes_put_free = record {
    root = rw (away 1 (λ same. free.off_root (sym same))) rules.nodes.root;
    has_root = rw (away 1 (λ same. free.off_root (sym same))) rules.nodes.has_root;
    below = λ id found stands other. elim (back id found stands) [
      | inl new ↦ (let parent = forth above free.parent free.stands in record {
        above = above;
        parent = parent.0;
        has_parent = ap (λ (n : Node). n.parent) (sym new.1) ∙ free.inside;
        stands = parent.1;
        folder = parent.2 ∙ free.folder;
        name = name;
        named = ap (λ (n : Node). n.name) (sym new.1) ∙ free.named;
        lawful = free.lawful;
      })
      | inr old ↦ (let under = rules.nodes.below id found old other in
          let parent = forth under.above under.parent under.stands in record {
            above = under.above;
            parent = parent.0;
            has_parent = under.has_parent;
            stands = parent.1;
            folder = parent.2 ∙ under.folder;
            name = under.name;
            named = under.named;
            lawful = under.lawful;
          })
    ];
    once = λ a b a_stands b_stands parents names. elim (back a.id a a_stands) [
      | inl a_new ↦ elim (back b.id b b_stands) [
        | inl b_new ↦ a_new.0 ∙ sym b_new.0
        | inr b_old ↦ absurd (in_folder b b_old (sym parents ∙ ap (λ (n : Node). n.parent) (sym a_new.1))
            (sym names ∙ ap (λ (n : Node). n.name) (sym a_new.1)))
      ]
      | inr a_old ↦ elim (back b.id b b_stands) [
        | inl b_new ↦ absurd (in_folder a a_old (parents ∙ ap (λ (n : Node). n.parent) (sym b_new.1))
            (names ∙ ap (λ (n : Node). n.name) (sym b_new.1)))
        | inr b_old ↦ rules.nodes.once a b a_old b_old parents names
      ]
    ];
  }

  pub rules_put_free : ObjectRules later
  rules_put_free = record {
    numbered = λ id found stands. elim (back id found stands) [
      | inl new ↦ (let number : found.id ≡ id = ap (λ (n : Node). n.id) (sym new.1) ∙ sym new.0 in
          (number, omega (arith, new.0, free.positive), omega (arith, new.0, free.below)))
      | inr old ↦ rules.numbered id found old
    ];
    nodes = nodes_put_free;
    entries = λ id gone. rules.entries id (gone_before id gone);
    documents = λ id there.
        let owner = rules.documents id there in
        let after = forth id owner.0 owner.1 in
        (after.0, after.1, after.2 ∙ owner.2);
    next = rules.next;
  }

-- the last name of a path is a name
pub last_is_name : (folder : Path) (name : Name) → AllByRecursion IsFileName (folder ++ name ∷ []) → IsFileName name
last_is_name [] name all = all.0
last_is_name (first ∷ folder) name all = last_is_name folder name all.1
