-- The record rules after one change.
use Rattle.room_records.proofs.Common.{◌≡◌, ◌≢◌, ℕ, ◌+◌, ◌≤◌, refl, ap, sym, ◌∙◌, arith, cond, eqb, ◌⊎◌, inl, inr, List}
use Rattle.room_records.proofs.Common.{[], ◌∷◌, Option, None, Some, IsSome, eq-eqb, cases_eq, cond-false, cond-true}
use Rattle.room_records.proofs.Common.{ne_eqb, Node, max_objects, Name, ObjectRecords, NodeRules, ObjectRules, IsRoot}
use Rattle.room_records.proofs.Common.{apply_to_objects, NamesUpwards}
use Rattle.room_acl.specs.declared.subject.Kind.TheVariants.{File}
use Rattle.room_records.specs.declared.change.Change.TheVariants.{PutNode, PutEntries, PutDoc, PutNext}
use Rattle.room_records.proofs.Options.{none_if}
use Rattle.room_records.proofs.RoomsMap.{some_is, none_is_some}

pub same_or_other : (a b : ℕ) → (a ≡ b) ⊎ (a ≢ b)
same_or_other = cases_eq

pub if_same : {X : Type 0} (a b : ℕ) (x y : X) → a ≡ b → cond (eqb a b) x y ≡ x
if_same a b x y same = cond-true _ x y (eq-eqb a b same)

pub if_other : {X : Type 0} (a b : ℕ) (x y : X) → a ≢ b → cond (eqb a b) x y ≡ y
if_other a b x y other = cond-false _ x y (ne_eqb a b other)

-- two rows of a node that stays where it is
pub record SamePlace (now before : Node) : Type 0 where
  pub id : now.id ≡ before.id
  pub parent : now.parent ≡ before.parent
  pub name : now.name ≡ before.name
  pub kind : now.kind ≡ before.kind

pub place_itself : (node : Node) → SamePlace node node
place_itself node = record { id = refl; parent = refl; name = refl; kind = refl }

-- each node stays where it is
pub record SameShape (t later : ObjectRecords) : Type 0 where
  pub back : (id : ℕ) (now : Node) → later.node id ≡ Some now
      → (before : Node) × (t.node id ≡ Some before) × SamePlace now before
  pub forth : (id : ℕ) (before : Node) → t.node id ≡ Some before
      → (now : Node) × (later.node id ≡ Some now) × SamePlace now before

pub shape_itself : (t later : ObjectRecords) → later.node ≡ t.node → SameShape t later
shape_itself t later same = record {
  back = λ id now stands. (now, rw same at stands, place_itself now);
  forth = λ id before stands. (before, rw same stands, place_itself before);
}

pub names_by_shape : (t later : ObjectRecords) → SameShape t later
    → (names : List Name) (id : ℕ) → NamesUpwards t names id → NamesUpwards later names id
names_by_shape t later shape [] id up = up
names_by_shape t later shape (name ∷ above) id (node, parent, stands, named, inside, up) =
    let now = shape.forth id node stands in
    (now.0, parent, now.1, now.2.name ∙ named, now.2.parent ∙ inside, names_by_shape t later shape above parent up)

pub some_or_none : {X : Type 0} (o : Option X) → (o ≡ None) ⊎ ((x : X) × (o ≡ Some x))
some_or_none None = inl refl
some_or_none (Some x) = inr (x, refl)

is_some_of : {X : Type 0} (o : Option X) → IsSome o → (x : X) × (o ≡ Some x)
is_some_of o h = grind arith

module _ (t later : ObjectRecords) (rules : ObjectRules t) (shape : SameShape t later) where
  gone_before : (id : ℕ) → later.node id ≡ None → t.node id ≡ None
  gone_before id gone = none_if _ (λ before stands.
      let now = shape.forth id before stands in none_is_some now.0 (sym gone ∙ now.1))

  nodes_by_shape : NodeRules later.node
  nodes_by_shape = record {
    root =
        let first = is_some_of (t.node 1) rules.nodes.has_root in
        let now = shape.forth 1 first.0 first.1 in
        let root : IsRoot first.0 = rw first.1 at rules.nodes.root in
        rw now.1 (record {
          no_parent = now.2.parent ∙ root.no_parent;
          no_name = now.2.name ∙ root.no_name;
          folder = now.2.kind ∙ root.folder;
        });
    has_root =
        let first = is_some_of (t.node 1) rules.nodes.has_root in
        rw (shape.forth 1 first.0 first.1).1 refl;
    below = λ id now stands other.
        let before = shape.back id now stands in
        let under = rules.nodes.below id before.0 before.1 other in
        let parent = shape.forth under.above under.parent under.stands in
        record {
          above = under.above;
          parent = parent.0;
          has_parent = before.2.parent ∙ under.has_parent;
          stands = parent.1;
          folder = parent.2.kind ∙ under.folder;
          name = under.name;
          named = before.2.name ∙ under.named;
          lawful = under.lawful;
        };
    once = λ a b a_stands b_stands parents names.
        let x = shape.back a.id a a_stands in
        let y = shape.back b.id b b_stands in
        x.2.id
        ∙ rules.nodes.once x.0 y.0 (ap t.node (sym x.2.id) ∙ x.1) (ap t.node (sym y.2.id) ∙ y.1)
        (sym x.2.parent ∙ parents ∙ y.2.parent) (sym x.2.name ∙ names ∙ y.2.name)
        ∙ sym y.2.id;
  }

  pub rules_by_shape : ((id : ℕ) → t.node id ≡ None → later.entries id ≡ [])
      → ((id : ℕ) → IsSome (later.document id) → (node : Node) × (t.node id ≡ Some node) × (node.kind ≡ File))
      → t.next ≤ later.next → later.next ≤ max_objects + 1 → ObjectRules later
  rules_by_shape entries documents more few = record {
    numbered = λ id now stands.
        let before = shape.back id now stands in
        let number = rules.numbered id before.0 before.1 in
        (before.2.id ∙ number.0, number.1, omega (arith, number.2, more));
    nodes = nodes_by_shape;
    entries = λ id gone. entries id (gone_before id gone);
    documents = λ id there.
        let before = documents id there in
        let now = shape.forth id before.0 before.1 in
        (now.0, now.1, now.2.kind ∙ before.2);
    next = few;
  }

module _ (t : ObjectRecords) (rules : ObjectRules t) where
  -- a row of a node that stays where it is
  pub shape_put : (node later : Node) → t.node node.id ≡ Some node
      → SamePlace later node → SameShape t (apply_to_objects (PutNode later) t)
  shape_put node later stands same = record {
    back = λ id now found. elim (same_or_other id later.id) [
      | inl here ↦
          let is : later ≡ now = some_is later now (sym (if_same id later.id (Some later) (t.node id) here) ∙ found) in
          (node, ap t.node (here ∙ same.id) ∙ stands, rw (← is) same)
      | inr away ↦ (now, sym (if_other id later.id (Some later) (t.node id) away) ∙ found, place_itself now)
    ];
    forth = λ id before found. elim (same_or_other id later.id) [
      | inl here ↦
          let is : node ≡ before = some_is node before (sym stands ∙ ap t.node (sym (here ∙ same.id)) ∙ found) in
          (later, if_same id later.id (Some later) (t.node id) here, rw (← is) same)
      | inr away ↦ (before, if_other id later.id (Some later) (t.node id) away ∙ found, place_itself before)
    ];
  }

  pub rules_put : (node later : Node) → t.node node.id ≡ Some node
      → SamePlace later node → ObjectRules (apply_to_objects (PutNode later) t)
  rules_put node later stands same =
      rules_by_shape t (apply_to_objects (PutNode later) t) rules (shape_put node later stands same)
      rules.entries rules.documents (omega arith) rules.next

  pub rules_put_entries : (id : ℕ) (node : Node) → t.node id ≡ Some node
      → (entries : _) → ObjectRules (apply_to_objects (PutEntries id entries) t)
  rules_put_entries id node stands entries =
      let later = apply_to_objects (PutEntries id entries) t in
      rules_by_shape t later rules (shape_itself t later refl)
      (λ k gone. elim (same_or_other k id) [
        | inl here ↦ absurd (none_is_some node (sym gone ∙ ap t.node here ∙ stands))
        | inr away ↦ if_other k id entries.items (t.entries k) away ∙ rules.entries k gone
      ])
      rules.documents (omega arith) rules.next

  pub rules_put_doc : (id : ℕ) (node : Node) → t.node id ≡ Some node → node.kind ≡ File
      → (bytes : _) → ObjectRules (apply_to_objects (PutDoc id bytes) t)
  rules_put_doc id node stands file bytes =
      let later = apply_to_objects (PutDoc id bytes) t in
      rules_by_shape t later rules (shape_itself t later refl)
      rules.entries
      (λ k there. elim (same_or_other k id) [
        | inl here ↦ (node, ap t.node here ∙ stands, file)
        | inr away ↦ rules.documents k (rw (if_other k id (Some bytes.items) (t.document k) away) at there)
      ]) (omega arith) rules.next

  pub rules_put_next : (n : ℕ) → t.next ≤ n → n ≤ max_objects + 1 → ObjectRules (apply_to_objects (PutNext n) t)
  rules_put_next n more few =
      let later = apply_to_objects (PutNext n) t in
      rules_by_shape t later rules (shape_itself t later refl) rules.entries rules.documents more few
