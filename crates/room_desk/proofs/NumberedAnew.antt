-- Rows that are numbered anew keep the record rules, and stand for the same room with more numbers left.
use Rattle.room_desk.proofs.Common.{◌≡◌, ℕ, ◌+◌, refl, ap, sym, ◌∙◌, arith, inl, inr, List, [], ◌∷◌, Option, None, Some}
use Rattle.room_desk.proofs.Common.{IsSome, option_map, reverse, unwrap_or, Name, Path, ObjectRecords, root_number}
use Rattle.room_desk.proofs.Common.{ObjectRules, NodeRules, IsRoot, Object, Room, IsRoom, NamesUpwards, RepresentsRoom}
use Rattle.room_desk.proofs.Common.{NodeIsObject, with_more}
use Rattle.room_records.specs.declared.node.Node.{Node}
use Rattle.room_records.proofs.Options.{none_is_not_some}
use Rattle.room_records.proofs.RoomsMap.{some_is, none_is_some}
use Rattle.room_records.proofs.RoomsLists.{lists_by_objects_above}
use Rattle.room_records.proofs.RulesKept.{same_or_other}
use Rattle.room_records.proofs.Paths.{own_number, root_only}
use Rattle.room_desk.specs.NumberedAnew.{node_anew, AreNumberedAnew}

some_there : {X : Type 0} (o : Option X) → IsSome o → (x : X) × (o ≡ Some x)
some_there o there = grind arith

is_there : {X : Type 0} (o : Option X) (x : X) → o ≡ Some x → IsSome o
is_there o x is = rw is refl

module _ (to : ℕ → ℕ) where
  mapped_none : (o : Option ℕ) → None ≡ option_map to o → o ≡ None
  mapped_none None is = refl
  mapped_none (Some x) is = absurd (none_is_some (to x) is)

  mapped_some : (o : Option ℕ) (x : ℕ) → Some x ≡ option_map to o → (y : ℕ) × (o ≡ Some y) × (x ≡ to y)
  mapped_some None x is = absurd (none_is_some x (sym is))
  mapped_some (Some y) x is = (y, refl, some_is x (to y) is)

module _ (to : ℕ → ℕ) (old anew : ObjectRecords) (are : AreNumberedAnew to old anew) where
  names_kept : (names : List Name) (id : ℕ) → NamesUpwards old names id → NamesUpwards anew names (to id)
  names_kept [] id at_root = ap to at_root ∙ are.root
  names_kept (name ∷ above) id (node, parent, stands, named, inside, up) = (
    node_anew to node,
    to parent,
    are.nodes id node stands,
    named,
    ap (option_map to) inside,
    names_kept above parent up,
  )

  -- whose row this is
  record IsOf (number : ℕ) (row : Node) : Type 0 where
    id : ℕ
    node : Node
    stands : old.node id ≡ Some node
    number_is : to id ≡ number
    row_is : node_anew to node ≡ row

  whose : (number : ℕ) (row : Node) → anew.node number ≡ Some row → IsOf number row
  whose number row is = elim (are.others number) [
    | inl (id, there, at) ↦ let (node, stands) = some_there (old.node id) there in record {
      id = id;
      node = node;
      stands = stands;
      number_is = at;
      row_is = some_is (node_anew to node) row (sym (are.nodes id node stands) ∙ ap anew.node at ∙ is);
    }
    | inr none ↦ absurd (none_is_some row (sym none.0 ∙ is))
  ]

  module _ (rules : ObjectRules old) where
    -- the folder of a node
    above_it : (id : ℕ) (node : Node) (parent : ℕ) → old.node id ≡ Some node → node.parent ≡ Some parent
        → (folder : Node) × (old.node parent ≡ Some folder)
    above_it id node parent stands inside = elim (same_or_other id root_number) [
      | inl root ↦ absurd (root_only old rules node parent (ap old.node (sym root) ∙ stands) inside)
      | inr other ↦
          let under = rules.nodes.below id node stands other in
          let same : under.above ≡ parent = some_is under.above parent (sym under.has_parent ∙ inside) in
          (under.parent, ap old.node (sym same) ∙ under.stands)
    ]

    no_folder_is_root : (id : ℕ) (node : Node) → old.node id ≡ Some node → node.parent ≡ None → id ≡ root_number
    no_folder_is_root id node stands none = elim (same_or_other id root_number) [
      | inl root ↦ root
      | inr other ↦
          let under = rules.nodes.below id node stands other in
          absurd (none_is_some under.above (sym none ∙ under.has_parent))
    ]

    root_has_none : (node : Node) → old.node root_number ≡ Some node → node.parent ≡ None
    root_has_none node stands = let root : IsRoot node = rw stands at rules.nodes.root in root.no_parent

    -- two rows at one number are one
    one_row : (a b : ℕ) (x y : Node) → old.node a ≡ Some x → old.node b ≡ Some y → to a ≡ to b
        → node_anew to x ≡ node_anew to y
    one_row a b x y at_a at_b same =
        some_is (node_anew to x) (node_anew to y) (sym (are.nodes a x at_a) ∙ ap anew.node same ∙ are.nodes b y at_b)

    in_one_folder : (a b : ℕ) (x y : Node) → old.node a ≡ Some x → old.node b ≡ Some y
        → x.parent ≡ y.parent → x.name ≡ y.name → a ≡ b
    in_one_folder a b x y at_a at_b parents names =
        sym (rules.numbered a x at_a).0
        ∙ rules.nodes.once x y (own_number old rules a x at_a) (own_number old rules b y at_b) parents names
        ∙ (rules.numbered b y at_b).0

    -- so no two objects get one number: their paths would be one
    apart : (names : List Name) (a b : ℕ) (x y : Node) → NamesUpwards old names a → old.node a ≡ Some x
        → old.node b ≡ Some y → to a ≡ to b → a ≡ b
    apart [] a b x y at_root at_a at_b same =
        let none : x.parent ≡ None = root_has_none x (ap old.node (sym at_root) ∙ at_a) in
        let rows = one_row a b x y at_a at_b same in
        let other : y.parent ≡ None = mapped_none to y.parent
        (ap (option_map to) (sym none) ∙ ap (λ (n : Node). n.parent) rows) in
        at_root ∙ sym (no_folder_is_root b y at_b other)
    apart (name ∷ above) a b x y (node, parent, stands, named, inside, up) at_a at_b same =
        let rows = one_row a b node y stands at_b same in
        let (other, inside', folders) = mapped_some to y.parent (to parent)
        (ap (option_map to) (sym inside) ∙ ap (λ (n : Node). n.parent) rows) in
        let (folder, there) = above_it a node parent stands inside in
        let (folder', there') = above_it b y other at_b inside' in
        let one : parent ≡ other = apart above parent other folder folder' up there there' folders in
        in_one_folder a b node y stands at_b (inside ∙ ap Some one ∙ sym inside') (ap (λ (n : Node). n.name) rows)

  module _ (room : Room) (stand : RepresentsRoom old room) where
    rules : ObjectRules old
    rules = stand.rules

    one : (a b : ℕ) (x y : Node) → old.node a ≡ Some x → old.node b ≡ Some y → to a ≡ to b → a ≡ b
    one a b x y at_a at_b same =
        let (path, o, is) = stand.nodes a x at_a in apart rules (reverse path) a b x y is.at at_a at_b same

    one_parent : (a b : ℕ) (x y : Node) → old.node a ≡ Some x → old.node b ≡ Some y → (p q : Option ℕ)
        → x.parent ≡ p → y.parent ≡ q → option_map to p ≡ option_map to q → p ≡ q
    one_parent a b x y at_a at_b None q in_p in_q same = sym (mapped_none to q same)
    one_parent a b x y at_a at_b (Some p) q in_p in_q same =
        let (other, is, folders) = mapped_some to q (to p) same in
        let (folder, there) = above_it rules a x p at_a in_p in
        let (folder', there') = above_it rules b y other at_b (in_q ∙ is) in
        ap Some (one p other folder folder' there there' folders) ∙ sym is

    at_root : (node : Node) → old.node root_number ≡ Some node → anew.node root_number ≡ Some (node_anew to node)
    at_root node stands = ap anew.node (sym are.root) ∙ are.nodes root_number node stands

    nodes_anew : NodeRules anew.node
    nodes_anew = record {
      root = let (node, stands) = some_there (old.node root_number) rules.nodes.has_root in
          let root : IsRoot node = rw stands at rules.nodes.root in
          rw (at_root node stands) (record {
            no_parent = ap (option_map to) root.no_parent;
            no_name = root.no_name;
            folder = root.folder;
          });
      has_root = let (node, stands) = some_there (old.node root_number) rules.nodes.has_root in
          is_there (anew.node root_number) (node_anew to node) (at_root node stands);
      below = λ number row stands other.
          let its = whose number row stands in
          let under = rules.nodes.below its.id its.node its.stands
          (λ root. other (sym its.number_is ∙ ap to root ∙ are.root)) in
          record {
            above = to under.above;
            parent = node_anew to under.parent;
            has_parent = ap (λ (n : Node). n.parent) (sym its.row_is) ∙ ap (option_map to) under.has_parent;
            stands = are.nodes under.above under.parent under.stands;
            folder = under.folder;
            name = under.name;
            named = ap (λ (n : Node). n.name) (sym its.row_is) ∙ under.named;
            lawful = under.lawful;
          };
      once = λ a b a_stands b_stands parents names.
          let x = whose a.id a a_stands in
          let y = whose b.id b b_stands in
          let folders = one_parent x.id y.id x.node y.node x.stands y.stands x.node.parent y.node.parent refl refl
          (ap (λ (n : Node). n.parent) x.row_is ∙ parents ∙ ap (λ (n : Node). n.parent) (sym y.row_is)) in
          sym x.number_is
          ∙ ap to (in_one_folder rules x.id y.id x.node y.node x.stands y.stands folders
          (ap (λ (n : Node). n.name) x.row_is ∙ names ∙ ap (λ (n : Node). n.name) (sym y.row_is)))
          ∙ y.number_is;
    }

    rules_anew : (more : ℕ) → anew.next + more ≡ old.next → ObjectRules anew
    rules_anew more next = record {
      numbered = λ number row stands.
          let its = whose number row stands in
          let within = are.numbers its.id (is_there (old.node its.id) its.node its.stands) in (
            ap (λ (n : Node). n.id) (sym its.row_is) ∙ ap to (rules.numbered its.id its.node its.stands).0
                ∙ its.number_is,
            omega (arith, within.0, its.number_is),
            omega (arith, within.1, its.number_is),
          );
      nodes = nodes_anew;
      entries = λ number none. elim (are.others number) [
        | inl (id, there, at) ↦
            let (node, stands) = some_there (old.node id) there in
            absurd (none_is_some (node_anew to node)
            (sym none ∙ ap anew.node (sym at) ∙ are.nodes id node stands))
        | inr nothing ↦ nothing.1
      ];
      documents = λ number there. elim (are.others number) [
        | inl (id, stands, at) ↦
            let (bytes, is) = some_there (anew.document number) there in
            let (file, its, kind) = rules.documents id (is_there (old.document id) bytes
            (sym (are.documents id stands) ∙ ap anew.document at ∙ is)) in
            (node_anew to file, ap anew.node (sym at) ∙ are.nodes id file its, kind)
        | inr nothing ↦ absurd (none_is_not_some (anew.document number) nothing.2 there)
      ];
      next = omega (arith, next, rules.next);
    }

    module _ (more : ℕ) where
      abbrev roomy : Room
      roomy = with_more more room

      still_lawful : IsRoom roomy
      still_lawful = record {
        root = stand.lawful.root;
        parents = stand.lawful.parents;
        once = stand.lawful.once;
        few = stand.lawful.few;
      }

      shown : (id : ℕ) (node : Node) (path : Path) (o : Object) → NodeIsObject old room id node path o
          → NodeIsObject anew roomy (to id) (node_anew to node) path o
      shown id node path o is =
          let there = is_there (old.node id) node is.node_stands in
          let number : node.id ≡ id = (rules.numbered id node is.node_stands).0 in
          record {
            at = names_kept (reverse path) id is.at;
            node_stands = are.nodes id node is.node_stands;
            object_stands = is.object_stands;
            shows = record {
              kind = is.shows.kind;
              owner = is.shows.owner;
              group = is.shows.group;
              aclflag = is.shows.aclflag;
              entries = ap (λ (n : ℕ). anew.entries (to n)) number ∙ are.entries id there
                  ∙ ap old.entries (sym number) ∙ is.shows.entries
                  ∙ lists_by_objects_above room roomy path (λ front rest whole. refl);
              bytes = ap (λ (n : ℕ). unwrap_or (anew.document (to n)) []) number
                  ∙ ap (λ (d : Option (List ℕ)). unwrap_or d []) (are.documents id there)
                  ∙ ap (λ (n : ℕ). unwrap_or (old.document n) []) (sym number) ∙ is.shows.bytes;
            };
          }

      at_row : (a b : ℕ) (x y : Node) → a ≡ b → x ≡ y → (path : Path) (o : Object)
          → NodeIsObject anew roomy a x path o → NodeIsObject anew roomy b y path o
      at_row a b x y numbers rows path o is = rw (← numbers, ← rows) is

      pub represents_anew : anew.next + more ≡ old.next → RepresentsRoom anew roomy
      represents_anew next = record {
        rules = rules_anew more next;
        lawful = still_lawful;
        nodes = λ number row stands.
            let its = whose number row stands in
            let (path, o, is) = stand.nodes its.id its.node its.stands in (
              path,
              o,
              at_row (to its.id) number (node_anew to its.node) row its.number_is its.row_is path o
                  (shown its.id its.node path o is),
            );
        objects = λ path o there.
            let (id, node, is) = stand.objects path o there in
            (to id, node_anew to node, shown id node path o is);
        next = omega (arith, next, stand.next);
      }
