-- The fresh room is a room, and two rows stand for it.
use Rattle.room_records.proofs.Common.{◌≡◌, ℕ, refl, false, List, [], ◌∷◌, ◌++◌, None, Some, length, ap, sym, ◌∙◌, ◌≤◌}
use Rattle.room_records.proofs.Common.{arith, cond, ◌==◌, Node, fresh_root, max_children, Path, Name, path_eq}
use Rattle.room_records.proofs.Common.{ObjectRecords, ObjectRules, Object, IsRoom, fresh_object, fresh_room}
use Rattle.room_records.proofs.Common.{fresh_entries, object_at, children, RepresentsRoom, NodeIsObject}
use Rattle.room_records.proofs.RoomsMap.{some_is, none_is_some}
use Rattle.room_records.proofs.PathParts.{root_is_path}

module _ (owner group : List ℕ) where
  abbrev pub root_object : Object
  root_object = fresh_object owner group

  not_root : (path : Path) (name : Name) → path_eq (path ++ name ∷ []) [] ≡ false
  not_root [] name = refl
  not_root (a ∷ path) name = refl

  few_there : (path : Path) → length (children (fresh_room owner group) path) ≤ max_children
  few_there path = grind arith

  pub fresh_is_room : IsRoom (fresh_room owner group)
  fresh_is_room = record {
    root = (root_object, refl, refl);
    parents = λ path name o e. absurd (none_is_some o (rw (not_root path name) at e));
    once = (
      root_is_path,
      record { few_entries = omega arith; own_entries = refl; small = omega arith; folder = λ _. refl },
      refl,
      tt,
    );
    few = few_there;
  }

  abbrev pub root_node : Node
  root_node = fresh_root owner group

  abbrev pub rows : ObjectRecords
  rows = record {
    node = λ id. cond (id == 1) (Some root_node) None;
    entries = λ id. cond (id == 1) fresh_entries [];
    document = λ id. None;
    next = 2;
  }

  at_one : (id : ℕ) (node : Node) → rows.node id ≡ Some node → (id ≡ 1) × (root_node ≡ node)
  at_one id node h = grind arith

  no_entries : (id : ℕ) → rows.node id ≡ None → rows.entries id ≡ []
  no_entries id h = grind arith

  pub rules : ObjectRules rows
  rules = record {
    numbered = λ id node h. let p = at_one id node h in
        (sym (ap (λ (n : Node). n.id) p.1) ∙ sym p.0, omega (arith, p.0), omega (arith, p.0));
    nodes = record {
      root = record { no_parent = refl; no_name = refl; folder = refl };
      has_root = refl;
      below = λ id node h other. absurd (other (at_one id node h).0);
      once = λ a b ha hb p n. (at_one a.id a ha).0 ∙ sym (at_one b.id b hb).0;
    };
    entries = no_entries;
    documents = λ id h. absurd cc;
    next = omega arith;
  }

  meets_root : NodeIsObject rows (fresh_room owner group) 1 root_node [] root_object
  meets_root = record {
    at = refl;
    node_stands = refl;
    object_stands = refl;
    shows = record { kind = refl; owner = refl; group = refl; aclflag = refl; entries = refl; bytes = refl };
  }

  only_root : (path : Path) (o : Object) → object_at (fresh_room owner group) path ≡ Some o
      → (id : ℕ) × (node : Node) × NodeIsObject rows (fresh_room owner group) id node path o
  only_root [] o h = rw (← some_is root_object o h) (1, root_node, meets_root)
  only_root (a ∷ path) o h = absurd cc

  node_there : (id : ℕ) (node : Node) → rows.node id ≡ Some node
      → (path : Path) × (o : Object) × NodeIsObject rows (fresh_room owner group) id node path o
  node_there id node h =
      let only = at_one id node h in ([], root_object, rw (only.0, ← only.1) meets_root)

  pub fresh_stands : RepresentsRoom rows (fresh_room owner group)
  fresh_stands = record { rules = rules; lawful = fresh_is_room; nodes = node_there; objects = only_root; next = refl }
