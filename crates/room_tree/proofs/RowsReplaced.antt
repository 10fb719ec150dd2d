-- Rows where one node changed stand for the room where its object did, and each object is where it went.
use Rattle.room_tree.proofs.Common.{common_steps, arith, ◌≡◌, ◌≢◌, ℕ, ◌+◌, refl, ap, sym, ◌∙◌, ◌⊎◌, inl, inr, reverse}
use Rattle.room_tree.proofs.Common.{Some, IsSome, IsNone, option_map, true, false, reverse-reverse, Node, max_objects}
use Rattle.room_tree.proofs.Common.{Path, ObjectRecords, ObjectRules, Object, Room, IsRoom, object_at, list_of}
use Rattle.room_tree.proofs.Common.{RepresentsRoom, NodeIsObject, RowsShowObject, HasPath, reads_one, one_path, some_is}
use Rattle.room_tree.proofs.Common.{same_or_other, with_object, same_or_other_path, at_changed, elsewhere_unchanged}

-- a node has one path
pub path_of_node : (t : ObjectRecords) → ObjectRules t → (a b : Path) (id : ℕ) → HasPath t a id → HasPath t b id → a ≡ b
path_of_node t rules a b id at also =
    sym (reverse-reverse a) ∙ ap reverse (one_path t rules (reverse a) (reverse b) id at also) ∙ reverse-reverse b

-- a row that stays shows what it showed
pub still_shows : {t later : ObjectRecords} {room after : Room} {path to : Path} {node : Node} {o : Object}
    → RowsShowObject t node room path o → later.entries node.id ≡ list_of after to
    → later.document node.id ≡ t.document node.id → RowsShowObject later node after to o
still_shows shows entries document = grind (arith, common_steps)

-- the room with the object at one path changed
pub changed_at : (room : Room) (path : Path) (change : Object → Object) (o : Object)
    → object_at room path ≡ Some o → object_at (with_object room path change) path ≡ Some (change o)
changed_at room path change o there = at_changed room path change ∙ ap (option_map change) there

-- and what stands in it stood there before
pub stood_there : (room : Room) (path : Path) (change : Object → Object) (q : Path) (p : Object)
    → object_at (with_object room path change) q ≡ Some p
    → (q ≡ path) ⊎ ((was : Path) × (was ≡ path → ⊥) × (q ≡ was) × (object_at room was ≡ Some p))
stood_there room path change q p stands = elim (same_or_other_path q path) [
  | inl same ↦ inl same
  | inr other ↦ inr (q, other, refl, sym (elsewhere_unchanged room path change q other) ∙ stands)
]

-- one node of the rows changed, and each is where this map of paths leads
pub record Replaces (t later : ObjectRecords) (room after : Room) (to : Path → Path)
    (path : Path) (o now_is : Object) (node now : Node) : Type 0 where
  pub is_there : NodeIsObject t room node.id node path o
  pub keeps : (q : Path) (id : ℕ) → HasPath t q id → HasPath later (to q) id
  pub rules : ObjectRules later
  pub stands : later.node node.id ≡ Some now
  pub shows : RowsShowObject later now after (to path) now_is
  pub nodes_away : (id : ℕ) → id ≢ node.id → later.node id ≡ t.node id
  pub lists_away : (q : Path) (id : ℕ) → HasPath t q id → id ≢ node.id → later.entries id ≡ list_of after (to q)
  pub documents_away : (id : ℕ) → id ≢ node.id → later.document id ≡ t.document id
  pub next : later.next + after.left ≡ max_objects + 1
  pub lawful : IsRoom after
  pub at_path : object_at after (to path) ≡ Some now_is
  pub away : (q : Path) (p : Object) → (q ≡ path → ⊥) → object_at room q ≡ Some p → object_at after (to q) ≡ Some p
  pub back : (q : Path) (p : Object) → object_at after q ≡ Some p → (q ≡ to path)
      ⊎ ((was : Path) × (was ≡ path → ⊥) × (q ≡ to was) × (object_at room was ≡ Some p))

module _ {t later : ObjectRecords} {room after : Room} {to : Path → Path} {path : Path} {o now_is : Object}
    {node now : Node} (stand : RepresentsRoom t room)
    (r : Replaces t later room after to path o now_is node now) where
  here_is : NodeIsObject later after node.id now (to path) now_is
  here_is = record {
    at = r.keeps path node.id r.is_there.at;
    node_stands = r.stands;
    object_stands = r.at_path;
    shows = r.shows;
  }

  away_is : (id : ℕ) → id ≢ node.id → (found : Node) (q : Path) (p : Object)
      → NodeIsObject t room id found q p → NodeIsObject later after id found (to q) p
  away_is id other found q p is =
      let number : found.id ≡ id = (stand.rules.numbered id found is.node_stands).0 in
      let apart : found.id ≢ node.id = (λ same. other (sym number ∙ same)) in
      let off : q ≡ path → ⊥ =
      (λ same. other (reads_one t stand.rules (reverse path) id node.id (rw (← same) is.at) r.is_there.at)) in
      record {
        at = r.keeps q id is.at;
        node_stands = r.nodes_away id other ∙ is.node_stands;
        object_stands = r.away q p off is.object_stands;
        shows = still_shows is.shows (ap later.entries number ∙ r.lists_away q id is.at other)
            (r.documents_away found.id apart);
      }

  pub replaced : RepresentsRoom later after
  replaced = record {
    rules = r.rules;
    lawful = r.lawful;
    nodes = λ id found stands. elim (same_or_other id node.id) [
      | inl same ↦
          let is : now ≡ found = some_is now found (sym r.stands ∙ ap later.node (sym same) ∙ stands) in
          (to path, now_is, rw (← is) (rw same here_is))
      | inr other ↦
          let before = stand.nodes id found (sym (r.nodes_away id other) ∙ stands) in
          (to before.0, before.1, away_is id other found before.0 before.1 before.2)
    ];
    objects = λ q p stands. elim (r.back q p stands) [
      | inl same ↦
          let is : now_is ≡ p = some_is now_is p (sym r.at_path ∙ ap (object_at after) (sym same) ∙ stands) in
          rw same (rw (← is) (node.id, now, here_is))
      | inr from ↦
          let before = stand.objects from.0 p from.3 in
          let apart : before.0 ≢ node.id = (λ same.
          from.1 (path_of_node t stand.rules from.0 path node.id (rw (← same) before.2.at) r.is_there.at)) in
          rw from.2 (before.0, before.1, away_is before.0 apart before.1 from.0 p before.2)
    ];
    next = r.next;
  }

  pub none_new : (id : ℕ) → IsNone (t.node id) → IsSome (later.node id) → ⊥
  none_new id absent present = elim (same_or_other id node.id) [
    | inl same ↦ (let f = rw (ap t.node same ∙ r.is_there.node_stands) at absent in cc)
    | inr other ↦ (let f = rw (r.nodes_away id other) at present in let g : true ≡ false = sym f ∙ absent in cc)
  ]
