-- Rows without one node stand for the room without its object.
use Rattle.room_tree.proofs.Common.{common_steps, arith, ◌≡◌, ◌≢◌, ℕ, refl, ap, sym, ◌∙◌, inl, inr, List, [], ◌∷◌, ◌++◌}
use Rattle.room_tree.proofs.Common.{reverse, length, None, Some, IsSome, IsNone, false, append-nil, append_assoc, Node}
use Rattle.room_tree.proofs.Common.{DropNode, Name, Path, IsPath, ObjectRecords, IsChild, NodeRules, ObjectRules}
use Rattle.room_tree.proofs.Common.{apply_to_objects, name_of, Object, Room, IsRoom, object_at, children, list_of}
use Rattle.room_tree.proofs.Common.{RepresentsRoom, NodeIsObject, HasPath, NamesUpwards, child_named, reads_one}
use Rattle.room_tree.proofs.Common.{child_is_at, object_at_node, none_is_some, Ends, nothing_below}
use Rattle.room_tree.proofs.Common.{lists_by_objects_above, nothing_in_empty, same_or_other, if_same, if_other}
use Rattle.room_tree.proofs.Common.{some_or_none, LoadedObject, Outcome, first_refusal, checks, is_root, without}
use Rattle.room_tree.proofs.Common.{IsLoaded, node_of, PlansEffect, Done, reply_model, SubjectModel, changed_is_room}
use Rattle.room_tree.proofs.Common.{not_root_ends}
use Rattle.room_commands.specs.CommandModel as C
use Rattle.room_tree.proofs.FewRows.{few_one}
use Rattle.room_tree.proofs.Outcomes.{success_plans, none_and_some}
use Rattle.room_commands.proofs.RoomsWithout.{at_removed, elsewhere_left, left_was_there}
use Rattle.room_tree.proofs.RowsReplaced.{path_of_node, still_shows}

module _ {t : ObjectRecords} {room : Room} (stand : RepresentsRoom t room) {path : Path} {id : ℕ} {node : Node}
    {o : Object} (is : NodeIsObject t room id node path o) (end : Ends path)
    (empty : (name : Name) → object_at room (path ++ name ∷ []) ≡ None) (lawful : IsRoom (without room path)) where
  abbrev later : ObjectRecords
  later = apply_to_objects (DropNode id) t

  childless : (k : ℕ) (found : Node) → t.node k ≡ Some found → found.parent ≡ Some id → ⊥
  childless k found stands inside =
      let number = (stand.rules.numbered k found stands).0 in
      let child : IsChild t id found = record { stands = ap t.node number ∙ stands; inside = inside } in
      let at = child_is_at t stand.rules path (name_of found) id found
      is.at child (child_named t stand.rules id found child) in
      let there = object_at_node t room stand (path ++ name_of found ∷ []) found.id found at child.stands in
      none_is_some there.0 (sym (empty (name_of found)) ∙ there.1)

  not_first : id ≢ 1
  not_first = grind (arith, common_steps)

  forth : (k : ℕ) (found : Node) → t.node k ≡ Some found → k ≢ id → later.node k ≡ Some found
  forth k found stands other = if_other k id None (t.node k) other ∙ stands

  back : (k : ℕ) (found : Node) → later.node k ≡ Some found → (k ≢ id) × (t.node k ≡ Some found)
  back k found stands = grind (arith, common_steps, same_or_other, none_is_some, if_same, if_other)

  nodes_dropped : NodeRules (apply_to_objects (DropNode id) t).node
  nodes_dropped = record {
    root = rw (if_other 1 id None (t.node 1) (λ same. not_first (sym same))) stand.rules.nodes.root;
    has_root = rw (if_other 1 id None (t.node 1) (λ same. not_first (sym same))) stand.rules.nodes.has_root;
    below = λ k found stands other.
        let before = back k found stands in
        let under = stand.rules.nodes.below k found before.1 other in
        record {
          above = under.above;
          parent = under.parent;
          has_parent = under.has_parent;
          stands = forth under.above under.parent under.stands
              (λ same. childless k found before.1 (under.has_parent ∙ ap Some same));
          folder = under.folder;
          name = under.name;
          named = under.named;
          lawful = under.lawful;
        };
    once = λ a b a_stands b_stands parents names.
        stand.rules.nodes.once a b (back a.id a a_stands).1 (back b.id b b_stands).1 parents names;
  }

  rules_dropped : ObjectRules (apply_to_objects (DropNode id) t)
  rules_dropped = record {
    numbered = λ k found stands. stand.rules.numbered k found (back k found stands).1;
    nodes = nodes_dropped;
    entries = λ k gone. elim (same_or_other k id) [
      | inl same ↦ if_same k id [] (t.entries k) same
      | inr other ↦ if_other k id [] (t.entries k) other
          ∙ stand.rules.entries k (sym (if_other k id None (t.node k) other) ∙ gone)
    ];
    documents = λ k there. elim (same_or_other k id) [
      | inl same ↦ absurd (none_and_some {X = List ℕ} None refl (rw (if_same k id None (t.document k) same) at there))
      | inr other ↦ (let owner = stand.rules.documents k (rw (← if_other k id None (t.document k) other) there) in
          (owner.0, forth k owner.0 owner.1 other, owner.2))
    ];
    next = stand.rules.next;
  }

  names_stay : (names : List Name) (k : ℕ) → NamesUpwards t names k → k ≢ id → NamesUpwards later names k
  names_stay [] k up other = up
  names_stay (name ∷ above) k (found, parent, stands, named, inside, up) other = (
    found,
    parent,
    forth k found stands other,
    named,
    inside,
    names_stay above parent up (λ same. childless k found stands (inside ∙ ap Some same)),
  )

  not_below : (q : Path) (p : Object) → object_at room q ≡ Some p
      → (q ≡ path → ⊥) → (rest : Path) → q ≡ path ++ rest → ⊥
  not_below q p there away [] is = away (is ∙ append-nil path)
  not_below q p there away (name ∷ rest) is =
      let none = nothing_below room stand.lawful rest (path ++ name ∷ []) (empty name) in
      none_is_some p (sym (ap (object_at room) (is ∙ sym (append_assoc path (name ∷ []) rest)) ∙ none) ∙ there)

  -- what stays keeps its list, since nothing of it stands below the removed object
  lists_stay : (q : Path) (p : Object) → object_at room q ≡ Some p
      → (q ≡ path → ⊥) → list_of room q ≡ list_of (without room path) q
  lists_stay q p there away = lists_by_objects_above room (without room path) q
      (λ front rest is. sym (elsewhere_left room path front (λ same.
      not_below q p there away rest (is ∙ ap (λ (f : Path). f ++ rest) same))))

  still : (k : ℕ) (found : Node) (q : Path) (p : Object) → k ≢ id
      → NodeIsObject t room k found q p → NodeIsObject later (without room path) k found q p
  still k found q p other at =
      let number : found.id ≡ k = (stand.rules.numbered k found at.node_stands).0 in
      let apart : found.id ≢ id = (λ same. other (sym number ∙ same)) in
      let away : q ≡ path → ⊥ = (λ same. other (
      reads_same path k id (rw (← same) at.at) is.at)) in
      record {
        at = names_stay (reverse q) k at.at other;
        node_stands = forth k found at.node_stands other;
        object_stands = elsewhere_left room path q away ∙ at.object_stands;
        shows = still_shows at.shows
            (if_other found.id id [] (t.entries found.id) apart ∙ at.shows.entries
            ∙ lists_stay q p at.object_stands away)
            (if_other found.id id None (t.document found.id) apart);
      }
    where
      reads_same : (q : Path) (a b : ℕ) → HasPath t q a → HasPath t q b → a ≡ b
      reads_same q a b = reads_one t stand.rules (reverse q) a b

  pub removed : RepresentsRoom (apply_to_objects (DropNode id) t) (without room path)
  removed = record {
    rules = rules_dropped;
    lawful = lawful;
    nodes = λ k found stands.
        let before = back k found stands in
        let at = stand.nodes k found before.1 in
        (at.0, at.1, still k found at.0 at.1 before.0 at.2);
    objects = λ q p stands.
        let was = left_was_there room path q p stands in
        let at = stand.objects q p was.1 in
        let other : at.0 ≢ id = (λ same.
        was.0 (path_of_node t stand.rules q path id (rw (← same) at.2.at) is.at)) in
        (at.0, at.1, still at.0 at.1 q p other at.2);
    next = stand.next;
  }

  pub removed_keeps : (q : Path) (k : ℕ) → HasPath t q k → IsSome (object_at (without room path) q) → HasPath later q k
  removed_keeps q k at there = names_stay (reverse q) k at (λ same.
      let here = path_of_node t stand.rules q path id (rw (← same) (at)) is.at in
      none_and_some {X = Object} None refl
      (rw (ap (object_at (without room path)) here ∙ at_removed room path) at there))

  pub none_made : (k : ℕ) → IsNone (t.node k) → IsSome (later.node k) → ⊥
  none_made k none some = grind (arith, common_steps, some_or_none, none_and_some, back)

-- REMOVE
pub remove_plans : {t : ObjectRecords} {room : Room} (caller : SubjectModel) {path : Path} {loaded : LoadedObject}
    (outcome : Outcome) → RepresentsRoom t room → IsLoaded t room path loaded
    → first_refusal (checks room caller (C.Remove path)) ≡ None → is_root path ≡ false → IsPath path
    → length (children room path) ≡ 0 → outcome.changes.items ≡ DropNode loaded.id ∷ []
    → reply_model outcome.reply ≡ Done → PlansEffect t room caller (C.Remove path) outcome
remove_plans {t} {room} caller {path} {loaded} outcome stand found passed root_off is_path none planned replied =
    let end = not_root_ends path root_off in
    let empty = nothing_in_empty room path none in
    let lawful = changed_is_room room caller (C.Remove path) is_path stand.lawful passed in
    let node = node_of loaded in
    success_plans caller (C.Remove path) outcome stand (DropNode loaded.id ∷ []) passed replied planned (tt, tt)
    (rules_dropped stand found.is_there end empty lawful, tt)
    (few_one t (DropNode loaded.id) (λ k. refl))
    (removed stand found.is_there end empty lawful)
    (λ q k at stands there. removed_keeps stand found.is_there end empty lawful q k at there)
    (λ k absent present. absurd (none_made stand found.is_there end empty lawful k absent present))
