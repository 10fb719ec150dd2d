-- Rows where one node has another folder and name stand for the room with its subtree moved.
use Rattle.room_tree.proofs.Common.{common_steps, ◌≡◌, ◌≢◌, ℕ, ◌+◌, refl, ap, sym, ◌∙◌, arith, Bool, true, false, cond}
use Rattle.room_tree.proofs.Common.{◌⊎◌, inl, inr, List, [], ◌∷◌, ◌++◌, map, reverse, length, drop, append_assoc}
use Rattle.room_tree.proofs.Common.{append-nil, Option, None, Some, unwrap_or, reverse-append, reverse-reverse}
use Rattle.room_tree.proofs.Common.{drop-append-le, drop_all, same_from_push, Folder, EntryModel, Node, PutNode, Name}
use Rattle.room_tree.proofs.Common.{Path, IsFileName, ObjectRecords, ObjectRules, apply_to_objects}
use Rattle.room_tree.proofs.Common.{apply_all_to_objects, ObjectRulesHoldAfterEach, Object, Room, IsRoom, object_at}
use Rattle.room_tree.proofs.Common.{list_of, RepresentsRoom, NodeIsObject, HasPath, NamesUpwards, reads_one}
use Rattle.room_tree.proofs.Common.{object_at_node, some_is, ends, same_or_other, if_same, if_other, shape_itself}
use Rattle.room_tree.proofs.Common.{names_by_shape, is_at_or_below, renamed, moved, at_behind, same_or_other_path}
use Rattle.room_tree.proofs.Common.{rest_below, not_both, at_moved, Stands, Moved, Stayed, stands_after, list_below}
use Rattle.room_tree.proofs.ListsMoved.{list_of_stayed, lists_of_moved}
use Rattle.room_tree.proofs.Renewed.{Puts, put, Relists, only_entries, relisted_at, relisted_off, relisted_rules}
use Rattle.room_tree.proofs.RowsPut.{rules_put_free, no_child}
use Rattle.room_tree.proofs.RowsReplaced.{path_of_node, Replaces}
use Rattle.room_tree.proofs.StoredLists.{node_at_path, stored_list}

-- an object below a path, but not at it, has its folder there too
below_parent : (q path : Path) (name : Name) → is_at_or_below (q ++ name ∷ []) path ≡ true
    → (q ++ name ∷ [] ≡ path → ⊥) → is_at_or_below q path ≡ true
below_parent q path name below other =
    by_rest (drop (length path) (q ++ name ∷ [])) (rest_below path (q ++ name ∷ []) below)
  where
    by_rest : (rest : Path) → q ++ name ∷ [] ≡ path ++ rest → is_at_or_below q path ≡ true
    by_rest [] same = absurd (other (same ∙ append-nil path))
    by_rest (first ∷ rest) same =
        let end = ends first rest in
        let split : q ++ name ∷ [] ≡ (path ++ end.folder) ++ end.name ∷ [] =
        same ∙ ap (λ r. path ++ r) end.is ∙ sym (append_assoc path end.folder (end.name ∷ [])) in
        let parts = same_from_push q (path ++ end.folder) name end.name split in
        ap (λ p. is_at_or_below p path) parts.0 ∙ at_behind path end.folder

-- an object in a moved folder moves with it
moved_child : (q path to : Path) (name : Name) → is_at_or_below q path ≡ true
    → moved path to (q ++ name ∷ []) ≡ moved path to q ++ name ∷ []
moved_child q path to name below = grind (arith, common_steps)

pub moved_off : (q path to : Path) → is_at_or_below q path ≡ false → moved path to q ≡ q
moved_off q path to off = ap (λ b. cond b (to ++ drop (length path) q) q) off

-- what is at the path goes to the new one
moved_top : (path to : Path) → moved path to path ≡ to
moved_top path to =
    let here : is_at_or_below path path ≡ true =
    ap (λ p. is_at_or_below p path) (sym (append-nil path)) ∙ at_behind path [] in
    ap (λ b. cond b (to ++ drop (length path) path) path) here
    ∙ ap (λ r. to ++ r) (drop_all (length path) path (omega arith)) ∙ append-nil to

pub moved_rest : (path to rest : Path) → moved path to (path ++ rest) ≡ to ++ rest
moved_rest path to rest = grind (arith, common_steps, at_behind, drop-append-le, drop_all)

-- a node with another folder and name
abbrev pub node_moved : Node → ℕ → Name → Node
node_moved node above last = record node { parent = Some above; name = Some last }

pub record MovesNode (t : ObjectRecords) (room : Room) (path up : Path)
    (last : Name) (o : Object) (node : Node) (above : ℕ) : Type 0 where
  pub is_there : NodeIsObject t room node.id node path o
  pub off_root : is_at_or_below [] path ≡ false
  pub apart : is_at_or_below (up ++ last ∷ []) path ≡ false
  pub free : object_at room (up ++ last ∷ []) ≡ None
  pub up_at : HasPath t up above
  pub parent : Node
  pub parent_stands : t.node above ≡ Some parent
  pub parent_folder : parent.kind ≡ Folder
  pub named : IsFileName last
  pub lawful : IsRoom (renamed room path (up ++ last ∷ []))

module _ {t : ObjectRecords} {room : Room} (stand : RepresentsRoom t room) {path up : Path} {last : Name} {o : Object}
    {node : Node} {above : ℕ} (m : MovesNode t room path up last o node above) where
  abbrev to : Path
  to = up ++ last ∷ []

  abbrev now : Node
  now = node_moved node above last

  abbrev later : ObjectRecords
  later = apply_to_objects (PutNode now) t

  here : (id : ℕ) → id ≡ node.id → later.node id ≡ Some now
  here id same = if_same id node.id (Some now) (t.node id) same

  away : (id : ℕ) → id ≢ node.id → later.node id ≡ t.node id
  away id other = if_other id node.id (Some now) (t.node id) other

  off_by : (q : Path) (name : Name) → is_at_or_below (q ++ name ∷ []) path ≡ false → is_at_or_below q path ≡ false
  off_by q name off = grind (arith, common_steps)

  turned : (name : Name) (names : List Name) → reverse (name ∷ names) ≡ reverse names ++ name ∷ []
  turned name names = reverse-append (name ∷ []) names

  is_path_of : (names : List Name) (id : ℕ) → NamesUpwards t names id → id ≡ node.id → reverse names ≡ path
  is_path_of names id at same =
      path_of_node t stand.rules (reverse names) path node.id
      (rw (← same) (rw (reverse-reverse names) (at))) m.is_there.at

  itself_below : is_at_or_below path path ≡ true
  itself_below = ap (λ p. is_at_or_below p path) (sym (append-nil path)) ∙ at_behind path []

  -- what is not below the old place stays
  names_off : (names : List Name) (id : ℕ) → NamesUpwards t names id
      → is_at_or_below (reverse names) path ≡ false → NamesUpwards later names id
  names_off [] id at off = at
  names_off (name ∷ names) id (found, parent, stands, named, inside, rest) off =
      let other : id ≢ node.id = (λ same. not_both (is_at_or_below (reverse (name ∷ names)) path)
      (ap (λ p. is_at_or_below p path) (is_path_of (name ∷ names) id (found, parent, stands, named, inside, rest) same)
      ∙ itself_below) off) in (
        found,
        parent,
        away id other ∙ stands,
        named,
        inside,
        names_off names parent rest
            (off_by (reverse names) name (ap (λ p. is_at_or_below p path) (sym (turned name names)) ∙ off)),
      )

  at_to : HasPath later to node.id
  at_to =
      rw (reverse-append up (last ∷ [])) (
        now,
        above,
        here node.id refl,
        refl,
        refl,
        names_off (reverse up) above m.up_at (rw (reverse-reverse up) (off_by up last m.apart)),
      )

  -- each node is where its path was moved
  names_moved : (names : List Name) (id : ℕ) → NamesUpwards t names id
      → HasPath later (moved path to (reverse names)) id
  names_moved [] id at = rw (moved_off [] path to m.off_root) (at)
  names_moved (name ∷ names) id (found, parent, stands, named, inside, rest) =
      by_place (is_at_or_below (reverse (name ∷ names)) path) refl (names_moved names parent rest)
    where
      by_place : (b : Bool) → is_at_or_below (reverse (name ∷ names)) path ≡ b → HasPath later
          (moved path to (reverse names)) parent → HasPath later (moved path to (reverse (name ∷ names))) id
      by_place false off folder =
          rw (moved_off (reverse (name ∷ names)) path to off) (rw (reverse-reverse (name ∷ names))
          (names_off (name ∷ names) id (found, parent, stands, named, inside, rest) off))
      by_place true below folder = elim (same_or_other id node.id) [
        | inl same ↦
            let is = is_path_of (name ∷ names) id (found, parent, stands, named, inside, rest) same in
            rw (ap (moved path to) is ∙ moved_top path to) (rw same at_to)
        | inr other ↦
            let not_top : reverse names ++ name ∷ [] ≡ path → ⊥ = (λ top. other (
            reads_one t stand.rules (reverse path) id node.id
            (rw (ap reverse (sym (turned name names ∙ top)) ∙ reverse-reverse (name ∷ names))
            (found, parent, stands, named, inside, rest)) m.is_there.at)) in
            let in_subtree = below_parent (reverse names) path name
            (ap (λ p. is_at_or_below p path) (sym (turned name names)) ∙ below) not_top in
            rw (ap (moved path to) (turned name names) ∙ moved_child (reverse names) path to name in_subtree)
            (rw (reverse-append (moved path to (reverse names)) (name ∷ []))
            (found, parent, away id other ∙ stands, named, inside, folder))
      ]

  -- numbers are kept
  keeps_place : (q : Path) (id : ℕ) → HasPath t q id → HasPath later (moved path to q) id
  keeps_place q id at = rw (← reverse-reverse q) (names_moved (reverse q) id at)

  not_first : node.id ≢ 1
  not_first same = not_both (is_at_or_below [] path) (ap (λ p. is_at_or_below [] p)
      (path_of_node t stand.rules path [] node.id m.is_there.at same)) m.off_root

  back : (id : ℕ) (found : Node) → later.node id ≡ Some found
      → ((id ≡ node.id) × (now ≡ found)) ⊎ ((id ≢ node.id) × (t.node id ≡ Some found))
  back id found stands = grind (arith, common_steps)

  pub rules_moved : ObjectRules (apply_to_objects (PutNode now) t)
  rules_moved =
      let old = stand.rules.numbered node.id node m.is_there.node_stands in
      rules_put_free stand.rules (record {
        off_root = not_first;
        positive = old.1;
        below = old.2;
        parent = m.parent;
        stands = m.parent_stands;
        folder = m.parent_folder;
        inside = refl;
        named = refl;
        lawful = m.named;
        alone = no_child stand up last above m.up_at m.free;
        kind = λ before stands.
            ap (λ (n : Node). n.kind) (some_is node before (sym m.is_there.node_stands ∙ stands));
      })

  -- with the lists that change for it
  module _ {list : List EntryModel} (is : list_of (renamed room path to) to ≡ list) {puts : Puts}
      (r : Relists t room path list puts) where
    abbrev rows : ObjectRecords
    rows = apply_all_to_objects (PutNode now ∷ map put puts) t

    -- each object has its list at the place where it is now
    lists_after : (q : Path) (id : ℕ) → HasPath t q id
        → rows.entries id ≡ list_of (renamed room path to) (moved path to q)
    lists_after q id at = by_place (is_at_or_below q path) refl
      where
        by_place : (b : Bool) → is_at_or_below q path ≡ b
            → rows.entries id ≡ list_of (renamed room path to) (moved path to q)
        by_place true below =
            let rest = drop (length path) q in
            let split : q ≡ path ++ rest = rest_below path q below in
            relisted_at stand r now rest id (rw (← split) (at))
            ∙ ap (λ l. list_below room path l (reverse rest)) (sym is)
            ∙ sym (lists_of_moved room stand.lawful path to o m.apart m.is_there.object_stands m.free rest)
            ∙ ap (list_of (renamed room path to)) (sym (ap (moved path to) split ∙ moved_rest path to rest))
        by_place false off =
            let found = node_at_path stand q id at in
            let other = object_at_node t room stand q id found.0 at found.1 in
            relisted_off stand r now q id at off ∙ stored_list stand q id at
            ∙ sym (list_of_stayed room stand.lawful path to o m.apart
            m.is_there.object_stands m.free q other.0 other.1 off)
            ∙ ap (list_of (renamed room path to)) (sym (moved_off q path to off))

    pub rules_after : ObjectRulesHoldAfterEach (PutNode now ∷ map put puts) t × ObjectRules rows
    rules_after = relisted_rules stand r now rules_moved

    row_after : (id : ℕ) → rows.node id ≡ later.node id
    row_after id = ap (λ (f : ℕ → Option Node). f id) (only_entries puts later).0

    -- each object stands at its new path, and nothing else does
    pub moves : Replaces t rows room (renamed room path to) (moved path to) path o o node now
    moves =
        let stays = m.is_there.shows in
        record {
          is_there = m.is_there;
          keeps = λ q id at. names_by_shape later rows (shape_itself later rows (only_entries puts later).0)
              (reverse (moved path to q)) id (keeps_place q id at);
          rules = rules_after.1;
          stands = row_after node.id ∙ here node.id refl;
          shows = record {
            kind = stays.kind;
            owner = stays.owner;
            group = stays.group;
            aclflag = stays.aclflag;
            entries = lists_after path node.id m.is_there.at;
            bytes = ap (λ (f : ℕ → Option (List ℕ)). unwrap_or (f node.id) []) (only_entries puts later).1
                ∙ stays.bytes;
          };
          nodes_away = λ id other. row_after id ∙ away id other;
          lists_away = λ q id at other. lists_after q id at;
          documents_away = λ id other. ap (λ (f : ℕ → Option (List ℕ)). f id) (only_entries puts later).1;
          next = ap (λ n. n + room.left) (only_entries puts later).2 ∙ stand.next;
          lawful = m.lawful;
          at_path = at_new path o m.is_there.object_stands;
          away = λ q p other. at_new q p;
          back = λ q p stands. stood q p
              (stands_after room stand.lawful path to o m.apart m.is_there.object_stands m.free q p stands);
        }
      where
        at_new : (q : Path) (p : Object) → object_at room q ≡ Some p
            → object_at (renamed room path to) (moved path to q) ≡ Some p
        at_new = at_moved room stand.lawful path to o m.apart m.is_there.object_stands m.free

        stood : (q : Path) (p : Object)
            → Stands room stand.lawful path to o m.apart m.is_there.object_stands m.free q p → (q ≡ moved path to path)
            ⊎ ((was : Path) × (was ≡ path → ⊥) × (q ≡ moved path to was) × (object_at room was ≡ Some p))
        stood q p (Moved _ _ rest same stands) = elim (same_or_other_path (path ++ rest) path) [
          | inl top ↦ inl (same ∙ sym (moved_rest path to rest) ∙ ap (moved path to) top)
          | inr other ↦ inr (path ++ rest, other, same ∙ sym (moved_rest path to rest), stands)
        ]
        stood q p (Stayed _ _ off off_to stands) = inr (
          q,
          λ top. not_both (is_at_or_below q path) (ap (λ a. is_at_or_below a path) top ∙ itself_below) off,
          sym (moved_off q path to off),
          stands,
        )
