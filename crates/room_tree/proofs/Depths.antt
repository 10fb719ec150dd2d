-- How far down a subtree reaches: by its nodes, and as RENAME checks it.
use Rattle.room_tree.proofs.Common.{common_steps, ◌≡◌, ℕ, ◌+◌, ◌-◌, ◌<◌, ◌≤◌, refl, ap, sym, ◌∙◌, subst, arith, Bool}
use Rattle.room_tree.proofs.Common.{true, false, inl, inr, List, [], ◌∷◌, ◌++◌, take, drop, length, append-nil}
use Rattle.room_tree.proofs.Common.{append_assoc, length-append, Option, None, Some, AllByRecursion, take-append-drop}
use Rattle.room_tree.proofs.Common.{length-take, cases_lt, lt-ltb, le-ltb, unwrap_or, File, Folder, Node, max_names}
use Rattle.room_tree.proofs.Common.{Name, Path, ObjectRecords, IsChild, Object, Room, IsRoom, object_at, AreChildren}
use Rattle.room_tree.proofs.Common.{name_of, HasPath, RepresentsRoom, object_child, child_named, all_at, child_is_at}
use Rattle.room_tree.proofs.Common.{object_at_node, none_is_some, nothing_below, nothing_in_a_file, StandsIn}
use Rattle.room_tree.proofs.Common.{found_stands, standing_found, TooDeep, is_at_or_below, refuse_if, check_depth}
use Rattle.room_tree.proofs.Common.{depth_in, at_behind, rest_below}
use Rattle.room_tree.specs.Depths.{StandsBelow, TellsBelow}
use Rattle.room_commands.proofs.DepthTells.{within_depth, no_deeper}

some_there : {X : Type 0} (o : Option X) → (o ≡ None → ⊥) → (x : X) × (o ≡ Some x)
some_there None h = absurd (h refl)
some_there (Some x) h = (x, refl)

module _ (room : Room) (lawful : IsRoom room) where
  -- what stands below an object stands on a way of objects
  pub on_the_way : (path front rest : Path) (o : Object) → path ≡ front ++ rest
      → object_at room path ≡ Some o → (above : Object) × (object_at room front ≡ Some above)
  on_the_way path front rest o same is =
      some_there (object_at room front) (λ none.
      none_is_some o (sym (nothing_below room lawful rest front none) ∙ ap (object_at room) (sym same) ∙ is))

  -- a file has nothing below it
  pub nothing_below_file : (path : Path) (o : Object) (levels : ℕ) → object_at room path ≡ Some o
      → o.kind ≡ File → 0 < levels → StandsBelow room path levels → ⊥
  nothing_below_file path o levels is file some below = by_rest below.rest below.stands below.deep
    where
      by_rest : (rest : Path) → object_at room (path ++ rest) ≡ Some below.object → length rest ≡ levels → ⊥
      by_rest [] stands deep = omega (arith, deep, some)
      by_rest (name ∷ rest) stands deep =
          let none = nothing_in_a_file room lawful path o is
          (λ folder. let f : File ≡ Folder = sym file ∙ folder in cc) name in
          none_is_some below.object (sym (nothing_below room lawful rest (path ++ name ∷ []) none)
          ∙ ap (object_at room) (append_assoc path (name ∷ []) rest) ∙ stands)

-- a level further up
pub one_level_more : (room : Room) (path : Path) (name : Name) (levels : ℕ) → 0 < levels
    → StandsBelow room (path ++ name ∷ []) (levels - 1) → StandsBelow room path levels
one_level_more room path name levels some below = grind (arith, common_steps)

-- something stands so many levels below no child
abbrev pub NoneBelowEach : Room → Path → ℕ → List Node → Type 0
NoneBelowEach room path levels nodes =
    AllByRecursion (λ (node : Node). StandsBelow room (path ++ name_of node ∷ []) levels → ⊥) nodes

module _ {t : ObjectRecords} {room : Room} (stand : RepresentsRoom t room) where
  pub itself_below : (path : Path) (id : ℕ) (node : Node)
      → HasPath t path id → t.node id ≡ Some node → StandsBelow room path 0
  itself_below path id node at stands =
      let found = object_at_node t room stand path id node at stands in
      record { rest = []; object = found.0; stands = ap (object_at room) (append-nil path) ∙ found.1; deep = refl }

  pub none_below_file : (path : Path) (id : ℕ) (node : Node) (levels : ℕ) → HasPath t path id
      → t.node id ≡ Some node → node.kind ≡ File → 0 < levels → StandsBelow room path levels → ⊥
  none_below_file path id node levels at stands file some below =
      let found = object_at_node t room stand path id node at stands in
      nothing_below_file room stand.lawful path found.0 levels found.1 (sym found.2.kind ∙ file) some below

  -- a child has its path
  pub child_path : (path : Path) (id : ℕ) (node : Node) → HasPath t path id
      → IsChild t id node → HasPath t (path ++ name_of node ∷ []) node.id
  child_path path id node at child =
      child_is_at t stand.rules path (name_of node) id node at child (child_named t stand.rules id node child)

  -- what stands further down stands below a child
  pub none_below_children : (path : Path) (id levels : ℕ) (nodes : List Node)
      → HasPath t path id → AreChildren t id nodes → 0 < levels
      → NoneBelowEach room path (levels - 1) nodes → StandsBelow room path levels → ⊥
  none_below_children path id levels nodes at are some none below = by_rest below.rest below.stands below.deep
    where
      Free : Name → Type 0
      Free name = StandsBelow room (path ++ name ∷ []) (levels - 1) → ⊥

      P : Node → Type 0
      P node = Free (name_of node)

      by_rest : (rest : Path) → object_at room (path ++ rest) ≡ Some below.object → length rest ≡ levels → ⊥
      by_rest [] stands deep = omega (arith, deep, some)
      by_rest (name ∷ rest) stands deep =
          let first = on_the_way room stand.lawful (path ++ name ∷ rest) (path ++ name ∷ [])
          rest below.object (sym (append_assoc path (name ∷ []) rest)) stands in
          let child = object_child t room stand path id at name first.0 first.1 in
          let held = are.every child.0 child.1 in
          let here : P child.0 = subst P held.2 (all_at P nodes held.0 child.0 none held.1) in
          let named : name_of child.0 ≡ name = ap (λ (n : Option Name). unwrap_or n []) child.2 in
          subst Free named here (record {
            rest = rest;
            object = below.object;
            stands = ap (object_at room) (append_assoc path (name ∷ []) rest) ∙ stands;
            deep = omega (arith, deep);
          })

-- the check of a move, by what stands one level too far down
pub depth_check : (room : Room) → IsRoom room → (path to : Path) (b : Bool)
    → length to ≤ max_names → TellsBelow room path (17 - length to) b
    → check_depth room path to ≡ refuse_if b TooDeep
depth_check room lawful path to true short below =
    let whole = found_stands room.objects (path ++ below.rest) below.object below.stands in
    let within = within_depth path room.objects (path ++ below.rest) below.object whole (at_behind path below.rest) in
    let long : max_names < length to + depth_in path room.objects =
    omega (arith, length-append path below.rest, below.deep, short, within) in
    ap (λ b. refuse_if b TooDeep) (lt-ltb _ _ long)
depth_check room lawful path to false short none =
    let within = no_deeper path room.objects (max_names - length to) enough_left in
    let fits : length to + depth_in path room.objects ≤ max_names = omega (arith, within, short) in
    ap (λ b. refuse_if b TooDeep) (le-ltb _ _ fits)
  where
    too_far : (q : Path) (o : Object) → StandsIn room.objects q o
        → is_at_or_below q path ≡ true → max_names < length to + (length q - length path) → ⊥
    too_far q o stands below long =
        let levels = 17 - length to in
        let rest = drop (length path) q in
        let same : q ≡ path ++ rest = rest_below path q below in
        let lengths : length q ≡ length path + length rest = ap length same ∙ length-append path rest in
        let enough : levels ≤ length rest = omega (arith, lengths, long, short) in
        let split : q ≡ (path ++ take levels rest) ++ drop levels rest =
        same ∙ ap (λ r. path ++ r) (sym (take-append-drop levels rest))
        ∙ sym (append_assoc path (take levels rest) (drop levels rest)) in
        let above = on_the_way room lawful q (path ++ take levels rest) (drop levels rest)
        o split (standing_found room.objects lawful.once q o stands) in
        none (record {
          rest = take levels rest;
          object = above.0;
          stands = above.1;
          deep = omega (arith, length-take levels rest, enough);
        })

    enough_left : (q : Path) (o : Object) → StandsIn room.objects q o → is_at_or_below q path ≡ true
        → length q - length path ≤ max_names - length to
    enough_left q o stands below = elim (cases_lt max_names (length to + (length q - length path))) [
      | inl long ↦ absurd (too_far q o stands below long)
      | inr fits ↦ omega (arith, fits)
    ]
