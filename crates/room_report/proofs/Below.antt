-- The objects of a room in path order: each folder, and then what is in it, child after child.
use Rattle.room_report.proofs.Common.{◌≡◌, ℕ, ◌≤◌, refl, ap, sym, ◌∙◌, subst, arith, true, ◌⊎◌, inl, inr, List, [], ◌∷◌}
use Rattle.room_report.proofs.Common.{◌++◌, length, append_assoc, append-nil, Option, None, Some, Ordering, Less, Equal}
use Rattle.room_report.proofs.Common.{Greater, unwrap_or, IsDistinct, flat_map, both_ways, cases_Bool, flat_map-append}
use Rattle.room_report.proofs.Common.{length_push, Node, Name, Path, name_cmp, path_cmp, path_eq, ObjectRecords}
use Rattle.room_report.proofs.Common.{IsChild, Object, Room, IsRoom, AreObjects, object_at, HasPath, RepresentsRoom}
use Rattle.room_report.proofs.Common.{name_of, InNameOrder, AreChildren, Report, in_path_order, is_front, objects_below}
use Rattle.room_report.proofs.Common.{text_below, lines_of}
use Rattle.std.specs.Map.{lookup}
use Rattle.std.specs.BTreeMap.{insert_entry}
use Rattle.std.specs.Ordering.{match_ordering, ordering_reverse}
use Rattle.std.proofs.lemmas.Cmp.{nat_list_cmp_total}
use Rattle.room_acl.specs.declared.subject.Kind.TheVariants.{File, Folder}
use Rattle.room_records.specs.Limits.{max_names}
use Rattle.room_records.proofs.Paths.{child_is_at, object_at_node}
use Rattle.room_records.proofs.Folders.{child_named, object_child}
use Rattle.room_records.proofs.RoomsMap.{some_is, none_is_some, path_itself, StandsIn, found_stands, standing_found}
use Rattle.room_records.proofs.RoomsMap.{nothing_below, nothing_in_a_file, path_of_object}
use Rattle.room_records.proofs.PathParts.{path_parts}
use Rattle.room_report.proofs.Fronts.{path_total, exact_paths, one_way, front_of, front_itself, front_split}
use Rattle.room_report.proofs.Fronts.{front_above, below_folder, folder_first, fronts_apart}
use Rattle.room_report.proofs.Rising.{In, in_contained, in_filtered, in_filter, filter_all, in_flat, in_flat_map}
use Rattle.room_report.proofs.Rising.{Before, Rising, before_in, before_each, rising_filter, same_rising}
use Rattle.room_report.proofs.Rising.{rising_flat_map}

abbrev Pair : Type 0
Pair = Path × Object

abbrev IsEarlier : Pair → Pair → Type 0
IsEarlier a b = path_cmp a.0 b.0 ≡ Less

later_is : (a b : Path) → path_cmp a b ≡ Greater → path_cmp b a ≡ Less
later_is a b e = path_total.antisymm b a ∙ ap ordering_reverse e

-- no pair has this path
abbrev IsNew : Path → List Pair → Type 0
IsNew k es = (x : Pair) → In x es → path_cmp k x.0 ≡ Equal → ⊥

not_found_is_new : (k : Path) (es : List Pair) → lookup (path_eq k) es ≡ None → IsNew k es
not_found_is_new k [] none x h same = h
not_found_is_new k (e ∷ es) none x h same = elim (cases_Bool (path_eq k e.0)) [
  | inl found ↦ none_is_some e.1 (sym (rw found at none))
  | inr missed ↦ elim h [
    | inl first ↦ (
        let keys : k ≡ e.0 = exact_paths k e.0 (rw first same) in
        both_ways (path_eq k e.0) missed (rw (← keys) (path_itself k)))
    | inr there ↦ not_found_is_new k es (rw missed at none) x there same
  ]
]

in_inserted : (x : Pair) (k : Path) (v : Object) (es : List Pair) → IsNew k es
    → ((k, v) ≡ x) ⊎ In x es → In x (insert_entry path_cmp es k v)
in_inserted x k v [] new h = h
in_inserted x k v (e ∷ es) new h =
    by_order (path_cmp k e.0) refl h (in_inserted x k v es (λ y i same. new y (inr i) same))
  where
    by_order : (r : Ordering) → path_cmp k e.0 ≡ r → ((k, v) ≡ x) ⊎ In x (e ∷ es)
        → (((k, v) ≡ x) ⊎ In x es → In x (insert_entry path_cmp es k v))
        → In x (match_ordering r ((k, v) ∷ e ∷ es) ((e.0, v) ∷ es) (e ∷ insert_entry path_cmp es k v))
    by_order Less is h later = h
    by_order Equal is h later = absurd (new e (inl refl) is)
    by_order Greater is (inl same) later = inr (later (inl same))
    by_order Greater is (inr (inl first)) later = inl first
    by_order Greater is (inr (inr there)) later = inr (later (inr there))

in_insert : (x : Pair) (k : Path) (v : Object) (es : List Pair) → IsNew k es
    → In x (insert_entry path_cmp es k v) → ((k, v) ≡ x) ⊎ In x es
in_insert x k v [] new h = h
in_insert x k v (e ∷ es) new h = by_order (path_cmp k e.0) refl h (in_insert x k v es (λ y i same. new y (inr i) same))
  where
    by_order : (r : Ordering) → path_cmp k e.0 ≡ r
        → In x (match_ordering r ((k, v) ∷ e ∷ es) ((e.0, v) ∷ es) (e ∷ insert_entry path_cmp es k v))
        → (In x (insert_entry path_cmp es k v) → ((k, v) ≡ x) ⊎ In x es) → ((k, v) ≡ x) ⊎ In x (e ∷ es)
    by_order Less is h later = h
    by_order Equal is h later = absurd (new e (inl refl) is)
    by_order Greater is (inl first) later = inr (inl first)
    by_order Greater is (inr there) later = elim (later there) [ inl same ↦ inl same | inr found ↦ inr (inr found) ]

insert_rising : (k : Path) (v : Object) (es : List Pair) → IsNew k es
    → Rising IsEarlier es → Rising IsEarlier (insert_entry path_cmp es k v)
insert_rising k v [] new up = (tt, tt)
insert_rising k v (e ∷ es) new up =
    by_order (path_cmp k e.0) refl (insert_rising k v es (λ y i same. new y (inr i) same) up.1)
  where
    by_order : (r : Ordering) → path_cmp k e.0 ≡ r → Rising IsEarlier (insert_entry path_cmp es k v)
        → Rising IsEarlier (match_ordering r ((k, v) ∷ e ∷ es) ((e.0, v) ∷ es) (e ∷ insert_entry path_cmp es k v))
    by_order Less is rest = (
      (
        is,
        before_each IsEarlier (k, v) es (λ x h.
            path_total.trans k e.0 x.0 is (before_in IsEarlier e x es up.0 h)),
      ),
      up,
    )
    by_order Equal is rest = absurd (new e (inl refl) is)
    by_order Greater is rest = (
      before_each IsEarlier e (insert_entry path_cmp es k v)
          (λ x h. elim (in_insert x k v es (λ y i same. new y (inr i) same) h) [
            | inl here ↦ subst (IsEarlier e) here (later_is k e.0 is)
            | inr there ↦ before_in IsEarlier e x es up.0 there
          ]),
      rest,
    )

-- the objects in order, and no others
record InOrder (es : List Pair) : Type 0 where
  rises : Rising IsEarlier (in_path_order es)
  there : (x : Pair) → In x es → In x (in_path_order es)
  back : (x : Pair) → In x (in_path_order es) → In x es

ordered : (es : List Pair) → AreObjects es → InOrder es
ordered [] once = record { rises = tt; there = λ x h. h; back = λ x h. h }
ordered (e ∷ es) once =
    let rest = ordered es once.3 in
    let fresh = not_found_is_new e.0 es once.2 in
    let new : IsNew e.0 (in_path_order es) = λ x h same. fresh x (rest.back x h) same in
    record {
      rises = insert_rising e.0 e.1 (in_path_order es) new rest.rises;
      there = λ x h. in_inserted x e.0 e.1 (in_path_order es) new
          (elim h [ inl first ↦ inl first | inr later ↦ inr (rest.there x later) ]);
      back = λ x h. elim (in_insert x e.0 e.1 (in_path_order es) new h)
          [ inl first ↦ inl first | inr later ↦ inr (rest.back x later) ];
    }

stands_in : (es : List Pair) (path : Path) (o : Object) → StandsIn es path o → In (path, o) es
stands_in [] path o h = h
stands_in (e ∷ es) path o (inl here) = inl (λ i. (here.0 i, here.1 i))
stands_in (e ∷ es) path o (inr there) = inr (stands_in es path o there)

in_stands : (es : List Pair) (x : Pair) → In x es → StandsIn es x.0 x.1
in_stands [] x h = h
in_stands (e ∷ es) x (inl here) = inl (ap (λ (p : Pair). p.0) here, ap (λ (p : Pair). p.1) here)
in_stands (e ∷ es) x (inr there) = inr (in_stands es x there)

module _ (room : Room) (lawful : IsRoom room) where
  -- what is listed below a path is there, and begins with it
  pub listed_below : (path : Path) (x : Pair) → In x (objects_below room path)
      → (object_at room x.0 ≡ Some x.1) × (is_front path x.0 ≡ true)
  listed_below path x h =
      let found = in_filter (λ (e : Pair). is_front path e.0) x (in_path_order room.objects) h in (
        standing_found room.objects lawful.once x.0 x.1
            (in_stands room.objects x ((ordered room.objects lawful.once).back x found.0)),
        found.1,
      )

  -- and what is there and begins with it is listed
  pub below_listed : (path : Path) (x : Pair) → object_at room x.0 ≡ Some x.1
      → is_front path x.0 ≡ true → In x (objects_below room path)
  below_listed path x there begins =
      in_filtered (λ (e : Pair). is_front path e.0) x (in_path_order room.objects)
      ((ordered room.objects lawful.once).there x
      (stands_in room.objects x.0 x.1 (found_stands room.objects x.0 x.1 there))) begins

  below_rises : (path : Path) → Rising IsEarlier (objects_below room path)
  below_rises path = rising_filter IsEarlier (λ (e : Pair). is_front path e.0)
      (in_path_order room.objects) (ordered room.objects lawful.once).rises

  -- the object itself is the first
  pub first_below : (path : Path) (o : Object) → object_at room path ≡ Some o
      → (rest : List Pair) × (objects_below room path ≡ (path, o) ∷ rest)
  first_below path o there =
      by_list (objects_below room path) refl (below_rises path)
      (below_listed path (path, o) there (front_itself path))
    where
      not_before : (x : Pair) → is_front path x.0 ≡ true → path_cmp x.0 path ≡ Less → ⊥
      not_before x begins less =
          let split = front_split path x.0 begins in by_rest split.0 split.1
        where
          by_rest : (rest : Path) → x.0 ≡ path ++ rest → ⊥
          by_rest [] is =
              let itself : path_cmp path path ≡ Less = rw (is ∙ append-nil path) at less in
              one_way path path itself itself
          by_rest (name ∷ rest) is = one_way x.0 path less (ap (path_cmp path) is ∙ folder_first path name rest)

      by_list : (es : List Pair) → objects_below room path ≡ es → Rising IsEarlier es
          → In (path, o) es → (rest : List Pair) × (es ≡ (path, o) ∷ rest)
      by_list [] is up h = absurd h
      by_list (x ∷ es) is up (inl same) = (es, ap (λ (p : Pair). p ∷ es) same)
      by_list (x ∷ es) is up (inr later) =
          let begins = (listed_below path x (rw is (inl refl))).1 in
          absurd (not_before x begins (before_in IsEarlier x (path, o) es up.0 later))

  -- all objects are below the root
  pub all_below_root : objects_below room [] ≡ in_path_order room.objects
  all_below_root = filter_all (λ (e : Pair). is_front [] e.0) (in_path_order room.objects) (λ e. refl)

abbrev IsNamedEarlier : Node → Node → Type 0
IsNamedEarlier a b = name_cmp (name_of a) (name_of b) ≡ Less

nodes_rise : (nodes : List Node) → InNameOrder nodes → Rising IsNamedEarlier nodes
nodes_rise [] order = tt
nodes_rise (a ∷ []) order = (tt, tt)
nodes_rise (a ∷ b ∷ nodes) order =
    let rest = nodes_rise (b ∷ nodes) order.1 in
    let before : Before IsNamedEarlier a nodes =
    before_each IsNamedEarlier a nodes (λ x h. nat_list_cmp_total.trans (name_of a)
    (name_of b) (name_of x) order.0 (before_in IsNamedEarlier b x nodes rest.0 h)) in
    ((order.0, before), rest)

module _ (t : ObjectRecords) (room : Room) (stand : RepresentsRoom t room)
    (path : Path) (id : ℕ) (at : HasPath t path id) where
  -- a node in the folder has an object
  child_object : (node : Node) → IsChild t id node
      → (o : Object) × (object_at room (path ++ name_of node ∷ []) ≡ Some o)
  child_object node child =
      let below = child_is_at t stand.rules path (name_of node) id
      node at child (child_named t stand.rules id node child) in
      let found = object_at_node t room stand (path ++ name_of node ∷ []) node.id node below child.stands in
      (found.0, found.1)

  no_children : ((node : Node) → IsChild t id node → ⊥) → AreChildren t id []
  unfolding IsDistinct
  no_children none = record {
    each = tt;
    every = λ node child. absurd (none node child);
    once = tt;
    in_order = λ rules. tt;
  }

  -- nothing is in a file
  pub none_in_a_file : (o : Object) → object_at room path ≡ Some o → o.kind ≡ File → AreChildren t id []
  none_in_a_file o there file = no_children (λ node child.
      let found = child_object node child in
      let nothing = nothing_in_a_file room stand.lawful path o there
      (λ folder. let e : File ≡ Folder = sym file ∙ folder in cc) (name_of node) in
      none_is_some found.0 (sym nothing ∙ found.1))

  -- nor below the longest path
  pub none_below_the_longest : max_names ≤ length path → AreChildren t id []
  none_below_the_longest long = no_children (λ node child.
      let found = child_object node child in
      let lawful = path_parts _ (path_of_object room stand.lawful (path ++ name_of node ∷ []) found.0 found.1) in
      omega (arith, long, lawful.short, length_push path (name_of node)))

  module _ (o : Object) (there : object_at room path ≡ Some o) (nodes : List Node) (are : AreChildren t id nodes) where
    abbrev below_child : Node → List Pair
    below_child node = objects_below room (path ++ name_of node ∷ [])

    rises : Rising IsEarlier ((path, o) ∷ flat_map below_child nodes)
    rises = (
      before_each IsEarlier (path, o) (flat_map below_child nodes) (λ x h.
          let found = in_flat_map below_child x nodes h in
          below_folder path (name_of found.0) x.0
          (listed_below room stand.lawful (path ++ name_of found.0 ∷ []) x found.2).1),
      rising_flat_map IsNamedEarlier IsEarlier below_child
          (λ node. below_rises room stand.lawful (path ++ name_of node ∷ []))
          (λ a b x y less h k. fronts_apart path (name_of a) (name_of b) x.0 y.0 less
          (listed_below room stand.lawful (path ++ name_of a ∷ []) x h).1
          (listed_below room stand.lawful (path ++ name_of b ∷ []) y k).1)
          nodes (nodes_rise nodes (are.in_order stand.rules.nodes)),
    )

    under_child : (x : Pair) (name : Name) (rest : Path) → object_at room x.0 ≡ Some x.1
        → x.0 ≡ path ++ name ∷ rest → In x (flat_map below_child nodes)
    under_child x name rest stands is = by_value (object_at room (path ++ name ∷ [])) refl
      where
        longer : x.0 ≡ (path ++ name ∷ []) ++ rest
        longer = is ∙ sym (append_assoc path (name ∷ []) rest)

        by_value : (found : Option Object) → object_at room (path ++ name ∷ []) ≡ found
            → In x (flat_map below_child nodes)
        by_value None e = absurd (none_is_some x.1 (sym (nothing_below room stand.lawful rest (path ++ name ∷ []) e)
            ∙ ap (object_at room) (sym longer) ∙ stands))
        by_value (Some child) e =
            let node = object_child t room stand path id at name child e in
            let listed = are.every node.0 node.1 in
            let named : name ≡ name_of node.0 = ap (λ (n : Option Name). unwrap_or n []) (sym node.2) in
            in_flat below_child x node.0 nodes (in_contained node.0 nodes listed.0 listed.1 listed.2)
            (below_listed room stand.lawful (path ++ name_of node.0 ∷ []) x stands
            (ap (λ n. is_front (path ++ n ∷ []) x.0) (sym named)
            ∙ ap (is_front (path ++ name ∷ [])) longer ∙ front_of (path ++ name ∷ []) rest))

    into : (x : Pair) → In x (objects_below room path) → In x ((path, o) ∷ flat_map below_child nodes)
    into x h =
        let found = listed_below room stand.lawful path x h in
        let split = front_split path x.0 found.1 in
        by_rest split.0 split.1 found.0
      where
        by_rest : (rest : Path) → x.0 ≡ path ++ rest → object_at room x.0 ≡ Some x.1
            → In x ((path, o) ∷ flat_map below_child nodes)
        by_rest [] is stands =
            let paths : path ≡ x.0 = sym (is ∙ append-nil path) in
            let objects : o ≡ x.1 = some_is o x.1 (sym there ∙ ap (object_at room) paths ∙ stands) in
            inl (λ i. (paths i, objects i))
        by_rest (name ∷ rest) is stands = inr (under_child x name rest stands is)

    out : (x : Pair) → In x ((path, o) ∷ flat_map below_child nodes) → In x (objects_below room path)
    out x (inl here) = rw (← here) (below_listed room stand.lawful path (path, o) there (front_itself path))
    out x (inr later) =
        let found = in_flat_map below_child x nodes later in
        let child = listed_below room stand.lawful (path ++ name_of found.0 ∷ []) x found.2 in
        below_listed room stand.lawful path x child.0 (front_above path (name_of found.0) x.0 child.1)

    -- the object, and then what is below each child
    pub below_is : objects_below room path ≡ (path, o) ∷ flat_map below_child nodes
    below_is =
        same_rising IsEarlier (λ a b less more. one_way a.0 b.0 less more)
        (objects_below room path) ((path, o) ∷ flat_map below_child nodes)
        (below_rises room stand.lawful path) rises into out

    -- and so is the text
    pub text_is : (report : Report) → text_below report room path
        ≡ lines_of report room (path, o)
        ++ flat_map (λ (node : Node). text_below report room (path ++ name_of node ∷ [])) nodes
    text_is report =
        ap (flat_map (lines_of report room)) below_is
        ∙ ap (λ more. lines_of report room (path, o) ++ more) (flat_twice nodes)
      where
        flat_twice : (ns : List Node) → flat_map (lines_of report room) (flat_map below_child ns)
            ≡ flat_map (λ (node : Node). text_below report room (path ++ name_of node ∷ [])) ns
        flat_twice [] = refl
        flat_twice (node ∷ ns) =
            flat_map-append (lines_of report room) (below_child node) (flat_map below_child ns)
            ∙ ap (λ more. text_below report room (path ++ name_of node ∷ []) ++ more) (flat_twice ns)
