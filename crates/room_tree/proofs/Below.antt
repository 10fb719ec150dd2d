-- How many objects stand at a path or below it: those at one child of a folder, or below it, are not those at another.
use Rattle.room_tree.proofs.Common.{◌≡◌, ℕ, ◌+◌, ◌<◌, ◌≤◌, refl, ap, sym, ◌∙◌, subst, arith, Bool, true, false, inl}
use Rattle.room_tree.proofs.Common.{inr, List, [], ◌∷◌, ◌++◌, take, get_or, length, Option, Some, None, sum_by}
use Rattle.room_tree.proofs.Common.{count_by, cases_Bool, and-true, take_more, sum_by-cons, sum_by_push, sum_by-take-le}
use Rattle.room_tree.proofs.Common.{Node, Name, Path, name_cmp, name_eq, path_eq, ObjectRecords, IsChild, HasPath}
use Rattle.room_tree.proofs.Common.{RepresentsRoom, Object, Room, View, ShelfRead, AreChildren, InNameOrder, name_of}
use Rattle.room_tree.proofs.Common.{all_at, object_at_node, same_name, is_at_or_below, OfRoom}
use Rattle.std.specs.Map.{lookup}
use Rattle.std.specs.declared.cmp.Ordering.TheVariants.{Less}
use Rattle.std.proofs.lemmas.Cmp.{nat_list_cmp_total}
use Rattle.room_records.specs.declared.shelf.ShelfFault.{ShelfFault}
use Rattle.room_tree.specs.Asks.{at_or_below}
use Rattle.room_tree.proofs.Depths.{child_path}
use Rattle.room_tree.proofs.InTurn.{both_tell}
use Rattle.room_tree.proofs.Renewed.{one_if, one_or_none}
use Rattle.room_tree.proofs.RenewingChildren.{not_below_itself}
use Rattle.room_tree.proofs.StoredLists.{node_at_path}

none_if : (b : Bool) → (b ≡ true → ⊥) → one_if b ≡ 0
none_if true never = absurd (never refl)
none_if false never = refl

-- how many of these nodes have this name
abbrev named : Name → List Node → ℕ
named name nodes = sum_by (λ (node : Node). one_if (name_eq (name_of node) name)) nodes

named_more : (name : Name) (node : Node) (nodes : List Node)
    → named name (node ∷ nodes) ≡ one_if (name_eq (name_of node) name) + named name nodes
named_more name node nodes = sum_by-cons (λ (node : Node). one_if (name_eq (name_of node) name)) node nodes

-- none behind a node with a higher one
none_higher : (name : Name) (node : Node) (nodes : List Node) → InNameOrder (node ∷ nodes)
    → name_cmp name (name_of node) ≡ Less → named name (node ∷ nodes) ≡ 0
none_higher name node [] order less =
    let more = named_more name node [] in
    let first = none_if (name_eq (name_of node) name)
    (λ is. not_below_itself name (name_of node) less (sym (same_name (name_of node) name is))) in
    omega (arith, more, first)
none_higher name node (next ∷ nodes) order less =
    let more = named_more name node (next ∷ nodes) in
    let first = none_if (name_eq (name_of node) name)
    (λ is. not_below_itself name (name_of node) less (sym (same_name (name_of node) name is))) in
    let rest = none_higher name next nodes order.1
    (nat_list_cmp_total.trans name (name_of node) (name_of next) less order.0) in
    omega (arith, more, first, rest)

-- and one at most in order
named_once : (name : Name) (nodes : List Node) → InNameOrder nodes → named name nodes ≤ 1
named_once name [] order = omega arith
named_once name (node ∷ []) order =
    omega (arith, named_more name node [], one_or_none (name_eq (name_of node) name))
named_once name (node ∷ next ∷ nodes) order =
    let more = named_more name node (next ∷ nodes) in
    elim (cases_Bool (name_eq (name_of node) name)) [
      | inl is ↦
          let same : name_of node ≡ name = same_name (name_of node) name is in
          let Below : Name → Type 0 = λ n. name_cmp n (name_of next) ≡ Less in
          let rest = none_higher name next nodes order.1 (subst Below same order.0) in
          omega (arith, more, rest, one_or_none (name_eq (name_of node) name))
      | inr other ↦
          let first : one_if (name_eq (name_of node) name) ≡ 0 = ap one_if other in
          omega (arith, more, first, named_once name (next ∷ nodes) order.1)
    ]

-- at or below how many of these nodes of a folder a path is
abbrev under : Path → Path → List Node → ℕ
under q path nodes = sum_by (λ (node : Node). one_if (is_at_or_below q (path ++ name_of node ∷ []))) nodes

under_more : (q path : Path) (node : Node) (nodes : List Node)
    → under q path (node ∷ nodes) ≡ one_if (is_at_or_below q (path ++ name_of node ∷ [])) + under q path nodes
under_more q path node nodes =
    sum_by-cons (λ (node : Node). one_if (is_at_or_below q (path ++ name_of node ∷ []))) node nodes

root_under_none : (path : Path) (nodes : List Node) → under [] path nodes ≡ 0
root_under_none path [] = refl
root_under_none path (node ∷ nodes) =
    let first : one_if (is_at_or_below [] (path ++ name_of node ∷ [])) ≡ 0 = by_path path in
    omega (arith, under_more [] path node nodes, first, root_under_none path nodes)
  where
    by_path : (path : Path) → one_if (is_at_or_below [] (path ++ name_of node ∷ [])) ≡ 0
    by_path [] = refl
    by_path (b ∷ path) = refl

under_named : (a : Name) (q : Path) (nodes : List Node) → under (a ∷ q) [] nodes ≡ named a nodes
under_named a q [] = refl
under_named a q (node ∷ nodes) =
    let first : one_if (is_at_or_below (a ∷ q) (name_of node ∷ [])) ≡ one_if (name_eq (name_of node) a) =
    ap one_if (and-true (name_eq (name_of node) a)) in
    omega (arith, under_more (a ∷ q) [] node nodes, named_more a node nodes, first, under_named a q nodes)

under_deeper : (a b : Name) (q path : Path) (nodes : List Node) → name_eq b a ≡ true
    → under (a ∷ q) (b ∷ path) nodes ≡ under q path nodes
under_deeper a b q path [] same = refl
under_deeper a b q path (node ∷ nodes) same =
    let first : one_if (is_at_or_below (a ∷ q) (b ∷ path ++ name_of node ∷ []))
    ≡ one_if (is_at_or_below q (path ++ name_of node ∷ [])) = rw same refl in
    omega (
      arith,
      under_more (a ∷ q) (b ∷ path) node nodes,
      under_more q path node nodes,
      first,
      under_deeper a b q path nodes same,
    )

under_apart : (a b : Name) (q path : Path) (nodes : List Node) → name_eq b a ≡ false
    → under (a ∷ q) (b ∷ path) nodes ≡ 0
under_apart a b q path [] apart = refl
under_apart a b q path (node ∷ nodes) apart =
    let first : one_if (is_at_or_below (a ∷ q) (b ∷ path ++ name_of node ∷ [])) ≡ 0 = rw apart refl in
    omega (arith, under_more (a ∷ q) (b ∷ path) node nodes, first, under_apart a b q path nodes apart)

-- at the folder, or at or below one of its nodes alone
under_once : (q path : Path) (nodes : List Node) → InNameOrder nodes
    → one_if (path_eq path q) + under q path nodes ≤ one_if (is_at_or_below q path)
under_once [] [] nodes order = omega (arith, root_under_none [] nodes)
under_once [] (b ∷ path) nodes order = omega (arith, root_under_none (b ∷ path) nodes)
under_once (a ∷ q) [] nodes order = omega (arith, under_named a q nodes, named_once a nodes order)
under_once (a ∷ q) (b ∷ path) nodes order = elim (cases_Bool (name_eq b a)) [
  | inl same ↦ rw (under_deeper a b q path nodes same, same) (under_once q path nodes order)
  | inr apart ↦ rw (under_apart a b q path nodes apart, apart) (omega arith)
]

abbrev count_at : Path → List (Path × Object) → ℕ
count_at path es = count_by (λ (e : Path × Object). path_eq path e.0) es

abbrev count_below : Path → List (Path × Object) → ℕ
count_below path es = count_by (λ (e : Path × Object). is_at_or_below e.0 path) es

abbrev count_each : Path → List Node → List (Path × Object) → ℕ
count_each path nodes es = sum_by (λ (node : Node). count_below (path ++ name_of node ∷ []) es) nodes

each_of_none : (path : Path) (nodes : List Node) → count_each path nodes [] ≡ 0
each_of_none path [] = refl
each_of_none path (node ∷ nodes) =
    omega (
      arith,
      sum_by-cons (λ (n : Node). count_below (path ++ name_of n ∷ []) []) node nodes,
      each_of_none path nodes,
    )

each_more : (path : Path) (nodes : List Node) (e : Path × Object) (es : List (Path × Object))
    → count_each path nodes (e ∷ es) ≡ under e.0 path nodes + count_each path nodes es
each_more path [] e es = refl
each_more path (node ∷ nodes) e es =
    let here = sum_by-cons (λ (f : Path × Object). one_if (is_at_or_below f.0 (path ++ name_of node ∷ []))) e es in
    let whole = sum_by-cons (λ (n : Node). count_below (path ++ name_of n ∷ []) (e ∷ es)) node nodes in
    let rest = sum_by-cons (λ (n : Node). count_below (path ++ name_of n ∷ []) es) node nodes in
    omega (arith, here, whole, rest, under_more e.0 path node nodes, each_more path nodes e es)

each_apart : (path : Path) (nodes : List Node) (es : List (Path × Object)) → InNameOrder nodes
    → count_at path es + count_each path nodes es ≤ count_below path es
each_apart path nodes [] order = omega (arith, each_of_none path nodes)
each_apart path nodes (e ∷ es) order =
    let at = sum_by-cons (λ (f : Path × Object). one_if (path_eq path f.0)) e es in
    let below = sum_by-cons (λ (f : Path × Object). one_if (is_at_or_below f.0 path)) e es in
    omega (arith, at, below, each_more path nodes e es, under_once e.0 path nodes order, each_apart path nodes es order)

found_counts : (path : Path) (es : List (Path × Object)) (o : Object) → lookup (path_eq path) es ≡ Some o
    → 1 ≤ count_at path es
found_counts path [] o found = let no : None ≡ Some o = found in absurd (cc)
found_counts path (e ∷ es) o found =
    let at = sum_by-cons (λ (f : Path × Object). one_if (path_eq path f.0)) e es in
    elim (cases_Bool (path_eq path e.0)) [
      | inl here ↦
          let first : one_if (path_eq path e.0) ≡ 1 = ap one_if here in
          omega (arith, at, first)
      | inr other ↦
          let later : lookup (path_eq path) es ≡ Some o = rw other at found in
          omega (arith, at, found_counts path es o later)
    ]

-- how many objects stand at these nodes of a folder, or below one
abbrev pub below_each : Room → Path → List Node → ℕ
below_each room path nodes = sum_by (λ (node : Node). at_or_below room (path ++ name_of node ∷ [])) nodes

-- one node more
pub one_more_below : (room : Room) (path : Path) (nodes : List Node) (i : ℕ) (node : Node)
    → i < length nodes → node ≡ get_or nodes i node
    → below_each room path (take (i + 1) nodes)
    ≡ below_each room path (take i nodes) + at_or_below room (path ++ name_of node ∷ [])
one_more_below room path nodes i node below is =
    ap (below_each room path) (take_more nodes i node below ∙ ap (λ n. take i nodes ++ n ∷ []) (sym is))
    ∙ sum_by_push (λ (n : Node). at_or_below room (path ++ name_of n ∷ [])) (take i nodes) node

below_apart : (room : Room) (path : Path) (nodes : List Node) (i : ℕ) (o : Object)
    → lookup (path_eq path) room.objects ≡ Some o → InNameOrder nodes
    → below_each room path (take i nodes) + 1 ≤ at_or_below room path
below_apart room path nodes i o found order =
    omega (
      arith,
      found_counts path room.objects o found,
      each_apart path nodes room.objects order,
      sum_by-take-le (λ (n : Node). at_or_below room (path ++ name_of n ∷ [])) nodes i,
    )

-- at one node of a folder: its place, and what it adds to the objects below those before it
pub record ChildCounts (t : ObjectRecords) (room : Room) (path : Path) (nodes : List Node) (i : ℕ) (node : Node)
    : Type 0 where
  pub at : HasPath t (path ++ name_of node ∷ []) node.id
  pub some : 1 ≤ at_or_below room (path ++ name_of node ∷ [])
  pub more : below_each room path (take (i + 1) nodes)
      ≡ below_each room path (take i nodes) + at_or_below room (path ++ name_of node ∷ [])
  pub apart : below_each room path (take (i + 1) nodes) + 1 ≤ at_or_below room path

module _ {t : ObjectRecords} {room : Room} (stand : RepresentsRoom t room) where
  -- a folder, with what is at and below some of its children
  pub children_apart : (path : Path) (id : ℕ) (nodes : List Node) (i : ℕ) → HasPath t path id
      → InNameOrder nodes → below_each room path (take i nodes) + 1 ≤ at_or_below room path
  children_apart path id nodes i at order =
      let node = node_at_path stand path id at in
      let found = object_at_node t room stand path id node.0 at node.1 in
      below_apart room path nodes i found.0 found.1 order

  -- an object counts itself
  pub itself_counts : (path : Path) (id : ℕ) → HasPath t path id → 1 ≤ at_or_below room path
  itself_counts path id at = omega (arith, children_apart path id [] 0 at tt)

  child_counts : (path : Path) (id : ℕ) (nodes : List Node) (i : ℕ) (node : Node) → HasPath t path id
      → AreChildren t id nodes → i < length nodes → node ≡ get_or nodes i node
      → ChildCounts t room path nodes i node
  child_counts path id nodes i node at are below is =
      let Child : Node → Type 0 = λ n. IsChild t id n in
      let is_child : Child node = subst Child (sym is) (all_at Child nodes i node are.each below) in
      let here = child_path stand path id node at is_child in
      record {
        at = here;
        some = itself_counts (path ++ name_of node ∷ []) node.id here;
        more = one_more_below room path nodes i node below is;
        apart = children_apart path id nodes (i + 1) at (are.in_order stand.rules.nodes);
      }

-- a call at one child of a folder, after calls at those before it
pub at_child : {a b c : View} {f fault : Option ShelfFault} (P Q : ObjectRecords → Room → Type 0)
    (id : ℕ) (nodes : List Node) (i : ℕ) (node : Node) → ShelfRead a b f → ShelfRead b c fault
    → OfRoom a b (λ t room. AreChildren t id nodes) → OfRoom a b P → OfRoom b c Q
    → i < length nodes → node ≡ get_or nodes i node
    → OfRoom a c (λ t room. (path : Path) → HasPath t path id →
    P t room × Q t room × ChildCounts t room path nodes i node)
at_child P Q id nodes i node first second children before after below is = λ available laid_out t e room stand path at.
    let are = both_tell (λ t room. AreChildren t id nodes) Q first second children after
    available laid_out t e room stand in
    let told = both_tell P Q first second before after available laid_out t e room stand in
    (told.0, told.1, child_counts stand path id nodes i node at are.0 below is)
