-- The children of a folder, as the rows show them.
use Rattle.room_tables.proofs.Common.{◌≡◌, ◌≢◌, inl, inr, ℕ, suc, ◌≤◌, pos, Bool, true, false, cond, eqb, List, [], ◌∷◌}
use Rattle.room_tables.proofs.Common.{length, map, filter, slice_get, Option, None, Some, option_map, unwrap_or, refl}
use Rattle.room_tables.proofs.Common.{sym, ap, ap₂, subst, ◌∙◌, true≢false, arith, Ordering, Less, Equal, is_gt}
use Rattle.room_tables.proofs.Common.{IsPermutation, AllByRecursion, IsDistinct, nat_cmp, ordering_then, and_from}
use Rattle.room_tables.proofs.Common.{ne_eqb, eqb-false, common_steps, exact_bytes, length_permutation}
use Rattle.room_tables.proofs.Common.{IsPermutation-sym, Value, Int, Text, Binary, ascending, Row, column, value_cmp}
use Rattle.room_tables.proofs.Common.{value_cmp-Text, IsAscending, is_null, key_cmp, key_cmp_total, sort_by}
use Rattle.room_tables.proofs.Common.{IsPermutation-filter, filter-map, first_of_both, second_of_both}
use Rattle.room_tables.proofs.Common.{IsPermutation-sort_by, Has, all_has, all_from, has_filtered, contains_had}
use Rattle.room_tables.proofs.Common.{mapped_has, Database, Node, ObjectRecords, IsChild, has, is_child_named, only}
use Rattle.room_tables.proofs.Common.{number_in, parent_in, name_of_text, name_stored, one_column, shown_node, node_of}
use Rattle.room_tables.proofs.Common.{nodes_in, named_rows, child_rows, records_of, HasNumbers, IsRoomDatabase}
use Rattle.room_tables.proofs.Common.{parent_value, ByName}
use Rattle.std.specs.Cmp.Lexicographic.{slice_cmp}
use Rattle.std.proofs.lemmas.Option.{same_Some}
use Rattle.room_records.specs.Names.{name_cmp}
use Rattle.room_records.specs.Rules.{NodeRules}
use Rattle.room_records.specs.Shelf.{AreChildren, IsChildCount, IsChildNamed, InNameOrder, name_of}
use Rattle.room_records.proofs.Children.{named_by_rules}
use Rattle.room_tables.proofs.Values.{has_one, has_text_value, has_not_null, has_tied, int_has, text_has}
use Rattle.room_tables.proofs.Removed.{one_row, shown_of, is_shown}
use Rattle.room_tables.proofs.Sorted.{ascending-sort_by}
use Rattle.room_tables.proofs.Filters.{keyed_filter}
use Rattle.room_tables.proofs.Drops.{found_or_none}

-- ---- rows and nodes

-- the row of a node, where there is one
pub row_of : (rows : List Row) (id : ℕ) (node : Node) → nodes_in rows id ≡ Some node
    → (r : Row) × Has rows r × (has 0 id r ≡ true) × (node_of (shown_node r) ≡ node)
row_of rows id node h = go (filter (has 0 id) rows) refl h
  where
    go : (l : List Row) → filter (has 0 id) rows ≡ l → option_map node_of (only (map shown_node l)) ≡ Some node
        → (r : Row) × Has rows r × (has 0 id r ≡ true) × (node_of (shown_node r) ≡ node)
    go [] e h = absurd (let bad = h in cc)
    go (r ∷ []) e h = let k = has_filtered (has 0 id) rows r (subst (λ l. Has l r) (sym e) (inl refl)) in
        (r, k.0, k.1, same_Some _ _ h)
    go (r ∷ s ∷ more) e h = absurd (let bad = h in cc)

parent_is : (v : Value) (p : ℕ) → parent_in v ≡ Some p → v ≡ Int (pos p)
parent_is (Int (pos n)) p h = ap (λ m. Int (pos m)) (same_Some _ _ h)
parent_is v p h = absurd (let bad = h in cc)

name_is : (v : Value) (name : List ℕ) → name_stored v ≡ Some name → v ≡ Text name
name_is (Text []) name h = absurd (let bad = h in cc)
name_is (Text (b ∷ bytes)) name h = ap Text (same_Some _ _ h)
name_is v name h = absurd (let bad = h in cc)

named_back : (name : List ℕ) → name ≢ [] → name_of_text name ≡ Some name
named_back [] some = absurd (some refl)
named_back (b ∷ bytes) some = refl

-- the row of a folder is a child
pub row_is_child : (db : Database) (p : ℕ) (r : Row) → IsRoomDatabase db → Has (db.trees 1) r
    → has 2 p r ≡ true → IsChild (records_of db.trees).objects p (node_of (shown_node r))
row_is_child db p r room there inside =
    let n = all_has HasNumbers (db.trees 1) r room.numbered there in
    let mine : has 0 n.id r ≡ true = int_has 0 n.id r n.has_id in
    let keyed = room.keyed.1.0 in
    let only_row =
    one_row (has 0 n.id) (db.trees 1) r keyed.table there mine (λ a b _ _ x y. has_tied 0 n.id a b x y) in
    let id : number_in (column r 0) ≡ n.id = ap number_in n.has_id in
    record {
      stands = ap (nodes_in (db.trees 1)) id ∙ ap (λ l. option_map node_of (only (map shown_node l))) only_row;
      inside = ap parent_in n.has_parent ∙ parent_back n.parent (subst (λ v. column r 2 ≡ v) refl n.has_parent);
    }
  where
    parent_back : (q : Option ℕ) → column r 2 ≡ parent_value q → parent_in (parent_value q) ≡ Some p
    parent_back None e = absurd (true≢false (ap is_null (sym e) ∙ has_not_null 2 p r inside))
    parent_back (Some m) e = ap Some (has_one 2 m p r (int_has 2 m r e) inside)

-- and a child has a row in the folder
pub child_has_row : (db : Database) (p : ℕ) (node : Node) → IsRoomDatabase db → IsChild (records_of db.trees).objects
    p node → (r : Row) × Has (db.trees 1) r × (has 2 p r ≡ true) × (node_of (shown_node r) ≡ node)
child_has_row db p node room child =
    let r = row_of (db.trees 1) node.id node child.stands in
    (r.0, r.1, int_has 2 p r.0 (parent_is _ p (ap (λ (n : Node). n.parent) r.3 ∙ child.inside)), r.3)

-- ---- the child of a name

pub no_child : (db : Database) (p : ℕ) (name : List ℕ) → IsRoomDatabase db
    → IsPermutation (named_rows db.trees p name) [] → IsChildNamed (records_of db.trees).objects p name None
no_child db p name room same node child named =
    let r = child_has_row db p node room child in
    let text : column r.0 3 ≡ Text name = name_is _ name (ap (λ (n : Node). n.name) r.3 ∙ named) in
    let passes : is_child_named p name r.0 ≡ true = and_from _ _ r.2 (text_has 3 name r.0 text) in
    absurd (is_shown shown_node (is_child_named p name) (db.trees 1) [] same r.0 r.1 passes)

pub one_child : (db : Database) (p : ℕ) (name : List ℕ) (row : Row) (rest : List Row)
    → IsRoomDatabase db → name ≢ [] → IsPermutation (named_rows db.trees p name) (row ∷ rest)
    → IsChildNamed (records_of db.trees).objects p name (Some (node_of row))
one_child db p name row rest room some same =
    let shown = shown_of shown_node (is_child_named p name) (db.trees 1) (row ∷ rest) same row (inl refl) in
    let r = shown.0 in
    let text = has_text_value 3 name r (second_of_both (has 2 p r) _ shown.2) in
    let child = row_is_child db p r room shown.1 (first_of_both (has 2 p r) _ shown.2) in (
      subst (λ x. IsChild (records_of db.trees).objects p (node_of x)) (sym shown.3) child,
      ap (λ x. (node_of x).name) shown.3 ∙ ap name_stored text ∙ named_back name some,
    )

-- ---- all the children of a folder

-- a number is shown once
pub shown_once : (db : Database) (p id : ℕ) (rows : List Row) → IsRoomDatabase db
    → IsPermutation (child_rows db.trees p) rows → length (filter (has 0 id) rows) ≤ 1
shown_once db p id rows room same =
    let all = filter (has 2 p) (db.trees 1) in
    let few : length (filter (has 0 id) (child_rows db.trees p)) ≤ 1 =
    subst (λ l. length l ≤ 1) (sym (filter-map (has 0 id) shown_node all))
    (elim (found_or_none all id (keyed_filter (has 2 p) (db.trees 1) room.keyed.1.0))
    [ inl none ↦ rw none (omega arith) | inr one ↦ rw one.1 (omega arith) ]) in
    omega (arith, few, length_permutation _ _ (IsPermutation-filter (has 0 id) _ _ same))

-- a row of a child, with its number
record Shown (t : ObjectRecords) (p : ℕ) (s : Row) : Type 0 where
  id : ℕ
  has_id : column s 0 ≡ Int (pos id)
  child : IsChild t p (node_of s)

child_shown : (db : Database) (p : ℕ) (rows : List Row) → IsRoomDatabase db
    → IsPermutation (child_rows db.trees p) rows → AllByRecursion (Shown (records_of db.trees).objects p) rows
child_shown db p rows room same = all_from (Shown (records_of db.trees).objects p) rows (λ s h.
    let shown = shown_of shown_node (has 2 p) (db.trees 1) rows same s h in
    let r = shown.0 in
    let n = all_has HasNumbers (db.trees 1) r room.numbered shown.1 in
    subst (Shown (records_of db.trees).objects p) (sym shown.3)
    (record { id = n.id; has_id = n.has_id; child = row_is_child db p r room shown.1 shown.2 }))

-- numbers that are shown once differ
numbers_differ : (t : ObjectRecords) (p : ℕ) (rows : List Row) → AllByRecursion (Shown t p) rows
    → ((id : ℕ) → length (filter (has 0 id) rows) ≤ 1)
    → IsDistinct eqb (map (λ (node : Node). node.id) (map node_of rows))
unfolding IsDistinct
numbers_differ t p [] all once = tt
numbers_differ t p (a ∷ rows) all once = (others rows all.1 none_more, numbers_differ t p rows all.1 tail_once)
  where
    x : Shown t p a
    x = all.0

    fewer : (c : Bool) (l : List Row) (r : Row) → length l ≤ length (cond c (r ∷ l) l)
    fewer true l r = omega arith
    fewer false l r = omega arith

    tail_once : (id : ℕ) → length (filter (has 0 id) rows) ≤ 1
    tail_once id = omega (arith, once id, fewer (has 0 id a) (filter (has 0 id) rows) a)

    none_more : length (filter (has 0 x.id) rows) ≤ 0
    none_more =
        let first : has 0 x.id a ≡ true = int_has 0 x.id a x.has_id in
        let one_more : length (filter (has 0 x.id) (a ∷ rows)) ≡ suc (length (filter (has 0 x.id) rows)) =
        rw first refl in
        omega (arith, one_more, once x.id)

    others : (l : List Row) → AllByRecursion (Shown t p) l → length (filter (has 0 x.id) l) ≤ 0
        → AllByRecursion (λ id. eqb (node_of a).id id ≡ false) (map (λ (node : Node). node.id) (map node_of l))
    others [] those few = tt
    others (b ∷ l) those few = (
      ne_eqb (node_of a).id (node_of b).id (λ same.
          let y = those.0 in
          let number : y.id ≡ x.id = sym (ap number_in y.has_id) ∙ sym same ∙ ap number_in x.has_id in
          let second : has 0 x.id b ≡ true = int_has 0 x.id b (y.has_id ∙ ap (λ n. Int (pos n)) number) in
          let one_more : length (filter (has 0 x.id) (b ∷ l)) ≡ suc (length (filter (has 0 x.id) l)) =
          rw second refl in
          absurd (omega (arith, one_more, few))),
      others l those.1 (omega (arith, few, fewer (has 0 x.id b) (filter (has 0 x.id) l) b)),
    )

-- by the rules it has a name
text_of : (t : ObjectRecords) (p : ℕ) (s : Row) → NodeRules t.node → IsChild t p (node_of s)
    → (text : List ℕ) × (column s 2 ≡ Text text)
text_of t p s rules child =
    let name = named_by_rules t rules p (node_of s) child in
    (name.0, name_is _ name.0 name.1)

text_back : (t : List ℕ) → unwrap_or (name_of_text t) [] ≡ t
text_back [] = refl
text_back (b ∷ bytes) = refl

shown_name : (s : Row) (t : List ℕ) → column s 2 ≡ Text t → name_of (node_of s) ≡ t
shown_name s t e = ap (λ v. unwrap_or (name_stored v) []) e ∙ text_back t

not_greater : (o : Ordering) → is_gt (ordering_then o Equal) ≡ false → o ≢ Equal → o ≡ Less
not_greater o h apart = grind (arith, common_steps)

-- by the rules two rows of one folder do not have one name
in_order : (t : ObjectRecords) (p : ℕ) (rows : List Row) → NodeRules t.node → AllByRecursion (Shown t p) rows
    → IsAscending ByName rows → IsDistinct eqb (map (λ (node : Node). node.id) (map node_of rows))
    → InNameOrder (map node_of rows)
unfolding IsDistinct
in_order t p [] rules all up once = tt
in_order t p (a ∷ []) rules all up once = tt
in_order t p (a ∷ b ∷ rows) rules all up once =
    let x = text_of t p a rules all.0.child in
    let y = text_of t p b rules all.1.0.child in
    let low = up.0.0 in
    let values : value_cmp (column a 2) (column b 2) ≡ slice_cmp nat_cmp x.0 y.0 =
    ap₂ value_cmp x.1 y.1 ∙ value_cmp-Text x.0 y.0 in
    let apart : slice_cmp nat_cmp x.0 y.0 ≢ Equal = (λ tie. twice x y (exact_bytes _ _ tie)) in
    let less = not_greater _ (ap (λ o. is_gt (ordering_then o Equal)) (sym values) ∙ low) apart in (
      ap₂ name_cmp (shown_name a x.0 x.1) (shown_name b y.0 y.1) ∙ less,
      in_order t p (b ∷ rows) rules all.1 up.1 once.1,
    )
  where
    Named : Row → Type 0
    Named s = (text : List ℕ) × (column s 2 ≡ Text text)

    twice : (x : Named a) (y : Named b) → x.0 ≡ y.0 → ⊥
    twice x y same =
        let m = all.0.child in
        let n = all.1.0.child in
        let name : (node_of a).name ≡ (node_of b).name = ap name_stored (x.1 ∙ ap Text same ∙ sym y.1) in
        eqb-false (node_of a).id (node_of b).id once.0.0
        (rules.once (node_of a) (node_of b) m.stands n.stands (m.inside ∙ sym n.inside) name)

pub are_children : (db : Database) (p : ℕ) (rows : List Row) → IsRoomDatabase db
    → IsPermutation (child_rows db.trees p) rows → IsAscending ByName rows
    → AreChildren (records_of db.trees).objects p (map node_of rows)
are_children db p rows room same up =
    let all = child_shown db p rows room same in
    let once = numbers_differ (records_of db.trees).objects p rows all (λ id. shown_once db p id rows room same) in
    record {
      each = Rattle.sqlite_keyed.proofs.ListLemmas.all_map (IsChild (records_of db.trees).objects p)
          node_of rows (Rattle.sqlite_keyed.proofs.ListLemmas.all_weaker _ _ (λ s x. x.child) rows all);
      every = λ node child.
          let r = child_has_row db p node room child in
          let there = is_shown shown_node (has 2 p) (db.trees 1) rows same r.0 r.1 r.2 in
          contains_had (map node_of rows) node
          (subst (Has (map node_of rows)) r.3 (mapped_has node_of rows (shown_node r.0) there));
      once = once;
      in_order = λ rules. in_order (records_of db.trees).objects p rows rules all up once;
    }

-- their number is that of the rows
pub count_children : (db : Database) (p : ℕ) → IsRoomDatabase db
    → IsChildCount (records_of db.trees).objects p (length (child_rows db.trees p))
count_children db p room =
    let cmp = λ (a b : Row). key_cmp 0 (ascending Binary ∷ []) (one_column 2 a) (one_column 2 b) in
    let total = key_cmp_total (ascending Binary ∷ []) 0 in
    let total_on = Rattle.std.proofs.lemmas.Cmp.on_total (one_column 2) total in
    let rows = sort_by cmp (child_rows db.trees p) in
    let same = IsPermutation-sym _ _ (IsPermutation-sort_by cmp total_on (child_rows db.trees p)) in (
      map node_of rows,
      are_children db p rows room same (ascending-sort_by cmp total_on (child_rows db.trees p)),
      sym (Rattle.std.proofs.lemmas.List.length-map rows node_of ∙ length_permutation _ _ same),
    )

-- what the first row of a look-up by name says
pub named_found : (db : Database) (p : ℕ) (name : List ℕ) (rows : List Row) (found : Option Node) → IsRoomDatabase db
    → 1 ≤ length name → IsPermutation (named_rows db.trees p name) rows → found ≡ option_map node_of (slice_get rows 0)
    → IsChildNamed (records_of db.trees).objects p name found
named_found db p name [] found room some same is =
    subst (IsChildNamed (records_of db.trees).objects p name) (sym is) (no_child db p name room same)
named_found db p name (row ∷ rest) found room some same is =
    subst (IsChildNamed (records_of db.trees).objects p name) (sym is)
    (one_child db p name row rest room (λ e. absurd (omega (arith, some, ap length e))) same)
