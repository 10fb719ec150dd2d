-- Renewal below a folder, one child after the other; and below what has nothing below it.
use Rattle.room_tree.proofs.Common.{common_steps, ◌≡◌, ◌≢◌, ℕ, zero, suc, ◌+◌, ◌<◌, ◌≤◌, refl, ap, sym, ◌∙◌, subst}
use Rattle.room_tree.proofs.Common.{arith, ◌⊎◌, inl, inr, List, [], ◌∷◌, ◌++◌, take, drop, get_or, length, append-nil}
use Rattle.room_tree.proofs.Common.{append_assoc, length-append, Option, Some, unwrap_or, AllByRecursion}
use Rattle.room_tree.proofs.Common.{slice_index_or, take_more, take_all, take-append-drop, EntryModel, File, Change}
use Rattle.room_tree.proofs.Common.{Node, max_names, Name, Path, name_cmp, ObjectRecords, Object, Room, object_at}
use Rattle.room_tree.proofs.Common.{HasPath, RepresentsRoom, AreChildren, InNameOrder, name_of, object_child}
use Rattle.room_tree.proofs.Common.{object_at_node, path_of_object, path_parts, AddsRenewals, RenewsBelow}
use Rattle.std.specs.declared.cmp.Ordering.TheVariants.{Less}
use Rattle.std.proofs.lemmas.Cmp.{nat_list_cmp_total}
use Rattle.room_tree.proofs.Depths.{on_the_way, none_below_file}
use Rattle.room_tree.proofs.RenewingParts.{Renews, renews_both, BeginsWith}
use Rattle.room_tree.proofs.StoredLists.{node_at_path}

-- further names that begin with that of one of these nodes
abbrev pub UnderOne : List Node → Path → Type 0
UnderOne [] rest = ⊥
UnderOne (node ∷ nodes) rest = BeginsWith (name_of node) rest ⊎ UnderOne nodes rest

under_split : (nodes : List Node) (node : Node) (rest : Path)
    → UnderOne (nodes ++ node ∷ []) rest → UnderOne nodes rest ⊎ BeginsWith (name_of node) rest
under_split [] node rest (inl here) = inr here
under_split [] node rest (inr none) = absurd none
under_split (first ∷ nodes) node rest (inl here) = inl (inl here)
under_split (first ∷ nodes) node rest (inr there) = elim (under_split nodes node rest there) [
  | inl before ↦ inl (inr before)
  | inr last ↦ inr last
]

under_before : (nodes : List Node) (node : Node) (rest : Path)
    → UnderOne nodes rest → UnderOne (nodes ++ node ∷ []) rest
under_before [] node rest none = absurd none
under_before (first ∷ nodes) node rest (inl here) = inl here
under_before (first ∷ nodes) node rest (inr there) = inr (under_before nodes node rest there)

under_last : (nodes : List Node) (node : Node) (rest : Path)
    → BeginsWith (name_of node) rest → UnderOne (nodes ++ node ∷ []) rest
under_last [] node rest begins = inl begins
under_last (first ∷ nodes) node rest begins = inr (under_last nodes node rest begins)

under_contained : (nodes : List Node) (node : Node) (rest : Path) (k : ℕ) → k < length nodes
    → slice_index_or nodes k node ≡ node → BeginsWith (name_of node) rest → UnderOne nodes rest
under_contained [] node rest k below is begins = absurd (omega (arith, below))
under_contained (first ∷ nodes) node rest zero below is begins = inl (rw is begins)
under_contained (first ∷ nodes) node rest (suc k) below is begins =
    inr (under_contained nodes node rest k (omega (arith, below)) is begins)

-- a front of nodes in order, and the names before the last
pub order_of_front : (nodes others : List Node) → InNameOrder (nodes ++ others) → InNameOrder nodes
order_of_front [] others order = tt
order_of_front (a ∷ []) others order = tt
order_of_front (a ∷ b ∷ nodes) others order = (order.0, order_of_front (b ∷ nodes) others order.1)

below_last : (nodes : List Node) (node : Node) → InNameOrder (nodes ++ node ∷ [])
    → AllByRecursion (λ n. name_cmp (name_of n) (name_of node) ≡ Less) nodes
below_last [] node order = tt
below_last (a ∷ []) node order = (order.0, tt)
below_last (a ∷ b ∷ nodes) node order =
    let rest = below_last (b ∷ nodes) node order.1 in
    (nat_list_cmp_total.trans (name_of a) (name_of b) (name_of node) order.0 rest.0, rest)

pub not_below_itself : (a b : Name) → name_cmp a b ≡ Less → a ≡ b → ⊥
not_below_itself a b less same = grind (arith, common_steps, nat_list_cmp_total)

apart : (nodes : List Node) (node : Node) (rest : Path)
    → AllByRecursion (λ n. name_cmp (name_of n) (name_of node) ≡ Less) nodes
    → UnderOne nodes rest → BeginsWith (name_of node) rest → ⊥
apart [] node rest less none begins = none
apart (first ∷ nodes) node rest less (inl here) begins =
    not_below_itself (name_of first) (name_of node) less.0 (same_first here.0 begins.0 (sym here.1 ∙ begins.1))
  where
    same_first : (below other : Path) → name_of first ∷ below ≡ name_of node ∷ other → name_of first ≡ name_of node
    same_first below other e = cc
apart (first ∷ nodes) node rest less (inr there) begins = apart nodes node rest less.1 there begins

module _ {t : ObjectRecords} {room : Room} (stand : RepresentsRoom t room) (path : Path) (list : List EntryModel) where
  -- no child yet
  pub renews_none : Renews t room path list (UnderOne []) []
  renews_none = grind (arith, common_steps)

  -- one child more
  pub renews_more : (nodes : List Node) (node : Node) (xs ys : List Change) → InNameOrder (nodes ++ node ∷ [])
      → Renews t room path list (UnderOne nodes) xs → Renews t room path list (BeginsWith (name_of node)) ys
      → Renews t room path list (UnderOne (nodes ++ node ∷ [])) (xs ++ ys)
  renews_more nodes node xs ys order before last =
      renews_both t room path list (UnderOne nodes) (BeginsWith (name_of node))
      (UnderOne (nodes ++ node ∷ [])) xs ys stand.rules
      (under_split nodes node) (under_before nodes node) (under_last nodes node)
      (λ rest. apart nodes node rest (below_last nodes node order)) before last

  object_of : (q : Path) (id : ℕ) → HasPath t q id → (o : Object) × (object_at room q ≡ Some o)
  object_of q id at =
      let node = node_at_path stand q id at in
      let found = object_at_node t room stand q id node.0 at node.1 in
      (found.0, found.1)

  -- all children
  pub renews_children : (id : ℕ) (nodes : List Node) (changes : List Change)
      → HasPath t path id → AreChildren t id nodes
      → Renews t room path list (UnderOne nodes) changes → RenewsBelow t room path list changes
  renews_children id nodes changes here are r = record {
    each = r.each;
    every = λ rest k some at. r.every rest k (under_one rest k some at) at;
    once = r.once;
  }
    where
      under_one : (rest : Path) (k : ℕ) → rest ≢ [] → HasPath t (path ++ rest) k → UnderOne nodes rest
      under_one [] k some at = absurd (some refl)
      under_one (name ∷ rest) k some at =
          let found = object_of (path ++ name ∷ rest) k at in
          let first = on_the_way room stand.lawful (path ++ name ∷ rest) (path ++ name ∷ [])
          rest found.0 (sym (append_assoc path (name ∷ []) rest)) found.1 in
          let child = object_child t room stand path id here name first.0 first.1 in
          let held = are.every child.0 child.1 in
          let named : name_of child.0 ≡ name = ap (λ (n : Option Name). unwrap_or n []) child.2 in
          under_contained nodes child.0 (name ∷ rest) held.0 held.1 held.2 (rest, ap (λ n. n ∷ rest) (sym named))

  -- where nothing is below, nothing is put
  renews_nothing : ((rest : Path) (id : ℕ) → rest ≢ [] → HasPath t (path ++ rest) id → ⊥)
      → RenewsBelow t room path list []
  renews_nothing none = grind (arith, common_steps)

  -- below as many names as a path may have
  pub renews_lowest : max_names ≤ length path → RenewsBelow t room path list []
  renews_lowest long = renews_nothing none
    where
      none : (rest : Path) (id : ℕ) → rest ≢ [] → HasPath t (path ++ rest) id → ⊥
      none [] id some at = some refl
      none (name ∷ rest) id some at =
          let found = object_of (path ++ name ∷ rest) id at in
          let short = (path_parts _ (path_of_object room stand.lawful (path ++ name ∷ rest) found.0 found.1)).short in
          let whole = length-append path (name ∷ rest) in
          omega (arith, short, whole, long)

  -- below a file
  pub renews_file : (id : ℕ) → HasPath t path id
      → ((node : Node) → t.node id ≡ Some node → node.kind ≡ File) → RenewsBelow t room path list []
  renews_file id here file = renews_nothing none
    where
      none : (rest : Path) (k : ℕ) → rest ≢ [] → HasPath t (path ++ rest) k → ⊥
      none [] k some at = some refl
      none (name ∷ rest) k some at =
          let node = node_at_path stand path id here in
          let found = object_of (path ++ name ∷ rest) k at in
          none_below_file stand path id node.0 (length (name ∷ rest)) here node.1 (file node.0 node.1)
          (omega arith) (record { rest = name ∷ rest; object = found.0; stands = found.1; deep = refl })

-- changes go on with those below the nodes so far
pub record RenewsSoFar (t : ObjectRecords) (room : Room) (path : Path)
    (list : List EntryModel) (nodes : List Node) (old new : List Change) : Type 0 where
  pub added : List Change
  pub goes_on : new ≡ old ++ added
  pub renews : Renews t room path list (UnderOne nodes) added

module _ {t : ObjectRecords} {room : Room} (stand : RepresentsRoom t room) (path : Path) (list : List EntryModel)
    (old : List Change) where
  pub none_so_far : RenewsSoFar t room path list [] old old
  none_so_far = record { added = []; goes_on = sym (append-nil old); renews = renews_none stand path list }

  -- with the changes for one child more
  pub one_more_so_far : (id : ℕ) (nodes : List Node) (i : ℕ) (node : Node) (new now ys : List Change)
      → AreChildren t id nodes → i < length nodes → node ≡ get_or nodes i node
      → RenewsSoFar t room path list (take i nodes) old new
      → Renews t room path list (BeginsWith (name_of node)) ys → now ≡ new ++ ys
      → RenewsSoFar t room path list (take (i + 1) nodes) old now
  one_more_so_far id nodes i node new now ys are below is so last goes_on =
      let more : take (i + 1) nodes ≡ take i nodes ++ node ∷ [] =
      take_more nodes i node below ∙ ap (λ n. take i nodes ++ n ∷ []) (sym is) in
      let split : nodes ≡ (take i nodes ++ node ∷ []) ++ drop (i + 1) nodes =
      sym (take-append-drop (i + 1) nodes) ∙ ap (λ front. front ++ drop (i + 1) nodes) more in
      let order = order_of_front (take i nodes ++ node ∷ []) (drop (i + 1) nodes)
      (subst InNameOrder split (are.in_order stand.rules.nodes)) in
      record {
        added = so.added ++ ys;
        goes_on = goes_on ∙ ap (λ before. before ++ ys) so.goes_on ∙ append_assoc old so.added ys;
        renews = rw more (renews_more stand path list (take i nodes) node so.added ys order so.renews last);
      }

  -- all children
  pub all_so_far : (id : ℕ) (nodes : List Node) (i : ℕ) (new : List Change)
      → HasPath t path id → AreChildren t id nodes → length nodes ≤ i
      → RenewsSoFar t room path list (take i nodes) old new → AddsRenewals t room path list old new
  all_so_far id nodes i new here are end so =
      record {
        added = so.added;
        goes_on = so.goes_on;
        renews = renews_children stand path list id nodes so.added here are (rw (← take_all i nodes end) so.renews);
      }
