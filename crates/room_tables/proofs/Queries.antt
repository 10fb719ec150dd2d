-- What a query over one table answers, and that it changes nothing.
use Rattle.room_tables.proofs.Common.{◌≡◌, ℕ, ◌+◌, ◌<◌, arith, length, is_gt, Bool, true, false, ◌&&◌, ◌||◌, cond, List}
use Rattle.room_tables.proofs.Common.{[], ◌∷◌, ◌++◌, map, filter, flat_map, Option, None, Some, Ok, Err, Result, IfOk}
use Rattle.room_tables.proofs.Common.{IfErr, OnOk, ◌⊎◌, inl, inr, refl, Ordering, Equal, sym, ap, subst, ◌∙◌}
use Rattle.room_tables.proofs.Common.{IsPermutation, IsSorted, negsuc, list_all, swap, AllByRecursion, length-map}
use Rattle.room_tables.proofs.Common.{map-set, common_steps, IsPermutation-refl, IsPermutation-trans}
use Rattle.room_tables.proofs.Common.{IsPermutation-swap, IsPermutation-keeps, IsPermutation-map, length_permutation}
use Rattle.room_tables.proofs.Common.{Null, Int, Key, Row, Trees, IsAscending, Term, lit, holds, eval_all, Query}
use Rattle.room_tables.proofs.Common.{IsAnswer, Output, output, output_cmp, key_cmp, overlay, map-map, map_same}
use Rattle.room_tables.proofs.Common.{filter_same, ascending-map, ascending_from_map, sort_by, ordering_then}
use Rattle.room_tables.proofs.Common.{key_cmp_total, output_cmp_total, State, Shown, ShowsRows, Survives}
use Rattle.room_tables.proofs.Common.{CommitsShowing, IsUnchanged, IsRolledBack, FailsToQuery, FailsToShow, IsNotRun}
use Rattle.room_tables.proofs.Common.{Error, timed, understood, reads_listing, if_select, listing_schema, reads_as}
use Rattle.room_tables.proofs.Common.{one_permutation, Compiled, CompileError, NoSuchTable, compiled, first, command}
use Rattle.room_tables.proofs.Common.{returning, meaning, planned, with_command, small, timed_formats, and_then}
use Rattle.room_tables.proofs.Common.{Statement, only}
use Rattle.std.proofs.Math.ListN.{set, get_or, get_or-map}
use Rattle.sqlite_value.specs.declared.keys.Collation.{Collation}
use Rattle.sqlite_schema.specs.declared.command.Returning.{Returning}
use Rattle.sqlite.proofs.StateLemmas.{survives_weaker, unchanged}
use Rattle.sqlite_schema.specs.declared.command.Command.{Command}
use Rattle.sqlite_syntax.specs.declared.statement.Parsed.{Parsed}
use Rattle.sqlite_ast.specs.declared.Statement.TheVariants as written
use Rattle.sqlite.specs.Listing as listing
use Rattle.sqlite_schema.specs.declared.schema.Schema.{Schema}
use Rattle.room_tables.proofs.Texts.{over_table}
use Rattle.room_tables.proofs.Meaning.{IsQuery}
use Rattle.room_tables.proofs.Sorted.{AtMost, ascending_from_sorted, sorted_answer}

-- the rows of the table that pass the terms
abbrev pub passing : List Term → Row → List Row → List Row
passing terms params = filter (λ r. list_all (holds (params ∷ r ∷ [])) terms)

pub envs_are : (terms : List Term) (params : Row) (rows : List Row)
    → flat_map (λ r. cond (list_all (holds (params ∷ r ∷ [])) terms) ((params ∷ r ∷ []) ∷ []) []) rows
    ≡ map (λ r. params ∷ r ∷ []) (passing terms params rows)
envs_are terms params [] = refl
envs_are terms params (r ∷ rows) =
    elim (list_all (holds (params ∷ r ∷ [])) terms)
    as (λ b. cond b ((params ∷ r ∷ []) ∷ []) []
    ++ flat_map (λ x. cond (list_all (holds (params ∷ x ∷ [])) terms) ((params ∷ x ∷ []) ∷ []) []) rows
    ≡ map (λ x. params ∷ x ∷ []) (cond b (r ∷ passing terms params rows) (passing terms params rows)))
    [ true ↦ ap (λ l. (params ∷ r ∷ []) ∷ l) (envs_are terms params rows) | false ↦ envs_are terms params rows ]

-- the rows that pass, each with its keys, in an order that ORDER BY allows, and what is shown of them
pub record Picks (q : Query) (params : Row) (rows : List Row) (shown : List Row) : Type 0 where
  pub ordered : List Output
  pub same : IsPermutation (map (λ r. output q (params ∷ r ∷ [])) rows) ordered
  pub sorted : IsSorted (output_cmp q) ordered
  pub is : shown ≡ map (λ (o : Output). o.1) ordered

-- what a query over one table shows, whatever collations its columns have, before a LIMIT
pub answer_of : (tree : ℕ) (terms project : List Term) (order : List (Term × Key)) (how : List Collation) (limit : Term)
    (db : Trees) (params : Row) (rows : List Row)
    → (a : IsAnswer (record (over_table tree terms project order) { collations = how; limit = limit }) db params rows)
    → Picks (record (over_table tree terms project order) { collations = how; limit = limit }) params
    (passing terms params (db tree)) (map (λ (o : Output). o.1) a.ordered)
answer_of tree terms project order how limit db params rows a =
    let q : Query = record (over_table tree terms project order) { collations = how; limit = limit } in
    let kept : a.kept ≡ map (λ r. output q (params ∷ r ∷ [])) (passing terms params (db tree)) =
    a.distinct ∙ ap (map (output q)) (a.grouped ∙ envs_are terms params (db tree))
    ∙ map-map (output q) (λ r. params ∷ r ∷ []) (passing terms params (db tree)) in
    record {
      ordered = a.ordered;
      same = subst (λ k. IsPermutation k a.ordered) kept a.same;
      sorted = a.sorted;
      is = refl;
    }

pub answer_is : (tree : ℕ) (terms project : List Term)
    (order : List (Term × Key)) (db : Trees) (params : Row) (rows : List Row)
    → IsAnswer (over_table tree terms project order) db params rows
    → Picks (over_table tree terms project order) params (passing terms params (db tree)) rows
answer_is tree terms project order db params rows a =
    subst (Picks (over_table tree terms project order) params (passing terms params (db tree))) (sym a.shown)
    (answer_of tree terms project order [] (lit (Int (negsuc 0))) db params rows a)

pub and_true : (b : Bool) → (b && true) ≡ b
and_true b = grind (arith, common_steps)

pub tidy : (b : Bool) → ((b && true) || false) ≡ b
tidy b = grind (arith, common_steps)

-- what a text over one table answers
pub picked : (schema : Schema) (old new : State) (sql : List ℕ) (params : Row) (tree : ℕ) (terms project : List Term)
    (order : List (Term × Key)) (names : List (List ℕ)) (rows : List Row)
    → old.now.schema ≡ schema → IsQuery schema sql (over_table tree terms project order) names
    → overlay old.now.trees [] tree ≡ old.now.trees tree → Shown sql params old new rows
    → Picks (over_table tree terms project order) params (passing terms params (old.now.trees tree)) rows
picked schema old new sql params tree terms project order names rows has means here h =
    let read = reads_as sql params old new schema has _ means.0.0 means.0.1 means.1 rows h in
    subst (λ all. Picks (over_table tree terms project order) params (passing terms params all) rows) here
    (answer_is tree terms project order (overlay old.now.trees []) params rows (read.answer Null))

-- two comparisons in turn
pub first_tie : (a b : Ordering) → ordering_then a b ≡ Equal → (a ≡ Equal) × (b ≡ Equal)
first_tie a b h = grind (arith, common_steps)

-- what is mapped and then moved is moved and then mapped
map-swap : {X Y : Type 0} (f : X → Y) (xs : List X) (i j : ℕ) → map f (swap xs i j) ≡ swap (map f xs) i j
map-swap f [] i j = refl
map-swap f (d ∷ ys) i j =
    map-set f (set (d ∷ ys) i (get_or (d ∷ ys) j d)) j (get_or (d ∷ ys) i d)
    ∙ ap (λ l. set l j (f (get_or (d ∷ ys) i d))) (map-set f (d ∷ ys) i (get_or (d ∷ ys) j d)
    ∙ ap (set (map f (d ∷ ys)) i) (sym (get_or-map f (d ∷ ys) j d)))
    ∙ ap (set (set (map f (d ∷ ys)) i (get_or (map f (d ∷ ys)) j (f d))) j) (sym (get_or-map f (d ∷ ys) i d))

moved_from : {X Y : Type 0} (f : X → Y) (xs : List X) (ys : List Y) → IsPermutation (map f xs) ys
    → (zs : List X) × IsPermutation xs zs × (ys ≡ map f zs)
moved_from {X} {Y} f xs ys = IsPermutation-keeps (map f xs)
    (λ (l : List Y). (zs : List X) × IsPermutation xs zs × (l ≡ map f zs)) (xs, IsPermutation-refl xs, refl)
    (λ l i j low high h.
    let long : length l ≡ length h.0 = ap length h.2 ∙ length-map h.0 f in (
      swap h.0 i j,
      IsPermutation-trans _ _ _ h.1 (IsPermutation-swap h.0 _ i j (subst (λ n. i < n) long low)
          (subst (λ n. j < n) long high) refl),
      ap (λ (k : List Y). swap k i j) h.2 ∙ sym (map-swap f h.0 i j),
    )) ys

-- the rows that pass a test, in an order that rises by the keys of ORDER BY, and what is shown of them
pub arranged : (q : Query) (params : Row) (all rows : List Row) (p : Row → Bool) (key show : Row → Row)
    → ((r : Row) → list_all (holds (params ∷ r ∷ [])) q.filter ≡ p r)
    → ((r : Row) → output q (params ∷ r ∷ []) ≡ (key r, show r)) → Picks q params (passing q.filter params all) rows
    → (found : List Row) × IsPermutation (filter p all) found
    × IsAscending (λ a b. is_gt (key_cmp 0 (map (λ k. k.1) q.order) (key a) (key b)) ≡ false) found
    × (rows ≡ map show found)
arranged q params all rows p key show test shows k =
    let out : Row → Output = λ r. (key r, show r) in
    let outs : map (λ r. output q (params ∷ r ∷ [])) (passing q.filter params all) ≡ map out (filter p all) =
    map_same _ out shows _ ∙ ap (map out) (filter_same _ p test all) in
    let moved = moved_from out (filter p all) k.ordered (subst (λ l. IsPermutation l k.ordered) outs k.same) in
    let R = AtMost (output_cmp q) (output_cmp_total q) in
    let up = ascending_from_sorted (output_cmp q) (output_cmp_total q) k.ordered k.sorted in (
      moved.0,
      moved.1,
      ascending_from_map R out moved.0 (subst (IsAscending R) moved.2 up),
      k.is ∙ ap (map (λ (o : Output). o.1)) moved.2 ∙ map-map (λ (o : Output). o.1) out moved.0,
    )

-- so they are shown, in some order
pub found : (q : Query) (params : Row) (all rows : List Row) (p : Row → Bool) (show : Row → Row)
    → ((r : Row) → list_all (holds (params ∷ r ∷ [])) q.filter ≡ p r)
    → ((r : Row) → eval_all q.project (params ∷ r ∷ []) ≡ show r)
    → Picks q params (passing q.filter params all) rows → IsPermutation (map show (filter p all)) rows
found q params all rows p show test shows k =
    let key = λ (r : Row). eval_all (map (λ k. k.0) q.order) (params ∷ r ∷ []) in
    let it = arranged q params all rows p key show test (λ r. ap (λ s. (key r, s)) (shows r)) k in
    rw it.3 (IsPermutation-map show _ _ it.1)

-- what a text over one table that has no ORDER BY shows
pub asked : (schema : Schema) (old new : State) (sql : List ℕ) (params : Row) (tree : ℕ) (terms project : List Term)
    (names : List (List ℕ)) (rows : List Row) (p : Row → Bool) (show : Row → Row)
    → old.now.schema ≡ schema → IsQuery schema sql (over_table tree terms project []) names
    → overlay old.now.trees [] tree ≡ old.now.trees tree
    → ((r : Row) → list_all (holds (params ∷ r ∷ [])) terms ≡ p r)
    → ((r : Row) → eval_all project (params ∷ r ∷ []) ≡ show r) → Shown sql params old new rows
    → IsPermutation (map show (filter p (old.now.trees tree))) rows
asked schema old new sql params tree terms project names rows p show has means here test shows h =
    found (over_table tree terms project []) params (old.now.trees tree) rows p show test shows
    (picked schema old new sql params tree terms project [] names rows has means here h)

-- Where ORDER BY names just what is shown, the answer is in the one order, if rows that tie are equal.
pub listed : (q : Query) (params : Row) (all rows : List Row) (p : Row → Bool) (show : Row → Row) (P : Row → Type 0)
    → ((r : Row) → list_all (holds (params ∷ r ∷ [])) q.filter ≡ p r)
    → ((r : Row) → output q (params ∷ r ∷ []) ≡ (show r, show r))
    → ((a b : Row) → P a → P b → key_cmp 0 (map (λ k. k.1) q.order) a b ≡ Equal → a ≡ b) → AllByRecursion P rows
    → Picks q params (passing q.filter params all) rows
    → rows ≡ sort_by (key_cmp 0 (map (λ k. k.1) q.order)) (map show (filter p all))
listed q params all rows p show P test shows exact typed k =
    let keys : List Key = map (λ k. k.1) q.order in
    let it = arranged q params all rows p show show test shows k in
    let up = ascending-map (AtMost (key_cmp 0 keys) (key_cmp_total keys 0)) show it.0 it.2 in
    sorted_answer (key_cmp 0 keys) (key_cmp_total keys 0) P exact _ rows typed
    (subst (IsPermutation (map show (filter p all))) (sym it.3) (IsPermutation-map show _ _ it.1))
    (subst (IsAscending (AtMost (key_cmp 0 keys) (key_cmp_total keys 0))) (sym it.3) up)

-- ---- a query commits nothing, whatever the schema

abbrev pub is_select : Statement → Bool
is_select (written.Select s) = true
is_select _ = false

-- the text is a SELECT, or none
abbrev pub is_query_text : Result Parsed CompileError → Bool
is_query_text (Ok p) = is_select p.statement
is_query_text (Err e) = true

abbrev pub IsUnreturned : Result Compiled CompileError → Type 0
IsUnreturned (Ok c) = c.returning ≡ None
IsUnreturned (Err e) = Unit {0}

none_returned : (schema : Schema) (base : ℕ) (st : Statement) → is_select st ≡ true → returning schema base st ≡ Ok None
unfolding returning
none_returned schema base (written.Select s) h = refl
none_returned schema base _ h = absurd (let e = h in cc)

unreturned_meaning : (schema : Schema) (p : Parsed) (base : ℕ) (r : Result Command CompileError)
    (found : Command × Option Returning) → command schema p.formats base p.statement ≡ r
    → returning schema base p.statement ≡ Ok None → meaning schema p base ≡ Ok found → found.1 ≡ None
unfolding meaning
unreturned_meaning schema p base (Ok c) found is none h = let e = rw (none, is) at h in
    ap (λ (x : Command × Option Returning). x.1) (sym (ok_is e))
  where
    ok_is : {X : Type 0} {a b : X} → ◌≡◌ {A = Result X CompileError} (Ok a) (Ok b) → a ≡ b
    ok_is e = cc
unreturned_meaning schema p base (Err e) found is none h = absurd (let bad = rw (none, is) at h in cc)

unreturned_parsed : (schema : Schema) (p : Parsed) → is_select p.statement ≡ true
    → (r : Result (Command × Option Returning) CompileError)
    → meaning schema p (small p.names + small (timed_formats schema p.formats p.statement)) ≡ r
    → IsUnreturned (and_then (planned schema p) (λ plan. Ok (with_command p plan)))
unfolding planned
unreturned_parsed schema p h (Ok found) is =
    rw is (unreturned_meaning schema p (small p.names + small (timed_formats schema p.formats p.statement))
    (command schema p.formats (small p.names + small (timed_formats schema p.formats p.statement)) p.statement)
    found refl (none_returned schema _ p.statement h) is)
unreturned_parsed schema p h (Err e) is = rw is tt

unreturned_by : (schema : Schema) (text : List ℕ) (r : Result Parsed CompileError)
    → first text ≡ r → is_query_text r ≡ true → IsUnreturned (compiled schema text)
unfolding compiled
unreturned_by schema text (Err e) is h = rw is tt
unreturned_by schema text (Ok p) is h = rw is (unreturned_parsed schema p h _ refl)

pub unreturned : (schema : Schema) (text : List ℕ)
    → is_query_text (first text) ≡ true → IsUnreturned (understood schema text)
unfolding understood
unreturned schema text h = elim (reads_listing schema text)
    as (λ b. IsUnreturned (cond b (if_select (compiled listing_schema text)) (compiled schema text))) [
      | true ↦ selected (compiled listing_schema text) (unreturned_by listing_schema text _ refl h)
      | false ↦ unreturned_by schema text _ refl h
    ]
  where
    selected : (r : Result Compiled CompileError) → IsUnreturned r → IsUnreturned (if_select r)
    selected (Ok c) h = elim (listing.is_select c.command) as (λ b. IsUnreturned (cond b (Ok c) (Err NoSuchTable)))
        [ true ↦ h | false ↦ tt ]
    selected (Err e) h = tt

pub query_commits_none : (sql : List ℕ) (params : Row) (s : State) (db : Trees)
    → is_query_text (first sql) ≡ true → ¬ CommitsShowing sql params s db
unfolding CommitsShowing
query_commits_none sql params s db h it =
    let none : it.0.returning ≡ None = subst IsUnreturned it.1.is (unreturned s.now.schema sql h) in
    absurd (let some = rw none at it.2 in cc)

-- a query commits nothing
pub query_keeps : (sql : List ℕ) (params : Row) (old new : State) → is_query_text (first sql) ≡ true
    → Survives old new (CommitsShowing sql params old) → Survives old new (λ _. ⊥)
query_keeps sql params old new h = survives_weaker old new _ _ (λ _ db. query_commits_none sql params old db h)

-- and leaves the connection as it was
pub query_leaves : (sql : List ℕ) (params : Row) (old new : State) (rows : List Row)
    → is_query_text (first sql) ≡ true → Shown sql params old new rows → IsUnchanged old new
unfolding Shown
query_leaves sql params old new rows text h =
    let none = subst IsUnreturned h.1.is (unreturned old.now.schema sql text) in
    (subst (ShowsRows old new sql h.0 (timed params h.0.formats h.1.now) rows) none h.2).3

-- so that what it shows can be said of the first state alone
pub shown_still : (text : List ℕ) (params : Row) (old new : State) (rows : List Row)
    → is_query_text (first text) ≡ true → Shown text params old new rows → Shown text params old old rows
unfolding Shown
shown_still text params old new rows selects h =
    let none = subst IsUnreturned h.1.is (unreturned old.now.schema text selects) in
    let it = subst (ShowsRows old new text h.0 (timed params h.0.formats h.1.now) rows) none h.2 in (
      h.0,
      h.1,
      subst (ShowsRows old old text h.0 (timed params h.0.formats h.1.now) rows) (sym none)
          (it.0, it.1, it.2, unchanged old it.3.0.was_open),
    )

-- a query that failed outside a transaction
pub fails_leaves : (sql : List ℕ) (params : Row) (old new : State) (e : Error)
    → FailsToQuery sql params old new e → IsUnchanged old new ⊎ IsRolledBack old new
unfolding FailsToQuery IsNotRun
fails_leaves sql params old new e (inl (inl h)) = inl h.1
fails_leaves sql params old new e (inl (inr h)) = inr h.3
fails_leaves sql params old new e (inr h) = shown h.0.returning h.2
  where
    shown : (o : Option Returning) → FailsToShow old new sql h.0 (timed params h.0.formats h.1.now) e o
        → IsUnchanged old new ⊎ IsRolledBack old new
    shown None it = inl it.3
    shown (Some what) (inl it) = inl it.1
    shown (Some what) (inr it) = inr it.3

pub left_open : (old new : State) → IsUnchanged old new ⊎ IsRolledBack old new → new.is_open ≡ true → old.is_open ≡ true
left_open old new (inl h) is = h.0.was_open
left_open old new (inr h) is = h.was_open is

pub left_now : (old new : State) → old.now ≡ old.committed
    → IsUnchanged old new ⊎ IsRolledBack old new → new.is_open ≡ true → new.now ≡ old.now
left_now old new settled (inl h) is = h.0.now_is
left_now old new settled (inr h) is = (h.undone is).0 ∙ sym settled

-- one that answered showed an open connection
pub shown_open : (sql : List ℕ) (params : Row) (old new : State) (rows : List Row)
    → Shown sql params old new rows → old.is_open ≡ true
unfolding Shown
shown_open sql params old new rows h = shown h.0.returning h.2
  where
    shown : (o : Option Returning)
        → ShowsRows old new sql h.0 (timed params h.0.formats h.1.now) rows o → old.is_open ≡ true
    shown None it = it.3.0.was_open
    shown (Some what) it = it.1.shown.was_open

pub query_open : {V : Type 0} (items : V → List Row) (sql : List ℕ)
    (params : Row) (old new : State) (r : Result V Error)
    → IfOk r (λ rows. Shown sql params old new (items rows)) → IfErr r (FailsToQuery sql params old new)
    → new.is_open ≡ true → old.is_open ≡ true
query_open items sql params old new (Ok rows) ok err is = shown_open sql params old new (items rows) ok
query_open items sql params old new (Err e) ok err is = left_open old new (fails_leaves sql params old new e err) is

pub query_left : {V : Type 0} (items : V → List Row) (sql : List ℕ) (params : Row)
    (old new : State) (r : Result V Error) → is_query_text (first sql) ≡ true
    → IfOk r (λ rows. Shown sql params old new (items rows)) → IfErr r (FailsToQuery sql params old new)
    → new.is_open ≡ true → old.now ≡ old.committed → new.now ≡ old.now
query_left items sql params old new (Ok rows) text ok err is settled =
    (query_leaves sql params old new (items rows) text ok).0.now_is
query_left items sql params old new (Err e) text ok err is settled =
    left_now old new settled (fails_leaves sql params old new e err) is

-- one that answered left an open connection, and the database as it was
pub query_answered : {V : Type 0} (items : V → List Row) (sql : List ℕ) (params : Row)
    (old new : State) (r : Result V Error) → is_query_text (first sql) ≡ true
    → IfOk r (λ rows. Shown sql params old new (items rows)) → OnOk r ((new.is_open ≡ true) × (new.now ≡ old.now))
query_answered items sql params old new (Ok rows) text ok =
    let it = query_leaves sql params old new (items rows) text ok in (it.0.is_open, it.0.now_is)
query_answered items sql params old new (Err e) text ok = tt

pub only_permuted : {X : Type 0} (xs ys : List X) → IsPermutation xs ys → only ys ≡ only xs
only_permuted [] [] same = refl
only_permuted [] (y ∷ ys) same = absurd (omega (arith, length_permutation _ _ same))
only_permuted (x ∷ []) ys same = ap only (one_permutation x ys same)
only_permuted (x ∷ z ∷ xs) [] same = absurd (omega (arith, length_permutation _ _ same))
only_permuted (x ∷ z ∷ xs) (y ∷ []) same = absurd (omega (arith, length_permutation _ _ same))
only_permuted (x ∷ z ∷ xs) (y ∷ v ∷ ys) same = refl
