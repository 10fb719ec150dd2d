-- Rows after lists were put, that of one object and those below it.
use Rattle.room_tree.proofs.Common.{common_steps, ◌≡◌, ◌≢◌, ℕ, ◌+◌, ◌≤◌, refl, ap, sym, ◌∙◌, arith, Bool, true, false}
use Rattle.room_tree.proofs.Common.{not, cond, eqb, ◌||◌, ◌⊎◌, inl, inr, List, [], ◌∷◌, ◌++◌, map, reverse, append-nil}
use Rattle.room_tree.proofs.Common.{Option, None, Some, IsTrue, MatchOption, eq-eqb, Vec, is_some, Global}
use Rattle.room_tree.proofs.Common.{AllByRecursion, list_any, eqb-true, map-append, append_cancel_left, sum_by-cons}
use Rattle.room_tree.proofs.Common.{or-true, EntryModel, Node, Change, PutNode, PutEntries, Path, ObjectRecords}
use Rattle.room_tree.proofs.Common.{ObjectRules, apply_to_objects, apply_all_to_objects, IsOfObjects}
use Rattle.room_tree.proofs.Common.{ObjectRulesHoldAfterEach, Room, list_of, RepresentsRoom, HasPath, reads_one}
use Rattle.room_tree.proofs.Common.{same_or_other, if_same, if_other, rules_put_entries, is_at_or_below, at_behind}
use Rattle.room_tree.proofs.Common.{not_both, LoadedObject, IsLoaded, list_below, IsRenewed, IsRenewal, RenewsBelow}
use Rattle.room_tree.proofs.Common.{PutsList, ChangesFewRows, puts_entries, puts_entries_of, all_append}
use Rattle.std.proofs.Common.{count_by}
use Rattle.std.proofs.lemmas.List.Folds.{list_any-append}
use Rattle.room_tree.proofs.ListsRenewed.{lists_stay}
use Rattle.room_tree.proofs.RowsReplaced.{path_of_node}
use Rattle.room_tree.proofs.StoredLists.{node_at_path, stored_list}

-- lists that are put, by the numbers of their objects
abbrev pub Puts : Type 0
Puts = List (ℕ × Vec EntryModel Global)

abbrev pub put : ℕ × Vec EntryModel Global → Change
put p = PutEntries p.0 p.1

abbrev pub EachPut : (ℕ → List EntryModel → Type 0) → Puts → Type 0
EachPut P puts = AllByRecursion (λ (p : ℕ × Vec EntryModel Global). P p.0 p.1.items) puts

pub each_weaker : (P Q : ℕ → List EntryModel → Type 0)
    → ((id : ℕ) (entries : List EntryModel) → P id entries → Q id entries)
    → (puts : Puts) → EachPut P puts → EachPut Q puts
each_weaker P Q weaker [] each = tt
each_weaker P Q weaker (p ∷ puts) each = (weaker p.0 p.1.items each.0, each_weaker P Q weaker puts each.1)

-- they change entries alone
pub only_entries : (puts : Puts) (s : ObjectRecords) → ((apply_all_to_objects (map put puts) s).node ≡ s.node)
    × ((apply_all_to_objects (map put puts) s).document ≡ s.document)
    × ((apply_all_to_objects (map put puts) s).next ≡ s.next)
only_entries [] s = (refl, refl, refl)
only_entries (p ∷ puts) s = only_entries puts (apply_to_objects (put p) s)

pub of_objects : (puts : Puts) → AllByRecursion IsOfObjects (map put puts)
of_objects [] = tt
of_objects (p ∷ puts) = (tt, of_objects puts)

-- the rules hold after each, where each object is there
pub rules_kept : (puts : Puts) (s : ObjectRecords) → ObjectRules s
    → EachPut (λ id entries. (n : Node) × (s.node id ≡ Some n)) puts
    → ObjectRulesHoldAfterEach (map put puts) s × ObjectRules (apply_all_to_objects (map put puts) s)
rules_kept [] s rules each = (tt, rules)
rules_kept (p ∷ puts) s rules each =
    let now = rules_put_entries s rules p.0 each.0.0 each.0.1 p.1 in
    let rest = rules_kept puts (apply_to_objects (put p) s) now each.1 in
    ((now, rest.0), rest.1)

-- the entries of an object for which this list alone is put, or which has it and none is put
pub entries_put : (puts : Puts) (s : ObjectRecords) (id : ℕ) (list : List EntryModel)
    → EachPut (λ at entries. at ≡ id → entries ≡ list) puts
    → (s.entries id ≡ list) ⊎ IsTrue (list_any (puts_entries_of id) (map put puts))
    → (apply_all_to_objects (map put puts) s).entries id ≡ list
entries_put [] s id list each (inl is) = is
entries_put [] s id list each (inr none) = (let f : false ≡ true = none in cc)
entries_put (p ∷ puts) s id list each found =
    entries_put puts (apply_to_objects (put p) s) id list each.1 (by_test (eqb id p.0) refl found)
  where
    by_test : (b : Bool) → eqb id p.0 ≡ b
        → (s.entries id ≡ list) ⊎ IsTrue (b || list_any (puts_entries_of id) (map put puts))
        → (cond b p.1.items (s.entries id) ≡ list) ⊎ IsTrue (list_any (puts_entries_of id) (map put puts))
    by_test true same h = inl (each.0 (sym (eqb-true id p.0 same)))
    by_test false other h = h

-- and of one for which none is put
pub entries_kept : (puts : Puts) (s : ObjectRecords) (id : ℕ) → EachPut (λ at entries. at ≢ id) puts
    → (apply_all_to_objects (map put puts) s).entries id ≡ s.entries id
entries_kept [] s id each = refl
entries_kept (p ∷ puts) s id each =
    entries_kept puts (apply_to_objects (put p) s) id each.1
    ∙ if_other id p.0 p.1.items (s.entries id) (λ same. each.0 (sym same))

-- what is put for an object
pub put_found : (P : ℕ → List EntryModel → Type 0) (puts : Puts) (id : ℕ)
    → EachPut P puts → IsTrue (list_any (puts_entries_of id) (map put puts))
    → (entries : List EntryModel) × P id entries
put_found P [] id each none = absurd (let f : false ≡ true = none in cc)
put_found P (p ∷ puts) id each found = by_test (eqb id p.0) refl found (put_found P puts id each.1)
  where
    by_test : (b : Bool) → eqb id p.0 ≡ b → IsTrue (b || list_any (puts_entries_of id) (map put puts))
        → (IsTrue (list_any (puts_entries_of id) (map put puts)) → (entries : List EntryModel) × P id entries)
        → (entries : List EntryModel) × P id entries
    by_test true same h rest = ((p.1.items, rw (eqb-true id p.0 same) each.0))
    by_test false other h rest = rest h

abbrev pub one_if : Bool → ℕ
one_if b = cond b 1 0

pub one_or_none : (b : Bool) → one_if b ≤ 1
one_or_none true = omega arith
one_or_none false = omega arith

not_counted : (a b : ℕ) → a ≢ b → one_if (eqb a b) ≡ 0
not_counted a b other = if_other a b 1 0 other

none_put : (puts : Puts) (id : ℕ) → EachPut (λ at entries. at ≢ id) puts
    → count_by (puts_entries_of id) (map put puts) ≡ 0
none_put [] id each = refl
none_put (p ∷ puts) id each =
    let first = not_counted id p.0 (λ same. each.0 (sym same)) in
    let more = sum_by-cons (λ (change : Change). cond (puts_entries_of id change) 1 0) (put p) (map put puts) in
    let rest = none_put puts id each.1 in
    omega (arith, first, more, rest)

no_others : (puts : Puts) → count_by (λ change. not (puts_entries change)) (map put puts) ≡ 0
no_others [] = refl
no_others (p ∷ puts) =
    let more = sum_by-cons (λ (change : Change). cond (not (puts_entries change)) 1 0) (put p) (map put puts) in
    let rest = no_others puts in
    omega (arith, more, rest)

-- what is put below
pub split_renewals : (t : ObjectRecords) (room : Room) (path : Path) (list : List EntryModel) (changes : List Change)
    → AllByRecursion (IsRenewal t room path list) changes
    → (puts : Puts) × (changes ≡ map put puts) × EachPut (IsRenewed t room path list) puts
split_renewals t room path list [] each = ([], refl, tt)
split_renewals t room path list (PutEntries id entries ∷ changes) each =
    let rest = split_renewals t room path list changes each.1 in
    ((id, entries) ∷ rest.0, ap (λ (cs : List Change). PutEntries id entries ∷ cs) rest.1, (each.0, rest.2))
split_renewals t room path list (change ∷ changes) each = absurd each.0

-- entries put for an object at or below a path: the list that it has from then on, and has not yet
pub record IsRelisted (t : ObjectRecords) (room : Room) (path : Path)
    (list : List EntryModel) (id : ℕ) (entries : List EntryModel) : Type 0 where
  pub rest : Path
  pub at : HasPath t (path ++ rest) id
  pub is_list : entries ≡ list_below room path list (reverse rest)
  pub changes : entries ≢ t.entries id

-- the list of an object and those below it are put where they change, each once
pub record Relists (t : ObjectRecords) (room : Room) (path : Path) (list : List EntryModel) (puts : Puts) : Type 0 where
  pub each : EachPut (IsRelisted t room path list) puts
  pub every : (rest : Path) (id : ℕ) → HasPath t (path ++ rest) id
      → (t.entries id ≡ list_below room path list (reverse rest))
      ⊎ IsTrue (list_any (puts_entries_of id) (map put puts))
  pub once : (id : ℕ) → count_by (puts_entries_of id) (map put puts) ≤ 1

-- the list of an object from then on: what is put, or else what it was
abbrev pub list_then : ObjectRecords → ℕ → Option (Vec EntryModel Global) → List EntryModel
list_then t id None = t.entries id
list_then t id (Some list) = list.items

-- whether a list is another one than the stored one, and which
abbrev pub IsChangeOf : List EntryModel → List EntryModel → Option (Vec EntryModel Global) → Type 0
IsChangeOf stored list new = MatchOption new (list ≡ stored) (λ changed. (changed.items ≡ list) × (list ≢ stored))

pub is_change : (stored list : List EntryModel) (new : Option (Vec EntryModel Global))
    → MatchOption new (stored ≡ list) (λ changed. (changed.items ≡ list) × (changed.items ≢ stored))
    → IsChangeOf stored list new
is_change stored list None same = sym same
is_change stored list (Some changed) changes = (changes.0, (λ same. changes.1 (changes.0 ∙ same)))

pub list_then_is : (t : ObjectRecords) (id : ℕ) (stored list : List EntryModel)
    → t.entries id ≡ stored → (new : Option (Vec EntryModel Global)) → IsChangeOf stored list new
    → list_then t id new ≡ list
list_then_is t id stored list is None same = is ∙ sym same
list_then_is t id stored list is (Some changed) changes = changes.0

pub changes_list : (t : ObjectRecords) (id : ℕ) (stored list : List EntryModel)
    → t.entries id ≡ stored → (new : Option (Vec EntryModel Global)) → IsChangeOf stored list new
    → MatchOption new (Unit {0}) (λ changed. changed.items ≢ t.entries id)
changes_list t id stored list is None same = tt
changes_list t id stored list is (Some changed) changes = (λ same. changes.1 (sym changes.0 ∙ same ∙ is))

module _ {t : ObjectRecords} {room : Room} (stand : RepresentsRoom t room) (path : Path) (id : ℕ)
    (here : HasPath t path id) where
  only_here : (rest : Path) → HasPath t (path ++ rest) id → rest ≡ []
  only_here rest at = append_cancel_left path rest
      [] (path_of_node t stand.rules (path ++ rest) path id at here ∙ sym (append-nil path))

  -- where the list stays nothing is put
  relists_nothing : Relists t room path (t.entries id) []
  relists_nothing = record {
    each = tt;
    every = λ rest k at. inl (stays rest k at);
    once = λ k. omega arith;
  }
    where
      stays : (rest : Path) (k : ℕ) → HasPath t (path ++ rest) k
          → t.entries k ≡ list_below room path (t.entries id) (reverse rest)
      stays rest k at = stored_list stand (path ++ rest) k at ∙ sym (lists_stay room path rest)
          ∙ ap (λ list. list_below room path list (reverse rest)) (sym (stored_list stand path id here))

  module _ (list : Vec EntryModel Global) (changes : list.items ≢ t.entries id) (below : Puts)
      (renews : RenewsBelow t room path list.items (map put below))
      (each : EachPut (IsRenewed t room path list.items) below) where
    abbrev whole : Puts
    whole = below ++ (id, list) ∷ []

    not_here : EachPut (λ k entries. k ≢ id) below
    not_here = grind (arith, common_steps, each_weaker, only_here)

    any_of_whole : (k : ℕ) → list_any (puts_entries_of k) (map put whole)
        ≡ (list_any (puts_entries_of k) (map put below) || (eqb k id || false))
    any_of_whole k = ap (list_any (puts_entries_of k)) (map-append put below ((id, list) ∷ []))
        ∙ list_any-append (puts_entries_of k) (map put below) (PutEntries id list ∷ [])

    count_of_whole : (k : ℕ) → count_by (puts_entries_of k) (map put whole)
        ≡ count_by (puts_entries_of k) (map put below) + cond (eqb k id) 1 0
    count_of_whole k = grind (arith, common_steps)

    put_or_kept : (rest : Path) (k : ℕ) → HasPath t (path ++ rest) k
        → (t.entries k ≡ list_below room path list.items (reverse rest))
        ⊎ IsTrue (list_any (puts_entries_of k) (map put whole))
    put_or_kept rest k at = grind (arith, common_steps, reads_one, append-nil, any_of_whole, eq-eqb, or-true)

    once_in_whole : (k : ℕ) → count_by (puts_entries_of k) (map put whole) ≤ 1
    once_in_whole k = elim (same_or_other k id) [
      | inl same ↦
          let none = none_put below k (each_weaker (λ j entries. j ≢ id) (λ j entries. j ≢ k)
          (λ j entries other is. other (is ∙ same)) below not_here) in
          omega (arith, count_of_whole k, none, one_or_none (eqb k id))
      | inr other ↦ omega (arith, count_of_whole k, renews.once k, not_counted k id other)
    ]

    relists_whole : Relists t room path list.items whole
    relists_whole =
        let weaker : EachPut (IsRelisted t room path list.items) below =
        each_weaker (IsRenewed t room path list.items) (IsRelisted t room path list.items) as_relisted below each in
        let top : IsRelisted t room path list.items id list.items =
        record { rest = []; at = rw (append-nil path) here; is_list = refl; changes = changes } in
        record {
          each = all_append _ below ((id, list) ∷ []) weaker (top, tt);
          every = put_or_kept;
          once = once_in_whole;
        }
      where
        as_relisted : (k : ℕ) (entries : List EntryModel)
            → IsRenewed t room path list.items k entries → IsRelisted t room path list.items k entries
        as_relisted k entries new =
            record { rest = new.rest; at = new.at; is_list = new.is_list; changes = new.changes }

  -- what is planned puts the lists that change
  pub puts_relist : (now : Node) → now.id ≡ id → (new : Option (Vec EntryModel Global))
      → MatchOption new (Unit {0}) (λ list. list.items ≢ t.entries id) → (planned : List Change)
      → PutsList t room path now new planned
      → (puts : Puts) × (planned ≡ PutNode now ∷ map put puts) × Relists t room path (list_then t id new) puts
  puts_relist now same None changes planned is = ([], is, relists_nothing)
  puts_relist now same (Some list) changes planned (added, renews, is) =
      let split = split_renewals t room path list.items added renews.each in
      let lists : added ++ PutEntries now.id list ∷ [] ≡ map put (split.0 ++ (id, list) ∷ []) =
      ap (λ cs. cs ++ PutEntries now.id list ∷ []) split.1 ∙ ap (λ k. map put split.0 ++ PutEntries k list ∷ []) same
      ∙ sym (map-append put split.0 ((id, list) ∷ [])) in (
        split.0 ++ (id, list) ∷ [],
        is ∙ ap (λ cs. PutNode now ∷ cs) lists,
        relists_whole list changes split.0 (rw (← split.1) renews) split.2,
      )

-- the rows after a row is put, and the lists
module _ {t : ObjectRecords} {room : Room} (stand : RepresentsRoom t room) {path : Path} {list : List EntryModel}
    {puts : Puts} (r : Relists t room path list puts) (now : Node) where
  abbrev pub first : ObjectRecords
  first = apply_to_objects (PutNode now) t

  abbrev pub relisted : ObjectRecords
  relisted = apply_all_to_objects (map put puts) first

  -- an object at or below the path has the list that follows there
  pub relisted_at : (rest : Path) (id : ℕ) → HasPath t (path ++ rest) id
      → relisted.entries id ≡ list_below room path list (reverse rest)
  relisted_at rest id at =
      let each : EachPut (λ k entries. k ≡ id → entries ≡ list_below room path list (reverse rest)) puts =
      each_weaker (IsRelisted t room path list)
      (λ k entries. k ≡ id → entries ≡ list_below room path list (reverse rest)) one_list puts r.each in
      entries_put puts first id (list_below room path list (reverse rest)) each (r.every rest id at)
    where
      one_list : (k : ℕ) (entries : List EntryModel) → IsRelisted t room path list k entries
          → k ≡ id → entries ≡ list_below room path list (reverse rest)
      one_list k entries new same =
          let one : new.rest ≡ rest = append_cancel_left path new.rest rest
          (path_of_node t stand.rules (path ++ new.rest) (path ++ rest) id (rw (← same) new.at) at) in
          new.is_list ∙ ap (λ names. list_below room path list (reverse names)) one

  -- and each other one what it had
  pub relisted_off : (q : Path) (id : ℕ) → HasPath t q id
      → is_at_or_below q path ≡ false → relisted.entries id ≡ t.entries id
  relisted_off q id at off =
      entries_kept puts first id (each_weaker (IsRelisted t room path list) (λ k entries. k ≢ id) other puts r.each)
    where
      other : (k : ℕ) (entries : List EntryModel) → IsRelisted t room path list k entries → k ≢ id
      other k entries new same =
          let one : q ≡ path ++ new.rest = path_of_node t stand.rules q (path ++ new.rest) id at (rw (← same) new.at) in
          not_both (is_at_or_below q path) (ap (λ p. is_at_or_below p path) one ∙ at_behind path new.rest) off

  pub relisted_of_objects : AllByRecursion IsOfObjects (PutNode now ∷ map put puts)
  relisted_of_objects = (tt, of_objects puts)

  there_after : (id : ℕ) (n : Node) → t.node id ≡ Some n → (m : Node) × (first.node id ≡ Some m)
  there_after id n is = elim (same_or_other id now.id) [
    | inl same ↦ (now, if_same id now.id (Some now) (t.node id) same)
    | inr other ↦ (n, if_other id now.id (Some now) (t.node id) other ∙ is)
  ]

  pub relisted_rules : ObjectRules first
      → ObjectRulesHoldAfterEach (PutNode now ∷ map put puts) t × ObjectRules relisted
  relisted_rules rules =
      let there = each_weaker (IsRelisted t room path list) (λ id entries. (m : Node) × (first.node id ≡ Some m))
      (λ id entries new. let node = node_at_path stand (path ++ new.rest) id new.at in
      there_after id node.0 node.1) puts r.each in
      let after = rules_kept puts first rules there in
      ((rules, after.0), after.1)

  pub relisted_few : ChangesFewRows 1 t (PutNode now ∷ map put puts)
  relisted_few = record {
    once = λ id. let more = sum_by-cons (λ (change : Change). cond (puts_entries_of id change) 1 0)
        (PutNode now) (map put puts) in omega (arith, more, r.once id);
    needed = λ id found.
        let what = put_found (IsRelisted t room path list) puts id r.each found in
        let new = what.1 in
        λ same. new.changes (new.is_list ∙ sym (relisted_at new.rest id new.at) ∙ same);
    there = λ id found.
        let new = (put_found (IsRelisted t room path list) puts id r.each found).1 in
        let node = node_at_path stand (path ++ new.rest) id new.at in
        let after = there_after id node.0 node.1 in
        ap is_some (ap (λ (f : ℕ → Option Node). f id) (only_entries puts first).0 ∙ after.1);
    others =
        let more =
        sum_by-cons (λ (change : Change). cond (not (puts_entries change)) 1 0) (PutNode now) (map put puts) in
        let none = no_others puts in
        omega (arith, more, none);
  }

-- the rows hold the list of a found object
pub stored_at : {t : ObjectRecords} {room : Room} {path : Path} {loaded : LoadedObject} → IsLoaded t room path loaded
    → t.entries loaded.id ≡ list_of room path
stored_at found = found.is_there.shows.entries
