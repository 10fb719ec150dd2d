-- Renewal below a path, put together from parts: an object and what is below it, and one child after the other.
use Rattle.room_tree.proofs.Common.{◌≡◌, ◌≢◌, ℕ, ◌+◌, ◌≤◌, refl, ap, sym, ◌∙◌, subst, arith, Bool, true, false, cond}
use Rattle.room_tree.proofs.Common.{eqb, eq-eqb, ◌||◌, ◌⊎◌, inl, inr, List, [], ◌∷◌, ◌++◌, reverse, append_assoc, Vec}
use Rattle.room_tree.proofs.Common.{IsTrue, AllByRecursion, count_by, list_any, Global, eqb-true, append_cancel_left}
use Rattle.room_tree.proofs.Common.{sum_by-cons, sum_by-append, count_by-le-length, or-true, EntryModel, Change}
use Rattle.room_tree.proofs.Common.{PutEntries, Name, Path, ObjectRecords, ObjectRules, Room, list_of, HasPath}
use Rattle.room_tree.proofs.Common.{RepresentsRoom, all_append, reads_one, list_below, IsRenewed, IsRenewal}
use Rattle.room_tree.proofs.Common.{RenewsBelow, puts_entries_of}
use Rattle.std.proofs.lemmas.List.Folds.{list_any-append}
use Rattle.room_tree.proofs.Renewed.{one_if, split_renewals, put_found}
use Rattle.room_tree.proofs.ListsRenewed.{lists_stay}
use Rattle.room_tree.proofs.RenewingLists.{list_below_child}
use Rattle.room_tree.proofs.RowsReplaced.{path_of_node}
use Rattle.room_tree.proofs.StoredLists.{stored_list}

left_of_or : (b : Bool) → (b || false) ≡ true → b ≡ true
left_of_or true e = refl
left_of_or false e = e

count_append : {X : Type 0} (p : X → Bool) (xs ys : List X) → count_by p (xs ++ ys) ≡ count_by p xs + count_by p ys
count_append p xs ys = sum_by-append (λ x. cond (p x) 1 0) xs ys

none_counted : {X : Type 0} (p : X → Bool) (xs : List X) → list_any p xs ≡ false → count_by p xs ≡ 0
none_counted p [] none = refl
none_counted p (x ∷ xs) none = by_test (p x) refl none (none_counted p xs)
  where
    by_test : (b : Bool) → p x ≡ b → (b || list_any p xs) ≡ false
        → (list_any p xs ≡ false → count_by p xs ≡ 0) → count_by p (x ∷ xs) ≡ 0
    by_test true is h rest = absurd (let f : true ≡ false = h in cc)
    by_test false is h rest =
        let more = sum_by-cons (λ y. cond (p y) 1 0) x xs in
        let first : one_if (p x) ≡ 0 = ap one_if is in
        let others : count_by p xs ≡ 0 = rest h in
        omega (arith, more, first, others)

-- what is put is renewed
pub put_is_renewed : (t : ObjectRecords) (room : Room) (path : Path)
    (list : List EntryModel) (changes : List Change) (id : ℕ)
    → AllByRecursion (IsRenewal t room path list) changes → list_any (puts_entries_of id) changes ≡ true
    → (entries : List EntryModel) × IsRenewed t room path list id entries
put_is_renewed t room path list changes id each found =
    let split = split_renewals t room path list changes each in
    put_found (IsRenewed t room path list) split.0 id split.2 (rw split.1 at found)

-- these changes renew the lists of the objects below a path whose further names are among these, and no others
pub record Renews (t : ObjectRecords) (room : Room) (path : Path) (list : List EntryModel)
    (among : Path → Type 0) (changes : List Change) : Type 0 where
  pub each : AllByRecursion (IsRenewal t room path list) changes
  pub put_at : (id : ℕ) → list_any (puts_entries_of id) changes ≡ true
      → (rest : Path) × among rest × HasPath t (path ++ rest) id
  pub every : (rest : Path) (id : ℕ) → among rest → HasPath t (path ++ rest) id
      → (t.entries id ≡ list_below room path list (reverse rest)) ⊎ IsTrue (list_any (puts_entries_of id) changes)
  pub once : (id : ℕ) → count_by (puts_entries_of id) changes ≤ 1

-- two parts that have no object in common
pub renews_both : (t : ObjectRecords) (room : Room) (path : Path)
    (list : List EntryModel) (a b c : Path → Type 0) (xs ys : List Change) → ObjectRules t
    → ((rest : Path) → c rest → a rest ⊎ b rest) → ((rest : Path) → a rest → c rest)
    → ((rest : Path) → b rest → c rest) → ((rest : Path) → a rest → b rest → ⊥)
    → Renews t room path list a xs → Renews t room path list b ys → Renews t room path list c (xs ++ ys)
renews_both t room path list a b c xs ys rules split left right apart first second = record {
  each = all_append (IsRenewal t room path list) xs ys first.each second.each;
  put_at = λ id found. put_by id (list_any (puts_entries_of id) xs) refl (sym (any_of id) ∙ found);
  every = λ rest id among at. elim (split rest among) [
    | inl here ↦ in_first rest id here at
    | inr there ↦ in_second rest id there at
  ];
  once = λ id. once_by id (list_any (puts_entries_of id) xs) refl;
}
  where
    any_of : (id : ℕ) → list_any (puts_entries_of id) (xs ++ ys)
        ≡ (list_any (puts_entries_of id) xs || list_any (puts_entries_of id) ys)
    any_of id = list_any-append (puts_entries_of id) xs ys

    in_first : (rest : Path) (id : ℕ) → a rest → HasPath t (path ++ rest) id
        → (t.entries id ≡ list_below room path list (reverse rest)) ⊎ IsTrue (list_any (puts_entries_of id) (xs ++ ys))
    in_first rest id here at = elim (first.every rest id here at) [
      | inl stays ↦ inl stays
      | inr put ↦ inr (any_of id ∙ ap (λ found. found || list_any (puts_entries_of id) ys) put)
    ]

    in_second : (rest : Path) (id : ℕ) → b rest → HasPath t (path ++ rest) id
        → (t.entries id ≡ list_below room path list (reverse rest)) ⊎ IsTrue (list_any (puts_entries_of id) (xs ++ ys))
    in_second rest id there at = elim (second.every rest id there at) [
      | inl stays ↦ inl stays
      | inr put ↦ inr (any_of id ∙ ap (λ found. list_any (puts_entries_of id) xs || found) put
          ∙ or-true (list_any (puts_entries_of id) xs))
    ]

    put_by : (id : ℕ) (test : Bool) → list_any (puts_entries_of id) xs ≡ test
        → (test || list_any (puts_entries_of id) ys) ≡ true
        → (rest : Path) × c rest × HasPath t (path ++ rest) id
    put_by id true is found = let put = first.put_at id is in (put.0, left put.0 put.1, put.2)
    put_by id false is found = let put = second.put_at id found in (put.0, right put.0 put.1, put.2)

    not_there : (id : ℕ) → list_any (puts_entries_of id) xs ≡ true
        → (test : Bool) → list_any (puts_entries_of id) ys ≡ test → test ≡ false
    not_there id is false e = refl
    not_there id is true e =
        let here = first.put_at id is in
        let there = second.put_at id e in
        let same : here.0 ≡ there.0 = append_cancel_left path here.0 there.0
        (path_of_node t rules (path ++ here.0) (path ++ there.0) id here.2 there.2) in
        absurd (apart there.0 (subst a same here.1) there.1)

    once_by : (id : ℕ) (test : Bool) → list_any (puts_entries_of id) xs ≡ test
        → count_by (puts_entries_of id) (xs ++ ys) ≤ 1
    once_by id true is =
        let both = count_append (puts_entries_of id) xs ys in
        let none = none_counted (puts_entries_of id) ys (not_there id is (list_any (puts_entries_of id) ys) refl) in
        omega (arith, both, none, first.once id)
    once_by id false is =
        let both = count_append (puts_entries_of id) xs ys in
        let none = none_counted (puts_entries_of id) xs is in
        omega (arith, both, none, second.once id)

-- further names that begin with this one
abbrev pub BeginsWith : Name → Path → Type 0
BeginsWith name rest = (below : Path) × (rest ≡ name ∷ below)

abbrev GoesOnFrom : Name → Path → Type 0
GoesOnFrom name rest = (below : Path) × (below ≢ []) × (rest ≡ name ∷ below)

module _ (t : ObjectRecords) (room : Room) (path : Path) (list : List EntryModel) (name : Name) where
  at_above : (rest : Path) (id : ℕ) → HasPath t ((path ++ name ∷ []) ++ rest) id → HasPath t (path ++ name ∷ rest) id
  at_above rest id at = rw (← append_assoc path (name ∷ []) rest) (at)

  at_child : (rest below : Path) (id : ℕ) → rest ≡ name ∷ below
      → HasPath t (path ++ rest) id → HasPath t ((path ++ name ∷ []) ++ below) id
  at_child rest below id is at = rw (← ap (λ p. path ++ p) is ∙ sym (append_assoc path (name ∷ []) below)) (at)

  -- where the child has this list, lists below it are those below the path
  module _ (given : List EntryModel) (is_given : given ≡ list_below room path list (name ∷ [])) where
    list_there : (rest below : Path) → rest ≡ name ∷ below
        → list_below room (path ++ name ∷ []) given (reverse below) ≡ list_below room path list (reverse rest)
    list_there rest below is =
        ap (λ l. list_below room (path ++ name ∷ []) l (reverse below)) is_given
        ∙ sym (list_below_child room path name below list)
        ∙ ap (λ p. list_below room path list (reverse p)) (sym is)

    renewed_above : (id : ℕ) (entries : List EntryModel)
        → IsRenewed t room (path ++ name ∷ []) given id entries → IsRenewed t room path list id entries
    renewed_above id entries new = record {
      rest = name ∷ new.rest;
      below = λ none. cc;
      at = at_above new.rest id new.at;
      is_list = new.is_list ∙ list_there (name ∷ new.rest) new.rest refl;
      changes = new.changes;
    }

    all_above : (changes : List Change) → AllByRecursion (IsRenewal t room (path ++ name ∷ []) given) changes
        → AllByRecursion (IsRenewal t room path list) changes
    all_above [] each = tt
    all_above (PutEntries id entries ∷ changes) each = (renewed_above id entries.items each.0, all_above changes each.1)
    all_above (change ∷ changes) each = absurd each.0

    renews_further : (changes : List Change) → RenewsBelow t room (path ++ name ∷ []) given changes
        → Renews t room path list (GoesOnFrom name) changes
    renews_further changes r = record {
      each = all_above changes r.each;
      put_at = λ id found.
          let new = (put_is_renewed t room (path ++ name ∷ []) given changes id r.each found).1 in
          (name ∷ new.rest, (new.rest, new.below, refl), at_above new.rest id new.at);
      every = λ rest id goes_on at. further rest id goes_on.0 goes_on.1 goes_on.2 at;
      once = r.once;
    }
      where
        further : (rest : Path) (id : ℕ) (below : Path) → below ≢ [] → rest ≡ name ∷ below → HasPath t (path ++ rest) id
            → (t.entries id ≡ list_below room path list (reverse rest)) ⊎ IsTrue (list_any (puts_entries_of id) changes)
        further rest id below some is at = elim (r.every below id some (at_child rest below id is at)) [
          | inl stays ↦ inl (stays ∙ list_there rest below is)
          | inr put ↦ inr put
        ]

  module _ (rules : ObjectRules t) (id : ℕ) (here : HasPath t (path ++ name ∷ []) id) where
    renews_itself : (entries : Vec EntryModel Global)
        → entries.items ≡ list_below room path list (name ∷ []) → entries.items ≢ t.entries id
        → Renews t room path list (λ rest. rest ≡ name ∷ []) (PutEntries id entries ∷ [])
    renews_itself entries is changes = record {
      each = (record { rest = name ∷ []; below = λ none. cc; at = here; is_list = is; changes = changes }, tt);
      put_at = λ k found.
          (name ∷ [], refl, rw (eqb-true k id (left_of_or (eqb k id) found)) here);
      every = λ rest k only at.
          let same : k ≡ id = reads_one t rules (reverse (path ++ name ∷ [])) k id (rw (← only) (at)) here in
          inr (ap (λ b. b || false) (eq-eqb k id same));
      once = λ k. count_by-le-length (puts_entries_of k) (PutEntries id entries ∷ []);
    }

    -- the child's list is put, after those below it
    pub renews_child : (entries : Vec EntryModel Global) (added : List Change)
        → entries.items ≡ list_below room path list (name ∷ []) → entries.items ≢ t.entries id
        → RenewsBelow t room (path ++ name ∷ []) entries.items added
        → Renews t room path list (BeginsWith name) (added ++ PutEntries id entries ∷ [])
    renews_child entries added is changes below =
        renews_both t room path list (GoesOnFrom name) (λ rest. rest ≡ name ∷ [])
        (BeginsWith name) added (PutEntries id entries ∷ []) rules
        (λ rest begins. here_or_further rest begins.0 begins.1)
        (λ rest goes_on. (goes_on.0, goes_on.2))
        (λ rest only. ([], only))
        (λ rest goes_on only. goes_on.1 (nothing_more goes_on.0 (sym goes_on.2 ∙ only)))
        (renews_further entries.items is added below)
        (renews_itself entries is changes)
      where
        here_or_further : (rest further : Path) → rest ≡ name ∷ further → GoesOnFrom name rest ⊎ (rest ≡ name ∷ [])
        here_or_further rest [] begins = inr begins
        here_or_further rest (next ∷ further) begins = inl (next ∷ further, (λ none. cc), begins)

        nothing_more : (further : Path) → name ∷ further ≡ name ∷ [] → further ≡ []
        nothing_more further e = cc

-- where the child's list stays, nothing is put
pub child_stays : (t : ObjectRecords) (room : Room) → RepresentsRoom t room
    → (path : Path) (list : List EntryModel) (name : Name) (id : ℕ) → HasPath t (path ++ name ∷ []) id
    → t.entries id ≡ list_below room path list (name ∷ []) → Renews t room path list (BeginsWith name) []
child_stays t room stand path list name id here stays = record {
  each = tt;
  put_at = λ k found. absurd (let f : false ≡ true = found in cc);
  every = λ rest k begins at.
      let below = begins.0 in
      let child = at_child t room path list name rest below k begins.1 at in
      inl (stored_list stand ((path ++ name ∷ []) ++ below) k child ∙ sym (lists_stay room (path ++ name ∷ []) below)
      ∙ list_there t room path list name (list_of room (path ++ name ∷ []))
      (sym (stored_list stand (path ++ name ∷ []) id here) ∙ stays) rest below begins.1);
  once = λ k. omega arith;
}
