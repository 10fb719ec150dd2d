-- What is in a folder: as a map from names, in order, and how many.
use Rattle.room_records.proofs.Common.{◌≡◌, ◌+◌, ◌≤◌, Contains, refl, ap, sym, ◌∙◌, arith, Bool, true, false, cond, ◌⊎◌}
use Rattle.room_records.proofs.Common.{inl, inr, List, [], ◌∷◌, ◌++◌, length, Option, None, Some, IsSome, is_some}
use Rattle.room_records.proofs.Common.{lookup, keys_of, AllByRecursion, IsDistinct, filter_map, IsStrictlySortedBy}
use Rattle.room_records.proofs.Common.{insert_entry, is_eq, eq_by_cmp, bytes_decides, texts_ties, nat_list_cmp_total}
use Rattle.room_records.proofs.Common.{nat_list_eq_equiv, and_right, cases_Bool, nil_from_length, exact_bytes}
use Rattle.room_records.proofs.Common.{Contains-from_lookup, lookup-from_Contains, Kind, Name, Path, name_cmp, name_eq}
use Rattle.room_records.proofs.Common.{path_eq, Object, Room, object_at, name_in, child_in, by_name, children}
use Rattle.std.proofs.Common.{option_map, Less}
use Rattle.std.proofs.Math.Bool.{and-true}
use Rattle.std.proofs.lemmas.Map.Keys.{IsDistinct-from_sorted}
use Rattle.std.proofs.lemmas.Map.Entries.{length-keys_of}
use Rattle.std.proofs.lemmas.Map.Made.{is_some-lookup}
use Rattle.std.proofs.lemmas.Map.Steps.{length-le_from_keys}
use Rattle.room_records.proofs.Keys.{above_is, three_ways}
use Rattle.room_records.proofs.Options.{none_if}
use Rattle.room_records.proofs.RoomsMap.{some_is, none_is_some}

-- each name is below those after it, by bytes
abbrev pub Rises : {X : Type 0} → List (Name × X) → Type 0
Rises es = IsStrictlySortedBy name_cmp (keys_of es)

pub name_itself : (n : Name) → name_eq n n ≡ true
name_itself n = (bytes_decides n n).1 refl

pub same_name : (a b : Name) → name_eq a b ≡ true → a ≡ b
same_name a b = (bytes_decides a b).0

pub above_all : (k first : Name) (ks : List Name) → name_cmp k first ≡ Less
    → AllByRecursion (λ y. name_cmp first y ≡ Less) ks → AllByRecursion (λ y. name_cmp k y ≡ Less) ks
above_all k first [] below all = tt
above_all k first (y ∷ ks) below all =
    (nat_list_cmp_total.trans k first y below all.0, above_all k first ks below all.1)

module _ {X : Type 0} where
  all_keys_insert : (P : Name → Type 0) (k : Name) (v : X) (es : List (Name × X))
      → AllByRecursion P (keys_of es) → P k → AllByRecursion P (keys_of (insert_entry name_cmp es k v))
  all_keys_insert P k v [] all here = (here, tt)
  all_keys_insert P k v (e ∷ es) all here = elim (three_ways (name_cmp k e.0)) [
    | inl less ↦ rw less (here, all)
    | inr (inl equal) ↦ rw equal all
    | inr (inr greater) ↦ rw greater (all.0, all_keys_insert P k v es all.1 here)
  ]

  -- an entry goes to its place
  insert_rises : (k : Name) (v : X) (es : List (Name × X)) → Rises es → Rises (insert_entry name_cmp es k v)
  unfolding IsStrictlySortedBy
  insert_rises k v [] rises = (tt, tt)
  insert_rises k v (e ∷ es) rises = elim (three_ways (name_cmp k e.0)) [
    | inl less ↦ rw less ((less, above_all k e.0 (keys_of es) less rises.0), rises)
    | inr (inl equal) ↦ rw equal rises
    | inr (inr greater) ↦ rw greater (
      all_keys_insert (λ y. name_cmp e.0 y ≡ Less) k v es rises.0 (above_is k e.0 greater),
      insert_rises k v es rises.1,
    )
  ]

  lookup_insert : (n k : Name) (v : X) (es : List (Name × X))
      → lookup (name_eq n) (insert_entry name_cmp es k v) ≡ cond (name_eq n k) (Some v) (lookup (name_eq n) es)
  lookup_insert n k v [] = refl
  lookup_insert n k v (e ∷ es) = grind (
    arith,
    three_ways (name_cmp k e.0),
    exact_bytes k e.0,
    same_name n e.0,
    texts_ties e.0 k,
    above_is k e.0,
    lookup_insert n k v es,
  )

  missed : (n : Name) (es : List (Name × X))
      → AllByRecursion (λ y. name_cmp n y ≡ Less) (keys_of es) → lookup (name_eq n) es ≡ None
  missed n [] all = refl
  missed n (e ∷ es) all = rw (texts_ties n e.0 ∙ ap is_eq all.0) (missed n es all.1)

  first_found : (e : Name × X) (es : List (Name × X)) → lookup (name_eq e.0) (e ∷ es) ≡ Some e.1
  first_found e es = rw (name_itself e.0) refl

  not_missed : (e : Name × X) (es others : List (Name × X))
      → AllByRecursion (λ y. name_cmp e.0 y ≡ Less) (keys_of others)
      → lookup (name_eq e.0) (e ∷ es) ≡ lookup (name_eq e.0) others → ⊥
  not_missed e es others below same = none_is_some e.1 (sym (missed e.0 others below) ∙ sym same ∙ first_found e es)

  -- two lists of names in order that find the same are one
  pub same_entries : (xs ys : List (Name × X)) → Rises xs → Rises ys
      → ((n : Name) → lookup (name_eq n) xs ≡ lookup (name_eq n) ys) → xs ≡ ys
  unfolding IsStrictlySortedBy
  same_entries [] [] up down same = refl
  same_entries [] (y ∷ ys) up down same = absurd (not_missed y ys [] tt (sym (same y.0)))
  same_entries (x ∷ xs) [] up down same = absurd (not_missed x xs [] tt (same x.0))
  same_entries (x ∷ xs) (y ∷ ys) up down same = elim (three_ways (name_cmp x.0 y.0)) [
    | inl less ↦ absurd (not_missed x xs (y ∷ ys) (less, above_all x.0 y.0 (keys_of ys) less down.0) (same x.0))
    | inr (inl equal) ↦ (
        let keys : x.0 ≡ y.0 = exact_bytes x.0 y.0 equal in
        let values : x.1 ≡ y.1 = some_is x.1 y.1 (sym (first_found x xs) ∙ same x.0
        ∙ ap (λ n. lookup (name_eq n) (y ∷ ys)) keys ∙ first_found y ys) in
        let tails = same_entries xs ys up.1 down.1 (λ n. elim (cases_Bool (name_eq n x.0)) [
          | inl here ↦ (let n_is = same_name n x.0 here in
              rw n_is (missed x.0 xs up.0 ∙ sym (rw keys (missed y.0 ys down.0))))
          | inr there ↦ rw (rw keys at there) at (rw keys at (same n))
        ]) in
        (λ i. (keys i, values i) ∷ tails i))
    | inr (inr greater) ↦ (
        let below = above_is x.0 y.0 greater in
        absurd (not_missed y ys (x ∷ xs) (below, above_all y.0 x.0 (keys_of xs) below up.0) (sym (same y.0))))
  ]

by_name_rises : (es : List (Name × Kind)) → Rises (by_name es)
unfolding IsStrictlySortedBy
by_name_rises [] = tt
by_name_rises (e ∷ es) = insert_rises e.0 e.1 (by_name es) (by_name_rises es)

-- names in a folder rise strictly
pub children_rise : (room : Room) (folder : Path) → Rises (children room folder)
children_rise room folder = by_name_rises (filter_map (child_in folder) room.objects)

lookup_by_name : (n : Name) (es : List (Name × Kind)) → lookup (name_eq n) (by_name es) ≡ lookup (name_eq n) es
lookup_by_name n [] = refl
lookup_by_name n (e ∷ es) =
    lookup_insert n e.0 e.1 (by_name es) ∙ ap (cond (name_eq n e.0) (Some e.1)) (lookup_by_name n es)

abbrev is_named : Name → Option Name → Bool
is_named n None = false
is_named n (Some m) = name_eq n m

at_child : (folder : Path) (n : Name) (path : Path) → path_eq (folder ++ n ∷ []) path ≡ is_named n (name_in folder path)
at_child [] n [] = refl
at_child [] n (m ∷ []) = and-true (name_eq n m)
at_child [] n (m ∷ other ∷ path) = and_right (name_eq n m) _ refl
at_child (a ∷ folder) n [] = refl
at_child (a ∷ folder) n (b ∷ path) = grind (arith, at_child folder n path)

abbrev kind_of_found : Option Object → Option Kind
kind_of_found o = option_map (λ (found : Object). found.kind) o

lookup_listed : (folder : Path) (n : Name) (es : List (Path × Object))
    → lookup (name_eq n) (filter_map (child_in folder) es) ≡ kind_of_found (lookup (path_eq (folder ++ n ∷ [])) es)
lookup_listed folder n [] = refl
lookup_listed folder n (e ∷ es) = grind (arith, at_child folder n e.0, lookup_listed folder n es)

-- a name in a folder stands for the object at the longer path, with its kind
pub kind_of_child : (room : Room) (folder : Path) (n : Name) →
    lookup (name_eq n) (children room folder) ≡ option_map (λ (o : Object). o.kind) (object_at room (folder ++ n ∷ []))
kind_of_child room folder n =
    lookup_by_name n (filter_map (child_in folder) room.objects) ∙ lookup_listed folder n room.objects

is_some_kind : (o : Option Object) → is_some (kind_of_found o) ≡ is_some o
is_some_kind o = grind arith

pub is_child : (room : Room) (folder : Path) (n : Name)
    → is_some (lookup (name_eq n) (children room folder)) ≡ is_some (object_at room (folder ++ n ∷ []))
is_child room folder n = ap is_some (kind_of_child room folder n) ∙ is_some_kind (object_at room (folder ++ n ∷ []))

pub keys_apart : {X : Type 0} (es : List (Name × X)) → Rises es → IsDistinct name_eq (keys_of es)
keys_apart es rises =
    let ties : name_eq ≡ eq_by_cmp name_cmp = (λ i a b. texts_ties a b i) in
    rw ties (IsDistinct-from_sorted name_cmp (keys_of es) rises)

-- names in order that are all among others are no more
pub no_more_names : {X Y : Type 0} (xs : List (Name × X)) (ys : List (Name × Y)) → Rises xs
    → ((n : Name) → IsSome (lookup (name_eq n) xs) → IsSome (lookup (name_eq n) ys)) → length xs ≤ length ys
no_more_names xs ys rises among =
    let few = length-le_from_keys nat_list_eq_equiv (keys_of xs) ys (keys_apart xs rises)
    (λ n there. among n (is_some-lookup (name_eq n) xs ∙ there)) in
    omega (arith, few, length-keys_of xs)

-- a folder whose names are all those of another has no more of them
pub no_more_children : (room later : Room) (folder other : Path)
    → ((n : Name) → IsSome (object_at later (folder ++ n ∷ [])) → IsSome (object_at room (other ++ n ∷ [])))
    → length (children later folder) ≤ length (children room other)
no_more_children room later folder other among =
    no_more_names (children later folder) (children room other) (children_rise later folder)
    (λ n there. is_child room other n ∙ among n (sym (is_child later folder n) ∙ there))

length_insert : {X : Type 0} (k : Name) (v : X) (es : List (Name × X))
    → length (insert_entry name_cmp es k v) ≤ length es + 1
length_insert k v [] = omega arith
length_insert k v (e ∷ es) = grind (arith, three_ways (name_cmp k e.0), length_insert k v es)

length_insert_new : {X : Type 0} (k : Name) (v : X) (es : List (Name × X))
    → lookup (name_eq k) es ≡ None → length (insert_entry name_cmp es k v) ≡ length es + 1
length_insert_new k v [] none = refl
length_insert_new k v (e ∷ es) none =
    grind (arith, three_ways (name_cmp k e.0), texts_ties k e.0, length_insert_new k v es)

-- what is found where one name more may be
found_with : (room : Room) (folder : Path) (n m : Name) (kind : Kind)
    → (n ≡ m) ⊎ IsSome (object_at room (folder ++ n ∷ []))
    → IsSome (lookup (name_eq n) (insert_entry name_cmp (children room folder) m kind))
found_with room folder n m kind found =
    grind (arith, lookup_insert n m kind (children room folder), name_itself m, is_child room folder n)

-- and one more, where one name is new
pub one_more_child : (room later : Room) (folder other : Path) (m : Name) (kind : Kind)
    → ((n : Name) → IsSome (object_at later (folder ++ n ∷ [])) → (n ≡ m) ⊎ IsSome (object_at room (other ++ n ∷ [])))
    → length (children later folder) ≤ length (children room other) + 1
one_more_child room later folder other m kind among =
    let few = no_more_names (children later folder) (insert_entry name_cmp (children room other) m kind)
    (children_rise later folder)
    (λ n there. found_with room other n m kind (among n (sym (is_child later folder n) ∙ there))) in
    omega (arith, few, length_insert m kind (children room other))

-- where one name came and another left, there are no more
pub one_exchanged_child : (room later : Room) (folder : Path) (m left : Name) (kind : Kind)
    → object_at later (folder ++ left ∷ []) ≡ None → IsSome (object_at room (folder ++ left ∷ []))
    → ((n : Name) → IsSome (object_at later (folder ++ n ∷ [])) → (n ≡ m) ⊎ IsSome (object_at room (folder ++ n ∷ [])))
    → length (children later folder) ≤ length (children room folder)
one_exchanged_child room later folder m left kind gone was among =
    let more = length_insert_new left kind (children later folder)
    (kind_of_child later folder left ∙ ap kind_of_found gone) in
    let few = no_more_names (insert_entry name_cmp (children later folder) left kind)
    (insert_entry name_cmp (children room folder) m kind)
    (insert_rises left kind (children later folder) (children_rise later folder))
    (λ n there. found_with room folder n m kind (elim (cases_Bool (name_eq n left)) [
      | inl here ↦ inr (rw (same_name n left here) was)
      | inr other ↦ among n (sym (is_child later folder n)
          ∙ rw (lookup_insert n left kind (children later folder), other) at there)
    ])) in
    omega (arith, more, few, length_insert m kind (children room folder))

-- an empty folder has nothing in it
pub nothing_in_empty : (room : Room) (folder : Path) → length (children room folder) ≡ 0
    → (n : Name) → object_at room (folder ++ n ∷ []) ≡ None
nothing_in_empty room folder empty n = none_if _ (λ o stands.
    none_is_some o.kind (rw (stands, nil_from_length _ empty) at (kind_of_child room folder n)))

kind_found : (o : Option Object) (kind : Kind) → kind_of_found o ≡ Some kind
    → (found : Object) × (o ≡ Some found) × (found.kind ≡ kind)
kind_found o kind h = grind arith

-- a name and a kind are listed exactly where an object of that kind is at the longer path
pub listed_is_there : (room : Room) (folder : Path) (n : Name) (kind : Kind) → Contains (children room folder) (n, kind)
    → (o : Object) × (object_at room (folder ++ n ∷ []) ≡ Some o) × (o.kind ≡ kind)
listed_is_there room folder n kind listed =
    kind_found (object_at room (folder ++ n ∷ [])) kind
    (sym (kind_of_child room folder n)
    ∙ lookup-from_Contains nat_list_eq_equiv n kind (children room folder)
    (keys_apart (children room folder) (children_rise room folder)) listed)

pub there_is_listed : (room : Room) (folder : Path) (n : Name) (kind : Kind) → (o : Object)
    × (object_at room (folder ++ n ∷ []) ≡ Some o) × (o.kind ≡ kind) → Contains (children room folder) (n, kind)
there_is_listed room folder n kind there =
    Contains-from_lookup same_name n kind (children room folder)
    (kind_of_child room folder n ∙ ap kind_of_found there.1 ∙ ap Some there.2)
