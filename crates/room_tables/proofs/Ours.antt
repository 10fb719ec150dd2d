-- Tables of ours behind others.
use Rattle.room_tables.proofs.Common.{◌≡◌, ◌≢◌, ◌+◌, ◌||◌, ℕ, zero, suc, Bool, true, false, cond, is_some}
use Rattle.room_tables.proofs.Common.{List, [], ◌∷◌, ◌++◌, slice_get, Option, None, Some, inl, inr, refl, sym, ap}
use Rattle.room_tables.proofs.Common.{subst, ◌∙◌, option_and_then, eq-eqb, codes, arith, cases_Bool, ne_eqb}
use Rattle.room_tables.proofs.Common.{AllByRecursion, position_from, list_any, find, Has, all_has, same_name, Trees}
use Rattle.room_tables.proofs.Common.{Row, Database, sequence, Schema, Table, IsApart, IsBeside, HasItsSequence}
use Rattle.room_tables.proofs.Common.{all-append, AreOurs, with_rows}
use Rattle.std.proofs.Math.Bool.{and-false}
use Rattle.std.proofs.lemmas.Bool.{not-false}
use Rattle.std.proofs.lemmas.List.Folds.{find-append}

-- ---- lists

pub all_push : {X : Type 0} (P : X → Type 0) (xs : List X) (x : X) → AllByRecursion P xs → P x
    → AllByRecursion P (xs ++ x ∷ [])
all_push P xs x all h = all-append P xs (x ∷ []) all (h, tt)

pub parted : {X : Type 0} (P : X → Type 0) (xs ys : List X) → AllByRecursion P (xs ++ ys)
    → AllByRecursion P xs × AllByRecursion P ys
parted P [] ys all = (tt, all)
parted P (x ∷ xs) ys all = let more = parted P xs ys all.1 in ((all.0, more.0), more.1)

-- the element at the place that was found is the first that passes
pub located : {X : Type 0} (p : X → Bool) (xs : List X) (from place : ℕ) → position_from p from xs ≡ Some place
    → (k : ℕ) × (place ≡ from + k) × ((x : X) → slice_get xs k ≡ Some x → (p x ≡ true) × (find p xs ≡ Some x))
located p [] from place h = absurd cc
located {X = X} p (y ∷ xs) from place h = go (p y) refl h (located p xs (from + 1) place)
  where
    go : (b : Bool) → p y ≡ b → cond b (Some from) (position_from p (from + 1) xs) ≡ Some place
        → (position_from p (from + 1) xs ≡ Some place → (k : ℕ) × (place ≡ from + 1 + k)
        × ((x : X) → slice_get xs k ≡ Some x → (p x ≡ true) × (find p xs ≡ Some x)))
        → (k : ℕ) × (place ≡ from + k)
        × ((x : X) → slice_get (y ∷ xs) k ≡ Some x → (p x ≡ true) × (find p (y ∷ xs) ≡ Some x))
    go true is here later = let same : from ≡ place = cc in (
      0,
      omega (arith, same),
      λ x got. let one : y ≡ x = cc in (subst (λ z. p z ≡ true) one is, rw is (ap (λ z. Some z) one)),
    )
    go false is here later =
        let r = later here in (suc r.0, omega (arith, r.1), λ x got. let it = r.2 x got in (it.0, rw is it.1))

none_found : {X : Type 0} (p : X → Bool) (xs : List X) (from : ℕ) → position_from p from xs ≡ None → find p xs ≡ None
none_found p [] from none = refl
none_found p (x ∷ xs) from none = elim (cases_Bool (p x)) [
  | inl met ↦ absurd (let e = rw met at none in cc)
  | inr not_met ↦ rw not_met (none_found p xs (from + 1) (rw not_met at none))
]

-- which is behind those where none passes
pub found_behind : {X : Type 0} (p : X → Bool) (xs ys : List X) (x : X) → position_from p 0 xs ≡ None
    → find p (xs ++ ys) ≡ Some x → find p ys ≡ Some x
found_behind p xs ys x none h =
    let both = sym (find-append p xs ys) ∙ h in rw (none_found p xs 0 none) at both

-- ---- no table of ours has AUTOINCREMENT

any_front : {X : Type 0} (p : X → Bool) (xs ys : List X) → AllByRecursion (λ y. p y ≡ false) ys
    → list_any p (xs ++ ys) ≡ list_any p xs
any_front p [] [] none = refl
any_front p [] (y ∷ ys) none = rw none.0 (any_front p [] ys none.1)
any_front p (x ∷ xs) ys none = ap (λ b. p x || b) (any_front p xs ys none)

place_front : {X : Type 0} (p : X → Bool) (xs ys : List X) (from place : ℕ)
    → position_from p from xs ≡ Some place → position_from p from (xs ++ ys) ≡ Some place
place_front p [] ys from place h = absurd cc
place_front p (x ∷ xs) ys from place h = elim (cases_Bool (p x)) [
  | inl met ↦ rw met (rw met at h)
  | inr not_met ↦ rw not_met (place_front p xs ys (from + 1) place (rw not_met at h))
]

got_front : {X : Type 0} (xs ys : List X) (k : ℕ) → is_some (slice_get xs k) ≡ true
    → is_some (slice_get (xs ++ ys) k) ≡ true
got_front [] ys k h = absurd cc
got_front (x ∷ xs) ys zero h = refl
got_front (x ∷ xs) ys (suc k) h = got_front xs ys k h

sequence_front : (before after : Schema) (tables : List Table) → after.tables ≡ before.tables ++ tables
    → is_some (sequence before) ≡ true → is_some (sequence after) ≡ true
sequence_front before after tables is has = go (position_from named 0 before.tables) refl has
  where
    named : Table → Bool
    named t = same_name t.name (codes "sqlite_sequence")

    go : (at : Option ℕ) → position_from named 0 before.tables ≡ at
        → is_some (option_and_then (slice_get before.tables) at) ≡ true → is_some (sequence after) ≡ true
    go None at h = absurd cc
    go (Some k) at h =
        rw (is, place_front named before.tables tables 0 k at) (got_front before.tables tables k h)

pub still_whole : (ours : List Table) (held : Trees) (before after : Database) → IsBeside ours held before after
    → HasItsSequence before.schema → HasItsSequence after.schema
still_whole ours held before after was whole = elim (cases_Bool had) [
  | inl some ↦
      let has : is_some (sequence before.schema) ≡ true = not-false _ (rw some at whole) in
      rw (sequence_front before.schema after.schema was.tables was.tables_are has) (and-false _)
  | inr none ↦ rw (counted ∙ none) refl
]
  where
    had : Bool
    had = list_any (λ (t : Table). t.is_counted) before.schema.tables

    uncounted : (tables : List Table) → AllByRecursion (IsApart before.schema.tables) tables
        → AllByRecursion (λ (t : Table). t.is_counted ≡ false) tables
    uncounted [] all = tt
    uncounted (t ∷ tables) all = (all.0.uncounted, uncounted tables all.1)

    counted : list_any (λ (t : Table). t.is_counted) after.schema.tables ≡ had
    counted = ap (list_any (λ (t : Table). t.is_counted)) was.tables_are
        ∙ any_front (λ (t : Table). t.is_counted) before.schema.tables was.tables (uncounted was.tables was.apart)

-- ---- ours

-- one more, which has no row
pub ours_push : (ours : List Table) (o : Table) (held trees next : Trees) (tables : List Table) (t : Table)
    → AreOurs ours held trees tables → AllByRecursion (λ (u : Table). next u.tree ≡ trees u.tree) tables
    → t ≡ record o { tree = t.tree } → next t.tree ≡ held o.tree
    → AllByRecursion (λ (u : Table). t.tree ≢ u.tree) tables
    → AreOurs (ours ++ o ∷ []) held next (tables ++ t ∷ [])
ours_push [] o held trees next [] t are same is rows apart = (is, rows, tt, tt)
ours_push (w ∷ ours) o held trees next (u ∷ tables) t are same is rows apart = (
  are.0,
  same.0 ∙ are.1,
  all_push (λ (other : Table). other.tree ≢ u.tree) tables t are.2 apart.0,
  ours_push ours o held trees next tables t are.3 same.1 is rows apart.1,
)
ours_push [] o held trees next (u ∷ tables) t are same is rows apart = absurd are
ours_push (w ∷ ours) o held trees next [] t are same is rows apart = absurd are

-- the trees that ours name differ
abbrev pub AreDistinct : List Table → Type 0
AreDistinct [] = Unit {0}
AreDistinct (o ∷ ours) = AllByRecursion (λ (other : Table). other.tree ≢ o.tree) ours × AreDistinct ours

kept_at : (tree : ℕ) (rows : List Row) (held : Trees) (n : ℕ) → n ≢ tree → with_rows tree rows held n ≡ held n
kept_at tree rows held n apart = rw (ne_eqb n tree apart) refl

others_kept : (tree : ℕ) (rows : List Row) (ours : List Table) (held trees next : Trees) (tables : List Table)
    → AreOurs ours held trees tables → AllByRecursion (λ (u : Table). next u.tree ≡ trees u.tree) tables
    → AllByRecursion (λ (w : Table). w.tree ≢ tree) ours → AreOurs ours (with_rows tree rows held) next tables
others_kept tree rows [] held trees next [] are same apart = tt
others_kept tree rows (w ∷ ours) held trees next (u ∷ tables) are same apart = (
  are.0,
  same.0 ∙ are.1 ∙ sym (kept_at tree rows held w.tree apart.0),
  are.2,
  others_kept tree rows ours held trees next tables are.3 same.1 apart.1,
)
others_kept tree rows [] held trees next (u ∷ tables) are same apart = absurd are
others_kept tree rows (w ∷ ours) held trees next [] are same apart = absurd are

-- the table that a name finds among ours is that one of ours which alone has the name; and then it has other rows
pub record Refilled (ours : List Table) (held trees : Trees) (tables : List Table) (o t : Table) : Type 0 where
  pub wanted : Has ours o
  pub there : Has tables t
  pub is : t ≡ record o { tree = t.tree }
  pub had : trees t.tree ≡ held o.tree
  pub after : (next : Trees) (rows : List Row) → next t.tree ≡ rows
      → AllByRecursion (λ (u : Table). u.tree ≢ t.tree → next u.tree ≡ trees u.tree) tables
      → AreOurs ours (with_rows o.tree rows held) next tables

apart_from : (tables : List Table) (tree : ℕ) (trees next : Trees)
    → AllByRecursion (λ (u : Table). u.tree ≢ tree) tables
    → AllByRecursion (λ (u : Table). u.tree ≢ tree → next u.tree ≡ trees u.tree) tables
    → AllByRecursion (λ (u : Table). next u.tree ≡ trees u.tree) tables
apart_from [] tree trees next apart same = tt
apart_from (u ∷ tables) tree trees next apart same =
    (same.0 apart.0, apart_from tables tree trees next apart.1 same.1)

pub refilled : (name : List ℕ) (o : Table) (ours : List Table) (held trees : Trees) (tables : List Table) (t : Table)
    → AllByRecursion (λ (w : Table). same_name w.name name ≡ true → w ≡ o) ours → AreDistinct ours
    → AreOurs ours held trees tables → find (λ (u : Table). same_name u.name name) tables ≡ Some t
    → Refilled ours held trees tables o t
refilled name o [] held trees [] t named distinct are h = absurd cc
refilled name o [] held trees (u ∷ tables) t named distinct are h = absurd are
refilled name o (w ∷ ours) held trees [] t named distinct are h = absurd are
refilled name o (w ∷ ours) held trees (u ∷ tables) t named distinct are h =
    go (refilled name o ours held trees tables t named.1 distinct.1 are.3) (same_name u.name name) refl h
  where
    first : same_name u.name name ≡ true → u ≡ t → Refilled (w ∷ ours) held trees (u ∷ tables) o t
    first met here =
        let mine : w ≡ o = named.0 (ap (λ (x : Table). same_name x.name name) (sym are.0) ∙ met) in
        let tree : t.tree ≡ u.tree = ap (λ (x : Table). x.tree) (sym here) in
        record {
          wanted = inl (sym mine);
          there = inl (sym here);
          is = subst (λ (x : Table). x ≡ record o { tree = x.tree }) here
              (are.0 ∙ ap (λ (x : Table). record x { tree = u.tree }) mine);
          had = ap trees tree ∙ are.1 ∙ ap (λ (x : Table). held x.tree) mine;
          after = λ next rows is same. (
            are.0,
            ap next (sym tree) ∙ is ∙ sym (ap (λ b. cond b rows (held w.tree))
                (eq-eqb w.tree o.tree (ap (λ (x : Table). x.tree) mine))),
            are.2,
            others_kept o.tree rows ours held trees next tables are.3
                (apart_from tables t.tree trees next (subst (λ n. AllByRecursion (λ (x : Table). x.tree ≢ n) tables)
                (sym tree) are.2) same.1)
                (subst (λ (x : Table). AllByRecursion (λ (y : Table). y.tree ≢ x.tree) ours) mine distinct.0),
          );
        }

    later : Refilled ours held trees tables o t → Refilled (w ∷ ours) held trees (u ∷ tables) o t
    later it = record {
      wanted = inr it.wanted;
      there = inr it.there;
      is = it.is;
      had = it.had;
      after = λ next rows is same. (
        are.0,
        same.0 (λ e. all_has (λ (x : Table). x.tree ≢ u.tree) tables t are.2 it.there (sym e)) ∙ are.1
            ∙ sym (kept_at o.tree rows held w.tree
            (λ e. all_has (λ (x : Table). x.tree ≢ w.tree) ours o distinct.0 it.wanted (sym e))),
        are.2,
        it.after next rows is same.1,
      );
    }

    go : (find (λ (x : Table). same_name x.name name) tables ≡ Some t → Refilled ours held trees tables o t)
        → (b : Bool) → same_name u.name name ≡ b
        → cond b (Some u) (find (λ (x : Table). same_name x.name name) tables) ≡ Some t
        → Refilled (w ∷ ours) held trees (u ∷ tables) o t
    go rest true mine here = first mine (let e = here in cc)
    go rest false other behind = later (rest behind)
