-- Users in name order.
use Rattle.room_records.proofs.Common.{◌≡◌, ℕ, ◌+◌, ◌<◌, ◌≤◌, refl, ap, sym, ◌∙◌, true, false, inl, inr, List, [], ◌∷◌}
use Rattle.room_records.proofs.Common.{◌++◌, length, get_or, None, Some, Ok, Err, arith, AllByRecursion, insert}
use Rattle.room_records.proofs.Common.{slice_get, ordering_reverse, is_eq, Ordering, Less, Equal, Greater, bytes_eq}
use Rattle.room_records.proofs.Common.{and_right, le-leb, lt-ltb, nat_list_cmp_total, get_or_from_slice_get}
use Rattle.room_records.proofs.Common.{SubjectModel, max_users, max_groups, Name, name_cmp}
use Rattle.std.proofs.lemmas.Map.Text.{is_eq-slice_cmp}
use Rattle.room_records.specs.Roster.{AreInNameOrder, IsRoster, user_named, groups_of, may_join, with_user, AreBefore}
use Rattle.room_records.specs.Roster.{StartsBehind, IsIndexOf}
use Rattle.room_records.proofs.Keys.{above_is, three_ways}

pub greater_back : (a b : Name) → name_cmp a b ≡ Less → name_cmp b a ≡ Greater
greater_back a b h = nat_list_cmp_total.antisymm b a ∙ ap ordering_reverse h

-- what the order says of the test
tested : (a b : Name) (o : Ordering) → name_cmp a b ≡ o → bytes_eq b a ≡ is_eq (ordering_reverse o)
tested a b o h = sym (is_eq-slice_cmp b a) ∙ ap is_eq (nat_list_cmp_total.antisymm b a ∙ ap ordering_reverse h)

named_behind : (name : Name) (front back : List SubjectModel)
    → AreBefore name front → user_named (front ++ back) name ≡ user_named back name
named_behind name [] back before = refl
named_behind name (user ∷ front) back before =
    rw (tested name user.name Greater before.0) (named_behind name front back before.1)

pub present : (users : List SubjectModel) (name : Name) (place : ℕ) → IsIndexOf users name (Ok place)
    → (user : SubjectModel) × (user_named users name ≡ Some user) × (slice_get users place ≡ Some user)
present users name place (front, user, back, are, at, before, equal) = (
  user,
  rw (are, named_behind name front (user ∷ back) before, tested name user.name Equal equal) refl,
  rw (are, ← at) (get_front front),
)
  where
    get_front : (xs : List SubjectModel) → slice_get (xs ++ user ∷ back) (length xs) ≡ Some user
    get_front [] = refl
    get_front (x ∷ xs) = get_front xs

-- the groups of the user that was read at the place
pub groups_read : (users : List SubjectModel) (name : Name) (place : ℕ) → IsIndexOf users name (Ok place)
    → (read : SubjectModel) → read ≡ get_or users place read → Some read.groups ≡ groups_of users name
groups_read users name place index read is =
    let found = present users name place index in
    rw (found.1, is ∙ get_or_from_slice_get users place found.0 read found.2) refl

order_behind : (front back : List SubjectModel) → AreInNameOrder (front ++ back) → AreInNameOrder back
order_behind [] back order = order
order_behind (a ∷ []) [] order = tt
order_behind (a ∷ []) (b ∷ back) order = order.1
order_behind (a ∷ b ∷ front) back order = order_behind (b ∷ front) back order.1

none_behind : (name : Name) (back : List SubjectModel) → AreInNameOrder back
    → StartsBehind name back → user_named back name ≡ None
none_behind name [] order starts = refl
none_behind name (a ∷ []) order starts = rw (tested name a.name Less starts) refl
none_behind name (a ∷ b ∷ back) order starts = rw (tested name a.name Less starts)
    (none_behind name (b ∷ back) order.1 (nat_list_cmp_total.trans name a.name b.name starts order.0))

pub absent : (users : List SubjectModel) (name : Name) (place : ℕ) → AreInNameOrder users
    → IsIndexOf users name (Err place) → user_named users name ≡ None
absent users name place order (front, back, are, at, before, starts) =
    rw (are, named_behind name front back before)
    (none_behind name back (order_behind front back (rw are at order)) starts)

put_behind : (user : SubjectModel) (front back : List SubjectModel) → AreBefore user.name front
    → StartsBehind user.name back → with_user (front ++ back) user ≡ front ++ user ∷ back
put_behind user [] [] before starts = refl
put_behind user [] (other ∷ back) before starts = rw starts refl
put_behind user (other ∷ front) back before starts =
    rw before.0 (ap (λ us. other ∷ us) (put_behind user front back before.1 starts))

pub inserted : (users : List SubjectModel) (user : SubjectModel) (place : ℕ)
    → IsIndexOf users user.name (Err place) → insert users place user ≡ with_user users user
inserted users user place (front, back, are, at, before, starts) =
    rw (are, ← at) (seam front ∙ sym (put_behind user front back before starts))
  where
    seam : (xs : List SubjectModel) → insert (xs ++ back) (length xs) user ≡ xs ++ user ∷ back
    seam [] = refl
    seam (x ∷ xs) = ap (λ ys. x ∷ ys) (seam xs)

head_less : (other user : SubjectModel) (users : List SubjectModel)
    → AreInNameOrder (other ∷ users) → name_cmp user.name other.name ≡ Greater
    → AreInNameOrder (with_user users user) → AreInNameOrder (other ∷ with_user users user)
head_less other user [] order greater more = (above_is user.name other.name greater, tt)
head_less other user (next ∷ users) order greater more = elim (three_ways (name_cmp user.name next.name)) [
  | inl less ↦ rw less (above_is user.name other.name greater, rw less at more)
  | inr (inl equal) ↦ rw equal (order.0, rw equal at more)
  | inr (inr above) ↦ rw above (order.0, rw above at more)
]

order_with : (users : List SubjectModel) (user : SubjectModel)
    → AreInNameOrder users → AreInNameOrder (with_user users user)
order_with [] user order = tt
order_with (other ∷ users) user order = elim (three_ways (name_cmp user.name other.name)) [
  | inl less ↦ rw less (less, order)
  | inr (inl equal) ↦ rw equal order
  | inr (inr above) ↦ rw above (head_less other user users order above
      (order_with users user (order_behind (other ∷ []) users order)))
]

length_with : (users : List SubjectModel) (user : SubjectModel) → length (with_user users user) ≤ length users + 1
length_with [] user = omega arith
length_with (other ∷ users) user = grind (arith, three_ways (name_cmp user.name other.name), length_with users user)

all_with : (P : SubjectModel → Type 0) (users : List SubjectModel) (user : SubjectModel)
    → AllByRecursion P users → P user → AllByRecursion P (with_user users user)
all_with P [] user all here = (here, tt)
all_with P (other ∷ users) user all here = elim (three_ways (name_cmp user.name other.name)) [
  | inl less ↦ rw less (here, all)
  | inr (inl equal) ↦ rw equal all
  | inr (inr above) ↦ rw above (all.0, all_with P users user all.1 here)
]

pub roster_with : (users : List SubjectModel) (user : SubjectModel) → IsRoster users
    → length users < max_users → length user.groups ≤ max_groups → IsRoster (with_user users user)
roster_with users user roster few few_groups = record {
  in_order = order_with users user roster.in_order;
  few = omega (arith, length_with users user);
  few_groups = all_with (λ (u : SubjectModel). length u.groups ≤ max_groups) users user roster.few_groups few_groups;
}

pub joins : (users : List SubjectModel) (name : Name) (groups : List (List ℕ)) → length groups ≤ max_groups
    → length users < max_users → user_named users name ≡ None → true ≡ may_join users name groups
joins users name groups few_groups few none =
    rw (le-leb (length groups) max_groups few_groups, lt-ltb (length users) max_users few, none) refl

pub joins_not : (users : List SubjectModel) (name : Name) (groups : List (List ℕ)) (user : SubjectModel)
    → user_named users name ≡ Some user → false ≡ may_join users name groups
joins_not users name groups user some = rw some (sym (and_right _ _ (and_right _ _ refl)))
