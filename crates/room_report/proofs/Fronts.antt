-- Fronts of paths, and the order of paths.
use Rattle.room_report.proofs.Common.{◌≡◌, refl, ap, sym, ◌∙◌, true, false, [], ◌∷◌, ◌++◌, append_assoc, inl, inr, Less}
use Rattle.room_report.proofs.Common.{Equal, Greater, cases_Bool, Name, Path, name_cmp, name_eq, path_cmp, is_front}
use Rattle.std.specs.Cmp.{IsTotalOrder, tied_itself}
use Rattle.std.specs.Cmp.Lexicographic.{texts_ties, lists_ties}
use Rattle.std.specs.Ordering.{ordering_reverse, is_eq}
use Rattle.std.proofs.lemmas.Cmp.{nat_list_cmp_total, lists_total}
use Rattle.room_records.proofs.RoomsChildren.{name_itself, same_name}
use Rattle.room_records.proofs.RoomsMap.{same_path}

pub path_total : IsTotalOrder path_cmp
path_total = lists_total nat_list_cmp_total

-- paths that compare as equal are one
pub exact_paths : (a b : Path) → path_cmp a b ≡ Equal → a ≡ b
exact_paths a b same = same_path a b (lists_ties name_cmp texts_ties a b ∙ ap is_eq same)

pub one_way : (a b : Path) → path_cmp a b ≡ Less → path_cmp b a ≡ Less → ⊥
one_way a b less more = let f : Less ≡ Greater = sym less ∙ path_total.antisymm a b ∙ ap ordering_reverse more in cc

pub front_of : (front rest : Path) → is_front front (front ++ rest) ≡ true
front_of [] rest = refl
front_of (a ∷ front) rest = rw (name_itself a) (front_of front rest)

pub front_itself : (path : Path) → is_front path path ≡ true
front_itself [] = refl
front_itself (name ∷ path) = rw (name_itself name) (front_itself path)

-- a path that begins with these names is these names and more
pub front_split : (front path : Path) → is_front front path ≡ true → (rest : Path) × (path ≡ front ++ rest)
front_split [] path is = (path, refl)
front_split (a ∷ front) [] is = absurd cc
front_split (a ∷ front) (b ∷ path) is = elim (cases_Bool (name_eq a b)) [
  | inl same ↦ (
      let found = front_split front path (rw same at is) in
      let first : b ≡ a = sym (same_name a b same) in
      (found.0, λ i. first i ∷ found.1 i))
  | inr other ↦ absurd (let no : false ≡ true = rw other at is in cc)
]

-- a longer front of a path has a shorter one
pub front_above : (front : Path) (name : Name) (path : Path)
    → is_front (front ++ name ∷ []) path ≡ true → is_front front path ≡ true
front_above front name path is =
    let found = front_split (front ++ name ∷ []) path is in
    ap (is_front front) (found.1 ∙ append_assoc front (name ∷ []) found.0) ∙ front_of front (name ∷ found.0)

-- a folder stands before what is in it
pub folder_first : (front : Path) (name : Name) (rest : Path) → path_cmp front (front ++ name ∷ rest) ≡ Less
folder_first [] name rest = refl
folder_first (a ∷ front) name rest = rw (tied_itself nat_list_cmp_total a) (folder_first front name rest)

-- and what is below one name before what is below the next
pub names_apart : (front : Path) (a b : Name) (x y : Path)
    → name_cmp a b ≡ Less → path_cmp (front ++ a ∷ x) (front ++ b ∷ y) ≡ Less
names_apart [] a b x y less = rw less refl
names_apart (n ∷ front) a b x y less = rw (tied_itself nat_list_cmp_total n) (names_apart front a b x y less)

-- so for all that is below them
pub fronts_apart : (front : Path) (a b : Name) (x y : Path) → name_cmp a b ≡ Less
    → is_front (front ++ a ∷ []) x ≡ true → is_front (front ++ b ∷ []) y ≡ true
    → path_cmp x y ≡ Less
fronts_apart front a b x y less in_a in_b =
    let left = front_split (front ++ a ∷ []) x in_a in
    let right = front_split (front ++ b ∷ []) y in_b in
    let xs : x ≡ front ++ a ∷ left.0 = left.1 ∙ append_assoc front (a ∷ []) left.0 in
    let ys : y ≡ front ++ b ∷ right.0 = right.1 ∙ append_assoc front (b ∷ []) right.0 in
    (λ i. path_cmp (xs i) (ys i)) ∙ names_apart front a b left.0 right.0 less

pub below_folder : (front : Path) (name : Name) (path : Path)
    → is_front (front ++ name ∷ []) path ≡ true → path_cmp front path ≡ Less
below_folder front name path is =
    let found = front_split (front ++ name ∷ []) path is in
    ap (path_cmp front) (found.1 ∙ append_assoc front (name ∷ []) found.0) ∙ folder_first front name found.0
