-- What stands where after a subtree was moved.
use Rattle.room_commands.proofs.Common.{◌≡◌, refl, ap, sym, ◌∙◌, true, false, List, [], ◌∷◌, ◌++◌, map, drop, length}
use Rattle.room_commands.proofs.Common.{Some, inl, inr, cond, lookup, and_parts, and_cases, and_right, cases_Bool, Path}
use Rattle.room_commands.proofs.Common.{path_eq, name_eq, Object, name_itself, is_at_or_below, moved}

-- no object stands at or below a path
abbrev pub NoneBelow : Path → List (Path × Object) → Type 0
NoneBelow top [] = Unit {0}
NoneBelow top (e ∷ es) = (is_at_or_below e.0 top ≡ false) × NoneBelow top es

pub eq_behind : (front a b : Path) → path_eq (front ++ a) (front ++ b) ≡ path_eq a b
eq_behind [] a b = refl
eq_behind (name ∷ front) a b = rw (name_itself name) (eq_behind front a b)

-- a path behind a front is at or below it
pub at_behind : (front rest : Path) → is_at_or_below (front ++ rest) front ≡ true
at_behind [] rest = refl
at_behind (name ∷ front) rest = rw (name_itself name) (at_behind front rest)

-- at or below, another path is equal exactly where the rests are
pub eq_by_rest : (path rest k : Path) → is_at_or_below k path ≡ true
    → path_eq rest (drop (length path) k) ≡ path_eq (path ++ rest) k
eq_by_rest [] rest k below = refl
eq_by_rest (name ∷ path) rest [] below = let no : false ≡ true = below in cc
eq_by_rest (name ∷ path) rest (other ∷ k) below =
    let parts = and_parts (name_eq name other) (is_at_or_below k path) below in
    rw parts.0 (eq_by_rest path rest k parts.1)

pub eq_not_below : (path rest k : Path) → is_at_or_below k path ≡ false → path_eq (path ++ rest) k ≡ false
eq_not_below [] rest k below = let no : true ≡ false = below in cc
eq_not_below (name ∷ path) rest [] below = refl
eq_not_below (name ∷ path) rest (other ∷ k) below =
    elim (and_cases (name_eq name other) (is_at_or_below k path) below) [
      | inl apart ↦ rw apart refl
      | inr off ↦ and_right (name_eq name other) (path_eq (path ++ rest) k) (eq_not_below path rest k off)
    ]

one_moved : (path to rest k : Path) → is_at_or_below k to ≡ false
    → path_eq (to ++ rest) (moved path to k) ≡ path_eq (path ++ rest) k
one_moved path to rest k free = elim (cases_Bool (is_at_or_below k path)) [
  | inl below ↦ rw below (eq_behind to rest (drop (length path) k) ∙ eq_by_rest path rest k below)
  | inr off ↦ rw off (eq_not_below to rest k free ∙ sym (eq_not_below path rest k off))
]

-- below the new place stands what stood below the old one
pub lookup_moved : (path to rest : Path) (es : List (Path × Object)) → NoneBelow to es
    → lookup (path_eq (to ++ rest)) (map (λ (e : Path × Object). (moved path to e.0, e.1)) es)
    ≡ lookup (path_eq (path ++ rest)) es
lookup_moved path to rest [] free = refl
lookup_moved path to rest (e ∷ es) free =
    ap (λ b. cond b (Some e.1) (lookup (path_eq (to ++ rest))
    (map (λ (f : Path × Object). (moved path to f.0, f.1)) es))) (one_moved path to rest e.0 free.0)
    ∙ ap (cond (path_eq (path ++ rest) e.0) (Some e.1)) (lookup_moved path to rest es free.1)
