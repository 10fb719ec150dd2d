-- Facts on lists.
use Rattle.room_records.proofs.Common.{ℕ, ◌<◌, refl, List, [], ◌∷◌, ◌++◌, length, get_or, suc, zero, arith}
use Rattle.room_records.proofs.Common.{AllByRecursion}
use Rattle.std.specs.List.{Contains}

pub all_at : {X : Type 0} (P : X → Type 0) (xs : List X) (i : ℕ) (d : X)
    → AllByRecursion P xs → i < length xs → P (get_or xs i d)
all_at P [] i d all below = absurd (omega arith)
all_at P (x ∷ xs) zero d all below = all.0
all_at P (x ∷ xs) (suc i) d all below = all_at P xs i d all.1 (omega arith)

pub all_append : {X : Type 0} (P : X → Type 0) (xs ys : List X)
    → AllByRecursion P xs → AllByRecursion P ys → AllByRecursion P (xs ++ ys)
all_append P [] ys all more = more
all_append P (x ∷ xs) ys all more = (all.0, all_append P xs ys all.1 more)

pub contains_later : {X : Type 0} (xs : List X) (x y : X) → Contains xs x → Contains (y ∷ xs) x
contains_later xs x y (k, below, is) = (suc k, omega (arith, below), is)

pub contains_first : {X : Type 0} (xs : List X) (x : X) → Contains (x ∷ xs) x
contains_first xs x = (zero, omega arith, refl)
