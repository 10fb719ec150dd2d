-- The users of a roster, one after another.
use Rattle.room_report.proofs.Common.{◌≡◌, ℕ, zero, suc, ◌+◌, ap, ◌∙◌, arith, List, [], ◌∷◌, ◌++◌, take, Some}
use Rattle.room_report.proofs.Common.{slice_get}

pub one_more : {X : Type 0} (xs : List X) (i m : ℕ) (x : X) → m ≡ i + 1
    → Some x ≡ slice_get xs i → take m xs ≡ take i xs ++ x ∷ []
one_more [] i m x next is = absurd cc
one_more (y ∷ xs) zero m x next is = let same : y ≡ x = cc in ap (λ k. take k (y ∷ xs)) next ∙ (λ j. same j ∷ [])
one_more (y ∷ xs) (suc i) zero x next is = absurd (omega (arith, next))
one_more (y ∷ xs) (suc i) (suc m) x next is = ap (λ more. y ∷ more) (one_more xs i m x (omega (arith, next)) is)
