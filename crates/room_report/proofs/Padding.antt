-- Spaces, one after another.
use Rattle.room_report.proofs.Common.{◌≡◌, ℕ, zero, suc, ◌+◌, ap, arith, List, [], ◌∷◌, ◌++◌, replicate}

pub spaces_more : (n m : ℕ) → m ≡ n + 1 → replicate {A = ℕ} m 32 ≡ replicate {A = ℕ} n 32 ++ 32 ∷ []
spaces_more zero m is = ap (λ (k : ℕ). replicate {A = ℕ} k 32) is
spaces_more (suc n) zero is = absurd (omega (arith, is))
spaces_more (suc n) (suc m) is = ap (λ (xs : List ℕ). 32 ∷ xs) (spaces_more n m (omega (arith, is)))
