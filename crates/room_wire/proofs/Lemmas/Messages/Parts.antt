-- The parts between commas.
use Rattle.room_wire.proofs.Common.{◌≡◌, ◌<◌, ℕ, ◌+◌, Bool, true, false, ◌||◌, ◌==◌, List, [], ◌∷◌, ◌++◌, length, take}
use Rattle.room_wire.proofs.Common.{drop, get_or, refl, sym, ap, ◌∙◌, arith, None, Some, cond, nat_lt, subst, ◌≤◌}
use Rattle.room_wire.proofs.Common.{take-append-drop, drop_more, length-take-le, get_or-take, or-false, All, position}
use Rattle.room_wire.proofs.Common.{position_or_len, onto_first, slice_split, list_any, nat_tests, is_close}
use Rattle.room_wire.proofs.Common.{lists_close}
use Rattle.std.proofs.lemmas.List.Quantifiers.{position-Some}
use Rattle.std.proofs.lemmas.List.Elements.{All-from_get_or}
use Rattle.std.proofs.lemmas.List.Splits.{slice_split_at}

-- the parts, where the first comma is here
pub parts_at : (xs : List ℕ) (i : ℕ) → position (λ b. b == 44) xs ≡ Some i
    → slice_split (λ b. b == 44) xs ≡ take i xs ∷ slice_split (λ b. b == 44) (drop (i + 1) xs)
parts_at xs i e =
    let p = λ (b : ℕ). b == 44 in
    let found = position-Some p xs i 0 e in
    let size = length-take-le i xs (omega (arith, found.0)) in
    let before : All (λ x. p x ≡ false) (take i xs) =
    All-from_get_or (λ x. p x ≡ false) (take i xs) 0 (λ k h. let inside : k < i = omega arith in
    subst (λ y. p y ≡ false) (sym (get_or-take i xs k 0 inside)) (found.2 k inside)) in
    let whole : xs ≡ take i xs ++ get_or xs i 0 ∷ drop (i + 1) xs =
    sym (take-append-drop i xs) ∙ ap (λ t. take i xs ++ t) (drop_more xs i 0 found.0) in
    ap (slice_split p) whole ∙ slice_split_at p (take i xs) (get_or xs i 0) (drop (i + 1) xs) before found.1

pub close_at : (xs : List ℕ) (i : ℕ) → position (λ b. b == 44) xs ≡ Some i
    → lists_close xs ≡ (is_close (take i xs) || lists_close (drop (i + 1) xs))
close_at xs i e = ap (list_any is_close) (parts_at xs i e)

none_split : (p : ℕ → Bool) (xs : List ℕ) → length xs ≤ position_or_len p xs → slice_split p xs ≡ xs ∷ []
none_split p [] h = refl
none_split p (x ∷ xs) h = go (p x) refl (λ k. none_split p xs k)
  where
    go : (b : Bool) → p x ≡ b → (length xs ≤ position_or_len p xs → slice_split p xs ≡ xs ∷ [])
        → slice_split p (x ∷ xs) ≡ (x ∷ xs) ∷ []
    go true e next = let k = rw e at h in absurd (omega arith)
    go false e next = let k = rw e at h in rw e (ap (onto_first x) (next (omega arith)))

none_fits : (n k : ℕ) → cond (nat_lt n k) (Some n) None ≡ None → k ≤ n
none_fits n k e = grind (arith, nat_tests)

pub close_none : (xs : List ℕ) → position (λ b. b == 44) xs ≡ None → lists_close xs ≡ is_close xs
close_none xs e =
    ap (list_any is_close) (none_split (λ b. b == 44) xs (none_fits _ _ e)) ∙ or-false (is_close xs)
