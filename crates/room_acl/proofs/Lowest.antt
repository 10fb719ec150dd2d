-- The first of rising numbers that passes a test is the lowest that does.
use Rattle.room_acl.proofs.Common.{◌≡◌, ℕ, ◌+◌, ◌<◌, ◌≤◌, ap, sym, ◌∙◌, arith, Bool, true, false, List, [], ◌∷◌, Some}
use Rattle.room_acl.proofs.Common.{None, inl, inr, ◌⊎◌, ◌&&◌, ◌||◌, ◌==◌, nat_le, find, list_any, and_parts, leb-true}
use Rattle.room_acl.proofs.Common.{cases_Bool, cases_eq, ne_eqb}

-- the numbers rise, from low on
abbrev pub is_rising : ℕ → List ℕ → Bool
is_rising low [] = true
is_rising low (x ∷ xs) = nat_le low x && is_rising (x + 1) xs

abbrev pub is_in : List ℕ → ℕ → Bool
is_in xs n = list_any (λ x. x == n) xs

among_cases : (x n : ℕ) (xs : List ℕ) → is_in (x ∷ xs) n ≡ true → (x ≡ n) ⊎ (is_in xs n ≡ true)
among_cases x n xs among =
    elim (cases_eq x n)
    [ inl same ↦ inl same | inr other ↦ inr (ap (λ b. b || is_in xs n) (sym (ne_eqb x n other)) ∙ among) ]

pub found_passes : (test : ℕ → Bool) (xs : List ℕ) (k : ℕ) → find test xs ≡ Some k → test k ≡ true
found_passes test [] k found = let no : None ≡ Some k = found in cc
found_passes test (x ∷ xs) k found = elim (cases_Bool (test x)) [
  | inl passes ↦ (
      let here : Some x ≡ Some k = rw passes at found in
      let same : x ≡ k = cc in
      rw (← same) passes)
  | inr fails ↦ found_passes test xs k (rw fails at found)
]

pub none_passes : (test : ℕ → Bool) (xs : List ℕ) (n : ℕ) → find test xs ≡ None → is_in xs n ≡ true → test n ≡ false
none_passes test [] n found among = let no : false ≡ true = among in cc
none_passes test (x ∷ xs) n found among = elim (cases_Bool (test x)) [
  | inl passes ↦ (let no : Some x ≡ None = rw passes at found in cc)
  | inr fails ↦ elim (among_cases x n xs among)
      [ inl same ↦ rw (← same) fails | inr later ↦ none_passes test xs n (rw fails at found) later ]
]

pub in_rising : (low : ℕ) (xs : List ℕ) (n : ℕ) → is_rising low xs ≡ true → is_in xs n ≡ true → low ≤ n
in_rising low [] n rising among = let no : false ≡ true = among in cc
in_rising low (x ∷ xs) n rising among =
    let parts = and_parts (nat_le low x) (is_rising (x + 1) xs) rising in
    let above : low ≤ x = leb-true low x parts.0 in
    elim (among_cases x n xs among) [
      | inl same ↦ omega arith
      | inr later ↦ (let past : x + 1 ≤ n = in_rising (x + 1) xs n parts.1 later in omega arith)
    ]

pub lower_fails : (test : ℕ → Bool) (low : ℕ) (xs : List ℕ) (k n : ℕ) → is_rising low xs ≡ true
    → find test xs ≡ Some k → n < k → is_in xs n ≡ true → test n ≡ false
lower_fails test low [] k n rising found below among = let no : false ≡ true = among in cc
lower_fails test low (x ∷ xs) k n rising found below among =
    let parts = and_parts (nat_le low x) (is_rising (x + 1) xs) rising in
    elim (cases_Bool (test x)) [
      | inl passes ↦ (
          let here : Some x ≡ Some k = rw passes at found in
          let k_is : x ≡ k = cc in
          elim (among_cases x n xs among) [
            | inl same ↦ absurd (omega arith)
            | inr later ↦ absurd (let past : x + 1 ≤ n = in_rising (x + 1) xs n parts.1 later in omega arith)
          ])
      | inr fails ↦ elim (among_cases x n xs among) [
        | inl same ↦ rw (← same) fails
        | inr later ↦ lower_fails test (x + 1) xs k n parts.1 (rw fails at found) below later
      ]
    ]
