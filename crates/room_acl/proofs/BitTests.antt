-- Facts on bits that several proofs use.
use Rattle.room_acl.proofs.Common.{◌≡◌, ℕ, ◌*◌, ◌^◌, ◌<◌, ◌≤◌, refl, ap, sym, ◌∙◌, arith, ◌⊎◌, ◌≢◌, inl, inr, lit<}
use Rattle.room_acl.proofs.Common.{Bool, true, false, List, [], ◌∷◌, bit_and, bit_or, bit_xor, not, ◌&&◌, ◌||◌, ◌==◌}
use Rattle.room_acl.proofs.Common.{cond, nat_lt, list_any, list_all, common_steps, cases_eq, cases_lt, eq-eqb, eqb-true}
use Rattle.room_acl.proofs.Common.{ne_eqb, agree_below_at, and_parts, ltb-true, all_rights, has_bit, identifier_group}
use Rattle.room_acl.proofs.Common.{IsMask, named_bits, mask_of, mask_of_places}
use Rattle.std.specs.Int.{bit_at}
use Rattle.std.proofs.lemmas.Nat.Bits.{and_pow, bit_at-lt, bit_at_and, bit_at_or, bit_at_xor, bit_at-zero}
use Rattle.std.proofs.lemmas.Nat.Bits.{bit_at-pow_same, bit_at-pow_other, bit_at_above, same_from_bits}

-- a bit is 0 or 1
pub bit_cases : (n k : ℕ) → (bit_at n k ≡ 0) ⊎ (bit_at n k ≡ 1)
bit_cases n k =
    let below = bit_at-lt n k in
    elim (cases_eq (bit_at n k) 0) [ inl e ↦ inl e | inr ne ↦ inr (omega (arith, below, ne)) ]

pub has_bit-and : (a b i : ℕ) → has_bit (bit_and a b) i ≡ (has_bit a i && has_bit b i)
has_bit-and a b i =
    elim (bit_cases a i) [
      | inl p ↦ elim (bit_cases b i) [ inl q ↦ rw (bit_at_and, p, q) refl | inr q ↦ rw (bit_at_and, p, q) refl ]
      | inr p ↦ elim (bit_cases b i) [ inl q ↦ rw (bit_at_and, p, q) refl | inr q ↦ rw (bit_at_and, p, q) refl ]
    ]

pub has_bit-or : (a b i : ℕ) → has_bit (bit_or a b) i ≡ (has_bit a i || has_bit b i)
has_bit-or a b i =
    elim (bit_cases a i) [
      | inl p ↦ elim (bit_cases b i) [ inl q ↦ rw (bit_at_or, p, q) refl | inr q ↦ rw (bit_at_or, p, q) refl ]
      | inr p ↦ elim (bit_cases b i) [ inl q ↦ rw (bit_at_or, p, q) refl | inr q ↦ rw (bit_at_or, p, q) refl ]
    ]

pub has_bit-none : (i : ℕ) → has_bit 0 i ≡ false
has_bit-none i = rw bit_at-zero refl

-- what is left of a when b's bits are taken out
pub has_bit-without : (a b i : ℕ) → has_bit (bit_xor a (bit_and a b)) i ≡ (has_bit a i && not (has_bit b i))
has_bit-without a b i =
    elim (bit_cases a i) [
      | inl p ↦ elim (bit_cases b i)
          [ inl q ↦ rw (bit_at_xor, bit_at_and, p, q) refl | inr q ↦ rw (bit_at_xor, bit_at_and, p, q) refl ]
      | inr p ↦ elim (bit_cases b i)
          [ inl q ↦ rw (bit_at_xor, bit_at_and, p, q) refl | inr q ↦ rw (bit_at_xor, bit_at_and, p, q) refl ]
    ]

-- IDENTIFIER_GROUP alone
pub group_alone : (f : ℕ)
    → ((bit_and f 64 ≡ 0) × (identifier_group f ≡ false)) ⊎ ((bit_and f 64 ≡ 64) × (identifier_group f ≡ true))
group_alone f =
    elim (bit_cases f 6) [
      | inl p ↦ (let none : bit_and f 64 ≡ 0 = and_pow f 6 ∙ ap (λ b. b * 64) p in inl (none, ap (λ g. g == 64) none))
      | inr p ↦ (let set : bit_and f 64 ≡ 64 = and_pow f 6 ∙ ap (λ b. b * 64) p in inr (set, ap (λ g. g == 64) set))
    ]

at_own_place : (b : Bool) (p : ℕ) → has_bit (cond b (2 ^ p) 0) p ≡ b
at_own_place true p = rw bit_at-pow_same refl
at_own_place false p = rw bit_at-zero refl

at_other_place : (b : Bool) (p i : ℕ) → i ≢ p → has_bit (cond b (2 ^ p) 0) i ≡ false
at_other_place true p i other = let e : bit_at (2 ^ p) i ≡ 0 = bit_at-pow_other p i other in rw e refl
at_other_place false p i other = rw bit_at-zero refl

one_place : (test : ℕ → Bool) (p i : ℕ) → has_bit (cond (test p) (2 ^ p) 0) i ≡ ((p == i) && test i)
one_place test p i =
    elim (cases_eq p i) [
      | inl e ↦ rw (← e) (at_own_place (test p) p ∙ ap (λ b. b && test p) (sym (eq-eqb p p refl)))
      | inr other ↦ at_other_place (test p) p i (λ e. other (sym e)) ∙ ap (λ b. b && test i) (sym (ne_eqb p i other))
    ]

or_and : (x y t : Bool) → ((x && t) || (y && t)) ≡ ((x || y) && t)
or_and x y t = grind (arith, common_steps)

-- the bits of a mask made of places
pub has_bit-mask_of_places : (test : ℕ → Bool) (places : List ℕ) (i : ℕ)
    → has_bit (mask_of_places test places) i ≡ (list_any (λ p. p == i) places && test i)
has_bit-mask_of_places test [] i = rw bit_at-zero refl
has_bit-mask_of_places test (p ∷ ps) i =
    has_bit-or (cond (test p) (2 ^ p) 0) (mask_of_places test ps) i
    ∙ ap (λ b. b || has_bit (mask_of_places test ps) i) (one_place test p i)
    ∙ ap (λ b. ((p == i) && test i) || b) (has_bit-mask_of_places test ps i)
    ∙ or_and (p == i) (list_any (λ q. q == i) ps) (test i)

none_above : (places : List ℕ) (i : ℕ) → list_all (λ p. nat_lt p 21) places ≡ true
    → 21 ≤ i → list_any (λ p. p == i) places ≡ false
none_above [] i below above = refl
none_above (p ∷ ps) i below above =
    let parts = and_parts (nat_lt p 21) (list_all (λ q. nat_lt q 21) ps) below in
    let small : p < 21 = ltb-true p 21 parts.0 in
    let first : (p == i) ≡ false = ne_eqb p i (λ e. omega arith) in
    rw first (none_above ps i parts.1 above)

pub named_is_mask : (i : ℕ) → list_any (λ p. p == i) named_bits ≡ has_bit all_rights i
named_is_mask i =
    elim (cases_lt i 21) [
      | inl below ↦ agree_below_at (λ k. list_any (λ p. p == k) named_bits) (λ k. has_bit all_rights k) 21 i refl below
      | inr above ↦ none_above named_bits i refl above
          ∙ ap (λ b. b == 1) (sym (bit_at_above all_rights 21 i (lit< tt) above))
    ]

pub has_bit-mask_of : (test : ℕ → Bool) (i : ℕ) → has_bit (mask_of test) i ≡ (has_bit all_rights i && test i)
has_bit-mask_of test i = has_bit-mask_of_places test named_bits i ∙ ap (λ b. b && test i) (named_is_mask i)

bit_of_test : (a b i : ℕ) → has_bit a i ≡ has_bit b i → bit_at a i ≡ bit_at b i
bit_of_test a b i same = grind (arith, common_steps)

-- two numbers with the same bits are equal
pub same_bits : (a b : ℕ) → ((i : ℕ) → has_bit a i ≡ has_bit b i) → a ≡ b
same_bits a b same = same_from_bits a b (λ i. bit_of_test a b i (same i))

all_but_refused : (n a : Bool) → (n && not (n && not a)) ≡ (n && a)
all_but_refused n a = grind (arith, common_steps)

-- all rights but the refused ones are the allowed ones
pub rights_but_refused : (test : ℕ → Bool) (refused : ℕ)
    → ((bit : ℕ) → has_bit refused bit ≡ (has_bit all_rights bit && not (test bit)))
    → bit_xor all_rights (bit_and all_rights refused) ≡ mask_of test
rights_but_refused test refused is = same_bits _ _ (λ bit.
    has_bit-without all_rights refused bit
    ∙ ap (λ r. has_bit all_rights bit && not r) (is bit)
    ∙ all_but_refused (has_bit all_rights bit) (test bit)
    ∙ sym (has_bit-mask_of test bit))

and_again : (n a : Bool) → ((n && a) && n) ≡ (n && a)
and_again n a = grind (arith, common_steps)

pub IsMask-mask_of : (test : ℕ → Bool) → IsMask (mask_of test)
IsMask-mask_of test = eq-eqb _ _ (same_bits _ _ (λ bit.
    has_bit-and (mask_of test) all_rights bit
    ∙ ap (λ b. b && has_bit all_rights bit) (has_bit-mask_of test bit)
    ∙ and_again (has_bit all_rights bit) (test bit)
    ∙ sym (has_bit-mask_of test bit)))

-- a mask has rights alone
pub wanted_is_named : (wanted bit : ℕ) → IsMask wanted
    → has_bit wanted bit ≡ true → list_any (λ p. p == bit) named_bits ≡ true
wanted_is_named wanted bit mask wants =
    let both : (has_bit wanted bit && has_bit all_rights bit) ≡ true =
    sym (has_bit-and wanted all_rights bit) ∙ ap (λ n. has_bit n bit) (eqb-true _ _ mask) ∙ wants in
    named_is_mask bit ∙ (and_parts (has_bit wanted bit) (has_bit all_rights bit) both).1
