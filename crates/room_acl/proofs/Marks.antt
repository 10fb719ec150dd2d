-- Flags with the mark cleared.
use Rattle.room_acl.proofs.Common.{◌≡◌, ℕ, ◌<◌, ap, sym, ◌∙◌, arith, bit_and, ◌==◌, common_steps, eq-eqb, eqb-true}
use Rattle.room_acl.proofs.Common.{and_assoc, IsFlags, identifier_group, without_inherited}

-- the flags without the mark
pub cleared_flags : (f : ℕ) → f < 256 → without_inherited f ≡ bit_and f 0x7F
cleared_flags f small = grind (arith, common_steps)

-- are flags
pub cleared_are_flags : (f : ℕ) → IsFlags f → IsFlags (bit_and f 0x7F)
cleared_are_flags f lawful =
    let one : bit_and (bit_and f 0x7F) 0xCF ≡ bit_and f 0x4F = and_assoc 0xCF f 0x7F in
    let two : bit_and (bit_and f 0xCF) 0x7F ≡ bit_and f 0x4F = and_assoc 0x7F f 0xCF in
    eq-eqb _ _ (one ∙ sym two ∙ ap (λ n. bit_and n 0x7F) (eqb-true (bit_and f 0xCF) f lawful))

-- and keep IDENTIFIER_GROUP
pub cleared_group : (f : ℕ) → identifier_group (bit_and f 0x7F) ≡ identifier_group f
cleared_group f = ap (λ n. n == 0x40) (and_assoc 0x40 f 0x7F)
