-- Hexadecimal digits, one after another.
use Rattle.room_report.proofs.Common.{◌≡◌, ℕ, zero, suc, ◌+◌, ◌/◌, ◌%◌, false, refl, arith, [], ◌∷◌, ◌++◌, hex}
use Rattle.std.specs.Fmt.{digit_glyph}

pub hex_none : (places n : ℕ) → places ≡ 0 → hex places n ≡ []
unfolding hex
hex_none zero n none = refl
hex_none (suc places) n none = absurd (omega (arith, none))

pub hex_more : (places more n : ℕ) → places ≡ more + 1
    → hex places n ≡ hex more (n / 16) ++ digit_glyph false (n % 16) ∷ []
unfolding hex
hex_more zero more n is = absurd (omega (arith, is))
hex_more (suc places) more n is = let same : places ≡ more = omega (arith, is) in rw (← same) refl
