-- Base64 with padding, as RFC 4648, section 4, says it.
use Rattle.std.specs.Prelude.{ℕ, ◌+◌, ◌-◌, ◌*◌, ◌/◌, ◌%◌, ◌==◌, List, [], ◌∷◌, ◌++◌, take, nat_lt, if◌then◌else◌}

-- the letter of a number of six bits: A to Z, a to z, 0 to 9, + and /
abbrev pub letter_of : ℕ → ℕ
letter_of n = if nat_lt n 26 then n + 65
    else (if nat_lt n 52 then n + 71 else (if nat_lt n 62 then n - 4 else (if n == 62 then 43 else 47)))

-- 24 bits as four letters
abbrev pub letters_of : ℕ → List ℕ
letters_of bits =
    letter_of (bits / 262144) ∷ letter_of (bits / 4096 % 64) ∷ letter_of (bits / 64 % 64) ∷ letter_of (bits % 64) ∷ []

-- three bytes are 24 bits. Where the last are one or two, zero bits follow them, and = stands for each letter that has
-- none of their bits
abbrev pub base64 : List ℕ → List ℕ
base64 [] = []
base64 (a ∷ []) = take 2 (letters_of (a * 65536)) ++ 61 ∷ 61 ∷ []
base64 (a ∷ b ∷ []) = take 3 (letters_of (a * 65536 + b * 256)) ++ 61 ∷ []
base64 (a ∷ b ∷ c ∷ rest) = letters_of (a * 65536 + b * 256 + c) ++ base64 rest
