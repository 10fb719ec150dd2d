-- What is written as base64 is what RFC 4648 says, and nothing else is read.
use Rattle.room_wire.proofs.Common.{◌≡◌, ◌↔◌, ℕ, zero, suc, ◌+◌, ◌*◌, ◌/◌, ◌%◌, ◌<◌, ◌==◌, ◌&&◌, refl, ap, sym, ◌∙◌}
use Rattle.room_wire.proofs.Common.{arith, Bool, true, inl, inr, List, [], ◌∷◌, ◌++◌, map, codes, length, replicate}
use Rattle.room_wire.proofs.Common.{Some, Ok, slice_index, Result, Err, and_parts, eqb-true, cases_eq, standard}
use Rattle.room_wire.proofs.Common.{encode_of, decode_of, decoded_of, IsStrict, decode_of_iff, AreBytes}
use Rattle.std.specs.Result.{result_ok}
use Rattle.base64.specs.declared.decode.DecodeError.{DecodeError}
use Rattle.base64.specs.Rfc4648.{encode_symbols, padding_len}
use Rattle.room_wire.specs.Forms.Base64.{letter_of, base64}
use Rattle.room_wire.proofs.Lemmas.Forms.CommandBytes.{are_bytes}

-- a test that holds of each number below another one
abbrev each_below : (ℕ → Bool) → ℕ → Bool
each_below test zero = true
each_below test (suc n) = test n && each_below test n

holds_below : (test : ℕ → Bool) (n : ℕ) → each_below test n ≡ true → (k : ℕ) → k < n → test k ≡ true
holds_below test zero each k below = absurd (omega (arith, below))
holds_below test (suc n) each k below =
    let parts = and_parts (test n) (each_below test n) each in
    elim (cases_eq k n) [
      | inl same ↦ ap test same ∙ parts.0
      | inr other ↦ holds_below test n parts.1 k (omega (arith, below, other))
    ]

abbrev table : List ℕ
table = standard.encode_table

symbol : (k : ℕ) → k < 64 → slice_index table k ≡ letter_of k
symbol k below = eqb-true (slice_index table k) (letter_of k)
    (holds_below (λ n. slice_index table n == letter_of n) 64 refl k below)

first : (a b c : ℕ) → a < 256 → b < 256 → c < 256 → (a * 65536 + b * 256 + c) / 262144 ≡ a / 4
first a b c ha hb hc = omega (arith, ha, hb, hc)

second : (a b c : ℕ) → a < 256 → b < 256 → c < 256 → (a * 65536 + b * 256 + c) / 4096 % 64 ≡ a % 4 * 16 + b / 16
second a b c ha hb hc = omega (arith, ha, hb, hc)

third : (a b c : ℕ) → a < 256 → b < 256 → c < 256 → (a * 65536 + b * 256 + c) / 64 % 64 ≡ b % 16 * 4 + c / 64
third a b c ha hb hc = omega (arith, ha, hb, hc)

fourth : (a b c : ℕ) → a < 256 → b < 256 → c < 256 → (a * 65536 + b * 256 + c) % 64 ≡ c % 64
fourth a b c ha hb hc = omega (arith, ha, hb, hc)

module _ (a b c : ℕ) (ha : a < 256) (hb : b < 256) (hc : c < 256) where
  abbrev bits : ℕ
  bits = a * 65536 + b * 256 + c

  one : slice_index table (a / 4) ≡ letter_of (bits / 262144)
  one = symbol (a / 4) (omega (arith, ha)) ∙ ap letter_of (sym (first a b c ha hb hc))

  two : slice_index table (a % 4 * 16 + b / 16) ≡ letter_of (bits / 4096 % 64)
  two = symbol (a % 4 * 16 + b / 16) (omega (arith, hb)) ∙ ap letter_of (sym (second a b c ha hb hc))

  three : slice_index table (b % 16 * 4 + c / 64) ≡ letter_of (bits / 64 % 64)
  three = symbol (b % 16 * 4 + c / 64) (omega (arith, hc)) ∙ ap letter_of (sym (third a b c ha hb hc))

  four : slice_index table (c % 64) ≡ letter_of (bits % 64)
  four = symbol (c % 64) (omega arith) ∙ ap letter_of (sym (fourth a b c ha hb hc))

abbrev written : List ℕ → List ℕ
written bytes = encode_symbols table bytes ++ replicate (padding_len (length bytes)) 61

padding_after : (n : ℕ) → padding_len (suc (suc (suc n))) ≡ padding_len n
padding_after n = omega arith

one_alone : (a : ℕ) → a < 256 → written (a ∷ []) ≡ base64 (a ∷ [])
unfolding encode_symbols
one_alone a ha =
    let bits : a * 65536 + 0 * 256 + 0 ≡ a * 65536 = omega arith in
    let first_letter = one a 0 0 ha (omega arith) (omega arith) ∙ ap (λ n. letter_of (n / 262144)) bits in
    let rest : a % 4 * 16 ≡ a % 4 * 16 + 0 / 16 = omega arith in
    let second_letter = ap (slice_index table) rest ∙ two a 0 0 ha (omega arith) (omega arith)
    ∙ ap (λ n. letter_of (n / 4096 % 64)) bits in
    (λ i. first_letter i ∷ second_letter i ∷ 61 ∷ 61 ∷ [])

two_alone : (a b : ℕ) → a < 256 → b < 256 → written (a ∷ b ∷ []) ≡ base64 (a ∷ b ∷ [])
unfolding encode_symbols
two_alone a b ha hb =
    let bits : a * 65536 + b * 256 + 0 ≡ a * 65536 + b * 256 = omega arith in
    let first_letter = one a b 0 ha hb (omega arith) ∙ ap (λ n. letter_of (n / 262144)) bits in
    let second_letter = two a b 0 ha hb (omega arith) ∙ ap (λ n. letter_of (n / 4096 % 64)) bits in
    let rest : b % 16 * 4 ≡ b % 16 * 4 + 0 / 64 = omega arith in
    let third_letter = ap (slice_index table) rest ∙ three a b 0 ha hb (omega arith)
    ∙ ap (λ n. letter_of (n / 64 % 64)) bits in
    (λ i. first_letter i ∷ second_letter i ∷ third_letter i ∷ 61 ∷ [])

written_is : (bytes : List ℕ) → AreBytes bytes → written bytes ≡ base64 bytes
unfolding encode_symbols
written_is [] h = refl
written_is (a ∷ []) h = one_alone a h.0
written_is (a ∷ b ∷ []) h = two_alone a b h.0 h.1.0
written_is (a ∷ b ∷ c ∷ rest) h =
    let later = written_is rest h.1.1.1 in
    let after : encode_symbols table rest ++ replicate (padding_len (length (a ∷ b ∷ c ∷ rest))) 61
    ≡ base64 rest =
    ap (λ n. encode_symbols table rest ++ replicate n 61) (padding_after (length rest)) ∙ later in
    (λ i. one a b c h.0 h.1.0 h.1.1.0 i ∷ two a b c h.0 h.1.0 h.1.1.0 i ∷ three a b c h.0 h.1.0 h.1.1.0 i
    ∷ four a b c h.0 h.1.0 h.1.1.0 i ∷ after i)

pub written_as_the_standard : (bytes : List ℕ) → AreBytes bytes → encode_of standard bytes ≡ base64 bytes
written_as_the_standard bytes h = written_is bytes h

-- the engine in use reads nothing else
strict : IsStrict standard
strict = (refl, refl)

ok_of : (r : Result (List ℕ) DecodeError) (bytes : List ℕ) → result_ok r ≡ Some bytes → r ≡ Ok bytes
ok_of (Ok found) bytes h = let same : found ≡ bytes = cc h in ap Ok same
ok_of (Err fault) bytes h = cc h

pub read_as_the_standard : (text bytes : List ℕ) → AreBytes text → AreBytes bytes
    → (decoded_of standard text ≡ Some bytes) ↔ (text ≡ base64 bytes)
unfolding decoded_of
read_as_the_standard text bytes ht hb =
    let exactly = decode_of_iff standard text bytes strict (are_bytes text ht) (are_bytes bytes hb) in (
      λ read. exactly.0 (ok_of (decode_of standard text) bytes read) ∙ written_is bytes hb,
      λ is. ap result_ok (exactly.1 (is ∙ sym (written_is bytes hb))),
    )

-- the examples of RFC 4648, section 10
examples : map base64 (codes "f" ∷ codes "fo" ∷ codes "foo" ∷ codes "foob" ∷ codes "fooba" ∷ codes "foobar" ∷ [])
    ≡ codes "Zg==" ∷ codes "Zm8=" ∷ codes "Zm9v" ∷ codes "Zm9vYg==" ∷ codes "Zm9vYmE=" ∷ codes "Zm9vYmFy" ∷ []
examples = refl
