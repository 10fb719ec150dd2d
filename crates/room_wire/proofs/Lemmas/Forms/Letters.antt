-- Letters of base64: none is escaped, and those of a long message are those of its pieces.
use Rattle.room_wire.proofs.Common.{◌≡◌, ◌+◌, ◌-◌, ◌*◌, ◌/◌, ◌%◌, ◌<◌, ◌≤◌, ◌==◌, ℕ, zero, suc, true, List, [], ◌∷◌}
use Rattle.room_wire.proofs.Common.{◌++◌, length, take, drop, map, replicate, get_or, slice_index, refl, sym, ap, ◌∙◌}
use Rattle.room_wire.proofs.Common.{arith, inl, inr, append_assoc, codes, cond, Ok, Err, Fits, w8, Result, OnOk, is_ok}
use Rattle.room_wire.proofs.Common.{flat_map, AllByRecursion, take-add, or_parts, not-true, eqb-false, ltb-false}
use Rattle.room_wire.proofs.Common.{cases_lt, take-take, take-append-drop, take_all, length-take-le, length-drop}
use Rattle.room_wire.proofs.Common.{length-map, put_mid, string, compact_text, obj, ok, cmd, bytes, get_or_append_left}
use Rattle.room_wire.proofs.Common.{get_or-append_right, get_or-map, escape_byte, escape, quoted, standard, encode_of}
use Rattle.room_wire.proofs.Common.{encode_of-append}
use Rattle.std.proofs.lemmas.Grind.{flat_map-append}
use Rattle.std.proofs.lemmas.Slice.{take-put_mid}
use Rattle.std.proofs.lemmas.Fmt.{decimal_digit}
use Rattle.json.specs.Run.{is_plain, is_stop}
use Rattle.json.proofs.Printed.Strings.{escape_byte_plain}
use Rattle.base64.specs.Rfc4648.{encode_group, encode_symbols, padding_len}
use Rattle.base64.proofs.Tables.{all_below_at}
use Rattle.room_wire.specs.declared.forms.letters.TheConstants.{PAIRS}

abbrev letters : List ℕ
letters = standard.encode_table

-- ---- no letter is escaped

abbrev IsUnescaped : ℕ → Type 0
IsUnescaped x = escape_byte x ≡ x ∷ []

plain_is_unescaped : (x : ℕ) → is_plain x ≡ true → IsUnescaped x
plain_is_unescaped x h =
    let none = or_parts _ _ (not-true (is_stop x) h) in
    let tests = or_parts (x == 34) _ none.0 in
    escape_byte_plain x (eqb-false x 34 tests.0) (eqb-false x 92 tests.1) (ltb-false x 32 none.1)

letter : (k : ℕ) → k < 64 → IsUnescaped (slice_index letters k)
letter k small =
    plain_is_unescaped _ (all_below_at (λ j. is_plain (slice_index letters j)) 64 k refl small)

symbols_unescaped : (m : List ℕ) → ((i : ℕ) → slice_index m i < 256)
    → AllByRecursion IsUnescaped (encode_symbols letters m)
unfolding encode_symbols
symbols_unescaped [] small = tt
symbols_unescaped (a ∷ []) small =
    let x = small 0 in (letter (a / 4) (omega arith), (letter (a % 4 * 16) (omega arith), tt))
symbols_unescaped (a ∷ b ∷ []) small =
    let x = small 0 in
    let y = small 1 in (
      letter (a / 4) (omega arith),
      (letter (a % 4 * 16 + b / 16) (omega arith), (letter (b % 16 * 4) (omega arith), tt)),
    )
symbols_unescaped (a ∷ b ∷ c ∷ rest) small =
    let x = small 0 in
    let y = small 1 in
    let z = small 2 in (
      letter (a / 4) (omega arith),
      (
        letter (a % 4 * 16 + b / 16) (omega arith),
        (
          letter (b % 16 * 4 + c / 64) (omega arith),
          (letter (c % 64) (omega arith), symbols_unescaped rest (λ i. small (suc (suc (suc i))))),
        ),
      ),
    )

padding_unescaped : (n : ℕ) → AllByRecursion IsUnescaped (replicate n 61)
padding_unescaped zero = tt
padding_unescaped (suc n) = (plain_is_unescaped 61 refl, padding_unescaped n)

escape_none : (xs : List ℕ) → AllByRecursion IsUnescaped xs → escape xs ≡ xs
escape_none [] h = refl
escape_none (x ∷ xs) h = (λ i. h.0 i ++ escape_none xs h.1 i)

escape_both : (xs ys : List ℕ) → escape xs ≡ xs → escape ys ≡ ys → escape (xs ++ ys) ≡ xs ++ ys
escape_both xs ys e f = flat_map-append escape_byte xs ys ∙ (λ i. e i ++ f i)

pub quoted_letters : (m : List ℕ) → ((i : ℕ) → Fits w8 (get_or m i 0))
    → quoted (encode_of standard m) ≡ 34 ∷ (encode_of standard m ++ 34 ∷ [])
quoted_letters m fits =
    let small : (i : ℕ) → slice_index m i < 256 = λ i. let fit = fits i in omega (arith, fit) in
    ap (λ xs. 34 ∷ (xs ++ 34 ∷ [])) (escape_both (encode_symbols letters m) (replicate (padding_len (length m)) 61)
    (escape_none _ (symbols_unescaped m small)) (escape_none _ (padding_unescaped (padding_len (length m)))))

-- ---- the table of pairs

abbrev pairs_of : List ℕ → List ℕ → List (List ℕ)
pairs_of firsts seconds = flat_map (λ a. map (λ b. a ∷ b ∷ []) seconds) firsts

pairs_are : PAIRS ≡ pairs_of letters letters
pairs_are = refl

at_pair : (firsts seconds : List ℕ) (e : List ℕ) (k : ℕ) → length seconds ≡ 64 → k < 64 * length firsts
    → get_or (pairs_of firsts seconds) k e ≡ get_or firsts (k / 64) 0 ∷ get_or seconds (k % 64) 0 ∷ []
at_pair [] seconds e k wide within = absurd (omega arith)
at_pair (a ∷ firsts) seconds e k wide within =
    let row : List (List ℕ) = map (λ b. a ∷ b ∷ []) seconds in
    let rest : List (List ℕ) = pairs_of firsts seconds in
    let long : length row ≡ 64 = length-map seconds (λ b. a ∷ b ∷ []) ∙ wide in
    elim (cases_lt k 64) [
      | inl below ↦
          let first : k / 64 ≡ 0 = omega arith in
          let second : k % 64 ≡ k = omega arith in
          get_or_append_left row rest e k (omega (arith, long))
          ∙ get_or-map (λ b. a ∷ b ∷ []) seconds k 0 e (omega (arith, wide))
          ∙ sym (λ i. get_or (a ∷ firsts) (first i) 0 ∷ get_or seconds (second i) 0 ∷ [])
      | inr above ↦
          let first : k / 64 ≡ suc ((k - 64) / 64) = omega arith in
          let second : k % 64 ≡ (k - 64) % 64 = omega arith in
          get_or-append_right row rest 64 k e long above
          ∙ at_pair firsts seconds e (k - 64) wide (omega arith)
          ∙ sym (λ i. get_or (a ∷ firsts) (first i) 0 ∷ get_or seconds (second i) 0 ∷ [])
    ]

pub pair_at : (k : ℕ) (e : List ℕ) → k < 4096
    → get_or PAIRS k e ≡ slice_index letters (k / 64) ∷ slice_index letters (k % 64) ∷ []
pair_at k e small = ap (λ t. get_or t k e) pairs_are ∙ at_pair letters letters e k refl (omega arith)

-- ---- a message by its pieces

pub letters_of_six : (m : List ℕ) → length m ≡ 8
    → encode_of standard (take 6 m)
    ≡ encode_group letters (slice_index m 0) (slice_index m 1) (slice_index m 2)
    ++ encode_group letters (slice_index m 3) (slice_index m 4) (slice_index m 5)
unfolding encode_symbols
letters_of_six [] e = absurd cc
letters_of_six (a ∷ []) e = absurd (omega arith)
letters_of_six (a ∷ b ∷ []) e = absurd (omega arith)
letters_of_six (a ∷ b ∷ c ∷ []) e = absurd (omega arith)
letters_of_six (a ∷ b ∷ c ∷ d ∷ []) e = absurd (omega arith)
letters_of_six (a ∷ b ∷ c ∷ d ∷ f ∷ []) e = absurd (omega arith)
letters_of_six (a ∷ b ∷ c ∷ d ∷ f ∷ g ∷ rest) e = refl

-- the letters of p bytes more
pub piece_more : (m : List ℕ) (s p w : ℕ) → s % 3 ≡ 0 → s ≤ length m → p ≤ w
    → encode_of standard (take (s + p) m)
    ≡ encode_of standard (take s m) ++ encode_of standard (take p (take w (drop s m)))
piece_more m s p w whole within wide =
    let front : length (take s m) % 3 ≡ 0 = ap (λ n. n % 3) (length-take-le s m within) ∙ whole in
    ap (encode_of standard) (take-add s p m) ∙ encode_of-append standard (take s m) (take p (drop s m)) front
    ∙ ap (λ x. encode_of standard (take s m) ++ encode_of standard x) (sym (take-take p w (drop s m) wide))

pub pieces_end : (m : List ℕ) (s : ℕ) → s % 3 ≡ 0 → s ≤ length m
    → encode_of standard (take s m) ++ encode_of standard (drop s m) ≡ encode_of standard m
pieces_end m s whole within =
    let front : length (take s m) % 3 ≡ 0 = ap (λ n. n % 3) (length-take-le s m within) ∙ whole in
    sym (encode_of-append standard (take s m) (drop s m) front) ∙ ap (encode_of standard) (take-append-drop s m)

-- numbers of twelve bits from the high bytes of a word: the places of two letters each
pub twelve_high : (x b0 b1 b2 l : ℕ) → x ≡ b0 * 72057594037927936 + b1 * 281474976710656 + b2 * 1099511627776 + l
    → b0 < 256 → b1 < 256 → b2 < 256 → l < 1099511627776
    → (x / 4503599627370496 ≡ b0 * 16 + b1 / 16) × (x / 1099511627776 % 4096 ≡ b1 % 16 * 256 + b2)
twelve_high x b0 b1 b2 l e l0 l1 l2 low = (omega arith, omega arith)

pub twelve_low : (x h b3 b4 b5 l : ℕ) → x ≡ h * 1099511627776 + b3 * 4294967296 + b4 * 16777216 + b5 * 65536 + l
    → b3 < 256 → b4 < 256 → b5 < 256 → l < 65536
    → (x / 268435456 % 4096 ≡ b3 * 16 + b4 / 16) × (x / 65536 % 4096 ≡ b4 % 16 * 256 + b5)
twelve_low x h b3 b4 b5 l e l3 l4 l5 low = (omega arith, omega arith)

-- a number of twelve bits as two places
pub places_first : (a b : ℕ) → a < 256 → b < 256
    → ((a * 16 + b / 16) / 64 ≡ a / 4) × ((a * 16 + b / 16) % 64 ≡ a % 4 * 16 + b / 16) × (a * 16 + b / 16 < 4096)
places_first a b la lb = (omega arith, omega arith, omega arith)

pub places_second : (b c : ℕ) → b < 256 → c < 256
    → ((b % 16 * 256 + c) / 64 ≡ b % 16 * 4 + c / 64) × ((b % 16 * 256 + c) % 64 ≡ c % 64)
    × (b % 16 * 256 + c < 4096)
places_second b c lb lc = (omega arith, omega arith, omega arith)

-- six bytes more in the block
pub six_written : (m block eight ys : List ℕ) (n w k : ℕ) → 6 * n + 8 ≤ length m → 8 * n ≤ length block → w ≡ 8
    → eight ≡ take w (drop (6 * n) m) → ys ≡ encode_of standard (take 6 eight)
    → take (8 * n) block ≡ encode_of standard (take (6 * n) m)
    → take (8 * (n + 1)) (put_mid (8 * n) k block ys) ≡ encode_of standard (take (6 * (n + 1)) m)
six_written m block eight ys n w k in_m in_block wide is letters_are so_far =
    let eight_is : eight ≡ take 8 (drop (6 * n) m) = is ∙ ap (λ v. take v (drop (6 * n) m)) wide in
    let long : length eight ≡ 8 = ap length eight_is
    ∙ length-take-le 8 (drop (6 * n) m) (omega (arith, length-drop (6 * n) m)) in
    let eight_long : length ys ≡ 8 = ap length (letters_are ∙ letters_of_six eight long) in
    let next : 6 * n + 6 ≡ 6 * (n + 1) = omega arith in
    take-put_mid (8 * n) k block ys (8 * (n + 1)) (omega arith) in_block
    ∙ (λ i. so_far i ++ letters_are i)
    ∙ ap (λ x. encode_of standard (take (6 * n) m) ++ encode_of standard (take 6 x)) eight_is
    ∙ sym (piece_more m (6 * n) 6 8 (omega arith) (omega arith) (omega arith))
    ∙ ap (λ s. encode_of standard (take s m)) next

-- a block more in the text
pub block_written : (m before now block new : List ℕ) (n w : ℕ) → 192 * n + 194 ≤ length m → w ≡ 194
    → now ≡ before ++ encode_of standard (take (192 * n) m)
    → block ≡ encode_of standard (take 192 (take w (drop (192 * n) m)))
    → new ≡ now ++ block → new ≡ before ++ encode_of standard (take (192 * (n + 1)) m)
block_written m before now block new n w in_m wide is block_is new_is =
    let next : 192 * n + 192 ≡ 192 * (n + 1) = omega arith in
    new_is ∙ (λ i. is i ++ block_is i) ∙ append_assoc before _ _
    ∙ ap (λ x. before ++ x) (sym (piece_more m (192 * n) 192 w (omega arith) (omega arith) (omega arith))
    ∙ ap (λ s. encode_of standard (take s m)) next)

-- the rest behind the blocks
pub rest_written : {E : Type 0} (r : Result (Unit {0}) E) (m before now rest new : List ℕ) (n : ℕ) → 192 * n ≤ length m
    → now ≡ before ++ encode_of standard (take (192 * n) m)
    → rest ≡ encode_of standard (take (length m - 192 * n) (drop (192 * n) m))
    → new ≡ cond (is_ok r) (now ++ rest) now → OnOk r (new ≡ before ++ encode_of standard m)
rest_written (Ok u) m before now rest new n within is rest_is new_is =
    let left : length (drop (192 * n) m) ≤ length m - 192 * n = omega (arith, length-drop (192 * n) m) in
    let all = take_all (length m - 192 * n) (drop (192 * n) m) left in
    new_is ∙ (λ i. is i ++ (rest_is ∙ ap (encode_of standard) all) i) ∙ append_assoc before _ _
    ∙ ap (λ x. before ++ x) (pieces_end m (192 * n) (omega arith) within)
rest_written (Err e) m before now rest new n within is rest_is new_is = tt

-- ---- the texts that carry a document

pub read_text : (m : List ℕ) → ((i : ℕ) → Fits w8 (get_or m i 0))
    → (codes "{\"code\":0,\"data\":\"" ++ encode_of standard m) ++ codes "\"}"
    ≡ compact_text (obj (ok ∷ (codes "data", bytes m) ∷ []))
unfolding escape_byte
read_text m are_bytes =
    sym (ap (λ z. codes "{\"code\":" ++ (z ++ (codes ",\"data\":" ++ (quoted (encode_of standard m) ++ codes "}"))))
    (decimal_digit 0 (omega arith))
    ∙ ap (λ xs. codes "{\"code\":0,\"data\":" ++ (xs ++ codes "}")) (quoted_letters m are_bytes)
    ∙ ap (λ xs. codes "{\"code\":0,\"data\":\"" ++ xs) (append_assoc (encode_of standard m) (34 ∷ []) (125 ∷ [])))

pub bytes_text : (name m place : List ℕ) → ((i : ℕ) → Fits w8 (get_or m i 0))
    → (((((codes "{\"cmd\":" ++ quoted name) ++ codes ",\"data\":\"") ++ encode_of standard m)
    ++ codes "\",\"path\":") ++ quoted place) ++ codes "}"
    ≡ compact_text (obj (cmd name ∷ (codes "data", bytes m) ∷ (codes "path", string place) ∷ []))
unfolding escape_byte
bytes_text name m place are_bytes =
    let e : List ℕ = encode_of standard m in
    let q : List ℕ = quoted name in
    let tail : List ℕ = codes ",\"path\":" ++ (quoted place ++ codes "}") in
    let inner : (e ++ 34 ∷ []) ++ tail ≡ e ++ 34 ∷ tail = append_assoc e (34 ∷ []) tail in
    let left : (((((codes "{\"cmd\":" ++ q) ++ codes ",\"data\":\"") ++ e) ++ codes "\",\"path\":") ++ quoted place)
    ++ codes "}" ≡ codes "{\"cmd\":" ++ (q ++ (codes ",\"data\":\"" ++ (e ++ 34 ∷ tail))) = simp append_assoc in
    left ∙ sym (ap (λ xs. codes "{\"cmd\":" ++ (q ++ (codes ",\"data\":" ++ (xs ++ tail)))) (quoted_letters m are_bytes)
    ∙ ap (λ xs. codes "{\"cmd\":" ++ (q ++ (codes ",\"data\":\"" ++ xs))) inner)
