-- Numbers in targets, and names of users.
use Rattle.room_wire.proofs.Common.{◌≡◌, ℕ, ◌^◌, ◌<◌, ◌==◌, ◌&&◌, ◌||◌, Bool, true, false, List, length, cond, refl}
use Rattle.room_wire.proofs.Common.{sym, ap, ◌∙◌, arith, rules, Some, None, Result, Ok, Err, nat_lt, nat_le, not}
use Rattle.room_wire.proofs.Common.{slice_index, OkIff-at_ok, OkIff-at_err, is_ascii_digit, list_all, digits_value}
use Rattle.room_wire.proofs.Common.{ParsesUnsigned, and_parts, nat_tests, principal_utf8, is_number, number_from}
use Rattle.room_wire.proofs.Common.{is_principal, principal_from}
use Rattle.std.specs.Str.{IsUtf8}
use Rattle.std.proofs.lemmas.Str.Parse.{IsNumeralModel, numerals_by_value, parse_digits}

abbrev AreDigits : List ℕ → Type 0
AreDigits ds = list_all is_ascii_digit ds ≡ true

own : IsNumeralModel AreDigits (digits_value 10)
own = numerals_by_value AreDigits (search rules)

-- a number's text is of digits
digits : (text : List ℕ) → is_number text ≡ true → AreDigits text
digits text h =
    let outer = and_parts (nat_le 1 (length text))
    (list_all is_ascii_digit text && (length text == 1 || not (slice_index text 0 == 48))) h in
    (and_parts (list_all is_ascii_digit text) (length text == 1 || not (slice_index text 0 == 48)) outer.1).0

pub number_read : (E : Type 0) (text : List ℕ) (r : Result ℕ E) (n : ℕ) → is_number text ≡ true
    → ParsesUnsigned 32 10 text r → r ≡ Ok n → number_from text ≡ Some n
number_read E text r n h p e =
    let read = OkIff-at_ok r ((0 < length text) × (digits_value 10 text < 2 ^ 32))
    (digits_value 10 text) n (parse_digits own 32 text r p (digits text h)) e in
    let below : digits_value 10 text < 2 ^ 32 = read.0.1 in
    let small : nat_lt (digits_value 10 text) (2 ^ 32) ≡ true = grind (arith, nat_tests) in
    (λ i. cond (h i && small i) (Some (digits_value 10 text)) None) ∙ ap Some (sym read.1)

no_number : (text : List ℕ) (b : Bool) → is_number text ≡ true → nat_lt (digits_value 10 text) (2 ^ 32) ≡ b
    → ¬ (digits_value 10 text < 2 ^ 32) → number_from text ≡ None
no_number text true h f above = absurd (above (grind (arith, nat_tests)))
no_number text false h f above = λ i. cond (h i && f i) (Some (digits_value 10 text)) None

pub number_none : (E : Type 0) (text : List ℕ) (r : Result ℕ E) (fault : E)
    → is_number text ≡ true → ParsesUnsigned 32 10 text r → r ≡ Err fault → number_from text ≡ None
number_none E text r fault h p e =
    let read = OkIff-at_err r ((0 < length text) × (digits_value 10 text < 2 ^ 32))
    (digits_value 10 text) fault (parse_digits own 32 text r p (digits text h)) e in
    let first = and_parts (nat_le 1 (length text))
    (list_all is_ascii_digit text && (length text == 1 || not (slice_index text 0 == 48))) h in
    let test : nat_le 1 (length text) ≡ true = first.0 in
    let some : 0 < length text = grind (arith, nat_tests) in
    no_number text (nat_lt (digits_value 10 text) (2 ^ 32)) h refl (λ below. read (some, below))

principal_by : (text : List ℕ) (b : Bool) → is_principal text ≡ b → ¬ (IsUtf8 text) → principal_from text ≡ None
principal_by text true h other =
    absurd (other (principal_utf8 text h))
principal_by text false h other = ap (λ b. cond b (Some text) None) h

-- a text that is not UTF-8 names no principal
pub no_principal : (text : List ℕ) → ¬ (IsUtf8 text) → principal_from text ≡ None
no_principal text other = principal_by text (is_principal text) refl other
