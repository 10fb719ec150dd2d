-- The values of the fields of one name, field by field.
use Rattle.room_wire.proofs.Common.{◌≡◌, ◌<◌, ℕ, ◌-◌, ◌+◌, Bool, true, false, ◌||◌, ◌&&◌, append-nil, List, [], ◌∷◌}
use Rattle.room_wire.proofs.Common.{◌++◌, length, take, map, get_or, cond, refl, sym, ap, ◌∙◌, arith, take_more}
use Rattle.room_wire.proofs.Common.{map-append, or-false, nat_tests, list_all, list_any, is_ascii_digit, digit_value}
use Rattle.room_wire.proofs.Common.{header_bytes, values_named, has_name, IsFound}
use Rattle.std.proofs.lemmas.List.Folds.{list_all_at, list_any-append}
use Rattle.httparse.specs.declared.spans.HeaderSpan.{HeaderSpan}
use Rattle.room_wire.specs.declared.messages.fields.Found.{Found}
use Rattle.room_wire.specs.declared.messages.fields.Found.TheVariants.{Absent, One, Many}

values_push : (name : List ℕ) (fields : List (List ℕ × List ℕ)) (field : List ℕ × List ℕ) →
    values_named name (fields ++ field ∷ []) ≡ values_named name fields ++ cond (has_name name field) (field.1 ∷ []) []
values_push name [] field = refl
values_push name (other ∷ fields) field =
    elim (has_name name other) as (λ b. cond b (other.1 ∷ values_named name (fields ++ field ∷ []))
    (values_named name (fields ++ field ∷ [])) ≡ cond b (other.1 ∷ values_named name fields)
    (values_named name fields) ++ cond (has_name name field) (field.1 ∷ []) []) [
      | true ↦ ap (λ t. other.1 ∷ t) (values_push name fields field)
      | false ↦ values_push name fields field
    ]

-- one more field
pub values_more : (name buf : List ℕ) (headers : List HeaderSpan) (i : ℕ) (d : HeaderSpan) → i < length headers
    → values_named name (map (header_bytes buf) (take (i + 1) headers))
    ≡ values_named name (map (header_bytes buf) (take i headers)) ++ cond
    (has_name name (header_bytes buf (get_or headers i d))) ((header_bytes buf (get_or headers i d)).1 ∷ []) []
values_more name buf headers i d inside =
    ap (λ t. values_named name (map (header_bytes buf) t)) (take_more headers i d inside)
    ∙ ap (values_named name) (map-append (header_bytes buf) (take i headers) (get_or headers i d ∷ []))
    ∙ values_push name (map (header_bytes buf) (take i headers)) (header_bytes buf (get_or headers i d))

pub found_other : (found : Found) (values : List (List ℕ)) (value : List ℕ)
    → (found ≡ Absent → ⊥) → IsFound found values → IsFound Many (values ++ value ∷ [])
found_other Absent values value some e = absurd (some refl)
found_other (One v) values value some e = (v.now, value, [], ap (λ t. t ++ value ∷ []) e)
found_other Many values value some e = (e.0, e.1, e.2 ++ value ∷ [], ap (λ t. t ++ value ∷ []) e.3)

pub digit_is : (c : ℕ) → is_ascii_digit c ≡ true → c - 48 ≡ digit_value c
digit_is c e = grind (arith, nat_tests)

pub digit_at : (ds : List ℕ) (i : ℕ) → i < length ds → list_all is_ascii_digit ds ≡ true
    → get_or ds i 0 - 48 ≡ digit_value (get_or ds i 0)
digit_at ds i inside all = digit_is (get_or ds i 0) (passes (is_ascii_digit (get_or ds i 0)) refl)
  where
    passes : (b : Bool) → is_ascii_digit (get_or ds i 0) ≡ b → is_ascii_digit (get_or ds i 0) ≡ true
    passes true e = e
    passes false e = let f = list_all_at is_ascii_digit ds i 0 inside e in cc

-- what stands for an element past the end
abbrev pub no_header : HeaderSpan
no_header = record { name = record { start = 0; end = 0 }; value = record { start = 0; end = 0 } }

-- a test over the values, one field more
pub any_more : (p : List ℕ → Bool) (seen : List (List ℕ)) (value : List ℕ) (named passes before : Bool)
    → before ≡ list_any p seen → p value ≡ passes
    → (before || (named && passes)) ≡ list_any p (seen ++ cond named (value ∷ []) [])
any_more p seen value true passes before e f =
    (λ i. e i || sym f i) ∙ ap (λ b. list_any p seen || b) (sym (or-false (p value)))
    ∙ sym (list_any-append p seen (value ∷ []))
any_more p seen value false passes before e f = or-false before ∙ e ∙ ap (list_any p) (sym (append-nil seen))
