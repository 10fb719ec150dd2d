-- What the fields of a head say.
use Rattle.std.specs.Prelude.{◌≡◌, ℕ, Bool, ◌&&◌, List, [], ◌∷◌, length, Option, Some, None}
use Rattle.std.specs.Prelude.{if◌then◌else◌, nat_le, codes}
use Rattle.std.specs.List.{list_all}
use Rattle.std.specs.Char.{is_ascii_digit}
use Rattle.std.specs.Str.{str_eq_ignore_ascii_case}
use Rattle.std.specs.Str.Parse.{digits_value}
use Rattle.room_wire.specs.Messages.Limits.{max_body}
use Rattle.room_wire.specs.declared.messages.fields.Found.{Found}
use Rattle.room_wire.specs.declared.messages.fields.Found.TheVariants.{Absent, One, Many}

abbrev pub has_name : List ℕ → List ℕ × List ℕ → Bool
has_name name field = str_eq_ignore_ascii_case field.0 name

-- the values of the fields of this name, in their order
abbrev pub values_named : List ℕ → List (List ℕ × List ℕ) → List (List ℕ)
values_named name [] = []
values_named name (field ∷ fields) =
    if has_name name field then field.1 ∷ values_named name fields else values_named name fields

abbrev pub is_length_text : List ℕ → Bool
is_length_text text = nat_le 1 (length text) && (nat_le (length text) 10 && list_all is_ascii_digit text)

-- the length that a field's value states, where it is one that a body may have
abbrev pub stated_length : List ℕ → Option ℕ
stated_length text = if is_length_text text
    then (if nat_le (digits_value 10 text) max_body then Some (digits_value 10 text) else None) else None

-- at most one field states the length
abbrev pub length_by : List (List ℕ) → Option ℕ
length_by [] = Some 0
length_by (text ∷ []) = stated_length text
length_by (text ∷ other ∷ others) = None

abbrev pub unless_any : List (List ℕ) → Option ℕ → Option ℕ
unless_any [] n = n
unless_any (value ∷ values) n = None

-- the length of the body, if the fields state one
abbrev pub body_length : List (List ℕ × List ℕ) → Option ℕ
body_length fields = unless_any (values_named (codes "transfer-encoding") fields)
    (length_by (values_named (codes "content-length") fields))

-- what was found of these values
abbrev pub IsFound : Found → List (List ℕ) → Type 0
IsFound Absent values = values ≡ []
IsFound (One value) values = values ≡ value.now ∷ []
IsFound Many values = (first second : List ℕ) × (others : List (List ℕ)) × (values ≡ first ∷ second ∷ others)
