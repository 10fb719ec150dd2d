-- How a stream splits into messages.
use Rattle.std.specs.Prelude.{◌≡◌, ℕ, ◌⊎◌, ◌==◌, ◌||◌, Bool, false, List, [], ◌∷◌, codes}
use Rattle.std.specs.List.{list_any, slice_split}
use Rattle.std.specs.Bool.{MatchBool}
use Rattle.std.specs.Str.{str_eq_ignore_ascii_case}
use Rattle.httparse.specs.Grammar.{trim_ows}
use Rattle.room_wire.specs.Messages.Fields.{values_named}
use Rattle.room_wire.specs.Messages.MessageModel.{MessageModel, fields_of, Reads, NoMessage}

-- a member of a field's value that asks to close
abbrev pub is_close : List ℕ → Bool
is_close part = str_eq_ignore_ascii_case (trim_ows part) (codes "close")

abbrev pub lists_close : List ℕ → Bool
lists_close value = list_any is_close (slice_split (λ b. b == 44) value)

abbrev pub asks_to_close : List (List ℕ × List ℕ) → Bool
asks_to_close fields = list_any lists_close (values_named (codes "connection") fields)

-- the message is last: HTTP/1.0, or it asks to close
abbrev pub is_last : MessageModel → Bool
is_last m = (m.head.minor == 0) || asks_to_close (fields_of m.head)

-- these messages stand at the front, none of them last, and then the rest
abbrev pub Follows : List ℕ → List MessageModel → List ℕ → Type 0
Follows bytes [] rest = bytes ≡ rest
Follows bytes (m ∷ ms) rest = (tail : List ℕ) × Reads bytes m tail × (is_last m ≡ false) × Follows tail ms rest

-- these messages stand at the front, the last of them alone is last, and then the rest
abbrev pub Ended : List ℕ → List MessageModel → List ℕ → Type 0
Ended bytes [] rest = ⊥
Ended bytes (m ∷ ms) rest = (tail : List ℕ) × Reads bytes m tail
    × MatchBool (is_last m) ((ms ≡ []) × (tail ≡ rest)) (Ended tail ms rest)

-- the split of a stream: up to a last message, or until no front of the rest is one
abbrev pub Splits : List ℕ → List MessageModel → List ℕ → Type 0
Splits bytes ms rest = Ended bytes ms rest ⊎ (Follows bytes ms rest × NoMessage rest)
