-- What a message is, and how a stream splits into messages.
use Rattle.std.specs.Prelude.{◌≡◌, ℕ, ◌≤◌, List, ◌++◌, map, length, Option, Some}
use Rattle.httparse.specs.Grammar.{RequestHead, IsRequestHead, print_request}
use Rattle.httparse.specs.Spans.{name_and_value}
use Rattle.room_wire.specs.Messages.Fields.{body_length}
use Rattle.room_wire.specs.Messages.Limits.{max_fields, max_head}

pub record MessageModel : Type 0 where
  pub head : RequestHead
  pub body : List ℕ

-- names and values, without the white space round each value
abbrev pub fields_of : RequestHead → List (List ℕ × List ℕ)
fields_of h = map name_and_value h.fields

abbrev pub print_message : MessageModel → List ℕ
print_message m = print_request m.head ++ m.body

-- the length of the body, if the head's fields state one
abbrev pub body_after : RequestHead → Option ℕ
body_after h = body_length (fields_of h)

-- the head is one of the grammar, within the limits, and the fields state the length of the body
pub record IsMessage (m : MessageModel) : Type 0 where
  pub head : IsRequestHead m.head
  pub head_fits : length (print_request m.head) ≤ max_head
  pub few_fields : length m.head.fields ≤ max_fields
  pub body : body_after m.head ≡ Some (length m.body)

pub record Reads (bytes : List ℕ) (m : MessageModel) (rest : List ℕ) : Type 0 where
  pub lawful : IsMessage m
  pub whole : bytes ≡ print_message m ++ rest

-- no front of the bytes is a message
abbrev pub NoMessage : List ℕ → Type 0
NoMessage bytes = (m : MessageModel) (rest : List ℕ) → Reads bytes m rest → ⊥

-- no front is a message, whatever bytes follow
abbrev pub NeverMessage : List ℕ → Type 0
NeverMessage bytes = (more : List ℕ) → NoMessage (bytes ++ more)
