-- The limits of a message (our own rules).
use Rattle.std.specs.Prelude.{ℕ, ◌+◌}

-- bytes in a head, with the empty line that ends it
abbrev pub max_head : ℕ
max_head = 8192

-- fields in a head
abbrev pub max_fields : ℕ
max_fields = 32

-- bytes in a body
abbrev pub max_body : ℕ
max_body = 131072

-- bytes in a message
abbrev pub max_message : ℕ
max_message = max_head + max_body
