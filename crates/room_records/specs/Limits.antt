-- The limits of a room (our own rules).
use Rattle.std.specs.Prelude.{ℕ, ◌≤◌}

-- names on a path
abbrev pub max_names : ℕ
max_names = 16

abbrev pub max_name_bytes : ℕ
max_name_bytes = 64

abbrev pub max_children : ℕ
max_children = 256

-- bytes in the document of a file
abbrev pub max_document : ℕ
max_document = 65536

abbrev pub max_slots : ℕ
max_slots = 16

abbrev pub IsSlotCount : ℕ → Type 0
IsSlotCount count = (1 ≤ count) × (count ≤ max_slots)

-- bytes in the name of a session, neither more nor fewer
abbrev pub sid_bytes : ℕ
sid_bytes = 32

-- object numbers ever used, the root's included
abbrev pub max_objects : ℕ
max_objects = 1000000

abbrev pub max_users : ℕ
max_users = 1000

abbrev pub max_groups : ℕ
max_groups = 16
