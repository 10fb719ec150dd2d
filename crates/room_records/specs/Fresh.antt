-- The rows of a fresh room.
use Rattle.std.specs.Prelude.{ℕ, ◌==◌, List, [], None, Some, if◌then◌else◌}
use Rattle.room_acl.specs.declared.subject.Kind.TheVariants.{Folder}
use Rattle.room_acl.specs.Bits.{no_list_flags}
use Rattle.room_records.specs.declared.node.Node.{Node}
use Rattle.room_records.specs.Records.{Records, root_number}
use Rattle.room_records.specs.Room.{fresh_entries}

-- the node of its root folder
abbrev pub fresh_root : List ℕ → List ℕ → Node
fresh_root owner group = record {
  id = root_number;
  parent = None;
  name = None;
  kind = Folder;
  owner = owner;
  group = group;
  aclflag = no_list_flags;
}

-- the root folder with two entries of its own, and no session
abbrev pub fresh_records : List ℕ → List ℕ → Records
fresh_records owner group = record {
  objects = record {
    node = λ id. if id == root_number then Some (fresh_root owner group) else None;
    entries = λ id. if id == root_number then fresh_entries else [];
    document = λ id. None;
    next = 2;
  };
  session = λ sid. None;
  slot = λ sid slot. None;
}

-- no rows at all, where this is the next number
abbrev pub no_records : ℕ → Records
no_records next = record {
  objects = record { node = λ id. None; entries = λ id. []; document = λ id. None; next = next };
  session = λ sid. None;
  slot = λ sid slot. None;
}
