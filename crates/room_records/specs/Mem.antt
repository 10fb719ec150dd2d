-- A shelf in memory, as rows by their keys.
use Rattle.std.specs.Prelude.{◌≡◌, ℕ, ◌<◌, List, [], ◌∷◌, Option, unwrap_or}
use Rattle.std.specs.Option.{option_map}
use Rattle.std.specs.Ordering.{nat_cmp}
use Rattle.room_acl.specs.Entries.{EntryModel}
use Rattle.room_records.specs.declared.node.Node.{Node}
use Rattle.room_records.specs.declared.change.Change.{Change}
use Rattle.room_records.specs.declared.change.Change.TheVariants.{PutNode, DropNode, PutEntries, PutDoc, PutSession}
use Rattle.room_records.specs.declared.change.Change.TheVariants.{PutSlot, DropSlots, PutNext}
use Rattle.room_records.specs.declared.mem.MemShelf.{MemShelf}
use Rattle.room_records.specs.Limits.{max_slots}
use Rattle.room_records.specs.Names.{Name, name_cmp}
use Rattle.room_records.specs.Records.{ObjectRecords, Records}
use Rattle.room_records.specs.Changes.{apply_change}
use Rattle.room_records.specs.Table.{held, HasSpace}
use Rattle.room_records.specs.NodeIndex.{node_in, HasSpaceForNode}
use Rattle.room_records.specs.Sessions.{slot_cmp, session_in, kept_in}

abbrev pub entries_of : MemShelf → ℕ → List EntryModel
entries_of s id = unwrap_or (option_map (λ entries. entries.items) (held nat_cmp s.entries.slots id)) []

abbrev pub document_of : MemShelf → ℕ → Option (List ℕ)
document_of s id = option_map (λ bytes. bytes.items) (held nat_cmp s.docs.slots id)

abbrev pub mem_objects : MemShelf → ObjectRecords
mem_objects s =
    record { node = node_in s.nodes.nodes.slots; entries = entries_of s; document = document_of s; next = s.next }

abbrev pub mem_records : MemShelf → Records
mem_records s =
    record { objects = mem_objects s; session = session_in s.sessions.rows.slots; slot = kept_in s.sessions.kept.slots }

-- a change can be made without memory
abbrev pub HasSpaceFor : MemShelf → Change → Type 0
HasSpaceFor s (PutNode node) = HasSpaceForNode s.nodes.nodes.slots s.nodes.places.slots node
HasSpaceFor s (PutEntries id entries) = HasSpace nat_cmp s.entries.slots id
HasSpaceFor s (PutDoc id bytes) = HasSpace nat_cmp s.docs.slots id
HasSpaceFor s (PutSession row) = HasSpace name_cmp s.sessions.rows.slots row.sid
HasSpaceFor s (PutSlot row) = row.slot < max_slots → HasSpace slot_cmp s.sessions.kept.slots (row.sid, row.slot)
HasSpaceFor s (DropNode id) = Unit {0}
HasSpaceFor s (DropSlots sid) = Unit {0}
HasSpaceFor s (PutNext next) = Unit {0}

-- what had room still has it
pub record KeepsSpace (old new : MemShelf) : Type 0 where
  pub nodes : (node : Node) → HasSpaceForNode old.nodes.nodes.slots old.nodes.places.slots node
      → HasSpaceForNode new.nodes.nodes.slots new.nodes.places.slots node
  pub entries : (id : ℕ) → HasSpace nat_cmp old.entries.slots id → HasSpace nat_cmp new.entries.slots id
  pub docs : (id : ℕ) → HasSpace nat_cmp old.docs.slots id → HasSpace nat_cmp new.docs.slots id
  pub sessions : (sid : Name) → HasSpace name_cmp old.sessions.rows.slots sid
      → HasSpace name_cmp new.sessions.rows.slots sid
  pub slots : (sid : Name) (slot : ℕ) → HasSpace slot_cmp old.sessions.kept.slots (sid, slot)
      → HasSpace slot_cmp new.sessions.kept.slots (sid, slot)

-- changes that do the same to all records, one for one
abbrev pub AreSameChanges : List Change → List Change → Type 0
AreSameChanges [] [] = Unit {0}
AreSameChanges (a ∷ more) (b ∷ others) =
    ((r : Records) → apply_change a r ≡ apply_change b r) × AreSameChanges more others
AreSameChanges [] (b ∷ others) = ⊥
AreSameChanges (a ∷ more) [] = ⊥
