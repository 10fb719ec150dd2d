-- What a change does to the rows.
use Rattle.std.specs.Prelude.{◌≡◌, ◌<◌, ℕ, ◌==◌, ◌&&◌, List, [], ◌∷◌, Option, None, Some, if◌then◌else◌}
use Rattle.std.specs.List.{AllByRecursion, fold}
use Rattle.std.specs.Str.{bytes_eq}
use Rattle.room_slots.specs.KeptModel.{KeptModel}
use Rattle.room_records.specs.declared.change.Change.{Change}
use Rattle.room_records.specs.declared.change.Change.TheVariants.{PutNode, DropNode, PutEntries, PutDoc, PutSession}
use Rattle.room_records.specs.declared.change.Change.TheVariants.{PutSlot, DropSlots, PutNext}
use Rattle.room_records.specs.declared.session.SessionRow.{SessionRow}
use Rattle.room_records.specs.Limits.{max_slots}
use Rattle.room_records.specs.Records.{ObjectRecords, Records}
use Rattle.room_records.specs.Rules.{ObjectRules, RulesHold}

-- nodes, entries, documents and the next number after one change. A new node's entries are empty by the rules before
abbrev pub apply_to_objects : Change → ObjectRecords → ObjectRecords
apply_to_objects (PutNode node) t = record t { node = λ id. if id == node.id then Some node else t.node id }
apply_to_objects (DropNode gone) t = record t {
  node = λ id. if id == gone then None else t.node id;
  entries = λ id. if id == gone then [] else t.entries id;
  document = λ id. if id == gone then None else t.document id;
}
apply_to_objects (PutEntries at entries) t =
    record t { entries = λ id. if id == at then entries.items else t.entries id }
apply_to_objects (PutDoc at bytes) t =
    record t { document = λ id. if id == at then Some bytes.items else t.document id }
apply_to_objects (PutNext n) t = record t { next = n }
apply_to_objects (PutSession row) t = t
apply_to_objects (PutSlot row) t = t
apply_to_objects (DropSlots gone) t = t

abbrev pub apply_to_sessions : Change → (List ℕ → Option SessionRow) → List ℕ → Option SessionRow
apply_to_sessions (PutSession row) session sid = if bytes_eq sid row.sid then Some row else session sid
apply_to_sessions (PutNode node) session sid = session sid
apply_to_sessions (DropNode gone) session sid = session sid
apply_to_sessions (PutEntries at entries) session sid = session sid
apply_to_sessions (PutDoc at bytes) session sid = session sid
apply_to_sessions (PutSlot row) session sid = session sid
apply_to_sessions (DropSlots gone) session sid = session sid
apply_to_sessions (PutNext n) session sid = session sid

abbrev pub apply_to_slots : Change → (List ℕ → ℕ → Option KeptModel) → List ℕ → ℕ → Option KeptModel
apply_to_slots (PutSlot row) kept sid slot =
    if bytes_eq sid row.sid && (slot == row.slot) then Some row.kept else kept sid slot
apply_to_slots (DropSlots gone) kept sid slot = if bytes_eq sid gone then None else kept sid slot
apply_to_slots (PutNode node) kept sid slot = kept sid slot
apply_to_slots (DropNode gone) kept sid slot = kept sid slot
apply_to_slots (PutEntries at entries) kept sid slot = kept sid slot
apply_to_slots (PutDoc at bytes) kept sid slot = kept sid slot
apply_to_slots (PutSession row) kept sid slot = kept sid slot
apply_to_slots (PutNext n) kept sid slot = kept sid slot

abbrev pub apply_change : Change → Records → Records
apply_change change r = record {
  objects = apply_to_objects change r.objects;
  session = apply_to_sessions change r.session;
  slot = apply_to_slots change r.slot;
}

abbrev pub apply_all_to_objects : List Change → ObjectRecords → ObjectRecords
apply_all_to_objects changes t = fold (λ t change. apply_to_objects change t) t changes

abbrev pub apply_changes : List Change → Records → Records
apply_changes changes r = fold (λ r change. apply_change change r) r changes

-- the rules hold after each change, as it is applied
abbrev pub HoldAfterEach : {R : Type 0} → (R → Type 0) → (Change → R → R) → List Change → R → Type 0
HoldAfterEach Rules apply [] r = Unit {0}
HoldAfterEach Rules apply (change ∷ changes) r =
    Rules (apply change r) × HoldAfterEach Rules apply changes (apply change r)

abbrev pub RulesHoldAfterEach : List Change → Records → Type 0
RulesHoldAfterEach changes r = HoldAfterEach RulesHold apply_change changes r

-- those on nodes, entries and documents alone
abbrev pub ObjectRulesHoldAfterEach : List Change → ObjectRecords → Type 0
ObjectRulesHoldAfterEach changes t = HoldAfterEach ObjectRules apply_to_objects changes t

-- changes that leave this reading of the records as it is, whatever the records are
abbrev pub Leave : {R : Type 0} → (Records → R) → List Change → Type 0
Leave read changes = AllByRecursion (λ change. (r : Records) → read (apply_change change r) ≡ read r) changes

-- each row that all the changes leave is as it was, and each of the first 16 slots keeps what they leave in it
pub record Untouched (changes : List Change) (old new : Records) : Type 0 where
  pub node : (id : ℕ) → Leave (λ r. r.objects.node id) changes → new.objects.node id ≡ old.objects.node id
  pub entries : (id : ℕ) → Leave (λ r. r.objects.entries id) changes → new.objects.entries id ≡ old.objects.entries id
  pub document : (id : ℕ) → Leave (λ r. r.objects.document id) changes
      → new.objects.document id ≡ old.objects.document id
  pub next : Leave (λ r. r.objects.next) changes → new.objects.next ≡ old.objects.next
  pub session : (sid : List ℕ) → Leave (λ r. r.session sid) changes → new.session sid ≡ old.session sid
  pub slot : (sid : List ℕ) (slot : ℕ) → Leave (λ r. r.slot sid slot) changes → new.slot sid slot ≡ old.slot sid slot
  pub kept : (sid : List ℕ) (slot : ℕ) → slot < max_slots
      → new.slot sid slot ≡ (apply_changes changes old).slot sid slot

abbrev pub IsOfObjects : Change → Type 0
IsOfObjects (PutSession row) = ⊥
IsOfObjects (PutSlot row) = ⊥
IsOfObjects (DropSlots sid) = ⊥
IsOfObjects (PutNode node) = Unit {0}
IsOfObjects (DropNode id) = Unit {0}
IsOfObjects (PutEntries id entries) = Unit {0}
IsOfObjects (PutDoc id bytes) = Unit {0}
IsOfObjects (PutNext next) = Unit {0}
