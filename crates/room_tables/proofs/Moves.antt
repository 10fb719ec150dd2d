-- A room of version 1 becomes one of version 2 that has the same records.
use Rattle.room_tables.proofs.Common.{◌≡◌, ◌≢◌, ℕ, ℤ, List, [], ◌∷◌, ◌++◌, Option, option_map, Ok, refl, sym, ap, ap₂}
use Rattle.room_tables.proofs.Common.{subst, ◌∙◌, IsPermutation, append-nil, IsPermutation-refl, AllByRecursion, Int}
use Rattle.room_tables.proofs.Common.{Row, Trees, Table, Database, IsDatabase, Schema, State, ExecutesInside, PutNext}
use Rattle.room_tables.proofs.Common.{apply_change, Records, Upgraded, room_schema, first_schema, slots_table}
use Rattle.room_tables.proofs.Common.{kept_text, only, kept_of, records_of, version_rows, IsVersion, IsKeyed}
use Rattle.room_tables.proofs.Common.{HasNumbers, IsRoomOfVersion1, IsRoomOfVersion2, Steps}
use Rattle.room_slots.specs.KeptModel.{KeptModel}
use Rattle.room_tables.proofs.Each.{in_turn}
use Rattle.room_tables.proofs.Texts.{copy_row_text, take_row_text}
use Rattle.room_tables.specs.Upgrade.{shows, others_than, LeavesFewer, IsWidened, IsShared, IsMoving, IsMovedOut}
use Rattle.room_tables.specs.Upgrade.{CopiesRow, IsMoved, IsUpgraded}
use Rattle.room_tables.proofs.Making.{kept_beside}
use Rattle.room_tables.proofs.Creates.{makes}
use Rattle.room_tables.proofs.Copies.{copy_moves, take_moves, copy_leaves, take_leaves}
use Rattle.room_tables.proofs.TreeNames.{slots_listed, slot_listed}
use Rattle.room_tables.proofs.Queries.{only_permuted}
use Rattle.room_tables.proofs.Effects.{same_records, read_same, after, each_after}

-- ---- each statement

pub widens : (old new : State) (count : ℕ) → ExecutesInside 0 kept_text [] old new (Ok count)
    → old.now.schema ≡ first_schema → IsWidened old.now new.now
widens old new count h has =
    let it = makes old new first_schema (room_schema Upgraded) (record (slots_table Upgraded) { tree = 0 }) kept_text
    count has kept_beside refl h in
    record { schema = it.after; sound = it.sound; empty = it.empty; others = it.others }

pub copied : (before : Database) (old new : State) (count : ℕ) → ExecutesInside 0 copy_row_text [] old new (Ok count)
    → IsMoving before old.now → CopiesRow before new
copied before old new count h it =
    copy_moves before old new count it h.0

pub taken : (before : Database) (id : ℤ) (old new : State) (count : ℕ)
    → ExecutesInside 0 take_row_text (Int id ∷ []) old new (Ok count)
    → IsShared before old.now (others_than id (old.now.trees 8)) → IsMoving before new.now
taken before id old new count h it =
    take_moves before id old new count it h.0

-- the row that is copied is to leave fewer
pub copied_one : (before : Database) (old new : State) (count : ℕ)
    → ExecutesInside 0 copy_row_text [] old new (Ok count) → IsMoving before old.now → new.changes ≢ 0
    → LeavesFewer old.now (others_than new.last_rowid (new.now.trees 8))
copied_one before old new count h it = copy_leaves before old new count it h.0

pub taken_out : (before : Database) (id : ℤ) (old new : State) (count : ℕ)
    → ExecutesInside 0 take_row_text (Int id ∷ []) old new (Ok count)
    → IsShared before old.now (others_than id (old.now.trees 8))
    → new.now.trees 8 ≡ others_than id (old.now.trees 8)
taken_out before id old new count h it = take_leaves before id old new count it h.0

-- ---- one after another

abbrev kept_in : List Row → Option KeptModel
kept_in rows = option_map kept_of (only rows)

-- as `kept` is made, no row has moved
pub none_moved : (a b : Database) → (a.schema ≡ first_schema → IsWidened a b) → IsRoomOfVersion1 a → IsMoving a b
none_moved a b wide room =
    let w = wide room.schema in
    let o = w.others in
    let slot : b.trees 8 ≡ a.trees 8 = o.1.1.1.1.1.0 in
    record {
      schema = w.schema;
      sound = w.sound;
      slots = λ sid slot_. rw (slot, w.empty) (subst (IsPermutation (shows sid slot_ (a.trees 8)))
          (sym (append-nil (shows sid slot_ (a.trees 8)))) (IsPermutation-refl _));
      slot_keyed = subst IsKeyed (sym slot) room.keyed.1.1.1.1.1.0;
      kept_keyed = subst IsKeyed (sym w.empty) (record { table = tt; ints = tt });
      others = record {
        room = λ far. o.0;
        node = λ far. o.1.0;
        entry = λ far. o.1.1.0;
        doc = λ far. o.1.1.1.0;
        session = λ far. o.1.1.1.1.0;
        slots = λ far. absurd (far refl);
      };
    }

-- and once all have, the records are as they were
pub all_moved : (a d : Database) → IsMovedOut a d → IsRoomOfVersion1 a → IsDatabase a → IsMoved a d
all_moved a d out room sound =
    let it = out.0 in
    let o = each_after 10 a d it.others in
    let here = slots_listed d Upgraded it.sound it.schema in
    let there = slot_listed a sound room.schema in
    let k = room.keyed in
    record {
      room = record {
        layout = Upgraded;
        schema = it.schema;
        listed = here;
        keyed = in_turn Upgraded (λ (t : Table). IsKeyed (d.trees t.tree)) (record {
          room = subst IsKeyed (sym o.room) k.0;
          node = subst IsKeyed (sym o.node) k.1.0;
          entry = subst IsKeyed (sym o.entry) k.1.1.0;
          doc = subst IsKeyed (sym o.doc) k.1.1.1.0;
          session = subst IsKeyed (sym o.session) k.1.1.1.1.0;
          slots = it.kept_keyed;
        });
        numbered = subst (AllByRecursion HasNumbers) (sym o.node) room.numbered;
      };
      schema = it.schema;
      records = read_same (after 10 a d) d.trees _ o refl ∙ same_records _ _
          (λ _. refl) (λ _. refl) (λ _. refl) refl (λ _. refl)
          (λ sid slot.
          let same = subst (λ rows. IsPermutation (shows sid slot (a.trees 8))
          (shows sid slot rows ++ shows sid slot (d.trees 10))) out.1 (it.slots sid slot) in
          ap (λ rows. kept_in (shows sid slot rows)) here
          ∙ ap (option_map kept_of) (only_permuted _ _ same)
          ∙ sym (ap (λ rows. kept_in (shows sid slot rows)) there));
      emptied = out.1;
    }

-- and then the version, with the next number that is there
pub upgraded : (a d e : State) (next : ℕ) → IsMoved a.now d.now → (records_of a.now.trees).objects.next ≡ next
    → Steps d e (apply_change (PutNext next)) → IsVersion 2 (version_rows e.now.trees) → IsDatabase e.now
    → e.now.trees 8 ≡ d.now.trees 8 → IsUpgraded a.now e.now
upgraded a d e next it is steps version sound slot = record {
  room = record { room = steps.room; version = version; sound = sound };
  schema = steps.schema ∙ it.schema;
  emptied = slot ∙ it.emptied;
  records = steps.records ∙ ap (apply_change (PutNext next)) it.records ∙ ap (λ n. record (records_of a.now.trees) {
    objects = record (records_of a.now.trees).objects { next = n };
  }) (sym is);
}

-- what is so of a database is so of its trees under its schema
pub by_trees : (schema : Schema) (P : Database → Type 0) (db : Database) (trees : Trees)
    → db.schema ≡ schema → trees ≡ db.trees → P db → P (record { schema = schema; trees = trees })
by_trees schema P db trees same is it =
    let path : db ≡ record { schema = schema; trees = trees } =
    ap₂ (λ s t. record { schema = s; trees = t }) same (sym is) in subst P path it

-- steps that are committed leave a room
pub stays : (old last : State) (change : Records → Records) (trees : Trees) → Steps old last change
    → trees ≡ last.now.trees → IsRoomOfVersion2 old.now
    → IsRoomOfVersion2 (record { schema = old.now.schema; trees = trees })
stays old last change trees steps is room =
    by_trees old.now.schema IsRoomOfVersion2 last.now trees steps.schema is
    (record { room = steps.room; version = steps.version room.version; sound = steps.lists room.sound })
