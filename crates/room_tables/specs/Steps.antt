-- Steps of a transaction on the records.
use Rattle.std.specs.Prelude.{◌≡◌, ◌≢◌, ◌<◌, ◌-◌, ◌^◌, ℕ, suc, pos, Bool, List, [], ◌∷◌, length}
use Rattle.std.specs.Prelude.{if◌then◌else◌, IsTrue}
use Rattle.std.specs.List.{AllByRecursion}
use Rattle.sqlite_value.specs.declared.value.Value.TheVariants.{Int, Text}
use Rattle.sqlite_value.specs.Order.{Row}
use Rattle.sqlite_trees.specs.Tree.{Trees}
use Rattle.sqlite.specs.Effect.{Database, IsDatabase}
use Rattle.sqlite.specs.State.{State}
use Rattle.room_acl.specs.declared.subject.Kind.{Kind}
use Rattle.room_acl.specs.declared.subject.Kind.TheVariants.{File, Folder}
use Rattle.room_acl.specs.Entries.{EntryModel, IsEntry, who_text}
pub use Rattle.room_acl.specs.Entries.{type_of}
use Rattle.room_records.specs.declared.change.Change.{Change}
use Rattle.room_records.specs.Records.{Records}
use Rattle.room_records.specs.Changes.{apply_changes}
use Rattle.room_tables.specs.Rows.{records_of, version_rows, IsVersion, entry_rows, who_of}
use Rattle.room_tables.specs.Layout.{IsRoomDatabase, IsRoomOfVersion2}

-- ---- values as they are stored

abbrev pub kind_number : Kind → ℕ
kind_number File = 0
kind_number Folder = 1

abbrev pub flag_of : Bool → ℕ
flag_of b = if b then 1 else 0

abbrev pub IsReadBack : EntryModel → Type 0
IsReadBack e = who_of e.flags (who_text e.who) ≡ e.who

abbrev pub shown_as : ℕ → EntryModel → Row
shown_as place e = Int (pos place) ∷ Int (pos (type_of e.allow))
    ∷ Int (pos e.flags) ∷ Int (pos e.mask) ∷ Text (who_text e.who) ∷ []

-- entries as they are shown, at places from a number on
abbrev pub placed : ℕ → List EntryModel → List Row
placed at [] = []
placed at (e ∷ es) = shown_as at e ∷ placed (suc at) es

-- the row shows a lawful entry, at a place of 32 bits
pub record ShowsEntry (row : Row) : Type 0 where
  pub place : ℕ
  pub fits : place < 2 ^ 32
  pub entry : EntryModel
  pub lawful : IsEntry entry
  pub is : row ≡ shown_as place entry

-- each row shows one, and they can be counted in 64 bits
pub record AreEntries (rows : List Row) : Type 0 where
  pub each : AllByRecursion ShowsEntry rows
  pub few : length rows < 2 ^ 64 - 1

-- ---- steps

-- while the connection is open, what it sees is sound: so it says of itself
abbrev pub SeesSound : State → Type 0
SeesSound s = IsTrue s.is_open → IsDatabase s.now

-- inside a transaction the records were changed so, and the tables and a version 2 stayed
pub record Steps (old new : State) (change : Records → Records) : Type 0 where
  pub room : IsRoomDatabase new.now
  pub schema : new.now.schema ≡ old.now.schema
  pub records : records_of new.now.trees ≡ change (records_of old.now.trees)
  pub version : IsVersion 2 (version_rows old.now.trees) → IsVersion 2 (version_rows new.now.trees)
  pub sound : SeesSound old → SeesSound new
  pub lists : IsDatabase old.now → IsDatabase new.now

-- a commit of these changes leaves such trees, where there was a room before
abbrev pub MayBecome : List Change → Database → Trees → Type 0
MayBecome changes db trees = IsRoomDatabase db → records_of trees ≡ apply_changes changes (records_of db.trees)

-- and a room of version 2 in the tables that are there
abbrev pub StaysRoom : Database → Trees → Type 0
StaysRoom db trees = IsRoomOfVersion2 db → IsRoomOfVersion2 (record { schema = db.schema; trees = trees })

-- the object's entries are these, and all else is as it was, the rows of the others' entries too
pub record Lists (before : Database) (id : ℕ) (entries : List EntryModel) (db : Database) : Type 0 where
  pub room : IsRoomDatabase db
  pub schema : db.schema ≡ before.schema
  pub mine : entry_rows db.trees id ≡ placed 0 entries
  pub back : AllByRecursion IsReadBack entries
  pub others : (q : ℕ) → q ≢ id → entry_rows db.trees q ≡ entry_rows before.trees q
  pub nodes : db.trees 1 ≡ before.trees 1
  pub documents : (q : ℕ) → (records_of db.trees).objects.document q ≡ (records_of before.trees).objects.document q
  pub next : (records_of db.trees).objects.next ≡ (records_of before.trees).objects.next
  pub sessions : (sid : List ℕ) → (records_of db.trees).session sid ≡ (records_of before.trees).session sid
  pub slots : (sid : List ℕ) (slot : ℕ) → (records_of db.trees).slot sid slot ≡ (records_of before.trees).slot sid slot
  pub version : version_rows db.trees ≡ version_rows before.trees
  pub sound : IsDatabase before → IsDatabase db
