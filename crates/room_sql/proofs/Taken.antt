-- A room of version 1 that is upgraded, by the rows that were read before.
use Rattle.room_sql.proofs.Common.{◌≡◌, ◌∙◌, ℕ, List, [], ◌∷◌, sym, ap, false, true≢false, IsTrue, Row, Trees, Database}
use Rattle.room_sql.proofs.Common.{State, Shown, Layout, with_last, room_schema, first_schema, last_tables, slot_table}
use Rattle.room_sql.proofs.Common.{has_room, has_first_room, IsVersion, records_of, IsRoomOfVersion1, IsUpgraded}
use Rattle.room_sql.proofs.Common.{MayBeUpgraded, MayBeMovedWith, find_version_selects, told_version, told_another}
use Rattle.room_sql.proofs.Common.{shown_still}
use Rattle.sqlite.specs.Table.{Table}
use Rattle.room_tables.specs.Versions.{find_version_text, TellsVersion}
use Rattle.room_tables.proofs.Meaning.{room_has_room, first_has_first, first_has_no_kept}
use Rattle.room_sql.specs.Taken.{SaysFirst, HasItsVersion, HasAnotherVersion}

-- the number that was read is the one that is next
pub next_is : {a b : Database} {next : ℕ} → b ≡ a
    → ((more : List Table) → a.schema ≡ with_last more → next ≡ (records_of a.trees).objects.next)
    → IsRoomOfVersion1 a → (records_of b.trees).objects.next ≡ next
next_is now is room = rw now (sym (is (slot_table ∷ []) room.schema))

-- what a commit may leave, as seen before the rows were read
pub may_be : {a b : Database} {next : ℕ} (db : Trees) → b ≡ a
    → (IsRoomOfVersion1 a → (records_of b.trees).objects.next ≡ next) → MayBeMovedWith next b db → MayBeUpgraded a db
may_be db now is may room = (rw now at (may (is room))) room

pub upgraded_from : {a b d : Database} {next : ℕ} → b ≡ a
    → (IsRoomOfVersion1 a → (records_of b.trees).objects.next ≡ next)
    → (IsRoomOfVersion1 b → (records_of b.trees).objects.next ≡ next → IsUpgraded b d)
    → IsRoomOfVersion1 a → IsUpgraded a d
upgraded_from now is done room = rw now at (done (rw now room) (is room))

-- what was told is what the database says of itself
pub says : (old new : State) (rows : List Row) (P : List Row → Type 0)
    → Shown find_version_text [] old new rows → P rows → TellsVersion old old P
says old new rows P shown p = (rows, shown_still find_version_text [] old new rows find_version_selects shown, p)

-- ---- the version and the tables

not_both : (s : State) (l : Layout) → has_room s.now.schema ≡ false → s.now.schema ≡ room_schema l → ⊥
not_both s l none is = true≢false (sym (room_has_room l) ∙ sym (ap has_room is) ∙ none)

not_first : (s : State) → IsTrue (has_room s.now.schema) → s.now.schema ≡ first_schema → ⊥
not_first s has is = true≢false (sym has ∙ ap has_room is ∙ first_has_no_kept)

pub second_version : (old new : State) → IsTrue (has_room old.now.schema) → TellsVersion old new (IsVersion 2)
    → HasItsVersion old
second_version old new has told = record {
  second = λ l is. told_version (last_tables l) old new 2 is told;
  first = λ is. absurd (not_first old has is);
}

pub first_version : (s : State) → SaysFirst s → HasItsVersion s
first_version s says = record {
  second = λ l is. absurd (not_both s l says.no_second is);
  first = λ is. told_version (slot_table ∷ []) s s 1 is says.version;
}

pub no_second_version : (old new : State) → IsTrue (has_room old.now.schema)
    → TellsVersion old new (λ rows. ¬ IsVersion 2 rows) → HasAnotherVersion old
no_second_version old new has told = record {
  second = λ l is. told_another (last_tables l) old new 2 is told;
  first = λ is. absurd (not_first old has is);
}

pub no_first_version : (old new : State) → has_room old.now.schema ≡ false
    → TellsVersion old new (λ rows. ¬ IsVersion 1 rows) → HasAnotherVersion old
no_first_version old new none told = record {
  second = λ l is. absurd (not_both old l none is);
  first = λ is. told_another (slot_table ∷ []) old new 1 is told;
}

pub no_version : (s : State) → has_room s.now.schema ≡ false → has_first_room s.now.schema ≡ false → HasAnotherVersion s
no_version s none empty = record {
  second = λ l is. absurd (not_both s l none is);
  first = λ is. absurd (true≢false (sym first_has_first ∙ sym (ap has_first_room is) ∙ empty));
}
