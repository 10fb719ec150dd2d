-- A decision over the rows that were read so far, and the frame of a query whose rows are read one at a time.
use Rattle.room_sql.proofs.Common.{◌≡◌, ◌⊎◌, ℕ, pos, false, List, [], ◌∷◌, ◌++◌, map, Result, IsErr, ◌<◌, ◌-◌, ◌^◌}
use Rattle.room_sql.proofs.Common.{length, refl, sym, ap, subst, ◌∙◌, append-nil, length-append, arith, AllByRecursion}
use Rattle.room_sql.proofs.Common.{IfOk-from_err, map-append, append_assoc, Int, Row, Database, IsDatabase, State}
use Rattle.room_sql.proofs.Common.{HasCleanDisk, IsLive, IsUnchanged, IsRolledBack, Survives, Shown, Begins, Error}
use Rattle.room_sql.proofs.Common.{survives_then, EntryModel, IsRoomDatabase, entry_of, entry_rows, ShowsEntry}
use Rattle.room_sql.proofs.Common.{AreEntries, read_entries_text, left_open, left_now, QueryFrame}
use Rattle.room_acl.specs.declared.subject.Standing.{Standing}
use Rattle.room_acl.specs.SubjectModel.{SubjectModel}
use Rattle.room_acl.specs.Access.{decision}
use Rattle.room_acl.specs.Pending.{PendingModel, decision_with}
use Rattle.room_tables.proofs.EntryRows.{next_shows}
use Rattle.room_tables.proofs.Reading.{read_begins, read_ends}
use Rattle.room_sql.proofs.Frames.{was_clean, on_ok}

-- ---- frames

-- the connection is as it was
pub frame_same : {T : Type 0} {old new : State} {r : Result T Error} → Survives old new (λ _. ⊥)
    → (old.in_transaction ≡ false → new.in_transaction ≡ false)
    → (HasCleanDisk new → IsUnchanged old new) → QueryFrame old new r
frame_same {r = r} survives mode same = record {
  clean = was_clean survives;
  was_open = λ clean is. (same clean).0.was_open;
  mode = mode;
  answered = λ clean. on_ok r ((same clean).0.is_open, (same clean).0.now_is);
  same = λ clean is settled. (same clean).0.now_is;
  crash = survives;
}

-- or it failed
pub frame_failed : {T : Type 0} {old new : State} {r : Result T Error} → IsErr r → Survives old new (λ _. ⊥)
    → (old.in_transaction ≡ false → new.in_transaction ≡ false)
    → (HasCleanDisk new → IsUnchanged old new ⊎ IsRolledBack old new) → QueryFrame old new r
frame_failed {r = r} err survives mode left = record {
  clean = was_clean survives;
  was_open = λ clean is. left_open _ _ (left clean) is;
  mode = mode;
  answered = λ clean. IfOk-from_err r _ err;
  same = λ clean is settled. left_now _ _ settled (left clean) is;
  crash = survives;
}

-- one call after another
pub survives_on : {a b c : State} → Survives a b (λ _. ⊥) → Survives b c (λ _. ⊥) → Survives a c (λ _. ⊥)
survives_on one two = survives_then _ _ _ _ _ (λ _. ⊥) (λ _ db none. none) (λ _ db none. none) one two

-- ---- the decision under way

-- what the decision under way answers after these rows, whatever follows
pub record IsAfter (caller : SubjectModel) (standing : Standing) (wanted : ℕ) (rows : List Row) (p : PendingModel)
    : Type 0 where
  pub answers : (entries : List EntryModel) → decision_with entries caller standing p
      ≡ decision (map entry_of rows ++ entries) caller standing wanted

module _ {caller : SubjectModel} {standing : Standing} {wanted : ℕ} where
  pub taken : {e : EntryModel} {p q : PendingModel} (rows : List Row) (row : Row)
      → IsAfter caller standing wanted rows p → e ≡ entry_of row
      → ((entries : List EntryModel) → decision_with entries caller standing q
      ≡ decision_with (e ∷ entries) caller standing p) → IsAfter caller standing wanted (rows ++ row ∷ []) q
  taken {e = e} rows row was is answers =
      let more : map entry_of (rows ++ row ∷ []) ≡ map entry_of rows ++ e ∷ [] =
      map-append entry_of rows (row ∷ []) ∙ rw is refl in
      record { answers = λ entries. answers entries ∙ was.answers (e ∷ entries) ∙ rw (more, append_assoc) refl }

  module _ {old now : State} {p : PendingModel} (id : ℕ) (given : List Row)
      (room : IsRoomDatabase old.now) (live : IsLive old) (same : IsUnchanged old now)
      (was : IsAfter caller standing wanted given p) where
    room_now : IsRoomDatabase now.now
    room_now = rw (same.0.now_is) room

    sound_now : IsDatabase now.now
    sound_now = rw (same.0.now_is) (live same.0.was_open).0

    -- nothing is left: the rows behind change nothing
    pub stopped : Begins read_entries_text (Int (pos id) ∷ []) now given
        → ((entries : List EntryModel) → decision_with entries caller standing p ≡ decision_with [] caller standing p)
        → decision_with [] caller standing p
        ≡ decision (map entry_of (entry_rows old.now.trees id)) caller standing wanted
    stopped begins none =
        let read = read_begins now id given room_now sound_now begins in
        sym (none (map entry_of read.0)) ∙ was.answers (map entry_of read.0)
        ∙ rw (← map-append, read.1, same.0.now_is) refl

    -- all rows were read
    pub ended : (new : State) → Shown read_entries_text (Int (pos id) ∷ []) now new given
        → decision_with [] caller standing p
        ≡ decision (map entry_of (entry_rows old.now.trees id)) caller standing wanted
    ended new shown =
        was.answers [] ∙ rw (append-nil, read_ends now new id given room_now sound_now shown, same.0.now_is) refl

-- ---- rows that were given are the first of the object's

module _ {old now : State} (id : ℕ) (given : List Row)
    (room : IsRoomDatabase old.now) (live : IsLive old) (same : IsUnchanged old now)
    (begins : Begins read_entries_text (Int (pos id) ∷ []) now given) where
  front : (tail : List Row) × (given ++ tail ≡ entry_rows old.now.trees id)
  front =
      let read = read_begins now id given (rw (same.0.now_is) room) (rw (same.0.now_is) (live same.0.was_open).0)
      begins in
      (read.0, read.1 ∙ ap (λ (d : Database). entry_rows d.trees id) same.0.now_is)

  pub given_few : AreEntries (entry_rows old.now.trees id) → length given < 2 ^ 64 - 1
  given_few are =
      let long = length-append given front.0 in let all = ap length front.1 in
      let few = are.few in omega (arith, long, all, few)

-- the last of them shows an entry
pub last_shows : {old now : State} (id : ℕ) (given : List Row) (row : Row) → IsRoomDatabase old.now → IsLive old
    → IsUnchanged old now → Begins read_entries_text (Int (pos id) ∷ []) now (given ++ row ∷ [])
    → AreEntries (entry_rows old.now.trees id) → ShowsEntry row
last_shows {old = old} id given row room live same begins are =
    let it = front id (given ++ row ∷ []) room live same begins in
    next_shows given row it.0 (subst (AllByRecursion ShowsEntry) (sym it.1) are.each)
