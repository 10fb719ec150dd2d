-- A session that is put: its name stands once, by the rule UNIQUE.
use Rattle.room_tables.proofs.Common.{◌≡◌, ℕ, ℤ, pos, Bool, true, false, ◌==◌, cond, List, [], ◌∷◌, map, filter, Some}
use Rattle.room_tables.proofs.Common.{option_map, Ok, inl, inr, refl, sym, ap, ◌∙◌, true≢false, arith, bytes_eq, Equal}
use Rattle.room_tables.proofs.Common.{cases_Bool, false_from_ne_true, Int, Text, plain, first_key, Row, column}
use Rattle.room_tables.proofs.Common.{value_cmp, rowid, agree, Unique, Has, all_has, automatic, Database, IsDatabase}
use Rattle.room_tables.proofs.Common.{State, ExecutesInside, PutSession, apply_change, Layout, room_schema}
use Rattle.room_tables.proofs.Common.{session_table, has_text, only, shown_session, session_stored, sessions_in}
use Rattle.room_tables.proofs.Common.{IsKeyed, IsRoomDatabase, Steps, flag_of}
use Rattle.std.proofs.lemmas.Slice.Eq.{bytes_eq-Decides}
use Rattle.room_records.specs.declared.session.SessionRow.{SessionRow}
use Rattle.room_tables.proofs.Texts.{put_session_text}
use Rattle.room_tables.proofs.Each.{rows_pass, once_by}
use Rattle.room_tables.proofs.Values.{has_text_value, has_text_one, text_has}
use Rattle.room_tables.proofs.Removed.{one_row}
use Rattle.room_tables.proofs.Queries.{and_true}
use Rattle.room_tables.proofs.Upserts.{Put}
use Rattle.room_tables.proofs.Puts.{IsSession, stored_session, puts_session}
use Rattle.room_tables.proofs.Filters.{filter_apart, has_row, keyed_after}
use Rattle.room_tables.proofs.Effects.{same_records, steps_at}

agree_on : (sid : List ℕ) (x y : Row) → has_text 1 sid x ≡ true
    → has_text 1 sid y ≡ true → agree plain (1 ∷ []) x (1 ∷ []) y ≡ true
unfolding first_key
agree_on sid x y p q = rw (has_text_value 1 sid y q) (and_true (has_text 1 sid x) ∙ p)

pub session_once : (l : Layout) (db : Database) (sid : List ℕ) (x y : Row) → db.schema ≡ room_schema l
    → IsDatabase db → IsKeyed (db.trees 6) → Has (db.trees 6) x → Has (db.trees 6) y
    → has_text 1 sid x ≡ true → has_text 1 sid y ≡ true → value_cmp (rowid x) (rowid y) ≡ Equal
session_once l db sid x y schema sound keyed in_x in_y p q =
    once_by l db session_table (automatic session_table 0 (1 ∷ []) 7) x y (inr (inr (inl refl))) refl
    (all_has _ (db.trees 6) y (rows_pass Unique db l schema sound).session in_y) in_x (agree_on sid x y p q)
    (all_has _ (db.trees 6) x keyed.ints in_x) (all_has _ (db.trees 6) y keyed.ints in_y)

-- ---- the row in the place of the one with its name

-- what is read of the rows with a name
filter_session : {X : Type 0} (f : List Row → X) (l : Layout) (sid q : List ℕ) (old new : Database) (Fits : Row
    → Type 0)
    (it : Put l 6 old.trees new.trees Fits (λ r. has_text 1 sid r ≡ true))
    → has_text 1 sid it.row ≡ true → new.schema ≡ room_schema l → IsDatabase new → IsKeyed (old.trees 6)
    → f (filter (has_text 1 q) (new.trees 6))
    ≡ cond (bytes_eq q sid) (f (it.row ∷ [])) (f (filter (has_text 1 q) (old.trees 6)))
filter_session f l sid q old new Fits it mine schema sound keyed = elim (cases_Bool (bytes_eq q sid)) [
  | inl same ↦
      let is : q ≡ sid = (bytes_eq-Decides q sid).0 same in
      let table = keyed_after it keyed in
      rw (same, is) (ap f (one_row (has_text 1 sid) (new.trees 6) it.row table.table (has_row it) mine
      (λ x y a b p h. session_once l new sid x y schema sound table a b p h)))
  | inr differs ↦ rw differs (ap f (filter_apart it (has_text 1 q) (apart differs it.row mine) (apart differs)))
]
  where
    apart : bytes_eq q sid ≡ false → (r : Row) → has_text 1 sid r ≡ true → has_text 1 q r ≡ false
    apart differs r h = false_from_ne_true _ (λ also.
        true≢false (sym ((bytes_eq-Decides q sid).1 (has_text_one 1 q sid r also h)) ∙ differs))

session_back : (row : SessionRow) (rowid : ℤ)
    → session_stored row.sid (shown_session
    (stored_session rowid row.sid row.owner row.slots (flag_of row.is_open))) ≡ row
session_back row rowid = λ i. record row { is_open = flag_back row.is_open i }
  where
    flag_back : (b : Bool) → (flag_of b == 1) ≡ b
    flag_back true = refl
    flag_back false = refl

pub steps_session : (old new : State) (row : SessionRow) (count : ℕ) → IsRoomDatabase old.now
    → ExecutesInside 0 put_session_text
    (Text row.sid ∷ Text row.owner ∷ Int (pos row.slots) ∷ Int (pos (flag_of row.is_open)) ∷ []) old new (Ok count)
    → Steps old new (apply_change (PutSession row))
steps_session old new row count room h =
    let done = puts_session room.layout old new row.sid row.owner row.slots
    (flag_of row.is_open) count room.schema room.keyed.1.1.1.1.0 h.0 in
    let it = done.put in
    let mine : has_text 1 row.sid it.row ≡ true = text_has 1 row.sid it.row (ap (λ (r : Row). column r 1) it.fits.1) in
    steps_at 6 old new room _ (omega arith) done.schema done.sound it.others (keyed_after it room.keyed.1.1.1.1.0)
    room.numbered (λ v. v) (same_records _ _ (λ _. refl) (λ _. refl) (λ _. refl) refl
    (λ sid. filter_session (λ rows. option_map (session_stored sid) (only (map shown_session rows))) room.layout
    row.sid sid old.now new.now _ it mine done.schema done.sound room.keyed.1.1.1.1.0 ∙ found sid it.row it.fits)
    (λ _ _. refl))
  where
    found : (sid : List ℕ) (r : Row) → IsSession row.sid row.owner row.slots (flag_of row.is_open) r
        → cond (bytes_eq sid row.sid) (Some (session_stored sid (shown_session r))) (sessions_in (old.now.trees 6) sid)
        ≡ cond (bytes_eq sid row.sid) (Some row) (sessions_in (old.now.trees 6) sid)
    found sid r fits = elim (cases_Bool (bytes_eq sid row.sid)) [
      | inl same ↦ rw same (ap Some (ap (λ q. session_stored q (shown_session r))
          ((bytes_eq-Decides sid row.sid).0 same)
          ∙ ap (λ x. session_stored row.sid (shown_session x)) fits.1 ∙ session_back row fits.0))
      | inr differs ↦ rw differs refl
    ]
