-- What a slot keeps is written: an UPDATE changes its row, or an INSERT adds one.
use Rattle.room_tables.proofs.Common.{◌≡◌, ◌∙◌, ◌+◌, ℕ, ℤ, pos, Bool, true, false, ◌&&◌, List, [], ◌∷◌, drop, Option}
use Rattle.room_tables.proofs.Common.{Ok, Equal, inl, inr, refl, sym, ap, ap₂, subst, true≢false, is_eq, not-true}
use Rattle.room_tables.proofs.Common.{and_from, tied_itself, Value, Null, Int, Text, Blob, plain, first_key, Row}
use Rattle.room_tables.proofs.Common.{column, value_cmp, value_cmp_total, rowid, put_row, is_int, agree, guards, Unique}
use Rattle.room_tables.proofs.Common.{first_of_both, second_of_both, Has, cast, cast_row, is_taken, left_by, next_rowid}
use Rattle.room_tables.proofs.Common.{all_has, some_from, has_put, put_all_adds, automatic, Database, IsDatabase, State}
use Rattle.room_tables.proofs.Common.{Executes, Layout, Fresh, Upgraded, room_schema, slots_table, slots_tree}
use Rattle.room_tables.proofs.Common.{slots_place, has, has_text, is_slot, IsKeyed, reply_value}
use Rattle.sqlite.specs.Kind.TheVariants as kind
use Rattle.sqlite_schema.specs.declared.schema.Index.{Index}
use Rattle.room_records.specs.declared.session.SlotRow.{SlotRow}
use Rattle.room_tables.proofs.Texts.{change_slot_text, change_slot_query, add_slot_text, add_slot_terms}
use Rattle.room_tables.proofs.Each.{rows_pass, once_by, slots_placed, slots_seen}
use Rattle.room_tables.proofs.Meaning.{change_slot_means, add_slot_means}
use Rattle.room_tables.proofs.Values.{has_is, has_value, has_equal, has_text_value, text_has, cast_tied}
use Rattle.room_tables.proofs.Queries.{and_true}
use Rattle.room_tables.proofs.Changes.{cast_null, cast_int}
use Rattle.room_tables.proofs.Upserts.{PutInto}
use Rattle.room_tables.proofs.Takes.{quiet}
use Rattle.room_tables.proofs.Writes.{AtMostOne, IsUpdate, Changes, edit, Updated, made_fits, changes_rows, adds_row}

abbrev pub slot_values : List ℕ → ℕ → ℕ → List ℕ → Option (List ℕ) → Row
slot_values sid slot seq request reply =
    Text sid ∷ Int (pos slot) ∷ Int (pos seq) ∷ Blob request ∷ reply_value reply ∷ []

-- the row of this slot, under some rowid, with a value that ties with the slot's number
pub record IsSlot (row : SlotRow) (r : Row) : Type 0 where
  pub rowid : ℤ
  pub number : Value
  pub tied : value_cmp number (Int (pos row.slot)) ≡ Equal
  pub is : r ≡ Int rowid ∷ Text row.sid ∷ number ∷ Int (pos row.kept.seq) ∷ Blob row.kept.request
      ∷ reply_value row.kept.reply ∷ []

pub its_slot : (row : SlotRow) (r : Row) → IsSlot row r → is_slot row.sid row.slot r ≡ true
its_slot row r fits =
    let number : has 2 row.slot r ≡ true = has_is 2 row.slot r
    ∙ ap (λ (r : Row). is_eq (value_cmp (column r 2) (Int (pos row.slot)))) fits.is ∙ ap is_eq fits.tied in
    and_from _ _ (text_has 1 row.sid r (ap (λ (r : Row). column r 1) fits.is)) number

-- ---- a session's name and a slot's number stand once together, by the rule UNIQUE

abbrev slots_index : Layout → Index
slots_index l = automatic (slots_table l) 0 (1 ∷ 2 ∷ []) (slots_tree l + 1)

slots_indexed : (l : Layout)
    → Has (room_schema l).indexes (slots_index l) × (guards (slots_index l) (slots_table l) ≡ true)
slots_indexed Fresh = (inr (inr (inr (inl refl))), refl)
slots_indexed Upgraded = (inr (inr (inr (inr (inl refl)))), refl)

agree_on : (sid : List ℕ) (slot : ℕ) (x y : Row) → is_slot sid slot x ≡ true
    → is_slot sid slot y ≡ true → agree plain (1 ∷ 2 ∷ []) x (1 ∷ 2 ∷ []) y ≡ true
unfolding first_key
agree_on sid slot x y p q = rw (has_text_value 1 sid y (first_of_both _ _ q)) (and_from _ _ (first_of_both _ _ p)
    (and_true _ ∙ has_equal 2 slot x y (second_of_both _ _ p) (second_of_both _ _ q)))

pub slot_once : (l : Layout) (db : Database) (sid : List ℕ) (slot : ℕ) (x y : Row) → db.schema ≡ room_schema l
    → IsDatabase db → is_int (rowid x) ≡ true → is_int (rowid y) ≡ true
    → Has (db.trees (slots_tree l)) x → Has (db.trees (slots_tree l)) y
    → is_slot sid slot x ≡ true → is_slot sid slot y ≡ true → value_cmp (rowid x) (rowid y) ≡ Equal
slot_once l db sid slot x y schema sound int_x int_y in_x in_y p q =
    once_by l db (slots_table l) (slots_index l) x y (slots_indexed l).0 (slots_indexed l).1
    (all_has _ (db.trees (slots_tree l)) y (rows_pass Unique db l schema sound).slots in_y) in_x
    (agree_on sid slot x y p q) int_x int_y

-- ---- an UPDATE

module _ (l : Layout) (row : SlotRow) where
  abbrev tree : ℕ
  tree = slots_tree l

  abbrev is_its : Row → Bool
  is_its = is_slot row.sid row.slot

  -- the slot's row was put
  abbrev pub PutsSlot : Database → Database → Type 0
  PutsSlot old new = PutInto l old new (slots_tree l) (IsSlot row) (λ r. is_slot row.sid row.slot r ≡ true)

  abbrev values : Row
  values = slot_values row.sid row.slot row.kept.seq row.kept.request row.kept.reply

  -- what the count of the rows that were changed tells: all is as it was, or the slot's row was put
  abbrev pub ChangesSlot : ℕ → Database → Database → Type 0
  ChangesSlot = Changes l (slots_table l) (is_slot row.sid row.slot) (change_slot_query (slots_tree l)).filter
      (change_slot_query (slots_tree l)).project
      (slot_values row.sid row.slot row.kept.seq row.kept.request row.kept.reply) (IsSlot row)

  slot_update : IsUpdate l (slots_table l) is_its (change_slot_query tree).filter
      (change_slot_query tree).project values (IsSlot row)
  slot_update = record {
    quiet = λ olds new news. (quiet l 0 olds (new ∷ news)).slots;
    idle = (quiet l 0 [] []).slots;
    here = slots_seen l;
    test = λ r. ap (λ b. has_text 1 row.sid r && b) (and_true (has 2 row.slot r));
    raw = λ r. rowid r ∷ column r 1 ∷ column r 2 ∷ drop 2 values;
    reads = λ r. refl;
    renewed = λ r. rowid r ∷ cast kind.Text (column r 1) ∷ cast kind.Integer (column r 2) ∷ drop 2 values;
    casts = λ r id is. rw (is, cast_int id, cast_int (pos row.kept.seq));
    same_id = λ r. refl;
    refits = λ r id is met. record {
      rowid = id;
      number = cast kind.Integer (column r 2);
      tied = cast_tied (column r 2) (pos row.slot) (has_value 2 row.slot r (second_of_both _ _ met));
      is = ap₂ (λ v t. v ∷ t ∷ cast kind.Integer (column r 2) ∷ drop 2 values)
          is (ap (cast kind.Text) (has_text_value 1 row.sid r (first_of_both _ _ met)));
    };
  }

  -- one row is read at most: two would both stand under the slot's name and number then
  reads_one : (old new : Database) (count : ℕ) → IsKeyed (old.trees tree) → (rows : List Row)
      → Updated l (slots_table l) is_its _ _ values (IsSlot row) slot_update old new count rows → AtMostOne rows
  reads_one old new count keyed [] it = tt
  reads_one old new count keyed (a ∷ []) it = refl
  reads_one old new count keyed (a ∷ b ∷ more) it =
      let e = edit l (slots_table l) is_its (change_slot_query tree).filter (change_slot_query tree).project
      values (IsSlot row) old.trees (a ∷ b ∷ more) in
      let left = left_by old.trees e in
      let written = made_fits l (slots_table l) is_its _ _ values (IsSlot row) slot_update old new count
      (a ∷ b ∷ more) keyed it in
      let x = cast_row (slots_table l) (drop 1 a) in
      let y = cast_row (slots_table l) (drop 1 b) in
      let p = written a (inl refl) in
      let q = written b (inr (inl refl)) in
      let in_x : Has (new.trees tree) x =
      subst (λ all. Has all x) (sym it.step.rows) (put_all_adds e.news left x it.step.fresh (inl refl)) in
      let in_y : Has (new.trees tree) y =
      subst (λ all. Has all y) (sym it.step.rows) (put_all_adds e.news left y it.step.fresh (inr (inl refl))) in
      let tie : value_cmp (rowid x) (rowid y) ≡ Equal = slot_once l new row.sid row.slot x y it.schema it.sound
      (ap (λ (r : Row). is_int (rowid r)) p.is) (ap (λ (r : Row). is_int (rowid r)) q.is) in_x in_y
      (its_slot row x p) (its_slot row y q) in
      let free : is_taken (put_row x left) y ≡ false =
      not-true _ (first_of_both _ _ (second_of_both _ _ it.step.fresh)) in
      absurd (true≢false (sym (some_from (λ r. is_eq (value_cmp (rowid r) (rowid y))) (put_row x left) x
      (has_put x left) (ap is_eq tie)) ∙ free))

  pub changes_slot : (old new : State) (count : ℕ) → old.now.schema ≡ room_schema l
      → IsKeyed (old.now.trees (slots_tree l))
      → Executes change_slot_text (slot_values row.sid row.slot row.kept.seq row.kept.request row.kept.reply)
      old new (Ok count) → ChangesSlot count old.now new.now
  changes_slot old new count schema keyed h =
      changes_rows l (slots_table l) is_its _ _ values (IsSlot row) slot_update old new (slots_place l) count
      change_slot_text (slots_placed l) (change_slot_means l) schema keyed (reads_one old.now new.now count keyed) h

  -- ---- an INSERT

  pub adds_slot : (old new : State) (count : ℕ) → old.now.schema ≡ room_schema l
      → Executes add_slot_text (slot_values row.sid row.slot row.kept.seq row.kept.request row.kept.reply)
      old new (Ok count) → PutsSlot old.now new.now
  adds_slot old new count schema h =
      let id = next_rowid (old.now.trees tree) in
      adds_row l old new (slots_place l) (slots_table l) add_slot_terms 6 count add_slot_text values (Null ∷ values)
      (Int id ∷ values) id (IsSlot row) _ (slots_placed l) schema refl (add_slot_means l)
      (λ news. (quiet l 0 [] news).slots) refl
      (rw (cast_null, cast_int (pos row.slot), cast_int (pos row.kept.seq)) refl) refl (record {
        rowid = id;
        number = Int (pos row.slot);
        tied = tied_itself value_cmp_total (Int (pos row.slot));
        is = refl;
      }) h
