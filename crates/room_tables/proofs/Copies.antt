-- A row of `slot` is copied into `kept`, and taken out of `slot`.
use Rattle.room_tables.proofs.Common.{◌≡◌, ◌≢◌, ◌⊎◌, inl, inr, ℕ, ℤ, true, false, not, cond, List, [], ◌∷◌, ◌++◌, map}
use Rattle.room_tables.proofs.Common.{drop, take, filter, None, Ok, length, unwrap_or, is_eq, refl, sym, ap, subst, ◌∙◌}
use Rattle.room_tables.proofs.Common.{Equal, IsPermutation, arith, tied_itself, alike_right, IsPermutation-refl}
use Rattle.room_tables.proofs.Common.{IsPermutation-trans, IsPermutation-sym, IsPermutation-map, IsPermutation-middle}
use Rattle.room_tables.proofs.Common.{IsPermutation-append_left, IsPermutation-append_right, IsPermutation-filter_both}
use Rattle.room_tables.proofs.Common.{length_permutation, AllByRecursion, not-true, Value, Null, Int, Text, Row, column}
use Rattle.room_tables.proofs.Common.{value_cmp, value_cmp_total, rowid, put_row, overlay, Output, everything}
use Rattle.room_tables.proofs.Common.{understood, filter_all, IsPermutation-filter, first_of_both, second_of_both}
use Rattle.room_tables.proofs.Common.{each_true, works, cast, cast_row, id_in, is_taken, are_fresh, numbered, put_all}
use Rattle.room_tables.proofs.Common.{Has, all_has, all_from, has_mapped, int_is, is_of, are_typed, Datatype, Enforced}
use Rattle.room_tables.proofs.Common.{Chosen, last_id, From, State, Executes, Table, Database, IsDatabase, Upgraded}
use Rattle.room_tables.proofs.Common.{room_schema, slot_table, slots_table, is_slot, shown_slot, IsKeyed}
use Rattle.sqlite_schema.specs.declared.schema.Kind.TheVariants as kind
use Rattle.room_tables.proofs.Texts.{copy_row_text, copy_row_query, take_row_text}
use Rattle.room_tables.specs.Upgrade.{shows, has_id, others_than, LeavesFewer, IsShared, IsMoving, CopiesRow}
use Rattle.room_tables.proofs.Each.{by_name, from_both}
use Rattle.room_tables.proofs.Meaning.{copy_row_means}
use Rattle.room_tables.proofs.Queries.{answer_of, found, and_true}
use Rattle.room_tables.proofs.Removed.{one_row, has_permuted}
use Rattle.room_tables.proofs.Values.{equal_is, equal_tied}
use Rattle.room_tables.proofs.Changes.{Inserted, Leaves, new_rows, inserted, cleared, cast_null, cast_int}
use Rattle.room_tables.proofs.Takes.{quiet}
use Rattle.room_tables.proofs.Filters.{put_is_one_more, keyed_put, keyed_filter}

-- no foreign key acts
slot_quiet : (olds : List Row) → works (room_schema Upgraded) Enforced 0 8 olds [] ≡ []
unfolding everything
slot_quiet olds = refl

-- ---- values of STRICT columns are written as they are

abbrev pub tail_of : Row → Row
tail_of r = column r 1 ∷ column r 2 ∷ column r 3 ∷ column r 4 ∷ column r 5 ∷ []

text_stays : (v : Value) → is_of kind.Text v ≡ true → cast kind.Text v ≡ v
text_stays Null h = refl
text_stays (Text t) h = refl
text_stays _ h = absurd (let e = h in cc)

int_stays : (v : Value) → is_of kind.Integer v ≡ true → cast kind.Integer v ≡ v
int_stays Null h = cast_null
int_stays (Int n) h = cast_int n
int_stays _ h = absurd (let e = h in cc)

abbrev IsTyped : Row → Type 0
IsTyped r = are_typed None 0 slot_table.columns (drop 1 r) ≡ true

stays : (r : Row) → IsTyped r → (cast kind.Text (column r 1) ≡ column r 1)
    × (cast kind.Integer (column r 2) ≡ column r 2) × (cast kind.Integer (column r 3) ≡ column r 3)
stays [] h = (refl, cast_null, cast_null)
stays (i ∷ []) h = (refl, cast_null, cast_null)
stays (i ∷ a ∷ []) h = (text_stays a (first_of_both _ _ h), cast_null, cast_null)
stays (i ∷ a ∷ b ∷ []) h =
    (text_stays a (first_of_both _ _ h), int_stays b (first_of_both _ _ (second_of_both _ _ h)), cast_null)
stays (i ∷ a ∷ b ∷ c ∷ more) h = (
  text_stays a (first_of_both _ _ h),
  int_stays b (first_of_both _ _ (second_of_both _ _ h)),
  int_stays c
      (first_of_both _ _ (second_of_both _ _ (second_of_both _ _ h))),
)

-- the row of `kept` that a row of `slot` with this rowid becomes
abbrev copy_of : ℤ → Row → Row
copy_of id r = Int id ∷ tail_of r

copied_row : (id : ℤ) (r : Row) → IsTyped r → cast_row (slots_table Upgraded) (copy_of id r) ≡ copy_of id r
copied_row id r h = let s = stays r h in rw (cast_int id, s.0, s.1, s.2) refl

-- ---- the row that is copied

abbrev given_row : Row → Row
given_row r = rowid r ∷ tail_of r

-- no row was there, or this one was given
abbrev Gave : List Row → List Row → Type 0
Gave rows given = ((given ≡ []) × (rows ≡ [])) ⊎ ((r : Row) × Has rows r × (given ≡ given_row r ∷ []))

gave : (rows all given : List Row) → IsPermutation (map given_row rows) all → given ≡ take 1 all → Gave rows given
gave [] [] given same is = inl (is, refl)
gave (r ∷ rows) [] given same is = absurd (omega (arith, length_permutation _ _ same))
gave rows (x ∷ all) given same is =
    let r = has_mapped given_row rows x (has_permuted (map given_row rows) (x ∷ all) x same (inl refl)) in
    inr (r.0, r.1, is ∙ ap (λ y. y ∷ []) r.2)

typed_rows : (db : Database) → IsDatabase db → db.schema ≡ room_schema Upgraded → AllByRecursion IsTyped (db.trees 8)
typed_rows db sound is =
    let kept = subst (λ s. Rattle.sqlite_schema.specs.Rules.Keeps Datatype s db.trees) is (sound.obeys.rules Datatype)
    in
    all_from IsTyped (db.trees 8) (λ r h. first_of_both _ _ (all_has _ (db.trees 8) r kept.1.1.1.1.1.0 h))

-- ---- what a statement does

-- one row of `slot` is in `kept` too, at its rowid, which the connection tells; or it tells of none, and none was there
record Copied (old new : State) : Type 0 where
  schema : new.now.schema ≡ room_schema Upgraded
  sound : IsDatabase new.now
  others : AllByRecursion (λ (t : Table). t.tree ≢ 10 → new.now.trees t.tree ≡ old.now.trees t.tree)
      (room_schema Upgraded).tables
  which : ((new.changes ≡ 0) × (old.now.trees 8 ≡ []) × (new.now.trees 10 ≡ old.now.trees 10))
      ⊎ ((r : Row) × (new.changes ≡ 1) × Has (old.now.trees 8) r × (rowid r ≡ Int new.last_rowid)
      × (is_taken (old.now.trees 10) (copy_of new.last_rowid r) ≡ false)
      × (new.now.trees 10 ≡ put_row (copy_of new.last_rowid r) (old.now.trees 10)))

copies : (old new : State) (count : ℕ) → old.now.schema ≡ room_schema Upgraded → IsDatabase old.now
    → IsKeyed (old.now.trees 8) → Executes copy_row_text [] old new (Ok count) → Copied old new
copies old new count has sound keyed h =
    let it = inserted Upgraded old new 6 (slots_table Upgraded) copy_row_text [] _ count refl has refl
    copy_row_means (λ news. (quiet Upgraded 0 [] news).slots) h in
    let db = old.now.trees in
    let a = it.source.answer Null in
    let all = map (λ (o : Output). o.1) a.ordered in
    let moved = found copy_row_query [] (db 8) all (λ _. true) given_row (λ r. refl) (λ r. refl)
    (answer_of 8 [] copy_row_query.project [] copy_row_query.collations copy_row_query.limit
    (overlay db []) [] it.given a)
    in
    let same : IsPermutation (map given_row (db 8)) all =
    subst (λ l. IsPermutation (map given_row l) all) (filter_all _ (db 8) (each_true (db 8))) moved in
    record {
      schema = it.schema;
      sound = it.sound;
      others = it.tables;
      which = elim (gave (db 8) all it.given same a.shown) [
        | inl none ↦ inl (
          it.changes ∙ ap (λ l. length (new_rows db (slots_table Upgraded) l)) none.0,
          none.1,
          it.rows_are ∙ ap (λ l. put_all (db 10) (new_rows db (slots_table Upgraded) l)) none.0,
        )
        | inr one ↦ inr (put one.0 one.1 it one.2)
      ];
    }
  where
    put : (r : Row) → Has (old.now.trees 8) r
        → (it : Inserted Upgraded old new (slots_table Upgraded) []
        (From (record { lets = []; body = copy_row_query })))
        → it.given ≡ given_row r ∷ []
        → (s : Row) × (new.changes ≡ 1) × Has (old.now.trees 8) s × (rowid s ≡ Int new.last_rowid)
        × (is_taken (old.now.trees 10) (copy_of new.last_rowid s) ≡ false)
        × (new.now.trees 10 ≡ put_row (copy_of new.last_rowid s) (old.now.trees 10))
    put r there it given =
        let db = old.now.trees in
        let id = id_in (rowid r) in
        let key : rowid r ≡ Int id = int_is (rowid r) (all_has _ (db 8) r keyed.ints there) in
        let typed = all_has IsTyped (db 8) r (typed_rows old.now sound has) there in
        let cast_is : cast_row (slots_table Upgraded) (given_row r) ≡ copy_of id r =
        ap (λ v. cast_row (slots_table Upgraded) (v ∷ tail_of r)) key ∙ copied_row id r typed in
        let news : new_rows db (slots_table Upgraded) it.given ≡ copy_of id r ∷ [] =
        ap (new_rows db (slots_table Upgraded)) given ∙ ap (λ x. numbered Chosen (db 10) (x ∷ [])) cast_is in
        let last : new.last_rowid ≡ id = it.last ∙ ap (λ l. unwrap_or (last_id l) old.last_rowid) news in
        let fresh = subst (λ l. are_fresh (db 10) l ≡ true) news it.fresh in (
          r,
          it.changes ∙ ap length news,
          there,
          key ∙ ap Int (sym last),
          subst (λ i. is_taken (db 10) (copy_of i r) ≡ false) (sym last) (not-true _ (first_of_both _ _ fresh)),
          it.rows_are ∙ ap (put_all (db 10)) news ∙ ap (λ i. put_row (copy_of i r) (db 10)) (sym last),
        )

-- a row of `slot` is taken out by its rowid
pub takes : (id : ℤ) (old new : State) (count : ℕ) → old.now.schema ≡ room_schema Upgraded → IsKeyed (old.now.trees 8)
    → Executes take_row_text (Int id ∷ []) old new (Ok count)
    → Leaves Upgraded old.now new.now 8 (others_than id (old.now.trees 8))
unfolding understood everything
takes id old new count has keyed h =
    cleared Upgraded old new 5 slot_table take_row_text (Int id ∷ []) _ count (has_id id) refl has keyed
    (refl, (refl, refl)) refl slot_quiet (λ r. and_true (has_id id r)) h

-- ---- the rows of both tables

tied_ids : (id : ℤ) (a b : Row) → has_id id a ≡ true → has_id id b ≡ true → value_cmp (rowid a) (rowid b) ≡ Equal
tied_ids id a b p q =
    alike_right value_cmp_total (rowid b) (Int id) (rowid a) (equal_tied _ _ q) ∙ equal_tied _ _ p

its_id : (id : ℤ) (r : Row) → rowid r ≡ Int id → has_id id r ≡ true
its_id id r is = equal_is (rowid r) id ∙ ap (λ v. is_eq (value_cmp v (Int id))) is
    ∙ ap is_eq (tied_itself value_cmp_total (Int id))

-- the rows are the one with the rowid, and the others
split : (id : ℤ) (rows : List Row) (r : Row) → IsKeyed rows → Has rows r → rowid r ≡ Int id
    → IsPermutation rows (r ∷ others_than id rows)
split id rows r keyed there is =
    subst (λ l. IsPermutation rows (l ++ others_than id rows))
    (one_row (has_id id) rows r keyed.table there (its_id id r is) (λ x y _ _ p q. tied_ids id x y p q))
    (IsPermutation-filter_both (has_id id) (λ x. not (has_id id x)) (λ x. refl) rows)

-- what the row shows, its copy shows
shows_copy : (sid : List ℕ) (slot : ℕ) (id : ℤ) (r : Row) (left kept : List Row)
    → IsPermutation (shows sid slot (r ∷ left) ++ shows sid slot kept)
    (shows sid slot left ++ shows sid slot (copy_of id r ∷ kept))
shows_copy sid slot id r left kept = elim (is_slot sid slot r)
    as (λ b. IsPermutation
    (map shown_slot (cond b (r ∷ filter (is_slot sid slot) left) (filter (is_slot sid slot) left))
    ++ shows sid slot kept)
    (shows sid slot left ++ map shown_slot
    (cond b (copy_of id r ∷ filter (is_slot sid slot) kept) (filter (is_slot sid slot) kept)))) [
      | true ↦
          IsPermutation-sym _ _ (IsPermutation-middle (shows sid slot left) (shown_slot r) (shows sid slot kept))
      | false ↦ IsPermutation-refl _
    ]

shows_same : (sid : List ℕ) (slot : ℕ) (a b : List Row) → IsPermutation a b
    → IsPermutation (shows sid slot a) (shows sid slot b)
shows_same sid slot a b same = IsPermutation-map shown_slot _ _ (IsPermutation-filter (is_slot sid slot) _ _ same)

-- the row goes from the rows that are left to those of `kept`
passes_over : (sid : List ℕ) (slot : ℕ) (id : ℤ) (r : Row) (rows kept : List Row) → IsKeyed rows → Has rows r
    → rowid r ≡ Int id → is_taken kept (copy_of id r) ≡ false
    → IsPermutation (shows sid slot rows ++ shows sid slot kept)
    (shows sid slot (others_than id rows) ++ shows sid slot (put_row (copy_of id r) kept))
passes_over sid slot id r rows kept keyed there is free =
    let out = shows_same sid slot _ _ (split id rows r keyed there is) in
    let in_ = shows_same sid slot _ _ (IsPermutation-sym _ _ (put_is_one_more (copy_of id r) kept free)) in
    IsPermutation-trans _ _ _ (IsPermutation-append_left (shows sid slot kept) _ _ out)
    (IsPermutation-trans _ _ _ (shows_copy sid slot id r (others_than id rows) kept)
    (IsPermutation-append_right (shows sid slot (others_than id rows)) _ _ in_))

-- ---- while rows are moved

pub copy_moves : (before : Database) (old new : State) (count : ℕ) → IsMoving before old.now
    → Executes copy_row_text [] old new (Ok count) → CopiesRow before new
copy_moves before old new count it h =
    let c = copies old new count it.schema it.sound it.slot_keyed h in
    let same : new.now.trees 8 ≡ old.now.trees 8 = c.others.1.1.1.1.1.0 (omega arith) in
    let left = subst IsKeyed (sym same) it.slot_keyed in
    let rest = from_both Upgraded _ _ _ (λ t p q far. q far ∙ p far) it.others
    (by_name Upgraded (λ (t : Table). t.tree ≢ 10 → new.now.trees t.tree ≡ old.now.trees t.tree) c.others) in
    elim c.which [
      | inl none ↦ rw none.0 (
        record {
          schema = c.schema;
          sound = c.sound;
          slots = λ sid slot. rw (same, none.2) (it.slots sid slot);
          slot_keyed = left;
          kept_keyed = subst IsKeyed (sym none.2) it.kept_keyed;
          others = rest;
        },
        same ∙ none.1,
      )
      | inr one ↦
          let id = new.last_rowid in
          let row = copy_of id one.0 in rw one.1 (record {
            schema = c.schema;
            sound = c.sound;
            slots = λ sid slot. rw (same, one.5) (IsPermutation-trans _ _ _ (it.slots sid slot)
                (passes_over sid slot id one.0 (old.now.trees 8) (old.now.trees 10) it.slot_keyed one.2 one.3 one.4));
            slot_keyed = left;
            kept_keyed = subst IsKeyed (sym one.5) (keyed_put row (old.now.trees 10) refl it.kept_keyed);
            others = rest;
          })
    ]

pub take_moves : (before : Database) (id : ℤ) (old new : State) (count : ℕ)
    → IsShared before old.now (others_than id (old.now.trees 8))
    → Executes take_row_text (Int id ∷ []) old new (Ok count) → IsMoving before new.now
take_moves before id old new count it h =
    let t = takes id old new count it.schema it.slot_keyed h in
    let same : new.now.trees 10 ≡ old.now.trees 10 = t.others.slots (omega arith) in
    record {
      schema = t.schema;
      sound = t.sound;
      slots = λ sid slot. rw (t.rows_are, same) (it.slots sid slot);
      slot_keyed = subst IsKeyed (sym t.rows_are) (keyed_filter _ (old.now.trees 8) it.slot_keyed);
      kept_keyed = subst IsKeyed (sym same) it.kept_keyed;
      others = record {
        room = λ far. t.others.room (omega arith) ∙ it.others.room far;
        node = λ far. t.others.node (omega arith) ∙ it.others.node far;
        entry = λ far. t.others.entry (omega arith) ∙ it.others.entry far;
        doc = λ far. t.others.doc (omega arith) ∙ it.others.doc far;
        session = λ far. t.others.session (omega arith) ∙ it.others.session far;
        slots = λ far. absurd (far refl);
      };
    }

-- the row that was copied is one of `slot`, so the others are fewer
pub copy_leaves : (before : Database) (old new : State) (count : ℕ) → IsMoving before old.now
    → Executes copy_row_text [] old new (Ok count) → new.changes ≢ 0
    → LeavesFewer old.now (others_than new.last_rowid (new.now.trees 8))
copy_leaves before old new count it h some =
    let c = copies old new count it.schema it.sound it.slot_keyed h in
    let same : new.now.trees 8 ≡ old.now.trees 8 = c.others.1.1.1.1.1.0 (omega arith) in
    elim c.which [
      | inl none ↦ absurd (some none.0)
      | inr one ↦
          let long = length_permutation _ _
          (split new.last_rowid (old.now.trees 8) one.0 it.slot_keyed one.2 one.3) in
          rw same (omega (arith, long))
    ]

-- and these are left
pub take_leaves : (before : Database) (id : ℤ) (old new : State) (count : ℕ)
    → IsShared before old.now (others_than id (old.now.trees 8))
    → Executes take_row_text (Int id ∷ []) old new (Ok count)
    → new.now.trees 8 ≡ others_than id (old.now.trees 8)
take_leaves before id old new count it h = (takes id old new count it.schema it.slot_keyed h).rows_are
