-- The row that has a number is written: an UPDATE changes it, or an INSERT adds it.
use Rattle.room_tables.proofs.Common.{◌≡◌, ◌≢◌, ◌∙◌, ◌/◌, ℕ, zero, suc, ℤ, Bool, true, false, List, [], ◌∷◌, map, drop}
use Rattle.room_tables.proofs.Common.{slice_get, filter, length, Some, Ok, Equal, inl, refl, sym, ap, ap₂, subst}
use Rattle.room_tables.proofs.Common.{IsPermutation, AllByRecursion, list_all, Null, Int, Row, value_cmp, Trees, rowid}
use Rattle.room_tables.proofs.Common.{Term, eval_all, holds, Query, overlay, Enforced, works, Has, ids_of, cast_row}
use Rattle.room_tables.proofs.Common.{Edit, Applies, edit_of, id_in, are_fresh, taken_by, put_all, numbered, all_has}
use Rattle.room_tables.proofs.Common.{tied_same, int_is, Insert, Update, Chosen, Given, Values, Table, Written, stamped}
use Rattle.room_tables.proofs.Common.{Database, IsDatabase, value_rows, State, Executes, runs_as, one_step}
use Rattle.room_tables.proofs.Common.{one_permutation, Layout, room_schema, has, IsKeyed}
use Rattle.room_tables.proofs.Texts.{over_table}
use Rattle.room_tables.proofs.Values.{has_tied, eq_is}
use Rattle.room_tables.proofs.Meaning.{Means}
use Rattle.room_tables.proofs.Removed.{one_row, shown_of}
use Rattle.room_tables.proofs.Queries.{Picks, passing, answer_is, found}
use Rattle.room_tables.proofs.Changes.{Leaves, went, same_value, others_of, wrote, inserted, new_rows}
use Rattle.room_tables.proofs.Upserts.{PutInto, put_new, put_over}

-- no row of a table was changed, and no other table was
pub record Left (l : Layout) (old new : Database) (tree : ℕ) : Type 0 where
  pub leaves : Leaves l old new tree (old.trees tree)
  pub tables : AllByRecursion (λ (t : Table). t.tree ≢ tree → new.trees t.tree ≡ old.trees t.tree)
      (room_schema l).tables

-- one row at most
abbrev pub AtMostOne : List Row → Type 0
AtMostOne [] = Unit {0}
AtMostOne (r ∷ more) = more ≡ []

-- the parts of an UPDATE of the rows that pass a test: what it reads, and the row that it makes
pub record IsUpdate (l : Layout) (table : Table) (p : Row → Bool) (terms project : List Term) (params : Row)
    (Fits : Row → Type 0) : Type 0 where
  pub quiet : (olds : List Row) (new : Row) (news : List Row)
      → works (room_schema l) Enforced 0 table.tree olds (new ∷ news) ≡ []
  pub idle : works (room_schema l) Enforced 0 table.tree [] [] ≡ []
  pub here : (db : Trees) → overlay db [] table.tree ≡ db table.tree
  pub test : (r : Row) → list_all (holds (params ∷ r ∷ [])) terms ≡ p r
  pub raw : Row → Row
  pub reads : (r : Row) → eval_all project (params ∷ r ∷ []) ≡ rowid r ∷ raw r
  pub renewed : Row → Row
  pub casts : (r : Row) (i : ℤ) → rowid r ≡ Int i → cast_row table (raw r) ≡ renewed r
  pub same_id : (r : Row) → rowid (renewed r) ≡ rowid r
  pub refits : (r : Row) (i : ℤ) → rowid r ≡ Int i → p r ≡ true → Fits (renewed r)

module _ (l : Layout) (table : Table) (p : Row → Bool) (terms project : List Term) (params : Row)
    (Fits : Row → Type 0) where
  -- what the count of the rows that were changed tells: all is as it was, or the row was put
  abbrev pub Changes : ℕ → Database → Database → Type 0
  Changes zero old new = Left l old new table.tree
  Changes (suc n) old new = PutInto l old new table.tree Fits (λ r. p r ≡ true)

  abbrev query : Query
  query = over_table table.tree terms project []

  abbrev pub edit : Trees → List Row → Edit
  edit db rows = edit_of db table (ids_of rows) Given 1 rows

  module _ (it : IsUpdate l table p terms project params Fits) where
    abbrev pub read_of : Row → Row
    read_of r = rowid r ∷ it.raw r

    -- no other row is changed with those that were read
    still : (db : Trees) (rows : List Row)
        → works (room_schema l) Enforced 0 table.tree (taken_by db (edit db rows)) (edit db rows).news ≡ []
    still db [] = it.idle
    still db (a ∷ more) = it.quiet (taken_by db (edit db (a ∷ more))) (cast_row table (drop 1 a))
        (drop 1 (edit db (a ∷ more)).news)

    -- the rows that the statement read, and what it made of them
    pub record Updated (old new : Database) (count : ℕ) (rows : List Row) : Type 0 where
      pub schema : new.schema ≡ room_schema l
      pub sound : IsDatabase new
      pub same : IsPermutation (map read_of (filter p (old.trees table.tree))) rows
      pub counted : count ≡ length (edit old.trees rows).news
      pub step : Applies (room_schema l) Enforced old.trees (edit old.trees rows) new.trees

    pub reads_rows : (old new : State) (at count : ℕ) (text : List ℕ) → slice_get (room_schema l).tables at ≡ Some table
        → Means (room_schema l) text (Update at (record { lets = []; body = query })) → old.now.schema ≡ room_schema l
        → Executes text params old new (Ok count) → (rows : List Row) × Updated old.now new.now count rows
    reads_rows old new at count text place means schema h =
        let db = old.now.trees in
        let ran = runs_as text params old new (room_schema l) schema _ means.0 means.1 count h in
        let w = wrote l old new at table _ _ params count place schema ran ran.changed in
        let read = went w.written in
        let done = went read.2 in
        let same = same_value done.2 in
        let now : new.now.trees ≡ done.0 =
        ap (λ (d : Database). d.trees) w.now ∙ ap (λ (x : Written). x.trees) same in
        let picks = subst (λ all. Picks query params (passing terms params all) read.0) (it.here db)
        (answer_is table.tree terms project [] (overlay db []) params read.0 (read.1.answer Null)) in (
          read.0,
          record {
            schema = ap (λ (d : Database). d.schema) w.now;
            sound = w.sound;
            same = found query params (db table.tree) read.0 p read_of it.test it.reads picks;
            counted = w.counted ∙ ap (λ (x : Written). length x.rows) same;
            step = subst (Applies (room_schema l) Enforced db (edit db read.0)) (sym now)
                (one_step (room_schema l) Enforced db done.0 (edit db read.0) (still db read.0) done.1);
          },
        )

    module _ (old new : Database) (count : ℕ) (rows : List Row) (keyed : IsKeyed (old.trees table.tree))
        (u : Updated old new count rows) where
      -- the row of the table that one of them was
      pub read_from : (a : Row) → Has rows a → (r : Row) × Has (old.trees table.tree) r × (p r ≡ true) × (a ≡ read_of r)
          × (rowid r ≡ Int (id_in (rowid r)))
      read_from a h =
          let r = shown_of read_of p (old.trees table.tree) rows u.same a h in
          (r.0, r.1, r.2, r.3, int_is (rowid r.0) (all_has _ (old.trees table.tree) r.0 keyed.ints r.1))

      -- and what was made of it
      pub made_fits : (a : Row) → Has rows a → Fits (cast_row table (drop 1 a))
      made_fits a h =
          let r = read_from a h in
          subst Fits (sym (ap (λ x. cast_row table (drop 1 x)) r.3 ∙ it.casts r.0 _ r.4)) (it.refits r.0 _ r.4 r.2)

    -- where rows that pass tie, one was read at most
    pub read_once : (old new : Database) (count : ℕ) → IsKeyed (old.trees table.tree)
        → ((x y : Row) → p x ≡ true → p y ≡ true → value_cmp (rowid x) (rowid y) ≡ Equal)
        → (rows : List Row) → Updated old new count rows → AtMostOne rows
    read_once old new count keyed tie [] u = tt
    read_once old new count keyed tie (a ∷ more) u =
        let all = old.trees table.tree in
        let r = read_from old new count (a ∷ more) keyed u a (inl refl) in
        let alone = one_row p all r.0 keyed.table r.1 r.2 (λ x y _ _ m n. tie x y m n) in
        ap (drop 1) (one_permutation (read_of r.0) (a ∷ more)
        (subst (λ l. IsPermutation (map read_of l) (a ∷ more)) alone u.same))

    -- where one row is read at most, what was made of it is put in its place
    counts : (old new : Database) (count : ℕ) (rows : List Row) → IsKeyed (old.trees table.tree)
        → Updated old new count rows → AtMostOne rows → Changes count old new
    counts old new count [] keyed u single = subst (λ n. Changes n old new) (sym u.counted) (record {
      leaves = record {
        schema = u.schema;
        sound = u.sound;
        rows_are = u.step.rows;
        others = others_of l table.tree old.trees new.trees u.step.tables;
      };
      tables = u.step.tables;
    })
    counts old new count (a ∷ more) keyed u single =
        let all = old.trees table.tree in
        let r = read_from old new count (a ∷ more) keyed u a (inl refl) in
        let rows : a ∷ more ≡ read_of r.0 ∷ [] = ap₂ (λ x xs. x ∷ xs) r.3 single in
        subst (λ n. Changes n old new) (sym u.counted) (record {
          schema = u.schema;
          sound = u.sound;
          put = put_over l table old.trees new.trees (a ∷ more) r.0 (it.raw r.0) (it.renewed r.0) (id_in (rowid r.0))
              Fits _ u.step rows (it.casts r.0 _ r.4) r.4 (it.same_id r.0 ∙ r.4) (it.refits r.0 _ r.4 r.2)
              (λ other there mine.
              let tie : value_cmp (rowid other) (rowid r.0) ≡ Equal =
              ap (value_cmp (rowid other)) r.4 ∙ eq_is _ mine in
              subst (λ x. p x ≡ true) (sym (tied_same all other r.0 keyed.table there r.1 tie)) r.2);
        })

    pub changes_rows : (old new : State) (at count : ℕ) (text : List ℕ)
        → slice_get (room_schema l).tables at ≡ Some table
        → Means (room_schema l) text (Update at (record { lets = []; body = over_table table.tree terms project [] }))
        → old.now.schema ≡ room_schema l → IsKeyed (old.now.trees table.tree)
        → ((rows : List Row) → Updated old.now new.now count rows → AtMostOne rows)
        → Executes text params old new (Ok count) → Changes count old.now new.now
    changes_rows old new at count text place means schema keyed single h =
        let u = reads_rows old new at count text place means schema h in
        counts old.now new.now count u.0 keyed u.1 (single u.0 u.1)

-- an UPDATE of the row with a number: rowids differ, so that one is read at most
pub changes_row : (l : Layout) (table : Table) (id : ℕ) (terms project : List Term) (params : Row)
    (Fits : Row → Type 0) (it : IsUpdate l table (has 0 id) terms project params Fits) (old new : State) (at count : ℕ)
    (text : List ℕ) → slice_get (room_schema l).tables at ≡ Some table
    → Means (room_schema l) text (Update at (record { lets = []; body = over_table table.tree terms project [] }))
    → old.now.schema ≡ room_schema l → IsKeyed (old.now.trees table.tree) → Executes text params old new (Ok count)
    → Changes l table (has 0 id) terms project params Fits count old.now new.now
changes_row l table id terms project params Fits it old new at count text place means schema keyed h =
    changes_rows l table (has 0 id) terms project params Fits it old new at count text place means schema keyed
    (read_once l table (has 0 id) terms project params Fits it old.now new.now count keyed (has_tied 0 id)) h

-- an INSERT of one row with a rowid of its own, which no row had
pub adds_row : (l : Layout) (old new : State) (at : ℕ) (table : Table) (terms : List Term) (width count : ℕ)
    (sql : List ℕ) (params source row : Row) (id : ℤ) (Fits Met : Row → Type 0)
    → slice_get (room_schema l).tables at ≡ Some table → old.now.schema ≡ room_schema l → table.is_counted ≡ false
    → Means (room_schema l) sql (Insert at (Values terms width))
    → ((news : List Row) → works (room_schema l) Enforced 0 table.tree [] news ≡ [])
    → value_rows (stamped table params) width (length terms / width) terms ≡ source ∷ []
    → numbered Chosen (old.now.trees table.tree) (cast_row table source ∷ []) ≡ row ∷ []
    → rowid row ≡ Int id → Fits row
    → Executes sql params old new (Ok count) → PutInto l old.now new.now table.tree Fits Met
adds_row l old new at table terms width count sql params source row id Fits Met place schema uncounted means quiet
    given_is row_is has_id fits h =
    let db = old.now.trees in
    let it = inserted l old new at table sql params (Values terms width) count place schema uncounted means quiet h in
    let news : new_rows db table it.given ≡ row ∷ [] =
    ap (new_rows db table) (it.source.1 ∙ given_is) ∙ row_is in
    record {
      schema = it.schema;
      sound = it.sound;
      put = put_new l table.tree db new.now.trees row id Fits Met has_id fits it.tables
          (subst (λ l. are_fresh (db table.tree) l ≡ true) news it.fresh)
          (it.rows_are ∙ ap (put_all (db table.tree)) news);
    }
