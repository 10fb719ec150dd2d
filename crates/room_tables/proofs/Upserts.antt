-- What an upsert does: it puts one row in, in the place of the row with its rowid.
use Rattle.room_tables.proofs.Common.{◌≡◌, ◌≢◌, inl, inr, ℕ, ℤ, true, false, List, [], ◌∷◌, ◌++◌, ◌/◌, length, map}
use Rattle.room_tables.proofs.Common.{slice_get, filter, Option, None, Some, Ok, refl, sym, ap, ap₂, subst, subst₂, ◌∙◌}
use Rattle.room_tables.proofs.Common.{IsPermutation, is_eq, cond, true≢false, AllByRecursion, list_all, tied_itself}
use Rattle.room_tables.proofs.Common.{alike_right, not-true, Value, Null, Int, Row, column, value_cmp, value_cmp_total}
use Rattle.room_tables.proofs.Common.{Trees, rowid, put_row, without_rowid, has_rowid, Term, col, eval_all, holds}
use Rattle.room_tables.proofs.Common.{Query, Output, output, overlay, first_of_both, filter_same, Has, with_rowid}
use Rattle.room_tables.proofs.Common.{edit_of, without_all, is_taken, are_fresh, put_all, Applies, taken_by, id_in}
use Rattle.room_tables.proofs.Common.{ids_of, cast_row, works, all_has, some_from, tied_same, none_to_drop, int_is}
use Rattle.room_tables.proofs.Common.{Chosen, Given, Above, Enforced, Values, InsertOr, Database, value_rows}
use Rattle.room_tables.proofs.Common.{IsDatabase, Then, Written, Task, Puts, Updates, Tries, TriesEach, count_of}
use Rattle.room_tables.proofs.Common.{nothing, higher, joined, Judged, Meets, Upserts, Clears, stamped, shown}
use Rattle.room_tables.proofs.Common.{rowids_for, Table, State, Executes, runs_as, one_step, one_permutation, Layout}
use Rattle.room_tables.proofs.Common.{room_schema, IsKeyed}
use Rattle.sqlite_rules.specs.Keys.{AreConflicts, conflicts}
use Rattle.sqlite_rules.specs.declared.error.Refusal.{Refusal}
use Rattle.sqlite_schema.specs.declared.command.Conflict.TheVariants.{Abort}
use Rattle.sqlite_schema.specs.declared.command.Upsert.{Upsert}
use Rattle.room_tables.proofs.Texts.{equals, over_table}
use Rattle.room_tables.proofs.Meaning.{Means}
use Rattle.room_tables.proofs.Queries.{Picks, passing, answer_is, and_true}
use Rattle.room_tables.proofs.Values.{equal_is, eq_is}
use Rattle.room_tables.proofs.Removed.{one_row}
use Rattle.room_tables.proofs.Changes.{went, same_value, not_counted, task_on, Others, others_of, wrote}

-- A row of this kind stands in the table, in the place of a row that it met.
pub record Put (l : Layout) (tree : ℕ) (db next : Trees) (Fits Met : Row → Type 0) : Type 0 where
  pub row : Row
  pub fits : Fits row
  pub id : ℤ
  pub has_id : rowid row ≡ Int id
  pub free : is_taken (without_rowid id (db tree)) row ≡ false
  pub rows : next tree ≡ put_row row (without_rowid id (db tree))
  pub tables : AllByRecursion (λ (t : Table). t.tree ≢ tree → next t.tree ≡ db t.tree) (room_schema l).tables
  pub others : Others l tree db next
  pub gone : (r : Row) → Has (db tree) r → has_rowid id r ≡ true → Met r

-- the same of a database, which is sound
pub record PutInto (l : Layout) (old new : Database) (tree : ℕ) (Fits Met : Row → Type 0) : Type 0 where
  pub schema : new.schema ≡ room_schema l
  pub sound : IsDatabase new
  pub put : Put l tree old.trees new.trees Fits Met

-- no row has a rowid that is free
none_has : (id : ℤ) (rows : List Row) (r : Row) → is_taken rows (Int id ∷ []) ≡ false → Has rows r
    → has_rowid id r ≡ true → ⊥
none_has id rows r free h tie =
    true≢false (sym (some_from (λ x. is_eq (value_cmp (rowid x) (Int id))) rows r h tie) ∙ free)

module _ (l : Layout) (tree : ℕ) (db next : Trees) (row : Row) (id : ℤ) (Fits Met : Row → Type 0)
    (has_id : rowid row ≡ Int id) (fits : Fits row)
    (tables : AllByRecursion (λ (t : Table). t.tree ≢ tree → next t.tree ≡ db t.tree) (room_schema l).tables) where
  -- a row that goes in where none has its rowid is put
  pub put_new : are_fresh (db tree) (row ∷ []) ≡ true → next tree ≡ put_row row (db tree) → Put l tree db next Fits Met
  put_new fresh rows =
      let free = not-true _ (first_of_both _ _ fresh) in
      let taken : is_taken (db tree) (Int id ∷ []) ≡ false = ap (λ v. is_taken (db tree) (v ∷ [])) (sym has_id)
      ∙ free in
      let same : without_rowid id (db tree) ≡ db tree = none_to_drop id (db tree) taken in
      record {
        row = row;
        fits = fits;
        id = id;
        has_id = has_id;
        free = rw same free;
        rows = rows ∙ ap (put_row row) (sym same);
        tables = tables;
        others = others_of l tree db next tables;
        gone = λ r there mine. absurd (none_has id (db tree) r taken there mine);
      }

-- what was made of a row that was read is put in its place
pub put_over : (l : Layout) (table : Table) (db next : Trees) (rows : List Row) (there raw row : Row) (id : ℤ)
    (Fits Met : Row → Type 0) → Applies (room_schema l) Enforced db (edit_of db table (ids_of rows) Given 1 rows) next
    → rows ≡ (rowid there ∷ raw) ∷ [] → cast_row table raw ≡ row → rowid there ≡ Int id → rowid row ≡ Int id → Fits row
    → ((r : Row) → Has (db table.tree) r → has_rowid id r ≡ true → Met r) → Put l table.tree db next Fits Met
put_over l table db next rows there raw row id Fits Met step is made key has_id fits gone =
    let news : (edit_of db table (ids_of rows) Given 1 rows).news ≡ row ∷ [] =
    ap (λ all. (edit_of db table (ids_of all) Given 1 all).news) is ∙ ap (λ r. r ∷ []) made in
    let left : without_all (db table.tree) (ids_of rows) ≡ without_rowid id (db table.tree) =
    ap (λ all. without_all (db table.tree) (ids_of all)) is ∙ ap (λ v. without_rowid (id_in v) (db table.tree)) key in
    record {
      row = row;
      fits = fits;
      id = id;
      has_id = has_id;
      free = not-true _ (first_of_both _ _ (subst₂ (λ l m. are_fresh l m ≡ true) left news step.fresh));
      rows = step.rows ∙ ap₂ put_all left news;
      tables = step.tables;
      others = others_of l table.tree db next step.tables;
      gone = gone;
    }

-- the parts of an upsert: its table, what the update reads, and the row that is put
pub record IsUpsert (l : Layout) (table : Table) (target : List ℕ) (n : ℕ) (project : List Term)
    (params new : Row) (Fits Met : Row → Type 0) : Type 0 where
  pub uncounted : table.is_counted ≡ false
  pub quiet_put : (row : Row) → works (room_schema l) Enforced 0 table.tree [] (row ∷ []) ≡ []
  pub quiet_change : (olds : List Row) (row : Row) → works (room_schema l) Enforced 0 table.tree olds (row ∷ []) ≡ []
  pub here : (db : Trees) → overlay db [] table.tree ≡ db table.tree
  pub id : ℤ
  pub has_id : rowid new ≡ Int id
  pub cast : cast_row table new ≡ new
  pub fits : Fits new
  pub met : (r : Row) → conflicts (Some target) (room_schema l).indexes table new r ≡ true → Met r
  pub there_at : (v : Value) → column (params ++ v ∷ shown table new) n ≡ v
  pub raw : Row → Row
  pub reads : (there : Row)
      → eval_all project ((params ++ rowid there ∷ shown table new) ∷ there ∷ []) ≡ rowid there ∷ raw there
  pub renewed : Row → Row
  pub casts : (there : Row) (id : ℤ) → rowid there ≡ Int id → cast_row table (raw there) ≡ renewed there
  pub same_id : (there : Row) → rowid (renewed there) ≡ rowid there
  pub refits : (there : Row) (id : ℤ) → rowid there ≡ Int id → Met there → Fits (renewed there)

module _ (l : Layout) (table : Table) (target : List ℕ) (n : ℕ) (project : List Term) (params new : Row)
    (Fits Met : Row → Type 0) (it : IsUpsert l table target n project params new Fits Met) where
  abbrev query : Query
  query = over_table table.tree (equals (col 1 0) (col 0 n) ∷ []) project []

  abbrev pub clause : Upsert
  clause = record { target = Some target; update = Some (record { lets = []; body = query }) }

  abbrev pub task : Option ℕ → Task
  task limit = record { limit = limit; keys = Enforced; schema = room_schema l; table = table; params = params }

  abbrev Done : Trees → Trees → Type 0
  Done db next = Put l table.tree db next Fits Met

  -- the row that is put in where no row has its rowid
  puts_new : (limit : Option ℕ) (db : Trees) (w : Written) → Puts (task limit) new db (Ok w) → Done db w.trees
  puts_new limit db w h =
      let done = went h in
      let edit = edit_of db table [] Given 0 (new ∷ []) in
      let news : edit.news ≡ new ∷ [] = ap (λ r. r ∷ []) it.cast in
      let one = one_step (room_schema l) Enforced db done.0 edit
      (subst (λ rows. works (room_schema l) Enforced 0 table.tree [] rows ≡ []) (sym news) (it.quiet_put new)) done.1 in
      subst (Done db) (sym (ap (λ (x : Written). x.trees) (same_value done.2)))
      (put_new l table.tree db done.0 new it.id Fits Met it.has_id it.fits one.tables
      (subst (λ l. are_fresh (db table.tree) l ≡ true) news one.fresh) (one.rows ∙ ap (put_all (db table.tree)) news))

  tests : (given : Row) (id : ℤ) → column given n ≡ Int id → (r : Row)
      → list_all (holds (given ∷ r ∷ [])) (equals (col 1 0) (col 0 n) ∷ []) ≡ has_rowid id r
  tests given id at r = and_true _ ∙ ap (λ v. Rattle.sqlite_schema.specs.Rules.equal
      Rattle.sqlite_value.specs.declared.keys.Collation.TheVariants.Binary (rowid r) v) at ∙ equal_is (rowid r) id

  -- one row has the rowid, and its update is put in its place
  updates_one : (limit : Option ℕ) (db : Trees) (there : Row) (id : ℤ) (w : Written)
      → filter (has_rowid id) (db table.tree) ≡ there ∷ [] → rowid there ≡ Int id
      → ((r : Row) → Has (db table.tree) r → has_rowid id r ≡ true → Met r) → Met there
      → Updates (task limit) (record { lets = []; body = query }) (params ++ rowid there ∷ shown table new) db (Ok w)
      → Done db w.trees
  updates_one limit db there id w only is gone met h =
      let given = params ++ rowid there ∷ shown table new in
      let read = went h in
      let done = went read.2 in
      let p = subst (λ all. Picks query given (passing query.filter given all) read.0) (it.here db)
      (answer_is table.tree query.filter project [] (overlay db []) given read.0 (read.1.answer Null)) in
      let found =
      filter_same _ (has_rowid id) (tests given id (it.there_at (rowid there) ∙ is)) (db table.tree) ∙ only in
      let out : Output = output query (given ∷ there ∷ []) in
      let one = one_permutation out p.ordered
      (subst (λ l. IsPermutation (map (λ r. output query (given ∷ r ∷ [])) l) p.ordered) found p.same) in
      let rows : read.0 ≡ (rowid there ∷ it.raw there) ∷ [] =
      p.is ∙ ap (map (λ (o : Output). o.1)) one ∙ ap (λ r. r ∷ []) (it.reads there) in
      let row = it.renewed there in
      let edit = edit_of db table (ids_of read.0) Given 1 read.0 in
      let news : edit.news ≡ row ∷ [] =
      ap (λ all. (edit_of db table (ids_of all) Given 1 all).news) rows ∙ ap (λ r. r ∷ []) (it.casts there id is) in
      let step = one_step (room_schema l) Enforced db done.0 edit (subst (λ rows. works (room_schema l) Enforced 0
      table.tree (taken_by db edit) rows ≡ []) (sym news) (it.quiet_change (taken_by db edit) row)) done.1 in
      subst (Done db) (sym (ap (λ (x : Written). x.trees) (same_value done.2)))
      (put_over l table db done.0 read.0 there (it.raw there) row id Fits Met step rows (it.casts there id is) is
      (it.same_id there ∙ is) (it.refits there id is met) gone)

  -- whichever way it goes, a row is put
  pub tries_one : (limit : Option ℕ) (db : Trees) (w : Written) → IsKeyed (db table.tree)
      → Tries (task limit) Abort (clause ∷ []) new db (Ok w) → Done db w.trees
  tries_one limit db w keyed (inl h) = absurd (let e = h.1 in cc)
  tries_one limit db w keyed (inr h) = judged h.0 h.2
    where
      cleared : (found : List Row) → Clears (task limit) Abort new db found (Ok w) → Done db w.trees
      cleared [] x = puts_new limit db w x
      cleared (y ∷ more) x = puts_new limit db w x

      meets : (found : List Row) → AreConflicts (Some target) (room_schema l).indexes table (db table.tree) new found
          → Meets (task limit) (Upserts (task limit) Abort new db []) new db clause found (Ok w) → Done db w.trees
      meets [] c x = cleared x.0 x.2
      meets (there ∷ more) c x =
          let r = c.sound there (inl refl) in
          let met = it.met r.0 r.2 in
          let is : rowid r.0 ≡ Int (id_in (rowid r.0)) =
          int_is (rowid r.0) (all_has _ (db table.tree) r.0 keyed.ints r.1) in
          let id = id_in (rowid r.0) in
          let mine : has_rowid id r.0 ≡ true =
          ap (λ v. is_eq (value_cmp (rowid r.0) v)) (sym is) ∙ ap is_eq (tied_itself value_cmp_total (rowid r.0)) in
          let tie = λ (a b : Row) (p : has_rowid id a ≡ true) (q : has_rowid id b ≡ true).
          alike_right value_cmp_total (rowid b) (Int id) (rowid a) (eq_is _ q) ∙ eq_is _ p in
          let only = one_row (has_rowid id) (db table.tree) r.0 keyed.table r.1 mine (λ a b _ _ p q. tie a b p q) in
          let alone = λ (o : Row) (k : Has (db table.tree) o) (p : has_rowid id o ≡ true).
          subst Met (sym (tied_same (db table.tree) o r.0 keyed.table k r.1 (tie o r.0 p mine))) met in
          updates_one limit db r.0 id w only is alone met (subst (λ v. Updates (task limit)
          (record { lets = []; body = query }) (params ++ v ∷ shown table new) db (Ok w)) (ap rowid r.3) x)

      judged : (verdict : Option Refusal)
          → Judged (task limit) Abort (clause ∷ []) new db verdict (Ok w) → Done db w.trees
      judged None x = meets x.0 x.1 x.2
      judged (Some why) x = absurd (let e = x in cc)

  -- an upsert of one row
  pub put : (old last : State) (at : ℕ) (terms : List Term) (width count : ℕ) (sql : List ℕ) (source : Row)
      → slice_get (room_schema l).tables at ≡ Some table → old.now.schema ≡ room_schema l
      → IsKeyed (old.now.trees table.tree)
      → Means (room_schema l) sql (InsertOr at Abort (Values terms width) (clause ∷ []))
      → value_rows (stamped table params) width (length terms / width) terms ≡ source ∷ []
      → with_rowid Chosen (old.now.trees table.tree) (cast_row table source) ≡ new
      → Executes sql params old last (Ok count) → PutInto l old.now last.now table.tree Fits Met
  put old last at terms width count sql source place schema keyed means given_is new_is h =
      let db = old.now.trees in
      let ran = runs_as sql params old last (room_schema l) schema _ means.0 means.1 count h in
      let w = wrote l old last at table _ _ params count place schema ran ran.changed in
      let given = went w.written in
      let counter = went given.2 in
      let done = went counter.2 in
      let counted = went done.2 in
      let here = task old.step_limit in
      let each = subst (λ l. TriesEach here Abort (clause ∷ []) l (count_of counter.0) (nothing db) (Ok done.0))
      (given.1.1 ∙ given_is) done.1 in
      let is : with_rowid (rowids_for table (count_of counter.0)) (db table.tree) (cast_row table source) ≡ new =
      ap (λ b. with_rowid (cond b (Above (count_of counter.0)) Chosen) (db table.tree) (cast_row table source))
      it.uncounted ∙ new_is in
      let one = went (subst (λ r. Then (Tries here Abort (clause ∷ []) r db) (λ x. TriesEach here Abort
      (clause ∷ []) [] (higher (count_of counter.0) r) (joined (nothing db) x)) (Ok done.0)) is each) in
      let trees : w.rows.trees ≡ one.0.trees = ap (λ (x : Written). x.trees) (same_value counted.2)
      ∙ not_counted (task_on l old table params) done.0.0.trees counted.0 counter.0 _ it.uncounted counted.1
      ∙ ap (λ (x : Written × ℤ). x.0.trees) (same_value one.2) in
      record {
        schema = ap (λ (d : Database). d.schema) w.now;
        sound = ran.sound;
        put = subst (Done db) (sym (ap (λ (d : Database). d.trees) w.now ∙ trees))
            (tries_one old.step_limit db one.0 keyed one.1);
      }
