-- What the statements that write do to the tables.
use Rattle.room_tables.proofs.Common.{◌≡◌, ◌≢◌, ◌⊎◌, length, ◌/◌, MatchBool, is_lt, int_cmp, inl, inr, ℕ, ℤ, Bool, true}
use Rattle.room_tables.proofs.Common.{false, not, cond, List, [], ◌∷◌, map, drop, filter, slice_get, Option, None, Some}
use Rattle.room_tables.proofs.Common.{Ok, Err, Result, IfErr, OnErr, refl, sym, ap, subst, true≢false, ◌∙◌, unwrap_or}
use Rattle.room_tables.proofs.Common.{arith, not-true, cases_Bool, common_steps, Null, Int, Row, Trees, rowid, put_row}
use Rattle.room_tables.proofs.Common.{overlay, first_of_both, second_of_both, edit_of, next_rowid, is_taken, are_fresh}
use Rattle.room_tables.proofs.Common.{numbered, put_all, cast_row, ids_of, works, Chosen, Given, Above, Enforced}
use Rattle.room_tables.proofs.Common.{Insert, Delete, Values, Integer, Value, Database, value_rows, IsDatabase}
use Rattle.room_tables.proofs.Common.{IsSource, Edited, Counts, CountsIn, Gives, sequence, Written, Task, count_of}
use Rattle.room_tables.proofs.Common.{rowids_for, last_id, stamped, Tally, OnTable, OnRows, WritesRows, Table, Command}
use Rattle.room_tables.proofs.Common.{State, mode_of, Writes, Executes, ExecutesInside, KeepsCommit, Shows, Error}
use Rattle.room_tables.proofs.Common.{runs_as, one_step, AllByRecursion, list_all, Term, col, holds, Layout}
use Rattle.room_tables.proofs.Common.{room_schema, IsKeyed, OfEachTable}
use Rattle.sqlite.specs.Source.{Source}
use Rattle.sqlite.specs.Cast.{cast}
use Rattle.sqlite.specs.Ops.{unary}
use Rattle.sqlite.specs.Steps.{FailsToCommit}
use Rattle.sqlite.proofs.InsideLemmas.{inside_keeps}
use Rattle.room_tables.proofs.Texts.{over_table}
use Rattle.room_tables.proofs.Queries.{Picks, passing, answer_is, found}
use Rattle.room_tables.proofs.Each.{by_name}
use Rattle.room_tables.proofs.Meaning.{Means}
use Rattle.room_tables.proofs.Removed.{removed}

-- a part that gave a value did not stop on the way
pub went : {B E R : Type 0} {b : B} {Stops : E → Type 0} → ((stop : E) × Stops stop × (Ok b ≡ Err stop)) ⊎ R → R
went (inl stopped) = absurd (let e = stopped.2 in cc)
went (inr on) = on

pub same_value : {B E : Type 0} {a b : B} → ◌≡◌ {A = Result B E} (Ok a) (Ok b) → a ≡ b
same_value e = cc

abbrev pub task_on : Layout → State → Table → Row → Task
task_on l old table params =
    record { limit = old.step_limit; keys = Enforced; schema = room_schema l; table = table; params = params }

-- the command ran on the rows of the table at this place, and what it left is sound
pub record Wrote (l : Layout) (old new : State) (table : Table) (params : Row) (command : Command)
    (count : ℕ) : Type 0 where
  pub rows : Written
  pub written : WritesRows (task_on l old table params) old.now.trees command (Ok rows)
  pub now : new.now ≡ record { schema = room_schema l; trees = rows.trees }
  pub sound : IsDatabase new.now
  -- how many rows it tells of, and which rowid it put last
  pub counted : count ≡ length rows.rows
  pub changes : new.changes ≡ length rows.rows
  pub last : new.last_rowid ≡ unwrap_or rows.last old.last_rowid

pub wrote : (l : Layout) (old new : State) (at : ℕ) (table : Table) (command : Command) (text : List ℕ) (params : Row)
    (count : ℕ) → slice_get (room_schema l).tables at ≡ Some table → old.now.schema ≡ room_schema l
    → (w : Writes old new None command text params count)
    → OnTable old.step_limit (mode_of old) params old.now at
    (λ task. OnRows task (mode_of old) None command old.now.trees) (Ok (w.tally, new.now))
    → Wrote l old new table params command count
wrote l old new at table command text params count place schema w changed =
    let all = subst (λ s. OnTable old.step_limit (mode_of old) params (record old.now { schema = s }) at
    (λ task. OnRows task (mode_of old) None command old.now.trees) (Ok (w.tally, new.now))) schema changed in
    let done = went (rw place at all) in
    let tested = went done.2 in
    let returned = went tested.2 in
    let told = same_value returned.2 in
    record {
      rows = done.0;
      written = done.1;
      now = ap (λ (p : Tally × Database). p.1) told;
      sound = w.sound;
      counted = w.counted ∙ ap (λ (p : Tally × Database). unwrap_or p.0.rows 0) told;
      changes = w.changes ∙ ap (λ (p : Tally × Database). unwrap_or p.0.rows old.changes) told;
      last = w.last_rowid ∙ ap (λ (p : Tally × Database). unwrap_or p.0.last old.last_rowid) told;
    }

either : (b : Bool) (x : Value) → cond b x x ≡ x
either b x = grind (arith, common_steps)

pub cast_null : cast Integer Null ≡ Null
unfolding unary
cast_null = either _ Null

pub cast_int : (n : ℤ) → cast Integer (Int n) ≡ Int n
unfolding unary
cast_int n = either _ (Int n)

-- the other tables are as they were
abbrev pub Others : Layout → ℕ → Trees → Trees → Type 0
Others l tree db next = OfEachTable l (λ (t : Table). t.tree ≢ tree → next t.tree ≡ db t.tree)

pub others_of : (l : Layout) (tree : ℕ) (db next : Trees)
    → AllByRecursion (λ (t : Table). t.tree ≢ tree → next t.tree ≡ db t.tree) (room_schema l).tables
    → Others l tree db next
others_of l tree db next = by_name l (λ (t : Table). t.tree ≢ tree → next t.tree ≡ db t.tree)

-- one table has these rows now
pub record Leaves (l : Layout) (old new : Database) (tree : ℕ) (rows : List Row) : Type 0 where
  pub schema : new.schema ≡ room_schema l
  pub sound : IsDatabase new
  pub rows_are : new.trees tree ≡ rows
  pub others : Others l tree old.trees new.trees

-- the rows of a table that a DELETE leaves
abbrev pub without : (Row → Bool) → List Row → List Row
without p = filter (λ r. not (p r))

-- a DELETE by a test, where no foreign key acts
pub cleared : (l : Layout) (old new : State) (at : ℕ) (table : Table) (sql : List ℕ)
    (params : Row) (terms : List Term) (count : ℕ) (p : Row → Bool)
    → slice_get (room_schema l).tables at ≡ Some table → old.now.schema ≡ room_schema l
    → IsKeyed (old.now.trees table.tree)
    → Means (room_schema l) sql
    (Delete at (record { lets = []; body = over_table table.tree terms (col 1 0 ∷ []) [] }))
    → overlay old.now.trees [] table.tree ≡ old.now.trees table.tree
    → ((olds : List Row) → works (room_schema l) Enforced 0 table.tree olds [] ≡ [])
    → ((r : Row) → list_all (holds (params ∷ r ∷ [])) terms ≡ p r) → Executes sql params old new (Ok count)
    → Leaves l old.now new.now table.tree (without p (old.now.trees table.tree))
cleared l old new at table sql params terms count p place schema keyed means here quiet test h =
    let db = old.now.trees in
    let ran = runs_as sql params old new (room_schema l) schema _ means.0 means.1 count h in
    let w = wrote l old new at table _ _ params count place schema ran ran.changed in
    let given = went w.written in
    let edited_to = went given.2 in
    let trees : w.rows.trees ≡ edited_to.0 = ap (λ (it : Written). it.trees) (same_value edited_to.2) in
    let one = one_step (room_schema l) Enforced db edited_to.0
    (edit_of db table (ids_of given.0) Given 0 []) (quiet _) edited_to.1 in
    let k = subst (λ all. Picks (over_table table.tree terms (col 1 0 ∷ []) []) params
    (passing terms params all) given.0)
    here (answer_is table.tree terms (col 1 0 ∷ []) [] (overlay db []) params given.0 (given.1.answer Null)) in
    let same = found _ params (db table.tree) given.0 p (λ r. rowid r ∷ []) test (λ r. refl) k in
    record {
      schema = ap (λ (d : Database). d.schema) w.now;
      sound = w.sound;
      rows_are = ap (λ (d : Database). d.trees table.tree) w.now ∙ ap (λ (t : Trees). t table.tree) trees
          ∙ one.rows ∙ removed p (λ _. []) (db table.tree) given.0 keyed same;
      others = subst (λ t. Others l table.tree db t) (sym (ap (λ (d : Database). d.trees) w.now ∙ trees))
          (others_of l table.tree db edited_to.0 one.tables);
    }

-- a table without AUTOINCREMENT counts nothing
pub not_counted : (task : Task) (db next : Trees) (counter : Option Row) (top : ℤ)
    → task.table.is_counted ≡ false → Counts task db counter top (Ok next) → next ≡ db
not_counted task db next counter top plain h =
    same_value (subst (λ b. MatchBool (cond b (is_lt (int_cmp (count_of counter) top)) false)
    (CountsIn task db counter top (sequence task.schema) (Ok next)) (Gives db (Ok next))) plain h)

-- the rows with some more, which went in one after another, each at a rowid that was free
abbrev pub HasAll : List Row → List Row → List Row → Type 0
HasAll rows new [] = new ≡ rows
HasAll rows new (tail ∷ tails) = (rowid : ℤ) × (is_taken rows (Int rowid ∷ tail) ≡ false)
    × HasAll (put_row (Int rowid ∷ tail) rows) new tails

-- rows before their rowids are chosen
abbrev pub unnumbered : List Row → List Row
unnumbered tails = map (λ tail. Null ∷ tail) tails

pub all_chosen : (rows tails : List Row) → are_fresh rows (numbered Chosen rows (unnumbered tails)) ≡ true
    → HasAll rows (put_all rows (numbered Chosen rows (unnumbered tails))) tails
all_chosen rows [] fresh = refl
all_chosen rows (tail ∷ tails) fresh =
    let id = next_rowid rows in (
      id,
      not-true _ (first_of_both _ _ fresh),
      all_chosen (put_row (Int id ∷ tail) rows) tails (second_of_both _ _ fresh),
    )

-- the rows of a source as they go into a table: cast, and at rowids that were chosen where none was given
abbrev pub new_rows : Trees → Table → List Row → List Row
new_rows db table given = numbered Chosen (db table.tree) (map (λ row. cast_row table (drop 0 row)) given)

-- rows of a source went into a table
pub record Inserted (l : Layout) (old new : State) (table : Table) (params : Row) (from : Source) : Type 0 where
  pub schema : new.now.schema ≡ room_schema l
  pub sound : IsDatabase new.now
  pub given : List Row
  pub source : IsSource (record { schema = room_schema l; trees = old.now.trees }) (stamped table params) from given
  pub fresh : are_fresh (old.now.trees table.tree) (new_rows old.now.trees table given) ≡ true
  pub rows_are : new.now.trees table.tree ≡ put_all (old.now.trees table.tree) (new_rows old.now.trees table given)
  pub tables : AllByRecursion (λ (t : Table). t.tree ≢ table.tree → new.now.trees t.tree ≡ old.now.trees t.tree)
      (room_schema l).tables
  -- how many they are, and the rowid of the last, as the connection tells it
  pub changes : new.changes ≡ length (new_rows old.now.trees table given)
  pub last : new.last_rowid ≡ unwrap_or (last_id (new_rows old.now.trees table given)) old.last_rowid

-- an INSERT from any source, where no foreign key acts
pub inserted : (l : Layout) (old new : State) (at : ℕ) (table : Table) (sql : List ℕ) (params : Row) (from : Source)
    (count : ℕ) → slice_get (room_schema l).tables at ≡ Some table → old.now.schema ≡ room_schema l
    → table.is_counted ≡ false → Means (room_schema l) sql (Insert at from)
    → ((news : List Row) → works (room_schema l) Enforced 0 table.tree [] news ≡ [])
    → Executes sql params old new (Ok count) → Inserted l old new table params from
inserted l old new at table sql params from count place schema uncounted means quiet h =
    let db = old.now.trees in
    let ran = runs_as sql params old new (room_schema l) schema _ means.0 means.1 count h in
    let w = wrote l old new at table _ _ params count place schema ran ran.changed in
    let given = went w.written in
    let counter = went given.2 in
    let by_choice = λ (top : ℤ). ap (λ b. cond b (Above top) Chosen) uncounted in
    let mid = went counter.2 in
    let counted = went mid.2 in
    let edit = edit_of db table [] Chosen 0 given.0 in
    let chosen = edit_of db table [] (rowids_for table (count_of counter.0)) 0 given.0 in
    let written = same_value counted.2 in
    let news : chosen.news ≡ edit.news =
    ap (λ c. (edit_of db table [] c 0 given.0).news) (by_choice (count_of counter.0)) in
    let rows : w.rows.rows ≡ edit.news = ap (λ (it : Written). it.rows) written ∙ news in
    let trees : w.rows.trees ≡ mid.0 = ap (λ (it : Written). it.trees) written
    ∙ not_counted (task_on l old table params) mid.0 counted.0 counter.0 _ uncounted counted.1 in
    let one = one_step (room_schema l) Enforced db mid.0 edit (quiet edit.news) (subst (λ c. Edited (room_schema l)
    Enforced db (edit_of db table [] c 0 given.0) (Ok mid.0)) (by_choice (count_of counter.0)) mid.1) in
    let to = ap (λ (d : Database). d.trees) w.now ∙ trees in
    record {
      schema = ap (λ (d : Database). d.schema) w.now;
      sound = w.sound;
      given = given.0;
      source = given.1;
      fresh = one.fresh;
      rows_are = ap (λ (t : Trees). t table.tree) to ∙ one.rows;
      tables = subst (λ (n : Trees). AllByRecursion (λ (t : Table). t.tree ≢ table.tree → n t.tree ≡ db t.tree)
          (room_schema l).tables) (sym to) one.tables;
      changes = w.changes ∙ ap length rows;
      last = w.last ∙ ap (λ i. unwrap_or i old.last_rowid)
          (ap (λ (it : Written). it.last) written ∙ ap last_id news);
    }

-- one table has these rows more
pub record Added (l : Layout) (old new : Database) (tree : ℕ) (tails : List Row) : Type 0 where
  pub schema : new.schema ≡ room_schema l
  pub sound : IsDatabase new
  pub rows : HasAll (old.trees tree) (new.trees tree) tails
  pub others : Others l tree old.trees new.trees

-- an INSERT of some rows whose rowids are chosen
pub inserted_all : (l : Layout) (old new : State) (at : ℕ) (table : Table) (sql : List ℕ)
    (params : Row) (tails : List Row) (terms : List Term) (width count : ℕ)
    → slice_get (room_schema l).tables at ≡ Some table → old.now.schema ≡ room_schema l → table.is_counted ≡ false
    → Means (room_schema l) sql (Insert at (Values terms width))
    → ((news : List Row) → works (room_schema l) Enforced 0 table.tree [] news ≡ [])
    → map (λ row. cast_row table (drop 0 row))
    (value_rows (stamped table params) width (length terms / width) terms) ≡ unnumbered tails
    → Executes sql params old new (Ok count)
    → Added l old.now new.now table.tree tails
inserted_all l old new at table sql params tails terms width count place schema uncounted means quiet cast_are h =
    let rows = old.now.trees table.tree in
    let it = inserted l old new at table sql params (Values terms width) count place schema uncounted means quiet h in
    let are : map (λ row. cast_row table (drop 0 row)) it.given ≡ unnumbered tails =
    ap (map (λ row. cast_row table (drop 0 row))) it.source.1 ∙ cast_are in
    record {
      schema = it.schema;
      sound = it.sound;
      rows = subst (λ l. HasAll rows l tails) (sym (it.rows_are ∙ ap (λ c. put_all rows (numbered Chosen rows c)) are))
          (all_chosen rows tails (subst (λ c. are_fresh rows (numbered Chosen rows c) ≡ true) are it.fresh));
      others = others_of l table.tree old.now.trees new.now.trees it.tables;
    }

-- ---- what an execute inside a transaction leaves

pub executes_inside : (sql : List ℕ) (params : Row) (old new : State) (count : ℕ) → ExecutesInside 0 sql params
    old new (Ok count) → Executes sql params old new (Ok count) × Shows old new new.now old.committed true
executes_inside sql params old new count h = (h.0, h.1)

-- with no transaction nothing is done, and in one the commit is kept
pub keeps_all : (sql : List ℕ) (params : Row) (old new : State) (r : Result ℕ Error) (X : Type 0)
    → (old.in_transaction ≡ false → X × (new ≡ old))
    → (old.in_transaction ≡ true → ExecutesInside 0 sql params old new r) → KeepsCommit old new
keeps_all sql params old new r X ended ran = elim (cases_Bool old.in_transaction) [
  | inl inside ↦ inside_keeps old new 0 false sql params r (ran inside)
  | inr outside ↦
      subst (λ s. KeepsCommit s new) (ended outside).1 (record { was_open = λ is. is; committed = λ _. refl })
]

-- an execute that answered Ok was inside one
pub was_inside : (inside : Bool) (r : Result ℕ Error) (count : ℕ) (X : Type 0) (e : Error)
    → (inside ≡ false → (r ≡ Err e) × X) → r ≡ Ok count → inside ≡ true
was_inside true r count X e ended is = refl
was_inside false r count X e ended is = absurd (let bad = sym (ended refl).0 ∙ is in cc)

-- a commit that failed leaves what was committed
pub fails_back : (first mid last : State) (e : Error) → first.in_transaction ≡ true → mid.in_transaction ≡ true
    → KeepsCommit first mid → FailsToCommit mid last e → last.is_open ≡ true → last.now ≡ first.committed
fails_back first mid last e begun inside kept (inl failed) is =
    (failed.3.undone is).0 ∙ kept.committed (failed.3.was_open is)
fails_back first mid last e begun inside kept (inr h) is = absurd (true≢false (sym inside ∙ h.1))

pub on_err : {X E : Type 0} (r : Result X E) (P : E → Type 0) (Q : Type 0) → ((e : E) → P e → Q) → IfErr r P → OnErr r Q
on_err (Ok x) P Q f h = tt
on_err (Err e) P Q f h = f e h
