-- An INSERT into a table of ours, under any schema: its rows go in, and what is there beside stays.
use Rattle.room_tables.proofs.Common.{◌≡◌, ◌≢◌, ◌/◌, ℕ, ℤ, true, false, cond, length, List, [], ◌∷◌, ◌==◌, eq-eqb, map}
use Rattle.room_tables.proofs.Common.{drop, slice_get, None, Some, Ok, inl, inr, refl, sym, ap, ap₂, subst, subst₂, ◌∙◌}
use Rattle.room_tables.proofs.Common.{arith, append-nil, true≢false, AllByRecursion, find, Statement, NoSuchTable}
use Rattle.room_tables.proofs.Common.{first, command, returning, target, timed_formats, insert, insert_or_abort}
use Rattle.room_tables.proofs.Common.{new_rows, shows, and_then, same_name, table_named, Has, edit_of, numbered}
use Rattle.room_tables.proofs.Common.{put_all, are_fresh, cast_row, all_has, has_got, has_either, Term, Trees, Row}
use Rattle.room_tables.proofs.Common.{timed, is_select, KeepsRows, Command, Insert, Chosen, Above, Values, Schema}
use Rattle.room_tables.proofs.Common.{Table, Task, Written, count_of, rowids_for, stamped, Tally, Database, IsDatabase}
use Rattle.room_tables.proofs.Common.{IsSource, value_rows, State, mode_of, text_of, Runs, Writes, ExecutesIn, Executes}
use Rattle.room_tables.proofs.Common.{ExecutesInside, one_step, has_a_table, IsApart, IsBeside, HasItsSequence, AreOurs}
use Rattle.room_tables.proofs.Common.{Fills, six, with_rows}
use Rattle.sqlite_ast.specs.declared.Statement.TheVariants as written
use Rattle.sqlite_ast.specs.declared.Conflict.TheVariants as conflict
use Rattle.sqlite_resolve.specs.Body.{table_at}
use Rattle.sqlite_rules.proofs.ActionLemmas.{no_works}
use Rattle.sqlite_catalog.proofs.ListFacts.{none_placed}
use Rattle.sqlite.specs.Source.{Source}
use Rattle.room_tables.proofs.Beside.{OfParsed, gave, found, quiet, keeps_then, understood_meant}
use Rattle.room_tables.proofs.Changes.{went, same_value, not_counted}
use Rattle.room_tables.proofs.Ours.{parted, located, found_behind, AreDistinct, refilled}

-- ---- what the text is

-- The VALUES are these rows: neither the schema tells, nor the tree of the table, nor where the parameters end.
abbrev pub InsertsInto : List ℕ → Table → Row → List Row → Statement → Type 0
InsertsInto name o params given (written.Insert conflict.Abort table columns rows clauses shown) =
    (table ≡ name) × (clauses ≡ []) × (shown ≡ [])
    × ((schema : Schema) (tree base : ℕ) → (terms : List Term) × (width : ℕ)
    × (new_rows schema (record o { tree = tree }) base columns rows ≡ Ok (Values terms width))
    × (value_rows (stamped o params) width (length terms / width) terms ≡ given))
InsertsInto name o params given _ = ⊥

-- into the table that the name finds; and where that is ours, with these rows
pub record IsInsertInto (name : List ℕ) (o : Table) (params : Row) (given : List Row) (schema : Schema)
    (c : Command) : Type 0 where
  pub place : ℕ
  pub table : Table
  pub source : Source
  pub is : c ≡ Insert place source
  pub named : table_named schema name ≡ Some place
  pub here : slice_get schema.tables place ≡ Some table
  pub rows : table ≡ record o { tree = table.tree } → (terms : List Term) × (width : ℕ) × (source ≡ Values terms width)
      × (value_rows (stamped o params) width (length terms / width) terms ≡ given)

module _ (name : List ℕ) (o : Table) (params : Row) (given : List Row) where
  inserts_none : (schema : Schema) (base : ℕ) (s : Statement) → InsertsInto name o params given s
      → returning schema base s ≡ Ok None
  unfolding returning shows
  inserts_none schema base (written.Insert conflict.Abort table columns rows clauses shown) h =
      subst (λ l. shows schema base table l ≡ Ok None) (sym h.2) refl
  inserts_none schema base _ h = absurd h

  inserts_into : (schema : Schema) (formats : List (List ℕ)) (base : ℕ) (s : Statement) (c : Command)
      → InsertsInto name o params given s → command schema formats base s ≡ Ok c
      → IsInsertInto name o params given schema c
  unfolding command insert_or_abort insert
  inserts_into schema formats base (written.Insert conflict.Abort table columns rows clauses shown) c h is =
      let one = subst (λ l. insert_or_abort schema base table columns rows l ≡ Ok c) h.1 is in
      let two : insert schema base name columns rows ≡ Ok c =
      subst (λ n. insert schema base n columns rows ≡ Ok c) h.0 one in
      let place = gave (target schema name) (λ k. and_then (table_at schema k) (λ t.
      and_then (new_rows schema t base columns rows) (λ s. Ok (Insert k s)))) c two in
      let t = gave (table_at schema place.0) (λ t.
      and_then (new_rows schema t base columns rows) (λ s. Ok (Insert place.0 s))) c place.2 in
      let s = gave (new_rows schema t.0 base columns rows) (λ s. Ok (Insert place.0 s)) c t.2 in
      record {
        place = place.0;
        table = t.0;
        source = s.0;
        is = sym (same_value s.2);
        named = found (table_named schema name) NoSuchTable place.0 place.1;
        here = found (slice_get schema.tables place.0) NoSuchTable t.0 t.1;
        rows = λ same.
            let v = h.3 schema t.0.tree base in
            let both : Ok s.0 ≡ Ok (Values v.0 v.1) =
            sym s.1 ∙ ap (λ x. new_rows schema x base columns rows) same ∙ v.2 in
            (v.0, v.1, same_value both, v.3);
      }
  inserts_into schema formats base _ c h is = absurd h

  inserts_shown : (schema : Schema) (c : Command) → IsInsertInto name o params given schema c → is_select c ≡ false
  inserts_shown schema c it = subst (λ k. is_select k ≡ false) (sym it.is) refl

  -- it reads no time
  inserts_untimed : (schema : Schema) (formats : List (List ℕ)) (s : Statement) (place : ℕ) (table : Table)
      → InsertsInto name o params given s → formats ≡ [] → table_named schema name ≡ Some place
      → slice_get schema.tables place ≡ Some table → table.stamps.formats ≡ [] → timed_formats schema formats s ≡ []
  unfolding timed_formats
  inserts_untimed schema formats (written.Insert conflict.Abort to columns rows clauses shown) place table h none named
      here plain = rw (none, h.0, named, here, plain) refl
  inserts_untimed schema formats _ place table h none named here plain = absurd h

-- the text adds these rows to the table of this name, and does nothing else under any schema
abbrev pub IsInsert : List ℕ → Table → Row → List Row → List ℕ → Type 0
IsInsert name o params given text = OfParsed (λ p. InsertsInto name o params given p.statement) (first text)
    × OfParsed (λ p. p.formats ≡ []) (first text)

-- how it ran
pub record Inserted (name : List ℕ) (o : Table) (params : Row) (given : List Row) (old new : State)
    (count : ℕ) : Type 0 where
  pub command : Command
  pub into : IsInsertInto name o params given old.now.schema command
  pub part : List ℕ
  pub args : Row
  pub same : into.table.stamps.formats ≡ [] → args ≡ params
  pub writes : Writes old new None (Insert into.place into.source) part args count

inserted_as : (name : List ℕ) (o : Table) (params : Row) (given : List Row) (text : List ℕ) (old new : State)
    (count : ℕ) → IsInsert name o params given text → Executes text params old new (Ok count)
    → Inserted name o params given old new count
unfolding ExecutesIn
inserted_as name o params given text old new count of h =
    let m = understood_meant (InsertsInto name o params given) (IsInsertInto name o params given)
    (inserts_none name o params given) (inserts_into name o params given) (inserts_shown name o params given)
    old.now.schema text of.0 h.0 h.1.is in
    let it = m.does in
    let args = timed params h.0.formats h.1.now in
    let runs : Runs old new h.0.returning h.0.command (text_of text h.0) args count =
    rw (quiet h.0 (Insert it.place it.source) it.is m.plain refl refl) at h.2 in
    record {
      command = h.0.command;
      into = it;
      part = text_of text h.0;
      args = args;
      same = λ plain.
          let formats : h.0.formats ≡ [] = m.formats ∙ inserts_untimed name o params given old.now.schema
          m.parsed.formats m.parsed.statement it.place it.table
          (subst (OfParsed (λ p. InsertsInto name o params given p.statement)) m.from of.0)
          (subst (OfParsed (λ p. p.formats ≡ [])) m.from of.1) it.named it.here plain in
          ap (λ l. timed params l h.1.now) formats ∙ append-nil params;
      writes = subst₂ (λ r k. Runs old new r k (text_of text h.0) args count) m.plain it.is runs;
    }

-- ---- what it leaves

apart_kept : (tables : List Table) (tree : ℕ) (a b : Trees) → AllByRecursion (λ (t : Table). t.tree ≢ tree) tables
    → AllByRecursion (λ (t : Table). t.tree ≢ tree → b t.tree ≡ a t.tree) tables → KeepsRows tables a b
apart_kept [] tree a b apart same = tt
apart_kept (t ∷ tables) tree a b apart same = (same.0 apart.0, apart_kept tables tree a b apart.1 same.1)

-- the table that the name finds is the first of that name behind those that were there
pub record IsBehind (name : List ℕ) (before : Database) (tables : List Table) (t : Table) : Type 0 where
  pub apart : IsApart before.schema.tables t
  pub is : find (λ (u : Table). same_name u.name name) tables ≡ Some t

behind : (name : List ℕ) (ours : List Table) (held : Trees) (before a : Database) (place : ℕ) (t : Table)
    → table_named before.schema name ≡ None → (was : IsBeside ours held before a)
    → table_named a.schema name ≡ Some place → slice_get a.schema.tables place ≡ Some t
    → IsBehind name before was.tables t
behind name ours held before a place t none was named here =
    let p = λ (u : Table). same_name u.name name in
    let at = located p a.schema.tables 0 place named in
    let same : place ≡ at.0 = omega (arith, at.1) in
    let it = at.2 t (subst (λ n. slice_get a.schema.tables n ≡ Some t) same here) in
    record {
      apart = elim (has_either before.schema.tables was.tables t (subst (λ l. Has l t) was.tables_are
          (has_got a.schema.tables place t here))) [
            | inl front ↦ absurd (true≢false (sym it.0 ∙ none_placed p before.schema.tables 0 t none front))
            | inr back ↦ all_has (IsApart before.schema.tables) was.tables t was.apart back
          ];
      is = found_behind p before.schema.tables was.tables t none
          (subst (λ l. find p l ≡ Some t) was.tables_are it.1);
    }

left_beside : (ours : List Table) (held next : Trees) (before a : Database) (trees : Trees) (tree : ℕ)
    → (was : IsBeside ours held before a) → AllByRecursion (λ (t : Table). t.tree ≢ tree) before.schema.tables
    → AllByRecursion (λ (t : Table). t.tree ≢ tree → trees t.tree ≡ a.trees t.tree) a.schema.tables
    → (HasItsSequence before.schema
    → AllByRecursion (λ (t : Table). t.tree ≢ tree → trees t.tree ≡ a.trees t.tree) was.tables
    → AreOurs ours next trees was.tables) → IsBeside ours next before (record { schema = a.schema; trees = trees })
left_beside ours held next before a trees tree was apart same are =
    let Same = λ (t : Table). t.tree ≢ tree → trees t.tree ≡ a.trees t.tree in
    let all = parted Same before.schema.tables was.tables (subst (AllByRecursion Same) was.tables_are same) in
    record {
      tables = was.tables;
      tables_are = was.tables_are;
      are = λ whole. are whole all.1;
      apart = was.apart;
      indexes = was.indexes;
      views = was.views;
      rows = keeps_then before.schema.tables before.trees a.trees trees was.rows (apart_kept before.schema.tables tree
          a.trees trees apart all.0);
    }

-- a table of ours, how its name finds it, and what an INSERT into it makes of its rows
pub record IsFilled (name : List ℕ) (o : Table) (params : Row) (given cast : List Row)
    (Had Has : List Row → Type 0) : Type 0 where
  pub named : AllByRecursion (λ (w : Table). same_name w.name name ≡ true → w ≡ o) six
  pub free : (before : Database) → has_a_table before.schema ≡ false → table_named before.schema name ≡ None
  pub uncounted : o.is_counted ≡ false
  pub plain : o.stamps.formats ≡ []
  pub casts : map (λ row. cast_row o (drop 0 row)) given ≡ cast
  pub put : (rows : List Row) → Had rows → are_fresh rows (numbered Chosen rows cast) ≡ true
      → Has (put_all rows (numbered Chosen rows cast))

differ : {m n : ℕ} → (m == n) ≡ false → m ≢ n
differ {m = m} {n = n} apart same = true≢false (sym (eq-eqb m n same) ∙ apart)

-- of each of the six, those behind it
six_distinct : AreDistinct six
six_distinct = (
  (differ refl, (differ refl, (differ refl, (differ refl, (differ refl, tt))))),
  (
    (differ refl, (differ refl, (differ refl, (differ refl, tt)))),
    (
      (differ refl, (differ refl, (differ refl, tt))),
      ((differ refl, (differ refl, tt)), ((differ refl, tt), (tt, tt))),
    ),
  ),
)

pub fills : (name text : List ℕ) (o : Table) (params : Row) (given cast : List Row) (Had Has : List Row → Type 0)
    → IsInsert name o params given text → IsFilled name o params given cast Had Has
    → (old new : State) (count : ℕ) → ExecutesInside 0 text params old new (Ok count)
    → Fills o.tree Had Has old.now new.now
fills name text o params given cast Had Has of fill old new count h before held none had was =
    let ran = inserted_as name o params given text old new count of h.0 in
    let it = ran.into in
    let w = ran.writes in
    let db = old.now.trees in
    let schema = old.now.schema in
    let keys = (mode_of old).keys in
    let task : Task = record {
      limit = old.step_limit;
      keys = keys;
      schema = schema;
      table = it.table;
      params = ran.args;
    } in
    let there = behind name six held before old.now it.place it.table (fill.free before none) was it.named it.here in
    let done = went (rw it.here at w.changed) in
    let tested = went done.2 in
    let returned = went tested.2 in
    let told = same_value returned.2 in
    let from = went done.1 in
    let counter = went from.2 in
    let mid = went counter.2 in
    let counted = went mid.2 in
    let chosen = λ (top : ℤ). ap (λ b. cond b (Above top) Chosen) there.apart.uncounted in
    let edit = edit_of db it.table [] (rowids_for it.table (count_of counter.0)) 0 from.0 in
    let step = one_step schema keys db mid.0 edit (no_works schema keys 0 it.table.tree edit.news) mid.1 in
    let trees : done.0.trees ≡ mid.0 = ap (λ (x : Written). x.trees) (same_value counted.2)
    ∙ not_counted task mid.0 counted.0 counter.0 _ there.apart.uncounted counted.1 in
    let now : new.now ≡ record { schema = schema; trees = mid.0 } =
    ap (λ (p : Tally × Database). p.1) told ∙ ap (λ (t : Trees). record { schema = schema; trees = t }) trees in
    let ours = λ (whole : HasItsSequence before.schema).
    refilled name o six held db was.tables it.table fill.named six_distinct (was.are whole) there.is in
    let beside = left_beside six held (with_rows o.tree (mid.0 it.table.tree) held) before old.now mid.0 it.table.tree
    was there.apart.trees step.tables (λ whole same. (ours whole).after mid.0 (mid.0 it.table.tree) refl same) in (
      mid.0 it.table.tree,
      λ whole.
          let f = ours whole in
          let tree = it.table.tree in
          let v = it.rows f.is in
          let args : ran.args ≡ params = ran.same (ap (λ (x : Table). x.stamps.formats) f.is ∙ fill.plain) in
          let stamps : stamped it.table ran.args ≡ stamped o params =
          ap (λ (x : Table). stamped x ran.args) f.is ∙ ap (stamped o) args in
          let rows : from.0 ≡ given = (subst (λ s. IsSource (record { schema = schema; trees = db })
          (stamped it.table ran.args) s from.0) v.2 from.1).1
          ∙ ap (λ p. value_rows p v.1 (length v.0 / v.1) v.0) stamps ∙ v.3 in
          let casts : map (λ row. cast_row it.table (drop 0 row)) from.0 ≡ cast =
          ap (λ (x : Table). map (λ row. cast_row x (drop 0 row)) from.0) f.is
          ∙ ap (map (λ row. cast_row o (drop 0 row))) rows ∙ fill.casts in
          let news : edit.news ≡ numbered Chosen (held o.tree) cast =
          ap (λ c. (edit_of db it.table [] c 0 from.0).news) (chosen (count_of counter.0))
          ∙ ap₂ (numbered Chosen) f.had casts in
          subst Has (sym (step.rows ∙ ap₂ put_all f.had news)) (fill.put (held o.tree) (had whole)
          (subst₂ (λ l m. are_fresh l m ≡ true) f.had news step.fresh)),
      subst (IsBeside six (with_rows o.tree (mid.0 it.table.tree) held) before) (sym now) beside,
    )

pub insert_sound : (name text : List ℕ) (o : Table) (params : Row) (given : List Row)
    → IsInsert name o params given text → (old new : State) (count : ℕ)
    → ExecutesInside 0 text params old new (Ok count) → IsDatabase new.now
insert_sound name text o params given of old new count h =
    (inserted_as name o params given text old new count of h.0).writes.sound
