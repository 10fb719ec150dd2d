-- A CREATE TABLE under any schema: what is there beside stays.
use Rattle.room_tables.proofs.Common.{◌≡◌, ◌≢◌, ◌+◌, ◌&&◌, not, ℕ, Bool, true, false, cond, is_some, ◌==◌, length, List}
use Rattle.room_tables.proofs.Common.{[], ◌∷◌, ◌++◌, slice_range, MatchBool, Option, None, Some, Result, Ok, Err, refl}
use Rattle.room_tables.proofs.Common.{sym, ap, ap₂, subst, subst₂, ◌∙◌, arith, append_assoc, append-nil, true≢false}
use Rattle.room_tables.proofs.Common.{flat_map-append, everything, Statement, Compiled, CompileError, NoSuchTable}
use Rattle.room_tables.proofs.Common.{Exists, Misuse, Unsupported, compiled, first, command, returning, meaning}
use Rattle.room_tables.proofs.Common.{planned, with_command, small, timed_formats, creates, create_table, is_reserved}
use Rattle.room_tables.proofs.Common.{is_attached, Checked, and_then, or_else, table_named, index_named, view_named}
use Rattle.room_tables.proofs.Common.{Has, all_from, has_left, has_right, Trees, no_trees, Row, timed, understood}
use Rattle.room_tables.proofs.Common.{reads_listing, if_select, listing_schema, is_select, next_tree, KeepsRows}
use Rattle.room_tables.proofs.Common.{automatics, Command, CreateTable, Nothing, Schema, Table, Gives, Tally}
use Rattle.room_tables.proofs.Common.{MakesTable, MakesSequence, lacks_sequence, sequence_text, Database, is_query}
use Rattle.room_tables.proofs.Common.{State, text_of, is_pragma, shows_rows, Runs, Writes, ExecutesIn, Executes}
use Rattle.room_tables.proofs.Common.{ExecutesInside, room_table, node_table, entry_table, doc_table, session_table}
use Rattle.room_tables.proofs.Common.{slots_table, schema_0, schema_1, schema_2, schema_3, schema_4, schema_5, Fresh}
use Rattle.room_tables.proofs.Common.{room_schema, room_text, node_text, entry_text, doc_text, session_text, kept_text}
use Rattle.room_tables.proofs.Common.{own_indexes, IsApart, IsBeside, HasItsSequence, AreOurs, AddsTables}
use Rattle.std.specs.Option.{option_or}
use Rattle.sqlite_ast.specs.declared.Statement.TheVariants as written
use Rattle.sqlite_syntax.specs.declared.statement.Parsed.{Parsed}
use Rattle.sqlite_resolve.specs.Define.{table as table_of}
use Rattle.sqlite_schema.specs.declared.command.Returning.{Returning}
use Rattle.sqlite_catalog.specs.Calls.{CreatesTable}
use Rattle.sqlite_catalog.proofs.StepLemmas.{table_below}
use Rattle.sqlite.specs.Compile.{table_defined_by}
use Rattle.room_tables.proofs.Changes.{went, same_value}
use Rattle.room_tables.proofs.Ours.{all_push, parted, ours_push, still_whole}

-- ---- the parts of a resolver's answer

pub gave : {A B : Type 0} (r : Checked A) (f : A → Checked B) (b : B) → and_then r f ≡ Ok b
    → (a : A) × (r ≡ Ok a) × (f a ≡ Ok b)
gave (Ok a) f b h = (a, refl, h)
gave (Err e) f b h = absurd (cc)

unless : {B : Type 0} (b : Bool) (e : CompileError) (r : Checked B) (x : B) → cond b (Err e) r ≡ Ok x → r ≡ Ok x
unless true e r x h = absurd (cc)
unless false e r x h = h

kept_if : {B : Type 0} (b : Bool) (e : CompileError) (y x : B) → cond b (Ok y) (Err e) ≡ Ok x → x ≡ y
kept_if true e y x h = sym (same_value h)
kept_if false e y x h = absurd (cc)

was_new : (b : Bool) (e : CompileError) (x : Bool) → cond b (cond false (Ok false) (Err e)) (Ok true) ≡ Ok x → x ≡ true
was_new true e x h = absurd (cc)
was_new false e x h = sym (same_value h)

pub found : {X : Type 0} (o : Option X) (e : CompileError) (x : X) → or_else o e ≡ Ok x → o ≡ Some x
found (Some y) e x h = ap (λ v. Some v) (same_value h)
found None e x h = absurd (cc)

-- ---- a text is parsed alike under every schema

abbrev pub OfParsed : (Parsed → Type 0) → Checked Parsed → Type 0
OfParsed P (Ok p) = P p
OfParsed P (Err e) = ⊥

module _ (P : Statement → Type 0) (Q : Schema → Command → Type 0)
    (none : (schema : Schema) (base : ℕ) (s : Statement) → P s → returning schema base s ≡ Ok None)
    (means : (schema : Schema) (formats : List (List ℕ)) (base : ℕ) (s : Statement) (c : Command) → P s
    → command schema formats base s ≡ Ok c → Q schema c) where
  -- what the text was compiled to, and the part of it that was
  pub record IsMeant (schema : Schema) (text : List ℕ) (c : Compiled) : Type 0 where
    pub parsed : Parsed
    pub from : first text ≡ Ok parsed
    pub does : Q schema c.command
    pub plain : c.returning ≡ None
    pub formats : c.formats ≡ timed_formats schema parsed.formats parsed.statement
    pub start : c.start ≡ parsed.start
    pub end : c.end ≡ parsed.end

  meant : (schema : Schema) (text : List ℕ) (p : Parsed) (c : Compiled) → first text ≡ Ok p → P p.statement
      → and_then (planned schema p) (λ plan. Ok (with_command p plan)) ≡ Ok c → IsMeant schema text c
  unfolding planned meaning
  meant schema text p c is of h =
      let formats = timed_formats schema p.formats p.statement in
      let base = small p.names + small formats in
      let it = gave (planned schema p) (λ plan. Ok (with_command p plan)) c h in
      let m = gave (meaning schema p base) (λ got. Ok (formats, got)) it.0 it.1 in
      let r = gave (returning schema base p.statement)
      (λ shown. and_then (command schema p.formats base p.statement) (λ k. Ok (k, shown))) m.0 m.1 in
      let k = gave (command schema p.formats base p.statement) (λ k. Ok (k, r.0)) m.0 r.2 in
      let last : with_command p it.0 ≡ c = same_value it.2 in
      let plan : (formats, m.0) ≡ it.0 = same_value m.2 in
      let pair : (k.0, r.0) ≡ m.0 = same_value k.2 in
      let is_command : k.0 ≡ c.command = ap (λ (x : Command × Option Returning). x.0) pair
      ∙ ap (λ (x : List (List ℕ) × (Command × Option Returning)). x.1.0) plan
      ∙ ap (λ (x : Compiled). x.command) last in
      let is_plain : r.0 ≡ c.returning = ap (λ (x : Command × Option Returning). x.1) pair
      ∙ ap (λ (x : List (List ℕ) × (Command × Option Returning)). x.1.1) plan
      ∙ ap (λ (x : Compiled). x.returning) last in
      let is_none : r.0 ≡ None = same_value (sym r.1 ∙ none schema base p.statement of) in
      record {
        parsed = p;
        from = is;
        does = subst (Q schema) is_command (means schema p.formats base p.statement k.0 of k.1);
        plain = sym is_plain ∙ is_none;
        formats = sym (ap (λ (x : List (List ℕ) × (Command × Option Returning)). x.0) plan
            ∙ ap (λ (x : Compiled). x.formats) last);
        start = sym (ap (λ (x : Compiled). x.start) last);
        end = sym (ap (λ (x : Compiled). x.end) last);
      }

  compiled_meant : (schema : Schema) (text : List ℕ) (r : Checked Parsed) → first text ≡ r
      → OfParsed (λ p. P p.statement) r → (c : Compiled) → compiled schema text ≡ Ok c → IsMeant schema text c
  unfolding compiled
  compiled_meant schema text (Ok p) is of c h = meant schema text p c is of (rw is at h)
  compiled_meant schema text (Err e) is of c h = absurd of

  not_listed : (selects : (schema : Schema) (k : Command) → Q schema k → is_select k ≡ false) (text : List ℕ)
      → OfParsed (λ p. P p.statement) (first text) → (c : Compiled) (r : Result Compiled CompileError)
      → compiled listing_schema text ≡ r → if_select r ≡ Ok c → ⊥
  not_listed selects text of c (Ok d) is h =
      let m = compiled_meant listing_schema text (first text) refl of d is in
      let bad : cond false (Ok d) (Err NoSuchTable) ≡ Ok c =
      subst (λ b. cond b (Ok d) (Err NoSuchTable) ≡ Ok c) (selects listing_schema d.command m.does) h in cc
  not_listed selects text of c (Err e) is h = cc

  pub understood_meant : (selects : (schema : Schema) (k : Command) → Q schema k → is_select k ≡ false)
      (schema : Schema) (text : List ℕ) → OfParsed (λ p. P p.statement) (first text) → (c : Compiled)
      → understood schema text ≡ Ok c → IsMeant schema text c
  unfolding understood
  understood_meant selects schema text of c h = go (reads_listing schema text) h
    where
      go : (b : Bool) → cond b (if_select (compiled listing_schema text)) (compiled schema text) ≡ Ok c
          → IsMeant schema text c
      go true e = absurd (not_listed selects text of c (compiled listing_schema text) refl e)
      go false e = compiled_meant schema text (first text) refl of c e

-- ---- CREATE TABLE

abbrev pub Creates : Statement → Type 0
Creates (written.CreateTable def) = def.if_missing ≡ false
Creates _ = ⊥

abbrev IsCreation : Schema → Command → Type 0
IsCreation schema c = c ≡ CreateTable

creates_none : (schema : Schema) (base : ℕ) (s : Statement) → Creates s → returning schema base s ≡ Ok None
unfolding returning
creates_none schema base (written.CreateTable def) h = refl
creates_none schema base _ h = absurd h

creates_table : (schema : Schema) (formats : List (List ℕ)) (base : ℕ) (s : Statement) (c : Command) → Creates s
    → command schema formats base s ≡ Ok c → IsCreation schema c
unfolding command create_table creates
creates_table schema formats base (written.CreateTable def) c missing h =
    let same = option_or (table_named schema def.name) (view_named schema def.name) in
    let other = index_named schema def.name in
    let is_whole = λ (t : Table). length t.computed == length t.stamps.places && not def.resolves in
    let made : Bool → Checked Command = λ is_new. cond is_new (and_then (table_of formats def)
    (λ t. cond (is_whole t) (Ok CreateTable) (Err Unsupported))) (Ok Nothing) in
    let one = gave (creates def.if_missing def.name same other) made c
    (unless (is_attached schema def.name) Unsupported
    (and_then (creates def.if_missing def.name same other) made) c h) in
    let two = subst (λ m. creates m def.name same other ≡ Ok one.0) missing one.1 in
    let three = unless (is_reserved def.name) Misuse (cond (is_some other) (Err Exists)
    (cond (is_some same) (cond false (Ok false) (Err Exists)) (Ok true))) one.0 two in
    let fresh = was_new (is_some same) Exists one.0 (unless (is_some other) Exists
    (cond (is_some same) (cond false (Ok false) (Err Exists)) (Ok true)) one.0 three) in
    let four = gave (table_of formats def) (λ t. cond (is_whole t) (Ok CreateTable) (Err Unsupported)) c
    (subst (λ b. made b ≡ Ok c) fresh one.2) in
    kept_if (is_whole four.0) Unsupported CreateTable c four.2
creates_table schema formats base _ c missing h = absurd missing

creates_shown : (schema : Schema) (c : Command) → IsCreation schema c → is_select c ≡ false
creates_shown schema c is = subst (λ k. is_select k ≡ false) (sym is) refl

abbrev pub IsUncounted : Checked Table → Type 0
IsUncounted (Ok t) = t.is_counted ≡ false
IsUncounted (Err e) = ⊥

-- the text makes this table, and does nothing else under any schema
abbrev pub IsCreate : Table → List ℕ → Type 0
IsCreate o text = OfParsed (λ p. Creates p.statement) (first text)
    × OfParsed (λ p. slice_range text p.start p.end ≡ text) (first text)
    × (table_defined_by text ≡ Ok (record o { tree = 0 })) × (o.is_counted ≡ false)

pub quiet : (c : Compiled) (k : Command) → c.command ≡ k → c.returning ≡ None → is_query k ≡ false → is_pragma k ≡ false
    → shows_rows false c ≡ false
quiet c k is plain a b = rw (is, plain, a, b) refl

created_as : (o : Table) (text : List ℕ) (params : Row) (old new : State) (count : ℕ) → IsCreate o text
    → Executes text params old new (Ok count) → (args : Row) × Writes old new None CreateTable text args count
unfolding ExecutesIn
created_as o text params old new count of h =
    let m = understood_meant Creates IsCreation creates_none creates_table creates_shown old.now.schema text of.0
    h.0 h.1.is in
    let args = timed params h.0.formats h.1.now in
    let runs : Runs old new h.0.returning h.0.command (text_of text h.0) args count =
    rw (quiet h.0 CreateTable m.does m.plain refl refl) at h.2 in
    let whole : slice_range text m.parsed.start m.parsed.end ≡ text =
    subst (OfParsed (λ p. slice_range text p.start p.end ≡ text)) m.from of.1 in
    let bare : Runs old new None CreateTable (text_of text h.0) args count =
    subst₂ (λ r k. Runs old new r k (text_of text h.0) args count) m.plain m.does runs in (
      args,
      subst (λ t. Runs old new None CreateTable t args count)
          (ap₂ (slice_range text) m.start m.end ∙ whole) bare,
    )

pub keeps_then : (tables : List Table) (a b c : Trees) → KeepsRows tables a b → KeepsRows tables b c
    → KeepsRows tables a c
keeps_then [] a b c p q = tt
keeps_then (t ∷ tables) a b c p q = (q.0 ∙ p.0, keeps_then tables a b c p.1 q.1)

own_push : (tables : List Table) (t : Table)
    → own_indexes (tables ++ t ∷ []) ≡ own_indexes tables ++ automatics t 0 (t.tree + 1) t.uniques
own_push tables t = flat_map-append (λ (u : Table). automatics u 0 (u.tree + 1) u.uniques) tables (t ∷ [])
    ∙ ap (λ l. own_indexes tables ++ l) (append-nil _)

-- a table that was made stands behind those that are there
made_beside : (ours next : List Table) (before a b : Database) (text : List ℕ) → IsUncounted (table_defined_by text)
    → (was : IsBeside ours no_trees before a) → (made : CreatesTable a.schema text a.trees b.schema b.trees)
    → (HasItsSequence before.schema → AreOurs next no_trees b.trees
    (was.tables ++ record made.table { tree = next_tree a.schema } ∷ [])) → IsBeside next no_trees before b
made_beside ours next before a b text plain was made are =
    let new : Table = record made.table { tree = next_tree a.schema } in
    let more = automatics new 0 (new.tree + 1) new.uniques in
    record {
      tables = was.tables ++ new ∷ [];
      tables_are = ap (λ (s : Schema). s.tables) made.is ∙ ap (λ l. l ++ new ∷ []) was.tables_are
          ∙ append_assoc before.schema.tables was.tables (new ∷ []);
      are = are;
      apart = all_push (IsApart before.schema.tables) was.tables new was.apart (record {
        uncounted = subst IsUncounted made.defined plain;
        trees = all_from (λ (t : Table). t.tree ≢ next_tree a.schema) before.schema.tables (λ t there same.
            omega (
              arith,
              same,
              table_below a.schema t (subst (λ l. Has l t) (sym was.tables_are)
                  (has_left before.schema.tables was.tables t there)),
            ));
      });
      indexes = ap (λ (s : Schema). s.indexes) made.is ∙ ap (λ l. l ++ more) was.indexes
          ∙ append_assoc before.schema.indexes (own_indexes was.tables) more
          ∙ ap (λ l. before.schema.indexes ++ l) (sym (own_push was.tables new));
      views = ap (λ (s : Schema). s.views) made.is ∙ was.views;
      rows = keeps_then before.schema.tables before.trees a.trees b.trees was.rows
          (parted (λ (t : Table). b.trees t.tree ≡ a.trees t.tree) before.schema.tables was.tables
          (subst (λ l. KeepsRows l a.trees b.trees) was.tables_are made.others)).0;
    }

-- and it is the next of ours, which has no row
ours_beside : (ours : List Table) (o : Table) (before a b : Database) (text : List ℕ)
    → table_defined_by text ≡ Ok (record o { tree = 0 }) → o.is_counted ≡ false → IsBeside ours no_trees before a
    → CreatesTable a.schema text a.trees b.schema b.trees → IsBeside (ours ++ o ∷ []) no_trees before b
ours_beside ours o before a b text is uncounted was made =
    let tree = next_tree a.schema in
    let both : Ok made.table ≡ Ok (record o { tree = 0 }) = sym made.defined ∙ is in
    let same : record made.table { tree = tree } ≡ record o { tree = tree } =
    ap (λ (t : Table). record t { tree = tree }) (same_value both) in
    made_beside ours (ours ++ o ∷ []) before a b text (subst IsUncounted (sym is) uncounted) was made (λ whole.
    ours_push ours o no_trees a.trees b.trees was.tables (record made.table { tree = tree }) (was.are whole)
    (parted (λ (t : Table). b.trees t.tree ≡ a.trees t.tree) before.schema.tables was.tables
    (subst (λ l. KeepsRows l a.trees b.trees) was.tables_are made.others)).1 same made.empty
    (all_from (λ (u : Table). tree ≢ u.tree) was.tables (λ u there e. omega (
      arith,
      e,
      table_below a.schema u (subst (λ l. Has l u) (sym was.tables_are)
          (has_right before.schema.tables was.tables u there)),
    ))))

sequence_plain : IsUncounted (table_defined_by sequence_text)
unfolding everything
sequence_plain = refl

sequence_beside : (ours : List Table) (before a b : Database) → IsBeside ours no_trees before a
    → MakesSequence a (Ok b) → IsBeside ours no_trees before b
sequence_beside ours before a b was h = go (lacks_sequence a.schema) refl h
  where
    go : (lacks : Bool) → lacks_sequence a.schema ≡ lacks
        → MatchBool lacks (MakesTable sequence_text a (Ok b)) (Gives a (Ok b)) → IsBeside ours no_trees before b
    go true is made = made_beside ours ours before a b sequence_text sequence_plain was made
        (λ whole. absurd (true≢false (sym is ∙ still_whole ours no_trees before a was whole)))
    go false is same = subst (IsBeside ours no_trees before) (sym (same_value same)) was

create_beside : (ours : List Table) (o : Table) (text : List ℕ) (params : Row) (old new : State) (count : ℕ)
    → IsCreate o text → ExecutesInside 0 text params old new (Ok count) → (before : Database)
    → IsBeside ours no_trees before old.now → IsBeside (ours ++ o ∷ []) no_trees before new.now
create_beside ours o text params old new count of h before was =
    let w = (created_as o text params old new count of h.0).1 in
    let all = went w.changed in
    let two = went all.1 in
    let one = ours_beside ours o before old.now two.0 text of.2 of.3 was two.1 in
    subst (IsBeside (ours ++ o ∷ []) no_trees before) (sym (ap (λ (p : Tally × Database). p.1) (same_value all.2)))
    (sequence_beside (ours ++ o ∷ []) before two.0 all.0 one two.2)

-- the text adds the next table of ours beside others
abbrev Adds : Schema → Schema → List ℕ → Type 1
Adds schema next text = (old new : State) (count : ℕ) → ExecutesInside 0 text [] old new (Ok count)
    → AddsTables schema next old.now new.now

table_beside : (schema next : Schema) (o : Table) (text : List ℕ) → IsCreate o text
    → next.tables ≡ schema.tables ++ o ∷ [] → Adds schema next text
table_beside schema next o text of is old new count h before none was =
    rw is (create_beside schema.tables o text [] old new count of h before was)

pub room_beside : Adds schema_0 schema_1 room_text
unfolding everything
room_beside = table_beside schema_0 schema_1 room_table room_text (refl, refl, refl, refl) refl

pub node_beside : Adds schema_1 schema_2 node_text
unfolding everything
node_beside = table_beside schema_1 schema_2 node_table node_text (refl, refl, refl, refl) refl

pub entry_beside : Adds schema_2 schema_3 entry_text
unfolding everything
entry_beside = table_beside schema_2 schema_3 entry_table entry_text (refl, refl, refl, refl) refl

pub doc_beside : Adds schema_3 schema_4 doc_text
unfolding everything
doc_beside = table_beside schema_3 schema_4 doc_table doc_text (refl, refl, refl, refl) refl

pub session_beside : Adds schema_4 schema_5 session_text
unfolding everything
session_beside = table_beside schema_4 schema_5 session_table session_text (refl, refl, refl, refl) refl

pub kept_beside : Adds schema_5 (room_schema Fresh) kept_text
unfolding everything
kept_beside = table_beside schema_5 (room_schema Fresh) (slots_table Fresh) kept_text (refl, refl, refl, refl) refl

-- ---- nothing was made yet

same_rows : (tables : List Table) (a : Trees) → KeepsRows tables a a
same_rows [] a = tt
same_rows (t ∷ tables) a = (refl, same_rows tables a)

pub beside_itself : (db : Database) → IsBeside [] no_trees db db
beside_itself db = record {
  tables = [];
  tables_are = sym (append-nil _);
  are = λ whole. tt;
  apart = tt;
  indexes = sym (append-nil _);
  views = refl;
  rows = same_rows db.schema.tables db.trees;
}
