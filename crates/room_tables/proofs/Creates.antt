-- What the CREATE TABLE of each table makes.
use Rattle.room_tables.proofs.Common.{Global, Vec, ◌≡◌, ◌==◌, cond, ℕ, false, List, [], ◌∷◌, ◌++◌, None, Some, Ok, refl}
use Rattle.room_tables.proofs.Common.{sym, ap, subst, ◌∙◌, EntryModel, PutNode, PutEntries, PutNext, apply_change}
use Rattle.room_tables.proofs.Common.{AllByRecursion, Trees, no_trees, Table, Schema, CreateTable, created, next_tree}
use Rattle.room_tables.proofs.Common.{KeepsRows, Tally, Does, lacks_sequence, Database, IsDatabase, State, mode_of}
use Rattle.room_tables.proofs.Common.{ExecutesInside, runs_as, room_text, node_text, entry_text, doc_text, session_text}
use Rattle.room_tables.proofs.Common.{kept_text, schema_0, schema_1, schema_2, schema_3, schema_4, schema_5, Fresh}
use Rattle.room_tables.proofs.Common.{room_schema, IsKeyed, HasNumbers, IsRoomDatabase, Steps, Node, Records}
use Rattle.room_tables.proofs.Common.{records_of, version_rows, IsVersion}
use Rattle.room_records.specs.Room.{fresh_room, fresh_entries}
use Rattle.room_records.specs.Fresh.{no_records}
use Rattle.room_records.specs.Representation.{RepresentsRoom}
use Rattle.room_records.proofs.FreshRoom.{root_node, fresh_stands}
use Rattle.room_tables.specs.Fresh.{IsMade, IsFresh, IsFilled, filled}
use Rattle.room_tables.proofs.Each.{by_name, from_both, in_turn}
use Rattle.room_tables.proofs.TreeNames.{slots_listed}
use Rattle.room_tables.proofs.Making.{Makes, room_makes, node_makes, entry_makes, doc_makes, session_makes, kept_makes}
use Rattle.room_tables.proofs.Effects.{read_same}
use Rattle.room_tables.proofs.Changes.{went, same_value}

pub record Made (old new : State) (schema next : Schema) : Type 0 where
  pub after : new.now.schema ≡ next
  pub sound : IsDatabase new.now
  pub empty : new.now.trees (next_tree schema) ≡ []
  pub others : KeepsRows schema.tables old.now.trees new.now.trees

pub makes : (old new : State) (schema next : Schema) (table : Table) (text : List ℕ) (count : ℕ)
    → old.now.schema ≡ schema → Makes schema text table next → lacks_sequence next ≡ false
    → ExecutesInside 0 text [] old new (Ok count) → Made old new schema next
makes old new schema next table text count has it plain h =
    let w = rw it.statement at (runs_as text [] old new schema has CreateTable it.command it.plain count h.0) in
    let all = went (subst (λ s. Does old.step_limit (mode_of old) [] (record old.now { schema = s })
    text None CreateTable (Ok (w.tally, new.now))) has w.changed) in
    let first = went all.1 in
    let made = first.1 in
    let both : Ok made.table ≡ Ok table = sym made.defined ∙ it.defined in
    let same : made.table ≡ table = cc in
    let is : first.0.schema ≡ next = made.is ∙ ap (created schema) same ∙ it.made in
    let lacks : lacks_sequence first.0.schema ≡ false = ap lacks_sequence is ∙ plain in
    let now : new.now ≡ first.0 =
    ap (λ (p : Tally × Database). p.1) (same_value all.2) ∙ same_value (rw lacks at first.2) in
    record {
      after = ap (λ (d : Database). d.schema) now ∙ is;
      sound = w.sound;
      empty = ap (λ (d : Database). d.trees (next_tree schema)) now ∙ made.empty;
      others = subst (λ (d : Database). KeepsRows schema.tables old.now.trees d.trees) (sym now) made.others;
    }

-- tables that were empty stay so, and one more is
all_empty : (tables : List Table) (more : Table) (old new : Trees) → KeepsRows tables old new
    → AllByRecursion (λ (t : Table). old t.tree ≡ []) tables → new more.tree ≡ []
    → AllByRecursion (λ (t : Table). new t.tree ≡ []) (tables ++ more ∷ [])
all_empty [] more old new same were is = (is, tt)
all_empty (t ∷ tables) more old new same were is = (same.0 ∙ were.0, all_empty tables more old new same.1 were.1 is)

step : (old new : State) (schema next : Schema) (table : Table) (text : List ℕ) (count : ℕ) → old.now.schema ≡ schema
    → AllByRecursion (λ (t : Table). old.now.trees t.tree ≡ []) schema.tables → Makes schema text table next
    → lacks_sequence next ≡ false → ExecutesInside 0 text [] old new (Ok count) → IsMade next new.now
step old new schema next table text count has empty makes_it plain h =
    let it = makes old new schema next table text count has makes_it plain h in
    record {
      schema = it.after;
      sound = it.sound;
      empty = subst (λ (s : Schema). AllByRecursion (λ (t : Table). new.now.trees t.tree ≡ []) s.tables) makes_it.made
          (all_empty schema.tables (record table { tree = next_tree schema }) old.now.trees new.now.trees
          it.others empty it.empty);
    }

-- the text makes the next table
abbrev Adds : Schema → Schema → List ℕ → Type 1
Adds schema next text = (old new : State) (count : ℕ) → ExecutesInside 0 text [] old new (Ok count)
    → IsMade schema old.now → IsMade next new.now

next_step : (schema next : Schema) (table : Table) (text : List ℕ) → Makes schema text table next
    → lacks_sequence next ≡ false → Adds schema next text
next_step schema next table text it plain old new count h was =
    step old new schema next table text count was.schema was.empty it plain h

pub room_step : (old new : State) (count : ℕ) → ExecutesInside 0 room_text [] old new (Ok count)
    → old.now.schema ≡ schema_0 → IsMade schema_1 new.now
room_step old new count h was = step old new schema_0 schema_1 _ room_text count was tt room_makes refl h

pub node_step : Adds schema_1 schema_2 node_text
node_step = next_step schema_1 schema_2 _ node_text node_makes refl

pub entry_step : Adds schema_2 schema_3 entry_text
entry_step = next_step schema_2 schema_3 _ entry_text entry_makes refl

pub doc_step : Adds schema_3 schema_4 doc_text
doc_step = next_step schema_3 schema_4 _ doc_text doc_makes refl

pub session_step : Adds schema_4 schema_5 session_text
session_step = next_step schema_4 schema_5 _ session_text session_makes refl

pub kept_step : Adds schema_5 (room_schema Fresh) kept_text
kept_step = next_step schema_5 (room_schema Fresh) _ kept_text kept_makes refl

-- tables that were just made
pub made_room : (db : Database) → IsMade (room_schema Fresh) db
    → IsRoomDatabase db × (records_of db.trees ≡ no_records 0)
made_room db it =
    let e = by_name Fresh (λ (t : Table). db.trees t.tree ≡ []) it.empty in
    let listed = slots_listed db Fresh it.sound it.schema in
    let none : IsKeyed [] = record { table = tt; ints = tt } in (
      record {
        layout = Fresh;
        schema = it.schema;
        listed = listed;
        keyed = in_turn Fresh _ (from_both Fresh _ _ (λ (t : Table). IsKeyed (db.trees t.tree))
            (λ t is _. subst IsKeyed (sym is) none) e e);
        numbered = subst (AllByRecursion HasNumbers) (sym e.node) tt;
      },
      read_same no_trees db.trees [] e (listed ∙ e.slots),
    )

-- and then filled
pub filled_six : (a b : State) (root : Node) (entries : Vec EntryModel Global) (change : Records → Records)
    → IsMade (room_schema Fresh) a.now → Steps a b change → change (no_records 0) ≡ filled root entries
    → IsVersion 2 (version_rows b.now.trees) → IsDatabase b.now → IsFilled root entries b.now
filled_six a b root entries change made steps is version sound = (
  record {
    room = record { room = steps.room; version = version; sound = sound };
    schema = steps.schema ∙ made.schema;
  },
  steps.records ∙ ap change (made_room a.now made).1 ∙ is,
)

-- what a fresh room's rows stand for
pub fresh_is : (owner group : List ℕ) (entries : Vec EntryModel Global) → entries.items ≡ fresh_entries
    → IsFresh owner group (apply_change (PutNext 2)
    (apply_change (PutEntries 1 entries) (apply_change (PutNode (root_node owner group)) (no_records 0))))
fresh_is owner group entries is = record {
  room = subst (λ (es : List EntryModel). RepresentsRoom
      (record {
        node = λ id. cond (id == 1) (Some (root_node owner group)) None;
        entries = λ id. cond (id == 1) es [];
        document = λ _. None;
        next = 2;
      }) (fresh_room owner group)) (sym is) (fresh_stands owner group);
  sessions = λ _. refl;
  slots = λ _ _. refl;
}

pub fresh_from : (owner group : List ℕ) (root : Node) (entries : Vec EntryModel Global) (r : Records)
    → root ≡ root_node owner group → entries.items ≡ fresh_entries → r ≡ filled root entries → IsFresh owner group r
fresh_from owner group root entries r root_is entries_is is = subst (IsFresh owner group)
    (sym (is ∙ ap (λ n. filled n entries) root_is)) (fresh_is owner group entries entries_is)
