-- What a DELETE of a node does, whose entries and document go with it by ON DELETE CASCADE.
use Rattle.room_tables.proofs.Common.{◌≡◌, ◌⊎◌, inl, inr, ℕ, zero, suc, ℤ, pos, Bool, true, false, not, ◌||◌, List, []}
use Rattle.room_tables.proofs.Common.{◌∷◌, ◌++◌, length, map, filter, Some, option_map, Ok, refl, sym, ap, subst}
use Rattle.room_tables.proofs.Common.{subst₂, ◌∙◌, arith, length-append, append-nil, codes, IsPermutation, Equal, is_eq}
use Rattle.room_tables.proofs.Common.{AllByRecursion, list_any, or_from, tied_itself, alike_right, same_from_push}
use Rattle.room_tables.proofs.Common.{length_permutation, Null, Int, plain, first_key, Row, column, value_cmp}
use Rattle.room_tables.proofs.Common.{value_cmp_total, Trees, rowid, without_rowid, binary, overlay, agree, parent_key}
use Rattle.room_tables.proofs.Common.{has_null, is_held, has_parent, ForeignKey, Enforced, Has, edit_of, taken_by}
use Rattle.room_tables.proofs.Common.{without_all, ids_of, Work, works, loses, is_child_of, Leads, Acts, ActsOn}
use Rattle.room_tables.proofs.Common.{AreChildren, action_edit, all_has, some_has, has_kept, has_filtered, row_at_is}
use Rattle.room_tables.proofs.Common.{first_of_both, all_weaker, all-filter, Given, Table, Database, IsDatabase}
use Rattle.room_tables.proofs.Common.{Written, State, Executes, ExecutesInside, runs_as, one_step, one_permutation}
use Rattle.room_tables.proofs.Common.{everything, DropNode, apply_change, Layout, Fresh, Upgraded, room_schema}
use Rattle.room_tables.proofs.Common.{slots_tree, node_table, entry_table, doc_table, refers, has, only, shown_node}
use Rattle.room_tables.proofs.Common.{node_of, entry_of, entries_shown, one_column, blob_in, next_in, sessions_in}
use Rattle.room_tables.proofs.Common.{slots_in, IsKeyed, HasNumbers, IsRoomDatabase, Steps}
use Rattle.sqlite_schema.specs.declared.schema.Reference.{Reference}
use Rattle.sqlite_schema.specs.declared.schema.Action.TheVariants.{Cascade}
use Rattle.sqlite_rules.specs.declared.action.Deed.TheVariants.{Delete}
use Rattle.sqlite_rules.specs.Action.{Writes}
use Rattle.room_tables.proofs.Texts.{drop_node_text, drop_node_query}
use Rattle.room_tables.proofs.Each.{of_any, in_turn, rows_pass, above}
use Rattle.room_tables.proofs.TreeNames.{slots_listed}
use Rattle.room_tables.proofs.Meaning.{drop_node_means}
use Rattle.room_tables.proofs.Queries.{answer_is, found, and_true, tidy}
use Rattle.room_tables.proofs.Takes.{quiet}
use Rattle.room_tables.proofs.Puts.{nodes_quiet}
use Rattle.room_tables.proofs.Values.{has_is, has_int, has_value, has_tied, has_not_null, equal_tied}
use Rattle.room_tables.proofs.Removed.{one_row, removed_ids}
use Rattle.room_tables.proofs.Changes.{Others, others_of, without, wrote, went, same_value}
use Rattle.room_tables.proofs.Filters.{none_left, without_none, rows_gone, keyed_filter, version_stays}
use Rattle.room_tables.proofs.Effects.{same_records}

-- ---- what the delete of one node sets off

abbrev entry_ref : Reference
entry_ref = refers 1 (codes "node") (codes "id") Cascade

abbrev doc_ref : Reference
doc_ref = refers 0 (codes "node") (codes "id") Cascade

abbrev work_on : Table → Reference → Row → Work
work_on table ref there = record {
  depth = 0;
  child = table;
  ref = ref;
  places = 0 ∷ [];
  order = plain;
  deed = Delete;
  moves = (there, []) ∷ [];
}

abbrev entry_work : Row → Work
entry_work = work_on entry_table entry_ref

abbrev doc_work : Row → Work
doc_work = work_on doc_table doc_ref

loses_key : (there : Row) (id : ℕ) → rowid there ≡ Int (pos id) → loses plain (0 ∷ []) (there, []) ≡ true
unfolding first_key binary
loses_key there id is = rw is (rw (ap is_eq (tied_itself value_cmp_total (Int (pos id)))) refl)

set_off : (l : Layout) (there : Row) (id : ℕ) → rowid there ≡ Int (pos id)
    → works (room_schema l) Enforced 0 1 (there ∷ []) [] ≡ entry_work there ∷ doc_work there ∷ []
unfolding everything
set_off Fresh there id is = rw (loses_key there id is) refl
set_off Upgraded there id is = rw (loses_key there id is) refl

-- the children of the node are its entries and its document
entry_is_child : (there r : Row) (id : ℕ) → rowid there ≡ Int (pos id)
    → list_any (is_child_of (entry_work there) r) ((there, []) ∷ []) ≡ has 1 id r
unfolding first_key
entry_is_child there r id is = rw (loses_key there id is, is) (tidy (has 1 id r))

doc_is_child : (there r : Row) (id : ℕ) → rowid there ≡ Int (pos id)
    → list_any (is_child_of (doc_work there) r) ((there, []) ∷ []) ≡ has 0 id r
unfolding first_key
doc_is_child there r id is = rw (loses_key there id is, is) (tidy (has 0 id r))

settled : (l : Layout) (n : ℕ) (db next : Trees) → Leads (room_schema l) Enforced n db [] (Ok next) → next ≡ db
settled l zero db next h = let e = h.1 in cc
settled l (suc n) db next h = absurd (omega (arith, ap length h.2, length-append h.0 (h.1 ∷ [])))

-- the trees after one action, and the actions that are left
record Acted (l : Layout) (n : ℕ) (db next : Trees) (w : Work) (below : List Work) : Type 0 where
  mid : Trees
  ids : List ℤ
  children : AreChildren db w ids
  rows : mid w.child.tree ≡ without_all (db w.child.tree) ids
  others : Others l w.child.tree db mid
  rest : Leads (room_schema l) Enforced n mid below (Ok next)

acts : (l : Layout) (n : ℕ) (db next : Trees) (table : Table) (ref : Reference) (there : Row) (below : List Work)
    → ((olds : List Row) → works (room_schema l) Enforced 1 table.tree olds [] ≡ [])
    → Acts (room_schema l) Enforced (Leads (room_schema l) Enforced n) db (work_on table ref there) below (Ok next)
    → Acted l n db next (work_on table ref there) below
acts l n db next table ref there below quiet h = go h.0 h.1 h.2
  where
    go : (ids : List ℤ) → AreChildren db (work_on table ref there) ids
        → ActsOn (room_schema l) Enforced (Leads (room_schema l) Enforced n) db (work_on table ref there) below
        (Ok next) ids
        → Acted l n db next (work_on table ref there) below
    go [] children h =
        record { mid = db; ids = []; children = children; rows = refl; others = of_any l _ (λ t _. refl); rest = h }
    go (i ∷ ids) children (inl refused) = absurd (let e = refused.2 in cc)
    go (i ∷ ids) children (inr (inl big)) = absurd (let e = big.3 in cc)
    go (i ∷ ids) children (inr (inr step)) =
        let none = quiet (taken_by db (action_edit db (work_on table ref there) (i ∷ ids))) in
        record {
          mid = step.0;
          ids = i ∷ ids;
          children = children;
          rows = step.1.rows;
          others = others_of l table.tree db step.0 step.1.tables;
          rest = subst (λ s. Leads (room_schema l) Enforced n step.0 s (Ok next))
              (ap (λ works. below ++ works) none ∙ append-nil below) step.2;
        }

led : (l : Layout) (n : ℕ) (db next : Trees) (table : Table) (ref : Reference) (there : Row) (front : List Work)
    → ((olds : List Row) → works (room_schema l) Enforced 1 table.tree olds [] ≡ [])
    → Leads (room_schema l) Enforced n db (front ++ work_on table ref there ∷ []) (Ok next)
    → (m : ℕ) × Acted l m db next (work_on table ref there) front
led l zero db next table ref there front quiet h =
    absurd (omega (arith, ap length h.0, length-append front (work_on table ref there ∷ [])))
led l (suc n) db next table ref there front quiet h =
    let one = same_from_push h.0 front h.1 (work_on table ref there) (sym h.2) in (
      n,
      acts l n db next table ref there front quiet
          (subst₂ (λ b w. Acts (room_schema l) Enforced (Leads (room_schema l) Enforced n) db w b (Ok next))
          one.0 one.1 h.3),
    )

-- the trees without the entries and the document of the node, whose rows are these now
record Dropped (l : Layout) (db next : Trees) (id : ℕ) (rows : List Row) : Type 0 where
  nodes : next 1 ≡ rows
  entries : next 3 ≡ without (has 1 id) (db 3)
  docs : next 5 ≡ without (has 0 id) (db 5)
  room : next 0 ≡ db 0
  sessions : next 6 ≡ db 6
  slots : next (slots_tree l) ≡ db (slots_tree l)

cascaded : (l : Layout) (n : ℕ) (db next : Trees) (there : Row) (id : ℕ)
    → rowid there ≡ Int (pos id) → IsKeyed (db 3) → IsKeyed (db 5)
    → Leads (room_schema l) Enforced n db (entry_work there ∷ doc_work there ∷ []) (Ok next)
    → Dropped l db next id (db 1)
cascaded l n db next there id is entries docs h =
    let first = (led l n db next doc_table doc_ref there (entry_work there ∷ []) (λ olds.
    (quiet l 1 olds []).doc) h).1 in
    let o = first.others in
    let same_entries : first.mid 3 ≡ db 3 = o.entry (omega arith) in
    let second = (led l _ first.mid next entry_table entry_ref there [] (λ olds.
    (quiet l 1 olds []).entry) first.rest).1 in
    let p = second.others in
    let end = settled l _ second.mid next second.rest in
    let doc_test = λ (r : Row). doc_is_child there r id is in
    let entry_test = λ (r : Row). entry_is_child there r id is in
    record {
      entries = ap (λ (t : Trees). t 3) end ∙ second.rows
          ∙ removed_ids (has 1 id) (first.mid 3) second.ids (subst IsKeyed (sym same_entries) entries)
          (λ i k. let c = second.children.sound i k in (c.0, c.1, sym (entry_test c.0) ∙ c.2, c.3))
          (λ r i k passes e. second.children.complete r i k (entry_test r ∙ passes) e)
          ∙ ap (without (has 1 id)) same_entries;
      docs = ap (λ (t : Trees). t 5) end ∙ p.doc (omega arith) ∙ first.rows
          ∙ removed_ids (has 0 id) (db 5) first.ids docs
          (λ i k. let c = first.children.sound i k in (c.0, c.1, sym (doc_test c.0) ∙ c.2, c.3))
          (λ r i k passes e. first.children.complete r i k (doc_test r ∙ passes) e);
      nodes = ap (λ (t : Trees). t 1) end ∙ p.node (omega arith) ∙ o.node (omega arith);
      room = ap (λ (t : Trees). t 0) end ∙ p.room (omega arith) ∙ o.room (omega arith);
      sessions = ap (λ (t : Trees). t 6) end ∙ p.session (omega arith) ∙ o.session (omega arith);
      slots = ap (λ (t : Trees). t (slots_tree l)) end ∙ p.slots (omega (arith, above l))
          ∙ o.slots (omega (arith, above l));
    }

without_number : (id : ℕ) (rows : List Row) → without_rowid (pos id) rows ≡ without (has 0 id) rows
without_number id rows = Rattle.sqlite_keyed.proofs.ListLemmas.filter_same _ _ (λ r. ap not (sym (has_is 0 id r))) rows

-- a node with the number is there, and goes with what belongs to it
drops_there : (l : Layout) (db next : Trees) (id : ℕ) (there : Row) (rows : List Row) → IsKeyed (db 1) → IsKeyed (db 3)
    → IsKeyed (db 5) → filter (has 0 id) (db 1) ≡ there ∷ [] → rows ≡ (Int (pos id) ∷ []) ∷ []
    → Writes (room_schema l) Enforced db (edit_of db node_table (ids_of rows) Given 0 []) (Ok next)
    → Dropped l db next id (without (has 0 id) (db 1))
drops_there l db next id there rows nodes entries docs only is h =
    go (subst (λ found. Writes (room_schema l) Enforced db (edit_of db node_table (ids_of found) Given 0 [])
    (Ok next)) is h)
  where
    go : Writes (room_schema l) Enforced db (edit_of db node_table (pos id ∷ []) Given 0 []) (Ok next)
        → Dropped l db next id (without (has 0 id) (db 1))
    go (inl refused) = absurd (let e = refused.2 in cc)
    go (inr (inl big)) = absurd (let e = big.3 in cc)
    go (inr (inr step)) =
        let kept = has_filtered (has 0 id) (db 1) there (subst (λ l. Has l there) (sym only) (inl refl)) in
        let key = has_int id there (all_has _ (db 1) there nodes.ints kept.0) kept.1 in
        let at = row_at_is (db 1) (pos id) there nodes.table kept.0 (sym (has_is 0 id there) ∙ kept.1) in
        let stack = subst (λ r. works (room_schema l) Enforced 0 1 (r ∷ []) [] ≡ entry_work there ∷ doc_work there ∷ [])
        (sym at) (set_off l there id key) in
        let o = others_of l 1 db step.0 step.1.tables in
        let same_entries : step.0 3 ≡ db 3 = o.entry (omega arith) in
        let same_docs : step.0 5 ≡ db 5 = o.doc (omega arith) in
        let c = cascaded l step.2.0 step.0 next there id key
        (subst IsKeyed (sym same_entries) entries) (subst IsKeyed (sym same_docs) docs)
        (subst (λ s. Leads (room_schema l) Enforced step.2.0 step.0 s (Ok next)) stack step.2.1) in
        record {
          nodes = c.nodes ∙ step.1.rows ∙ without_number id (db 1);
          entries = c.entries ∙ ap (without (has 1 id)) same_entries;
          docs = c.docs ∙ ap (without (has 0 id)) same_docs;
          room = c.room ∙ o.room (omega arith);
          sessions = c.sessions ∙ o.session (omega arith);
          slots = c.slots ∙ o.slots (omega (arith, above l));
        }

-- ---- with no such node there is nothing that belongs to it

parents : (l : Layout) → (parent_key (room_schema l).tables entry_ref ≡ Some (1, 0 ∷ [], plain))
    × (parent_key (room_schema l).tables doc_ref ≡ Some (1, 0 ∷ [], plain))
unfolding everything
parents l = (refl, refl)

held_by : (a b : Bool) → (a || b) ≡ true → a ≡ false → b ≡ true
held_by a b h fails = rw fails at h

-- a row that refers to the node has it
has_its_node : (l : Layout) (db : Trees) (ref : Reference) (place : ℕ) (row : Row) (id : ℕ)
    → ref.columns ≡ place ∷ [] → parent_key (room_schema l).tables ref ≡ Some (1, 0 ∷ [], plain)
    → has_parent (room_schema l).tables db row ref ≡ true → has place id row ≡ true
    → (p : Row) × Has (db 1) p × (has 0 id p ≡ true)
unfolding first_key
has_its_node l db ref place row id columns key fits mine =
    let there = subst₂ (λ c k. (has_null c row || is_held db c row k) ≡ true) columns key fits in
    let held = held_by _ _ there (or_from _ false (has_not_null place id row mine) refl) in
    let p = some_has (λ parent. agree plain (0 ∷ []) parent (place ∷ []) row) (db 1) held in
    let tie = equal_tied (column p.0 0) (column row place) (first_of_both _ _ p.2) in
    let same : value_cmp (column p.0 0) (Int (pos id)) ≡ Equal =
    sym (alike_right value_cmp_total (column row place) (Int (pos id)) (column p.0 0) (has_value place id row mine))
    ∙ tie in
    (p.0, p.1, has_is 0 id p.0 ∙ ap is_eq same)

none_of : (l : Layout) (db : Trees) (ref : Reference) (table : Table) (place id : ℕ)
    → ref.columns ≡ place ∷ [] → parent_key (room_schema l).tables ref ≡ Some (1, 0 ∷ [], plain)
    → AllByRecursion (λ r. has_parent (room_schema l).tables db r ref ≡ true) (db table.tree)
    → filter (has 0 id) (db 1) ≡ [] → without (has place id) (db table.tree) ≡ db table.tree
none_of l db ref table place id columns key fit none = without_none (has place id) (db table.tree) (λ r h mine.
    let p = has_its_node l db ref place r id columns key (all_has _ (db table.tree) r fit h) mine in
    subst (λ l. Has l p.0) none (has_kept (has 0 id) (db 1) p.0 p.1 p.2))

nothing_refers : (l : Layout) (db : Database) (id : ℕ) → db.schema ≡ room_schema l → IsDatabase db
    → filter (has 0 id) (db.trees 1) ≡ []
    → (without (has 1 id) (db.trees 3) ≡ db.trees 3) × (without (has 0 id) (db.trees 5) ≡ db.trees 5)
nothing_refers l db id schema sound none =
    let keeps = rows_pass ForeignKey db l schema sound in (
      none_of l db.trees entry_ref entry_table 1 id refl (parents l).0
          (all_weaker _ _ (λ r e. first_of_both _ _ e) (db.trees 3) keeps.entry) none,
      none_of l db.trees doc_ref doc_table 0 id refl (parents l).1
          (all_weaker _ _ (λ r e. first_of_both _ _ e) (db.trees 5) keeps.doc) none,
    )

-- so an object that is not there has no entries
pub no_entries : (l : Layout) (db : Database) (id : ℕ) → db.schema ≡ room_schema l → IsDatabase db
    → filter (has 0 id) (db.trees 1) ≡ [] → filter (has 1 id) (db.trees 3) ≡ []
no_entries l db id schema sound none = ap (filter (has 1 id)) (sym (nothing_refers l db id schema sound none).0)
    ∙ none_left (has 1 id) (has 1 id) (db.trees 3) (λ r h. h)

-- no row has the number, or one has
pub found_or_none : (rows : List Row) (id : ℕ) → IsKeyed rows
    → (filter (has 0 id) rows ≡ []) ⊎ ((r : Row) × (filter (has 0 id) rows ≡ r ∷ []))
found_or_none rows id keyed = go (filter (has 0 id) rows) refl
  where
    go : (l : List Row) → filter (has 0 id) rows ≡ l → (l ≡ []) ⊎ ((r : Row) × (l ≡ r ∷ []))
    go [] e = inl refl
    go (x ∷ more) e =
        let h = has_filtered (has 0 id) rows x (subst (λ l. Has l x) (sym e) (inl refl)) in
        inr (x, sym e ∙ one_row (has 0 id) rows x keyed.table h.0 h.1 (λ a b _ _ p q. has_tied 0 id a b p q))

drops : (old new : State) (id count : ℕ) (room : IsRoomDatabase old.now) → Executes drop_node_text (Int (pos id) ∷ [])
    old new (Ok count)
    → (new.now.schema ≡ room_schema room.layout) × IsDatabase new.now
    × Dropped room.layout old.now.trees new.now.trees id (without (has 0 id) (old.now.trees 1))
drops old new id count room h =
    let l = room.layout in
    let params = Int (pos id) ∷ [] in
    let db = old.now.trees in
    let ran = runs_as drop_node_text params old new (room_schema l) room.schema _
    (drop_node_means l).0 (drop_node_means l).1 count h in
    let w = wrote l old new 1 node_table _ _ params count refl room.schema ran ran.changed in
    let given = went w.written in
    let edited_to = went given.2 in
    let trees : w.rows.trees ≡ edited_to.0 = ap (λ (it : Written). it.trees) (same_value edited_to.2) in
    let now : new.now.trees ≡ edited_to.0 = ap (λ (d : Database). d.trees) w.now ∙ trees in
    let schema = ap (λ (d : Database). d.schema) w.now in
    let k = answer_is 1 _ _ [] (overlay db []) params given.0 (given.1.answer Null) in
    let same = found drop_node_query params (db 1) given.0 (has 0 id)
    (λ r. rowid r ∷ []) (λ r. and_true (has 0 id r)) (λ r. refl) k in (
      schema,
      w.sound,
      elim (found_or_none (db 1) id room.keyed.1.0) [
        | inl none ↦
            let rows : given.0 ≡ [] =
            nothing _ (subst (λ l. IsPermutation (map (λ r. rowid r ∷ []) l) given.0) none same) in
            let edit = edit_of db node_table (ids_of given.0) Given 0 [] in
            let quiet = subst (λ found. works (room_schema l) Enforced 0 1
            (taken_by db (edit_of db node_table (ids_of found) Given 0 [])) [] ≡ []) (sym rows) (nodes_quiet l []) in
            let one = one_step (room_schema l) Enforced db edited_to.0 edit quiet edited_to.1 in
            let o = others_of l 1 db edited_to.0 one.tables in
            let nodes : new.now.trees 1 ≡ db 1 =
            ap (λ (t : Trees). t 1) now ∙ one.rows ∙ ap (λ l. without_all (db 1) (ids_of l)) rows in
            let entries : new.now.trees 3 ≡ db 3 = ap (λ (t : Trees). t 3) now ∙ o.entry (omega arith) in
            let docs : new.now.trees 5 ≡ db 5 = ap (λ (t : Trees). t 5) now ∙ o.doc (omega arith) in
            let alone = nothing_refers l new.now id schema ran.sound (ap (filter (has 0 id)) nodes ∙ none) in
            record {
              nodes = nodes ∙ sym (without_none (has 0 id) (db 1) (λ r j mine.
                  subst (λ l. Has l r) none (has_kept (has 0 id) (db 1) r j mine)));
              entries = sym alone.0 ∙ ap (without (has 1 id)) entries;
              docs = sym alone.1 ∙ ap (without (has 0 id)) docs;
              room = ap (λ (t : Trees). t 0) now ∙ o.room (omega arith);
              sessions = ap (λ (t : Trees). t 6) now ∙ o.session (omega arith);
              slots = ap (λ (t : Trees). t (slots_tree l)) now ∙ o.slots (omega (arith, above l));
            }
        | inr there ↦
            let key = keyed_there there.0 there.1 in
            let rows = one_permutation (Int (pos id) ∷ []) given.0 (subst (λ l. IsPermutation l given.0)
            (ap (map (λ r. rowid r ∷ [])) there.1 ∙ ap (λ v. (v ∷ []) ∷ []) key) same) in
            subst (λ t. Dropped l db t id (without (has 0 id) (db 1))) (sym now)
            (drops_there l db edited_to.0 id there.0
            given.0 room.keyed.1.0 room.keyed.1.1.0 room.keyed.1.1.1.0 there.1 rows edited_to.1)
      ],
    )
  where
    nothing : (l : List Row) → IsPermutation [] l → l ≡ []
    nothing [] same = refl
    nothing (x ∷ l) same = absurd (omega (arith, length_permutation _ _ same))

    keyed_there : (r : Row) → filter (has 0 id) (old.now.trees 1) ≡ r ∷ [] → rowid r ≡ Int (pos id)
    keyed_there r only =
        let kept = has_filtered (has 0 id) (old.now.trees 1) r (subst (λ l. Has l r) (sym only) (inl refl)) in
        has_int id r (all_has _ (old.now.trees 1) r room.keyed.1.0.ints kept.0) kept.1

-- ---- the records

pub steps_drop : (old new : State) (id count : ℕ) → IsRoomDatabase old.now →
    ExecutesInside 0 drop_node_text (Int (pos id) ∷ []) old new (Ok count) → Steps old new (apply_change (DropNode id))
steps_drop old new id count room h =
    let done = drops old new id count room h.0 in
    let it = done.2 in
    let listed = slots_listed new.now room.layout done.1 done.0 in
    let db = old.now.trees in
    record {
      room = record {
        layout = room.layout;
        schema = done.0;
        listed = listed;
        keyed = in_turn room.layout (λ (t : Table). IsKeyed (new.now.trees t.tree)) (record {
          room = subst IsKeyed (sym it.room) room.keyed.0;
          node = subst IsKeyed (sym it.nodes) (keyed_filter (λ r. not (has 0 id r)) (db 1) room.keyed.1.0);
          entry = subst IsKeyed (sym it.entries) (keyed_filter (λ r. not (has 1 id r)) (db 3) room.keyed.1.1.0);
          doc = subst IsKeyed (sym it.docs) (keyed_filter (λ r. not (has 0 id r)) (db 5) room.keyed.1.1.1.0);
          session = subst IsKeyed (sym it.sessions) room.keyed.1.1.1.1.0;
          slots = subst IsKeyed (sym it.slots) room.keyed.1.1.1.1.1.0;
        });
        numbered = subst (AllByRecursion HasNumbers) (sym it.nodes)
            (all-filter HasNumbers (λ r. not (has 0 id r)) (db 1) room.numbered);
      };
      schema = done.0 ∙ sym room.schema;
      version = version_stays _ _ it.room;
      sound = λ _ _. done.1;
      lists = λ _. done.1;
      records = same_records _ _
          (λ q. rows_gone (λ rows. option_map node_of (only (map shown_node rows))) 0 id q (db 1) _ it.nodes)
          (λ q. rows_gone (λ rows. map entry_of (entries_shown rows)) 1 id q (db 3) _ it.entries)
          (λ q. rows_gone (λ rows. option_map (λ row. blob_in (column row 0)) (only (map (one_column 2) rows))) 0 id q
          (db 5) _ it.docs)
          (ap next_in it.room)
          (λ q. ap (λ rows. sessions_in rows q) it.sessions)
          (λ q n. ap (λ rows. slots_in rows q n) (listed ∙ it.slots ∙ sym room.listed));
    }
