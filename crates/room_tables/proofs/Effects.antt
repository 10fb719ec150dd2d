-- What the statements do to the records.
use Rattle.room_tables.proofs.Common.{Global, Vec, ◌≡◌, ◌≢◌, ◌≤◌, ℕ, suc, ℤ, pos, not, ◌==◌, cond, List, [], ◌∷◌, ◌++◌}
use Rattle.room_tables.proofs.Common.{map, Option, None, Some, option_map, unwrap_or, Ok, refl, sym, ap, subst, ◌∙◌}
use Rattle.room_tables.proofs.Common.{arith, inl, inr, eq-eqb, AllByRecursion, Int, Row, column, Trees, rowid}
use Rattle.room_tables.proofs.Common.{has_rowid, with_tree, cases_eq, ne_eqb, all-filter, State, ExecutesInside, Node}
use Rattle.room_tables.proofs.Common.{PutNode, PutNext, PutDoc, Records, apply_change, apply_changes, Database}
use Rattle.room_tables.proofs.Common.{IsDatabase, Table, Layout, Upgraded, room_schema, node_table, doc_table, only}
use Rattle.room_tables.proofs.Common.{parent_in, name_of_text, kind_stored, shown_node, node_of, nodes_in, entries_in}
use Rattle.room_tables.proofs.Common.{one_column, blob_in, documents_in, number_in, next_in, version_rows, versions_in}
use Rattle.room_tables.proofs.Common.{IsVersion, sessions_in, slots_in, kept_rows, records_of, IsKeyed, HasNumbers}
use Rattle.room_tables.proofs.Common.{IsRoomDatabase, OfEachTable, parent_value, reply_value, Steps, kind_number}
use Rattle.sqlite_trees.proofs.TreeLemmas.{all-put_row}
use Rattle.sqlite.specs.Values.{bound_value}
use Rattle.room_acl.specs.declared.subject.Kind.{Kind}
use Rattle.room_acl.specs.declared.subject.Kind.TheVariants.{File, Folder}
use Rattle.room_records.specs.declared.change.Change.{Change}
use Rattle.room_records.proofs.Changes.{changes_then}
use Rattle.room_tables.proofs.Texts as T
use Rattle.room_tables.proofs.Each.{from_both, in_turn, of_turn}
use Rattle.room_tables.proofs.TreeNames.{slots_listed}
use Rattle.room_tables.proofs.Changes.{Leaves, Others}
use Rattle.room_tables.proofs.Meaning.{change_node_means, change_doc_means}
use Rattle.room_tables.proofs.Writes.{changes_row}
use Rattle.room_tables.proofs.Puts.{stored_node, node_params, node_update, ChangesNode, adds_node, doc_params}
use Rattle.room_tables.proofs.Puts.{doc_update, PutsDoc, ChangesDoc, adds_doc, PutsNext, ChangesNext, changes_next}
use Rattle.room_tables.proofs.Puts.{adds_next}
use Rattle.room_tables.proofs.Upserts.{PutInto}
use Rattle.room_tables.proofs.Filters.{filter_put, keyed_after, still_room, still_slots, version_stays}

-- two records that agree at each key are one
pub same_records : (a b : Records) → ((q : ℕ) → a.objects.node q ≡ b.objects.node q)
    → ((q : ℕ) → a.objects.entries q ≡ b.objects.entries q) → ((q : ℕ) → a.objects.document q ≡ b.objects.document q)
    → a.objects.next ≡ b.objects.next → ((sid : List ℕ) → a.session sid ≡ b.session sid)
    → ((sid : List ℕ) (slot : ℕ) → a.slot sid slot ≡ b.slot sid slot) → a ≡ b
same_records a b nodes entries documents next sessions slots = λ i. record {
  objects = record { node = λ q. nodes q i; entries = λ q. entries q i; document = λ q. documents q i; next = next i };
  session = λ sid. sessions sid i;
  slot = λ sid slot. slots sid slot i;
}

-- what is read of trees, and of the rows of what slots keep
abbrev pub read : Trees → List Row → Records
read db slots = record {
  objects = record {
    node = nodes_in (db 1);
    entries = entries_in (db 3);
    document = documents_in (db 5);
    next = next_in (db 0);
  };
  session = sessions_in (db 6);
  slot = slots_in slots;
}

-- it is the same where the tables are
pub read_same : {l : Layout} (db next : Trees) (slots : List Row)
    → OfEachTable l (λ (t : Table). next t.tree ≡ db t.tree) → kept_rows next ≡ slots → records_of next ≡ read db slots
read_same db next slots same is = λ i. record {
  objects = record {
    node = nodes_in (same.node i);
    entries = entries_in (same.entry i);
    document = documents_in (same.doc i);
    next = next_in (same.room i);
  };
  session = sessions_in (same.session i);
  slot = slots_in (is i);
}

-- ---- steps

-- one step after another
pub steps_then : {a b c : State} {f g : Records → Records} → Steps a b f → Steps b c g → Steps a c (λ r. g (f r))
steps_then {f = f} {g = g} p q = record {
  room = q.room;
  schema = q.schema ∙ p.schema;
  records = q.records ∙ ap g p.records;
  version = λ v. q.version (p.version v);
  sound = λ s. q.sound (p.sound s);
  lists = λ s. q.lists (p.lists s);
}

-- one of the first tables has other rows now
abbrev pub after : ℕ → Database → Database → Trees
after tree old new = with_tree old.trees tree (new.trees tree)

pub each_after : {l : Layout} (tree : ℕ) (old new : Database) → Others l tree old.trees new.trees
    → OfEachTable l (λ (t : Table). new.trees t.tree ≡ after tree old new t.tree)
each_after {l} tree old new others = from_both l _ _ _ (λ t far _. one t far) others others
  where
    one : (t : Table) → (t.tree ≢ tree → new.trees t.tree ≡ old.trees t.tree)
        → new.trees t.tree ≡ after tree old new t.tree
    one t far = elim (cases_eq t.tree tree) [
      | inl here ↦ rw (eq-eqb t.tree tree here) (ap new.trees here)
      | inr apart ↦ rw (ne_eqb t.tree tree apart) (far apart)
    ]

-- a step, where this is what is read of the table that changed and the others
pub steps_at : (tree : ℕ) (old new : State) (room : IsRoomDatabase old.now) (change : Records → Records) → tree ≤ 7
    → new.now.schema ≡ room_schema room.layout → IsDatabase new.now
    → Others room.layout tree old.now.trees new.now.trees → IsKeyed (new.now.trees tree)
    → AllByRecursion HasNumbers (after tree old.now new.now 1)
    → (IsVersion 2 (version_rows old.now.trees) → IsVersion 2 (versions_in (after tree old.now new.now 0)))
    → read (after tree old.now new.now) (kept_rows old.now.trees) ≡ change (records_of old.now.trees)
    → Steps old new change
steps_at tree old new room change low schema sound others keyed numbered version is =
    let each = each_after tree old.now new.now others in
    record {
      room = still_room tree old.now new.now room schema sound others keyed
          (subst (AllByRecursion HasNumbers) (sym each.node) numbered);
      schema = schema ∙ sym room.schema;
      version = λ v. version_stays _ _ each.room (version v);
      sound = λ _ _. sound;
      lists = λ _. sound;
      records = read_same (after tree old.now new.now) new.now.trees _ each
          (still_slots tree old.now new.now room schema sound low others) ∙ is;
    }

-- no row was changed, and the records are as they were
pub steps_left : (tree : ℕ) (old new : State) (room : IsRoomDatabase old.now)
    → Leaves room.layout old.now new.now tree (old.now.trees tree) → Steps old new (λ r. r)
steps_left tree old new room it =
    let same = from_both room.layout _ _ _ (λ t far _. here t far) it.others it.others in
    let listed = slots_listed new.now room.layout it.sound it.schema in
    record {
      room = record {
        layout = room.layout;
        schema = it.schema;
        listed = listed;
        keyed = in_turn room.layout _ (from_both room.layout _ _ (λ (t : Table). IsKeyed (new.now.trees t.tree))
            (λ t keyed is. subst IsKeyed (sym is) keyed)
            (of_turn room.layout (λ (t : Table). IsKeyed (old.now.trees t.tree)) room.keyed) same);
        numbered = subst (AllByRecursion HasNumbers) (sym same.node) room.numbered;
      };
      schema = it.schema ∙ sym room.schema;
      version = version_stays _ _ same.room;
      sound = λ _ _. it.sound;
      lists = λ _. it.sound;
      records = read_same old.now.trees new.now.trees _ same (listed ∙ same.slots ∙ sym room.listed);
    }
  where
    here : (t : Table) → (t.tree ≢ tree → new.now.trees t.tree ≡ old.now.trees t.tree)
        → new.now.trees t.tree ≡ old.now.trees t.tree
    here t far = elim (cases_eq t.tree tree)
        [ inl is ↦ subst (λ n. new.now.trees n ≡ old.now.trees n) (sym is) it.rows_are | inr apart ↦ far apart ]

-- ---- a node

parent_back : (p : Option ℕ) → parent_in (parent_value p) ≡ p
parent_back None = refl
parent_back (Some n) = refl

kind_back : (k : Kind) → kind_stored (kind_number k) ≡ k
kind_back File = refl
kind_back Folder = refl

-- the row of a node, as it is stored
abbrev pub row_of_node : Node → List ℕ → Row
row_of_node node name = stored_node node.id node.parent name (kind_number node.kind) node.owner node.group node.aclflag

pub node_back : (node : Node) (name : List ℕ) → name_of_text name ≡ node.name
    → node_of (shown_node (row_of_node node name)) ≡ node
node_back node name named =
    λ i. record node { parent = parent_back node.parent i; name = named i; kind = kind_back node.kind i }

pub id_is : {i j : ℤ} → Int i ≡ Int j → i ≡ j
id_is e = cc

-- the row of the node was put
abbrev PutsNode : Layout → Node → List ℕ → (Row → Type 0) → Database → Database → Type 0
PutsNode l node name Met old new = PutInto l old new 1 (λ r. r ≡ row_of_node node name) Met

steps_put_node : (old new : State) (node : Node) (name : List ℕ) (Met : Row → Type 0) (room : IsRoomDatabase old.now)
    → name_of_text name ≡ node.name → PutsNode room.layout node name Met old.now new.now
    → Steps old new (apply_change (PutNode node))
steps_put_node old new node name Met room named done =
    let it = done.put in
    let id : it.id ≡ pos node.id = id_is (sym it.has_id ∙ ap rowid it.fits) in
    let is_numbered : HasNumbers it.row = subst HasNumbers (sym it.fits)
    (record { id = node.id; has_id = refl; parent = node.parent; has_parent = refl }) in
    steps_at 1 old new room _ (omega arith) done.schema done.sound it.others (keyed_after it room.keyed.1.0)
    (subst (AllByRecursion HasNumbers) (sym it.rows) (all-put_row HasNumbers it.row _ is_numbered
    (all-filter HasNumbers (λ r. not (has_rowid it.id r)) (old.now.trees 1) room.numbered))) (λ v. v)
    (same_records _ _ (λ q. filter_put it (λ rows. option_map node_of (only (map shown_node rows))) node.id q id
    ∙ ap (λ found. cond (q == node.id) (Some found) (nodes_in (old.now.trees 1) q))
    (ap (λ r. node_of (shown_node r)) it.fits ∙ node_back node name named))
    (λ _. refl) (λ _. refl) refl (λ _. refl) (λ _ _. refl))

-- the parameters of a node's row
abbrev pub params_of_node : Node → List ℕ → Row
params_of_node node name =
    node_params node.id node.parent name (kind_number node.kind) node.owner node.group node.aclflag

-- what an UPDATE of a node leaves, by how many rows it changed
pub node_changed : (old new : State) (node : Node) (name : List ℕ) (count : ℕ) (room : IsRoomDatabase old.now)
    → ExecutesInside 0 T.change_node_text (params_of_node node name) old new (Ok count)
    → ChangesNode room.layout node.id node.parent name (kind_number node.kind) node.owner node.group node.aclflag
    count old.now new.now
node_changed old new node name count room h =
    changes_row room.layout node_table node.id T.change_node_query.filter T.change_node_query.project _ _
    (node_update room.layout node.id node.parent name (kind_number node.kind) node.owner node.group node.aclflag)
    old new 1 count T.change_node_text refl (change_node_means room.layout) room.schema room.keyed.1.0 h.0

pub steps_change_node : (old new : State) (node : Node) (name : List ℕ) (count : ℕ)
    → IsRoomDatabase old.now → name_of_text name ≡ node.name
    → ExecutesInside 0 T.change_node_text (params_of_node node name) old new (Ok (suc count))
    → Steps old new (apply_change (PutNode node))
steps_change_node old new node name count room named h =
    steps_put_node old new node name _ room named (node_changed old new node name (suc count) room h)

-- an INSERT alone adds the row of a node, whatever is said of the rows of its number: there is none
pub node_added : (old new : State) (node : Node) (name : List ℕ) (count : ℕ) (Met : Row → Type 0)
    (room : IsRoomDatabase old.now) → ExecutesInside 0 T.add_node_text (params_of_node node name) old new (Ok count)
    → PutInto room.layout old.now new.now 1 (λ r. r ≡ row_of_node node name) Met
node_added old new node name count Met room h =
    adds_node room.layout node.id node.parent name (kind_number node.kind) node.owner node.group node.aclflag
    old new count Met room.schema h.0

pub steps_add_node : (old new : State) (node : Node) (name : List ℕ) (count : ℕ)
    → IsRoomDatabase old.now → name_of_text name ≡ node.name
    → ExecutesInside 0 T.add_node_text (params_of_node node name) old new (Ok count)
    → Steps old new (apply_change (PutNode node))
steps_add_node old new node name count room named h =
    steps_put_node old new node name (λ _. ⊥) room named (node_added old new node name count (λ _. ⊥) room h)

-- where an UPDATE changed none, the INSERT behind it adds the row
pub steps_change_or_add : (old mid new : State) (node : Node) (name : List ℕ) (count : ℕ)
    → IsRoomDatabase old.now → name_of_text name ≡ node.name
    → ExecutesInside 0 T.change_node_text (params_of_node node name) old mid (Ok 0)
    → ExecutesInside 0 T.add_node_text (params_of_node node name) mid new (Ok count)
    → Steps old new (apply_change (PutNode node))
steps_change_or_add old mid new node name count room named none one =
    let a = steps_left 1 old mid room (node_changed old mid node name 0 room none).leaves in
    steps_then a (steps_add_node mid new node name count a.room named one)

-- the rows of nodes are as they were, and then there is a row of this number
pub left_then_added : (old mid new : State) (node : Node) (name : List ℕ) (count : ℕ) (Met : Row → Type 0)
    (room : IsRoomDatabase old.now)
    → ExecutesInside 0 T.change_node_text (params_of_node node name) old mid (Ok 0)
    → ExecutesInside 0 T.add_node_text (params_of_node node name) mid new (Ok count)
    → (mid.now.trees 1 ≡ old.now.trees 1)
    × PutInto room.layout mid.now new.now 1 (λ r. r ≡ row_of_node node name) Met
left_then_added old mid new node name count Met room none one =
    let left = (node_changed old mid node name 0 room none).leaves in (
      left.rows_are,
      adds_node room.layout node.id node.parent name (kind_number node.kind) node.owner node.group node.aclflag
          mid new count Met left.schema one.0,
    )

-- ---- a document and the next number

steps_put_doc : (old new : State) (id : ℕ) (bytes : Vec ℕ Global) (room : IsRoomDatabase old.now)
    → PutsDoc room.layout id bytes.items old.now new.now → Steps old new (apply_change (PutDoc id bytes))
steps_put_doc old new id bytes room done =
    let it = done.put in
    steps_at 5 old new room _ (omega arith) done.schema done.sound it.others (keyed_after it room.keyed.1.1.1.0)
    room.numbered (λ v. v) (same_records _ _ (λ _. refl) (λ _. refl)
    (λ q. filter_put it (λ rows. option_map (λ row. blob_in (column row 0)) (only (map (one_column 2) rows))) id q
    (id_is (sym it.has_id ∙ ap rowid it.fits))
    ∙ ap (λ found. cond (q == id) (Some found) (documents_in (old.now.trees 5) q))
    (ap (λ r. blob_in (column (one_column 2 r) 0)) it.fits)) refl (λ _. refl) (λ _ _. refl))

-- what an UPDATE of the document leaves, by how many rows it changed
doc_changed : (old new : State) (id : ℕ) (bytes : List ℕ) (count : ℕ) (room : IsRoomDatabase old.now)
    → ExecutesInside 0 T.change_doc_text (doc_params id bytes) old new (Ok count)
    → ChangesDoc room.layout id bytes count old.now new.now
doc_changed old new id bytes count room h =
    changes_row room.layout doc_table id T.change_doc_query.filter T.change_doc_query.project _ _
    (doc_update room.layout id bytes) old new 3 count T.change_doc_text refl (change_doc_means room.layout)
    room.schema room.keyed.1.1.1.0 h.0

pub steps_change_doc : (old new : State) (id : ℕ) (bytes : Vec ℕ Global) (count : ℕ) → IsRoomDatabase old.now
    → ExecutesInside 0 T.change_doc_text (doc_params id bytes.items) old new (Ok (suc count))
    → Steps old new (apply_change (PutDoc id bytes))
steps_change_doc old new id bytes count room h =
    steps_put_doc old new id bytes room (doc_changed old new id bytes.items (suc count) room h)

-- an INSERT alone
pub steps_new_doc : (old new : State) (id : ℕ) (bytes : Vec ℕ Global) (count : ℕ) → IsRoomDatabase old.now
    → ExecutesInside 0 T.add_doc_text (doc_params id bytes.items) old new (Ok count)
    → Steps old new (apply_change (PutDoc id bytes))
steps_new_doc old new id bytes count room h = steps_put_doc old new id bytes room
    (adds_doc room.layout old new id bytes.items count room.schema h.0)

-- where it changed none, the INSERT behind it adds the row
pub steps_add_doc : (old mid new : State) (id : ℕ) (bytes : Vec ℕ Global) (count : ℕ) → IsRoomDatabase old.now
    → ExecutesInside 0 T.change_doc_text (doc_params id bytes.items) old mid (Ok 0)
    → ExecutesInside 0 T.add_doc_text (doc_params id bytes.items) mid new (Ok count)
    → Steps old new (apply_change (PutDoc id bytes))
steps_add_doc old mid new id bytes count room none one =
    let a = steps_left 5 old mid room (doc_changed old mid id bytes.items 0 room none).leaves in
    steps_then a (steps_new_doc mid new id bytes count a.room one)

-- the rows of nodes stay as they are
pub doc_change_leaves_nodes : (old new : State) (id : ℕ) (bytes : List ℕ) (count : ℕ) → IsRoomDatabase old.now
    → ExecutesInside 0 T.change_doc_text (doc_params id bytes) old new (Ok (suc count))
    → new.now.trees 1 ≡ old.now.trees 1
doc_change_leaves_nodes old new id bytes count room h =
    (doc_changed old new id bytes (suc count) room h).put.others.node (omega arith)

pub doc_new_leaves_nodes : (old new : State) (id : ℕ) (bytes : List ℕ) (count : ℕ) → IsRoomDatabase old.now
    → ExecutesInside 0 T.add_doc_text (doc_params id bytes) old new (Ok count) → new.now.trees 1 ≡ old.now.trees 1
doc_new_leaves_nodes old new id bytes count room h = (adds_doc room.layout old new id bytes count room.schema
    h.0).put.others.node (omega arith)

pub doc_add_leaves_nodes : (old mid new : State) (id : ℕ) (bytes : List ℕ) (count : ℕ) → IsRoomDatabase old.now
    → ExecutesInside 0 T.change_doc_text (doc_params id bytes) old mid (Ok 0)
    → ExecutesInside 0 T.add_doc_text (doc_params id bytes) mid new (Ok count) → new.now.trees 1 ≡ old.now.trees 1
doc_add_leaves_nodes old mid new id bytes count room none one =
    let left = (doc_changed old mid id bytes 0 room none).leaves in
    (adds_doc room.layout mid new id bytes count left.schema
    one.0).put.others.node (omega arith)
    ∙ left.others.node (omega arith)

-- ---- the next number

-- what a statement that sets the next number does: to the records, to the version, and to a table `slot` beside
pub record SetsNext (old new : State) (n : ℕ) : Type 0 where
  pub steps : Steps old new (apply_change (PutNext n))
  pub version : IsVersion 2 (version_rows new.now.trees)
  pub sound : IsDatabase new.now
  pub beside : old.now.schema ≡ room_schema Upgraded → new.now.trees 8 ≡ old.now.trees 8
  pub nodes : new.now.trees 1 ≡ old.now.trees 1

sets_put : (old new : State) (n : ℕ) (room : IsRoomDatabase old.now) → PutsNext room.layout n old.now new.now
    → (old.now.schema ≡ room_schema Upgraded → new.now.trees 8 ≡ old.now.trees 8) → SetsNext old new n
sets_put old new n room done beside =
    let it = done.put in
    let is : it.id ≡ pos 1 = id_is (sym it.has_id ∙ ap rowid it.fits) in
    let version : IsVersion 2 (version_rows new.now.trees) =
    filter_put it (λ rows. option_map (λ row. column row 0) (only (map (one_column 2) rows))) 1 1 is
    ∙ ap (λ r. Some (column (one_column 2 r) 0)) it.fits in
    record {
      version = version;
      sound = done.sound;
      beside = beside;
      nodes = it.others.node (omega arith);
      steps = steps_at 0 old new room _ (omega arith) done.schema done.sound it.others (keyed_after it room.keyed.0)
          room.numbered (λ _. version) (same_records _ _ (λ _. refl) (λ _. refl) (λ _. refl)
          (filter_put it (λ rows. unwrap_or (option_map (λ row. number_in (column row 0)) (only
          (map (one_column 3) rows))) 0)
          1 1 is ∙ ap (λ r. number_in (column (one_column 3 r) 0)) it.fits) (λ _. refl) (λ _ _. refl));
    }

-- what an UPDATE leaves, by how many rows it changed
next_changed : (old new : State) (n count : ℕ) (room : IsRoomDatabase old.now)
    → ExecutesInside 0 T.change_next_text (Int (pos n) ∷ []) old new (Ok count)
    → ChangesNext room.layout n count old.now new.now
next_changed old new n count room h = changes_next room.layout old new n count room.schema room.keyed.0
    h.0

pub change_sets_next : (old new : State) (n count : ℕ) → IsRoomDatabase old.now
    → ExecutesInside 0 T.change_next_text (Int (pos n) ∷ []) old new (Ok (suc count)) → SetsNext old new n
change_sets_next old new n count room h = sets_put old new n room (next_changed old new n (suc count) room h)
    (λ s. (changes_next Upgraded old new n (suc count) s room.keyed.0
    h.0).put.tables.1.1.1.1.1.0 (omega arith))

-- an INSERT alone
pub first_sets_next : (old new : State) (n count : ℕ) → IsRoomDatabase old.now
    → ExecutesInside 0 T.add_next_text (Int (pos n) ∷ []) old new (Ok count) → SetsNext old new n
first_sets_next old new n count room one =
    sets_put old new n room (adds_next room.layout old new n count room.schema one.0)
    (λ s. (adds_next Upgraded old new n count s one.0).put.tables.1.1.1.1.1.0 (omega arith))

-- where it changed none, the INSERT behind it adds the row
pub add_sets_next : (old mid new : State) (n count : ℕ) → IsRoomDatabase old.now
    → ExecutesInside 0 T.change_next_text (Int (pos n) ∷ []) old mid (Ok 0)
    → ExecutesInside 0 T.add_next_text (Int (pos n) ∷ []) mid new (Ok count) → SetsNext old new n
add_sets_next old mid new n count room none one =
    let left = next_changed old mid n 0 room none in
    let a = steps_left 0 old mid room left.leaves in
    let b = first_sets_next mid new n count a.room one in
    record {
      version = b.version;
      sound = b.sound;
      beside = λ s.
          let same = changes_next Upgraded old mid n 0 s room.keyed.0 none.0 in
          b.beside same.leaves.schema ∙ same.tables.1.1.1.1.1.0 (omega arith);
      nodes = b.nodes ∙ left.leaves.others.node (omega arith);
      steps = steps_then a b.steps;
    }

-- ---- changes in turn

-- one more change
pub steps_more : (old mid new : State) (changes more : List Change) (change : Change) → more ≡ changes ++ change ∷ []
    → Steps old mid (apply_changes changes) → Steps mid new (apply_change change) → Steps old new (apply_changes more)
steps_more old mid new changes more change is a b = subst (Steps old new)
    (λ i r. (sym (changes_then changes change r) ∙ ap (λ cs. apply_changes cs r) (sym is)) i) (steps_then a b)

-- a parent's number is bound as it is
pub bound_parent : (p : Option ℕ) → bound_value (parent_value p) ≡ parent_value p
bound_parent None = refl
bound_parent (Some n) = refl

-- and so is a reply
pub bound_reply : (r : Option (List ℕ)) → bound_value (reply_value r) ≡ reply_value r
bound_reply None = refl
bound_reply (Some bytes) = refl
