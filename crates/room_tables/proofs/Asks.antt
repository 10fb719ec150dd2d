-- What the queries answer.
use Rattle.room_tables.proofs.Common.{◌≡◌, ℕ, pos, Bool, true, ◌&&◌, List, [], ◌∷◌, length, map, filter, Some}
use Rattle.room_tables.proofs.Common.{option_map, refl, sym, ap, subst, ◌∙◌, IsPermutation, AllByRecursion, list_all}
use Rattle.room_tables.proofs.Common.{AllZip, length_permutation, IsPermutation-map, length-map, Null, Int, Text, Row}
use Rattle.room_tables.proofs.Common.{column, Trees, IsAscending, unary, Env, eval_all, holds, IsAnswer, Output, output}
use Rattle.room_tables.proofs.Common.{overlay, filter_same, ascending-map, State, Shown, everything, understood}
use Rattle.room_tables.proofs.Common.{reads_as, one_permutation, Table, room_schema, with_last, slots_tree}
use Rattle.room_tables.proofs.Common.{IsRoomDatabase, has, has_text, is_child_named, is_slot, shown_node, node_rows}
use Rattle.room_tables.proofs.Common.{named_rows, child_rows, shown_entry, entry_rows, IsEntryRow, HasEntryColumns}
use Rattle.room_tables.proofs.Common.{one_column, doc_rows, shown_session, session_rows, shown_slot, slot_rows}
use Rattle.room_tables.proofs.Common.{next_rows, version_rows, IsVersion, seq_rows, shown_size, size_rows, ByName}
use Rattle.room_tables.proofs.Common.{counted_row, all_has, all_from, has_mapped}
use Rattle.std.proofs.lemmas.Option.{same_Some}
use Rattle.sqlite_sql.specs.Group.{value_over, IsSummary}
use Rattle.room_tables.proofs.Texts as T
use Rattle.room_tables.proofs.Each.{slots_seen}
use Rattle.room_tables.specs.Versions.{find_version_text, TellsVersion}
use Rattle.room_tables.proofs.Meaning.{list_children_means, count_children_means, list_entries_means, find_size_means}
use Rattle.room_tables.proofs.Meaning.{find_slot_means, find_seq_means}
use Rattle.room_tables.proofs.Queries.{passing, and_true, picked, found, asked, arranged, listed, envs_are}
use Rattle.room_tables.proofs.Queries.{only_permuted}
use Rattle.room_tables.proofs.Removed.{has_permuted}
use Rattle.room_tables.proofs.Placed.{exact_entries}

pub asks_node : (old new : State) (id : ℕ) (rows : List Row) → IsRoomDatabase old.now
    → Shown T.find_node_text (Int (pos id) ∷ []) old new rows → IsPermutation (node_rows old.now.trees id) rows
unfolding understood everything
asks_node old new id rows room h =
    asked (room_schema room.layout) old new T.find_node_text (Int (pos id) ∷ []) 1 _ _ _ rows (has 0 id) shown_node
    room.schema ((refl, (refl, refl)), refl) refl (λ r. and_true (has 0 id r)) (λ r. refl) h

pub asks_child : (old new : State) (parent : ℕ) (name : List ℕ) (rows : List Row)
    → IsRoomDatabase old.now → Shown T.find_child_text (Int (pos parent) ∷ Text name ∷ []) old new rows
    → IsPermutation (named_rows old.now.trees parent name) rows
unfolding understood everything
asks_child old new parent name rows room h =
    asked (room_schema room.layout) old new T.find_child_text (Int (pos parent) ∷ Text name ∷ []) 1 _ _ _ rows
    (is_child_named parent name) shown_node room.schema ((refl, (refl, refl)), refl) refl
    (λ r. ap (λ b. has 2 parent r && b) (and_true (has_text 3 name r))) (λ r. refl) h

pub asks_children : (old new : State) (parent : ℕ) (rows : List Row)
    → IsRoomDatabase old.now → Shown T.list_children_text (Int (pos parent) ∷ []) old new rows
    → IsPermutation (child_rows old.now.trees parent) rows × IsAscending ByName rows
asks_children old new parent rows room h =
    let params = Int (pos parent) ∷ [] in
    let k = picked (room_schema room.layout) old new T.list_children_text params 1 _ _ T.list_children_query.order
    _ rows room.schema (list_children_means room.layout) refl h in
    let it = arranged T.list_children_query params (old.now.trees 1) rows (has 2 parent)
    (λ r. column r 3 ∷ []) shown_node
    (λ r. and_true (has 2 parent r)) (λ r. refl) k in
    rw it.3 (IsPermutation-map shown_node _ _ it.1, ascending-map ByName shown_node it.0 it.2)

entry_typed : (found rows : List Row) → IsPermutation (map shown_entry found) rows
    → AllByRecursion HasEntryColumns rows → AllByRecursion IsEntryRow rows
entry_typed found rows same typed = all_from IsEntryRow rows (λ r h.
    let s = has_mapped shown_entry found r (has_permuted _ rows r same h) in
    let t = all_has HasEntryColumns rows r typed h in
    let columns : HasEntryColumns (shown_entry s.0) = subst HasEntryColumns s.2 t in
    record {
      place = columns.place;
      kind = columns.kind;
      flags = columns.flags;
      mask = columns.mask;
      who = columns.who;
      is = s.2 ∙ five s.0 columns;
    })
  where
    five : (s : Row) (c : HasEntryColumns (shown_entry s))
        → shown_entry s ≡ Int (pos c.place) ∷ Int (pos c.kind) ∷ Int (pos c.flags) ∷ Int (pos c.mask) ∷ Text c.who ∷ []
    five s c = rw (c.has_place, c.has_kind, c.has_flags, c.has_mask, c.has_who) refl

pub asks_entries : (old new : State) (id : ℕ) (rows : List Row)
    → IsRoomDatabase old.now → AllByRecursion HasEntryColumns rows
    → Shown T.list_entries_text (Int (pos id) ∷ []) old new rows → rows ≡ entry_rows old.now.trees id
asks_entries old new id rows room typed h =
    let k = picked (room_schema room.layout) old new T.list_entries_text (Int (pos id) ∷ []) 3 _ _
    T.list_entries_query.order _ rows room.schema (list_entries_means room.layout) refl h in
    let same = found T.list_entries_query (Int (pos id) ∷ []) (old.now.trees 3)
    rows (has 1 id) shown_entry (λ r. and_true (has 1 id r)) (λ r. refl) k in
    listed T.list_entries_query (Int (pos id) ∷ []) (old.now.trees 3) rows (has 1 id) shown_entry IsEntryRow
    (λ r. and_true (has 1 id r)) (λ r. refl) exact_entries (entry_typed _ rows same typed) k

pub asks_doc : (old new : State) (id : ℕ) (rows : List Row) → IsRoomDatabase old.now
    → Shown T.find_doc_text (Int (pos id) ∷ []) old new rows → IsPermutation (doc_rows old.now.trees id) rows
unfolding understood everything
asks_doc old new id rows room h =
    asked (room_schema room.layout) old new T.find_doc_text (Int (pos id) ∷ []) 5 _ _ _ rows (has 0 id) (one_column 2)
    room.schema ((refl, (refl, refl)), refl) refl (λ r. and_true (has 0 id r)) (λ r. refl) h

size_is : (id : ℕ) (r : Row) → eval_all T.find_size_query.project ((Int (pos id) ∷ []) ∷ r ∷ []) ≡ shown_size r
unfolding unary
size_is id r = refl

pub asks_size : (old new : State) (id : ℕ) (rows : List Row) → IsRoomDatabase old.now
    → Shown T.find_size_text (Int (pos id) ∷ []) old new rows → IsPermutation (size_rows old.now.trees id) rows
asks_size old new id rows room h =
    asked (room_schema room.layout) old new T.find_size_text (Int (pos id) ∷ []) 5 _ _ _ rows (has 0 id) shown_size
    room.schema (find_size_means room.layout) refl (λ r. and_true (has 0 id r)) (size_is id) h

pub asks_session : (old new : State) (sid : List ℕ) (rows : List Row) → IsRoomDatabase old.now
    → Shown T.find_session_text (Text sid ∷ []) old new rows → IsPermutation (session_rows old.now.trees sid) rows
unfolding understood everything
asks_session old new sid rows room h =
    asked (room_schema room.layout) old new T.find_session_text (Text sid ∷ []) 6 _ _ _ rows
    (has_text 1 sid) shown_session
    room.schema ((refl, (refl, refl)), refl) refl (λ r. and_true (has_text 1 sid r)) (λ r. refl) h

pub asks_slot : (old new : State) (sid : List ℕ) (slot : ℕ) (rows : List Row)
    → IsRoomDatabase old.now → Shown T.find_slot_text (Text sid ∷ Int (pos slot) ∷ []) old new rows
    → IsPermutation (slot_rows old.now.trees sid slot) rows
asks_slot old new sid slot rows room h =
    subst (λ all. IsPermutation (map shown_slot (filter (is_slot sid slot) all)) rows) (sym room.listed)
    (asked (room_schema room.layout) old new T.find_slot_text (Text sid ∷ Int (pos slot) ∷ []) (slots_tree room.layout)
    _ _ _ rows (is_slot sid slot) shown_slot room.schema (find_slot_means room.layout)
    (slots_seen room.layout old.now.trees) (λ r. ap (λ b. has_text 1 sid r && b) (and_true (has 2 slot r)))
    (λ r. refl) h)

pub asks_seq : (old new : State) (sid : List ℕ) (slot : ℕ) (rows : List Row)
    → IsRoomDatabase old.now → Shown T.find_seq_text (Text sid ∷ Int (pos slot) ∷ []) old new rows
    → IsPermutation (seq_rows old.now.trees sid slot) rows
asks_seq old new sid slot rows room h =
    subst (λ all. IsPermutation (map (one_column 3) (filter (is_slot sid slot) all)) rows) (sym room.listed)
    (asked (room_schema room.layout) old new T.find_seq_text (Text sid ∷ Int (pos slot) ∷ []) (slots_tree room.layout)
    _ _ _ rows (is_slot sid slot) (one_column 3) room.schema (find_seq_means room.layout)
    (slots_seen room.layout old.now.trees) (λ r. ap (λ b. has_text 1 sid r && b) (and_true (has 2 slot r)))
    (λ r. refl) h)

pub asks_next : (more : List Table) (old new : State) (rows : List Row)
    → old.now.schema ≡ with_last more
    → Shown T.find_next_text [] old new rows → IsPermutation (next_rows old.now.trees) rows
unfolding understood everything
asks_next more old new rows schema h =
    asked (with_last more) old new T.find_next_text [] 0 _ _ _ rows (has 0 1) (one_column 3) schema
    ((refl, (refl, refl)), refl) refl (λ r. and_true (has 0 1 r)) (λ r. refl) h

pub asks_version : (more : List Table) (old new : State) (rows : List Row)
    → old.now.schema ≡ with_last more
    → Shown find_version_text [] old new rows → IsPermutation (version_rows old.now.trees) rows
unfolding understood everything
asks_version more old new rows schema h =
    asked (with_last more) old new find_version_text [] 0 _ _ _ rows (has 0 1) (one_column 2) schema
    ((refl, (refl, refl)), refl) refl (λ r. and_true (has 0 1 r)) (λ r. refl) h

-- a version that was told is that of the rows
pub told_version : (more : List Table) (old new : State) (n : ℕ)
    → old.now.schema ≡ with_last more → TellsVersion old new (IsVersion n)
    → IsVersion n (version_rows old.now.trees)
told_version more old new n schema told =
    subst (λ o. option_map (λ row. column row 0) o ≡ Some (Int (pos n)))
    (only_permuted _ _ (asks_version more old new told.0 schema told.1)) told.2

-- and so it is with another that was told
pub told_another : (more : List Table) (old new : State) (n : ℕ)
    → old.now.schema ≡ with_last more → TellsVersion old new (λ rows. ¬ IsVersion n rows)
    → ¬ IsVersion n (version_rows old.now.trees)
told_another more old new n schema told is =
    told.2 (subst (λ o. option_map (λ row. column row 0) o ≡ Some (Int (pos n)))
    (sym (only_permuted _ _ (asks_version more old new told.0 schema told.1))) is)

-- ---- the count

summarized : (order : List Env) (r : Row) → IsSummary T.counted order r → r ≡ counted_row (length order)
summarized order r (values, each, is) = is ∙ one values each
  where
    one : (values : Row) → AllZip (λ a v. value_over order a ≡ Some v) (T.all_rows ∷ []) values
        → values ≡ counted_row (length order)
    one [] each = absurd each
    one (v ∷ []) each = ap (λ w. w ∷ []) (same_Some _ _ (sym each.0))
        ∙ ap counted_row (length-map order (Rattle.sqlite_sql.specs.Term.eval T.all_rows.argument))
    one (v ∷ w ∷ more) each = absurd each.1

one_group : (order : List Env) (rows : List Row)
    → AllZip (IsSummary T.counted) (order ∷ []) rows → rows ≡ counted_row (length order) ∷ []
one_group order [] h = absurd h
one_group order (r ∷ []) h = ap (λ x. x ∷ []) (summarized order r h.0)
one_group order (r ∷ s ∷ more) h = absurd h.1

count_answer : (params : Row) (db : Trees) (rows : List Row) (p : Row → Bool)
    → ((r : Row) → list_all (holds (params ∷ r ∷ [])) T.count_children_query.filter ≡ p r)
    → IsAnswer T.count_children_query db params rows
    → rows ≡ counted_row (length (filter p (db 1))) ∷ []
count_answer params db rows p test a =
    let g = a.grouped in
    let order = g.grouping.0 in
    let all : length order ≡ length (filter p (db 1)) =
    length_permutation _ _ g.grouping.1 ∙ ap length (envs_are T.count_children_query.filter params (db 1))
    ∙ length-map (passing T.count_children_query.filter params (db 1)) (λ r. params ∷ r ∷ [])
    ∙ ap length (filter_same _ p test (db 1)) in
    let row = counted_row (length order) in
    let summed : g.rows ≡ row ∷ [] =
    one_group order g.rows (subst (λ l. AllZip (IsSummary T.counted) l g.rows) g.grouping.2 g.summaries) in
    let staged : a.staged ≡ (params ∷ row ∷ []) ∷ [] =
    g.having ∙ ap (λ l. filter (λ _. true) (map (λ r. params ∷ r ∷ []) l)) summed in
    let kept : a.kept ≡ output T.count_children_query (params ∷ row ∷ []) ∷ [] =
    a.distinct ∙ ap (map (output T.count_children_query)) staged in
    let ordered = one_permutation _ a.ordered (subst (λ l. IsPermutation l a.ordered) kept a.same) in
    a.shown ∙ ap (map (λ (o : Output). o.1)) ordered ∙ ap (λ n. counted_row n ∷ []) all

pub asks_count : (old new : State) (parent : ℕ) (rows : List Row) → IsRoomDatabase old.now
    → Shown T.count_children_text (Int (pos parent) ∷ []) old new rows
    → rows ≡ counted_row (length (child_rows old.now.trees parent)) ∷ []
asks_count old new parent rows room h =
    let params = Int (pos parent) ∷ [] in
    let means = count_children_means room.layout in
    let read = reads_as T.count_children_text params old new (room_schema room.layout) room.schema _
    means.0.0 means.0.1 means.1 rows h in
    count_answer params (overlay old.now.trees []) rows (has 2 parent)
    (λ r. and_true (has 2 parent r)) (read.answer Null)
    ∙ ap (λ n. counted_row n ∷ []) (sym (length-map (filter (has 2 parent) (old.now.trees 1)) shown_node))
