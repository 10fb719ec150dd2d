-- A new object: what is planned is the effect.
use Rattle.room_tree.proofs.Common.{common_steps, ◌≡◌, ◌≢◌, ℕ, ◌+◌, ◌<◌, ◌≤◌, refl, ap, sym, ◌∙◌, subst, arith, cond}
use Rattle.room_tree.proofs.Common.{false, List, [], ◌∷◌, ◌++◌, length, reverse, Option, None, Some, IsSome, IsNone}
use Rattle.room_tree.proofs.Common.{unwrap_or, inl, inr, reverse-append, nat_lt, nat_le, ◌==◌, Vec, Global, Kind, File}
use Rattle.room_tree.proofs.Common.{Folder, SubjectModel, PutNext, PutNode, PutDoc, Node, max_objects, Name, Path}
use Rattle.room_tree.proofs.Common.{IsPath, ObjectRecords, ObjectRules, apply_to_objects, apply_all_to_objects}
use Rattle.room_tree.proofs.Common.{IsOfObjects, Object, Room, IsRoom, object_at, parent_of, list_of, follows}
use Rattle.room_tree.proofs.Common.{RepresentsRoom, NodeIsObject, HasPath, NamesUpwards, all_append, some_is}
use Rattle.room_tree.proofs.Common.{none_is_some, Ends, parent_of_end, nothing_below, list_of_child}
use Rattle.room_tree.proofs.Common.{lists_by_objects_above, same_or_other, if_same, if_other, rules_put_next}
use Rattle.room_tree.proofs.Common.{rules_put_doc, path_parts, LoadedObject, Outcome, Exist, RoomFull, first_refusal}
use Rattle.room_tree.proofs.Common.{checks, is_root, check_size, check_room_full, object_or_default, EntryModel}
use Rattle.room_tree.proofs.Common.{handed_down, with_new, new_object, IsLoaded, IsNewNode, node_of, PlansEffect}
use Rattle.room_tree.proofs.Common.{puts_new, Done, Size, reply_model, not_refused, none_there, changed_is_room}
use Rattle.room_tree.proofs.Common.{created_is_room, not_root_ends, all_none, new_there, elsewhere_as_before, old_stays}
use Rattle.room_tree.proofs.Common.{new_or_old}
use Rattle.std.proofs.lemmas.Bool.Decides.{nat_tests}
use Rattle.room_commands.specs.CommandModel as C
use Rattle.room_tree.proofs.Checking.{none_passes, limit_checks, new_checks}
use Rattle.room_tree.proofs.FewRows.{few_for_folder, few_for_document}
use Rattle.room_tree.proofs.NewLists.{apply_append, rules_append, gives_list}
use Rattle.room_tree.proofs.Outcomes.{success_plans}
use Rattle.room_tree.proofs.Replies.{object_is}
use Rattle.room_tree.proofs.RowsPut.{IsFree, no_child, rules_put_free, last_is_name}
use Rattle.room_tree.proofs.RowsReplaced.{still_shows}
use Rattle.room_tree.proofs.StoredLists.{stored_list, is_present}

-- the group that a new object gets
abbrev object_group : Room → Path → List ℕ
object_group room path = (object_or_default room (parent_of path)).group

-- the next number is past the last one where none is left
pub before_next : (m n left : ℕ) → n + left ≡ m + 1 → nat_lt m n ≡ (left == 0)
before_next m n left all = grind (arith, nat_tests, all)

some_by_test : (left : ℕ) → (left == 0) ≡ false → 0 < left
some_by_test left h = grind (arith, nat_tests)

module _ {t : ObjectRecords} {room : Room} {caller : SubjectModel} {path : Path} {above : LoadedObject} {kind : Kind}
    {id : ℕ} {node : Node} (stand : RepresentsRoom t room) (is_path : IsPath path) (root_off : is_root path ≡ false)
    (absent : object_at room path ≡ None) (found : IsLoaded t room (parent_of path) above) (number : id ≡ t.next)
    (few : t.next ≤ max_objects) (new : IsNewNode caller path above kind id node) (o : Object)
    (lawful : IsRoom (with_new room path o)) where
  end : Ends path
  end = not_root_ends path root_off

  in_folder : parent_of path ≡ end.folder
  in_folder = ap parent_of end.is ∙ parent_of_end end.folder end.name

  numbered : node.id ≡ t.next
  numbered = new.number ∙ number

  fresh : t.node node.id ≡ None
  fresh = grind (arith, common_steps)

  -- nothing is stored of it before
  pub no_entries : t.entries id ≡ []
  no_entries = ap t.entries (sym new.number) ∙ stand.rules.entries node.id fresh

  no_document : unwrap_or (t.document node.id) [] ≡ []
  no_document = grind (arith, common_steps)

  pub rules_bumped : ObjectRules (apply_to_objects (PutNext (id + 1)) t)
  rules_bumped = rules_put_next t stand.rules (id + 1) (omega (arith, number)) (omega (arith, number, few))

  folder_is : above.kind ≡ Folder
  folder_is =
      let At : Path → Type 0 = λ p. object_at (with_new room path o) p ≡ Some o in
      let parent = lawful.parents end.folder end.name o (subst At end.is (new_there room path o)) in
      let still : object_at (with_new room path o) (parent_of path) ≡ Some found.object =
      old_stays room path o absent (parent_of path) found.object found.is_there.object_stands in
      let same : found.object ≡ parent.0 =
      some_is found.object parent.0 (sym still ∙ ap (object_at (with_new room path o)) in_folder ∙ parent.1) in
      found.is_there.shows.kind ∙ ap (λ (p : Object). p.kind) same ∙ parent.2

  folder_at : HasPath t end.folder above.id
  folder_at = rw (← in_folder) found.is_there.at

  free : IsFree (apply_to_objects (PutNext (id + 1)) t) node above.id end.name
  free =
      let first = is_present (t.node 1) stand.rules.nodes.has_root in
      let absent_before : (before : Node) → t.node node.id ≡ Some before → ⊥ =
      λ before stands. none_is_some before (sym fresh ∙ stands) in
      record {
        off_root = λ same. absent_before first.0 (ap t.node same ∙ first.1);
        positive = (let one = stand.rules.numbered 1 first.0 first.1 in omega (arith, one.2, numbered));
        below = omega (arith, new.number);
        parent = node_of above;
        stands = found.is_there.node_stands;
        folder = folder_is;
        inside = new.parent;
        named = new.name end.folder end.name end.is;
        lawful = (last_is_name end.folder end.name (path_parts _ (rw end.is at is_path)).names);
        alone = λ other child. no_child stand end.folder end.name above.id folder_at
            (ap (object_at room) (sym end.is) ∙ absent) other
            (record { stands = child.stands; inside = child.inside });
        kind = λ before stands. absurd (absent_before before stands);
      }

  pub rules_made : ObjectRules (apply_to_objects (PutNode node) (apply_to_objects (PutNext (id + 1)) t))
  rules_made = rules_put_free rules_bumped free

  pub new_stands : (k : ℕ) → k ≡ node.id
      → (apply_to_objects (PutNode node) (apply_to_objects (PutNext (id + 1)) t)).node k ≡ Some node
  new_stands k same = if_same k node.id (Some node) (t.node k) same

  group_is : node.group ≡ (object_group room path)
  group_is = new.group ∙ found.is_there.shows.group
      ∙ ap (λ (p : Object). p.group) (sym (object_is found))

  -- what is there keeps its list
  lists_stay : (q : Path) (p : Object) → object_at room q ≡ Some p → list_of room q ≡ list_of (with_new room path o) q
  lists_stay q p there = lists_by_objects_above room (with_new room path o) q
      (λ front rest is. sym (elsewhere_as_before room path o front (λ same.
      let none = nothing_below room stand.lawful rest front (ap (object_at room) same ∙ absent) in
      none_is_some p (sym (ap (object_at room) is ∙ none) ∙ there))))

  -- and the new object has what its folder hands down
  list_of_new : o.kind ≡ kind → o.aclflag ≡ 1 → o.own ≡ []
      → handed_down (list_of room (parent_of path)) kind ≡ list_of (with_new room path o) path
  list_of_new kind_is aclflag own =
      let after = with_new room path o in
      let given = list_of after end.folder in
      let list : List EntryModel → ℕ → Kind → List EntryModel =
      λ entries flag k. entries ++ cond (follows flag) (handed_down given k) [] in
      let folder_list : list_of room (parent_of path) ≡ given =
      lists_stay (parent_of path) found.object found.is_there.object_stands ∙ ap (list_of after) in_folder in
      let follows_it : handed_down given kind ≡ list [] 1 kind = refl in
      let At : Path → Type 0 = λ p. object_at after p ≡ Some o in
      ap (λ (entries : List EntryModel). handed_down entries kind) folder_list ∙ follows_it
      ∙ ap (λ entries. list entries 1 kind) (sym own) ∙ ap (λ flag. list o.own flag kind) (sym aclflag)
      ∙ ap (list o.own o.aclflag) (sym kind_is)
      ∙ sym (list_of_child after end.folder end.name o (subst At end.is (new_there room path o)))
      ∙ ap (list_of after) (sym end.is)

  -- rows with its row, its list and its document stand for the room with the object, and keep all numbers
  pub added : (later : ObjectRecords)
      → later.node ≡ (apply_to_objects (PutNode node) (apply_to_objects (PutNext (id + 1)) t)).node
      → ((k : ℕ) → k ≢ node.id → later.entries k ≡ t.entries k)
      → later.entries node.id ≡ handed_down (list_of room (parent_of path)) kind
      → ((k : ℕ) → k ≢ node.id → later.document k ≡ t.document k) → later.next ≡ id + 1 → ObjectRules later
      → o.kind ≡ kind → o.owner ≡ caller.name → o.group ≡ object_group room path
      → o.aclflag ≡ 1 → o.own ≡ [] → unwrap_or (later.document node.id) [] ≡ o.bytes
      → RepresentsRoom later (with_new room path o) × ((q : Path) (k : ℕ) → HasPath t q k → HasPath later q k)
  added later nodes entries list documents next rules kind_is owner group aclflag own bytes = (
    record {
      rules = rules;
      lawful = lawful;
      nodes = λ k row stands. elim (same_or_other k node.id) [
        | inl same ↦
            let is : node ≡ row = some_is node row (sym new_row ∙ ap later.node (sym same) ∙ stands) in
            (path, o, rw (← is) (rw same new_is))
        | inr other ↦
            let before = stand.nodes k row (sym (away k other) ∙ stands) in
            (before.0, before.1, old_is k row before.0 before.1 before.2)
      ];
      objects = λ q p stands. elim (new_or_old room path o q p stands) [
        | inl here ↦ (node.id, node, rw (← here.1) (rw here.0 new_is))
        | inr there ↦
            let before = stand.objects q p there in
            (before.0, before.1, old_is before.0 before.1 q p before.2)
      ];
      next = omega (arith, next, number, stand.next, few);
    },
    keeps,
  )
    where
      new_row : later.node node.id ≡ Some node
      new_row = ap (λ (f : ℕ → Option Node). f node.id) nodes ∙ new_stands node.id refl

      away : (k : ℕ) → k ≢ node.id → later.node k ≡ t.node k
      away k other = ap (λ (f : ℕ → Option Node). f k) nodes ∙ if_other k node.id (Some node) (t.node k) other

      apart : (k : ℕ) (row : Node) → t.node k ≡ Some row → k ≢ node.id
      apart k row stands same = none_is_some row (sym fresh ∙ ap t.node (sym same) ∙ stands)

      names_stay : (names : List Name) (k : ℕ) → NamesUpwards t names k → NamesUpwards later names k
      names_stay [] k up = up
      names_stay (name ∷ others) k (row, parent, stands, named, inside, up) =
          (row, parent, away k (apart k row stands) ∙ stands, named, inside, names_stay others parent up)

      keeps : (q : Path) (k : ℕ) → HasPath t q k → HasPath later q k
      keeps q k at = names_stay (reverse q) k at

      new_at : HasPath later path node.id
      new_at =
          rw (ap reverse end.is ∙ reverse-append end.folder (end.name ∷ [])) (
            node,
            above.id,
            new_row,
            new.name end.folder end.name end.is,
            new.parent,
            names_stay (reverse end.folder) above.id folder_at,
          )

      new_is : NodeIsObject later (with_new room path o) node.id node path o
      new_is = record {
        at = new_at;
        node_stands = new_row;
        object_stands = new_there room path o;
        shows = record {
          kind = new.kind_is ∙ sym kind_is;
          owner = new.owner ∙ sym owner;
          group = group_is ∙ sym group;
          aclflag = new.aclflag ∙ sym aclflag;
          entries = list ∙ list_of_new kind_is aclflag own;
          bytes = bytes;
        };
      }

      old_is : (k : ℕ) (row : Node) (q : Path) (p : Object)
          → NodeIsObject t room k row q p → NodeIsObject later (with_new room path o) k row q p
      old_is k row q p is =
          let k_is : row.id ≡ k = (stand.rules.numbered k row is.node_stands).0 in
          let other = apart k row is.node_stands in
          record {
            at = keeps q k is.at;
            node_stands = away k other ∙ is.node_stands;
            object_stands = old_stays room path o absent q p is.object_stands;
            shows = still_shows is.shows (ap later.entries k_is ∙ entries k other ∙ stored_list stand q k is.at
                ∙ lists_stay q p is.object_stands) (documents row.id (λ same. other (sym k_is ∙ same)));
          }

  pub only_next : (later : ObjectRecords)
      → later.node ≡ (apply_to_objects (PutNode node) (apply_to_objects (PutNext (id + 1)) t)).node
      → (k : ℕ) → IsNone (t.node k) → IsSome (later.node k) → k ≡ t.next
  only_next later nodes k none some = grind (arith, common_steps)

few_made : {t : ObjectRecords} {room : Room} → RepresentsRoom t room → check_room_full room ≡ None
    → t.next ≤ max_objects
few_made {room} stand passed =
    let below = some_by_test room.left (not_refused (room.left == 0) RoomFull passed) in
    omega (arith, below, stand.next)

-- MKDIR
pub mkdir_plans : {t : ObjectRecords} {room : Room} {caller : SubjectModel} {path : Path} {above : LoadedObject}
    {id : ℕ} {node : Node} (list : Vec EntryModel Global) (outcome : Outcome) → RepresentsRoom t room → IsPath path
    → first_refusal (new_checks room caller path 0x4) ≡ None → IsLoaded t room (parent_of path) above
    → (first_refusal (limit_checks room path) ≡ None) × (id ≡ t.next)
    → IsNewNode caller path above Folder id node → list.items ≡ handed_down (list_of room (parent_of path)) Folder
    → outcome.changes.items ≡ PutNext (id + 1) ∷ PutNode node ∷ puts_new id list → reply_model outcome.reply ≡ Done
    → PlansEffect t room caller (C.Mkdir path) outcome
mkdir_plans {t} {room} {caller} {path} {id} {node} list outcome stand is_path before found number new given
    planned replied =
    let command = C.Mkdir path in
    let passed : first_refusal (checks room caller command) ≡ None =
    none_passes (new_checks room caller path 0x4) (limit_checks room path) before ∙ number.0 in
    let a = all_none (checks room caller command) passed in
    let root_off = not_refused (is_root path) Exist a.0 in
    let absent = none_there (object_at room path) (not_refused _ Exist a.1.1.0) in
    let few = few_made stand a.1.1.1.1.1.0 in
    let o = new_object room caller path Folder [] in
    let lawful = changed_is_room room caller command is_path stand.lawful passed in
    let first = apply_to_objects (PutNext (id + 1)) t in
    let second = apply_to_objects (PutNode node) first in
    let rules = rules_made stand is_path root_off absent found number.1 few new o lawful in
    let stands = new_stands stand is_path root_off absent found number.1 few new o lawful id (sym new.number) in
    let none = no_entries stand is_path root_off absent found number.1 few new o lawful in
    let later = apply_all_to_objects (puts_new id list) second in
    let gives = gives_list second id node list rules stands none in
    let r = added stand is_path root_off absent found number.1 few new o lawful later gives.nodes
    (λ k other. gives.away k (λ is. other (is ∙ sym new.number)))
    (ap later.entries new.number ∙ gives.listed ∙ given)
    (λ k other. ap (λ (f : ℕ → Option (List ℕ)). f k) gives.documents) gives.next gives.rules refl refl refl refl refl
    (ap (λ (f : ℕ → Option (List ℕ)). unwrap_or (f node.id) []) gives.documents
    ∙ no_document stand is_path root_off absent found number.1 few new o lawful) in
    success_plans caller command outcome stand
    (PutNext (id + 1) ∷ PutNode node ∷ puts_new id list) passed replied planned (tt, (tt, gives.of_objects)) (
      rules_bumped stand is_path root_off absent found number.1 few new o lawful,
      (rules, gives.each),
    )
    (few_for_folder t id none (id + 1) node new.number list)
    r.0 (λ q k at stands there. r.1 q k at) (only_next stand is_path
    root_off absent found number.1 few new o lawful later gives.nodes)

-- CREATE
pub create_plans : {t : ObjectRecords} {room : Room} {caller : SubjectModel} (bytes : List ℕ) {path : Path}
    {above : LoadedObject} {id : ℕ} {node : Node} (list : Vec EntryModel Global) (copy : Vec ℕ Global)
    (outcome : Outcome) → RepresentsRoom t room → IsPath path
    → first_refusal (new_checks room caller path 0x2) ≡ None → check_size (length bytes) ≡ None
    → IsLoaded t room (parent_of path) above
    → (first_refusal (limit_checks room path) ≡ None) × (id ≡ t.next)
    → IsNewNode caller path above File id node → list.items ≡ handed_down (list_of room (parent_of path)) File
    → copy.items ≡ bytes → outcome.changes.items ≡ PutNext (id + 1) ∷ PutNode node
    ∷ puts_new id list ++ PutDoc id copy ∷ [] → reply_model outcome.reply ≡ Size (length bytes)
    → PlansEffect t room caller (C.Create bytes path) outcome
create_plans {t} {room} {caller} bytes {path} {id} {node} list copy outcome stand is_path before small found
    number new given same planned replied =
    let command = C.Create bytes path in
    let passed : first_refusal (checks room caller command) ≡ None =
    none_passes (new_checks room caller path 0x2) (check_size (length bytes) ∷ limit_checks room path) before
    ∙ ap (λ o. first_refusal (o ∷ limit_checks room path)) small ∙ number.0 in
    let a = all_none (checks room caller command) passed in
    let root_off = not_refused (is_root path) Exist a.0 in
    let absent = none_there (object_at room path) (not_refused _ Exist a.1.1.0) in
    let few = few_made stand a.1.1.1.1.1.1.0 in
    let o = new_object room caller path File bytes in
    let lawful = created_is_room room caller bytes path is_path stand.lawful passed in
    let first = apply_to_objects (PutNext (id + 1)) t in
    let second = apply_to_objects (PutNode node) first in
    let rules = rules_made stand is_path root_off absent found number.1 few new o lawful in
    let stands = new_stands stand is_path root_off absent found number.1 few new o lawful id (sym new.number) in
    let none = no_entries stand is_path root_off absent found number.1 few new o lawful in
    let puts = puts_new id list in
    let third = apply_all_to_objects puts second in
    let later = apply_to_objects (PutDoc id copy) third in
    let gives = gives_list second id node list rules stands none in
    let last = rules_put_doc third gives.rules id node (ap (λ (f : ℕ → Option Node). f id) gives.nodes ∙ stands)
    new.kind_is copy in
    let r = added stand is_path root_off absent found number.1 few new o lawful later gives.nodes
    (λ k other. gives.away k (λ is. other (is ∙ sym new.number)))
    (ap third.entries new.number ∙ gives.listed ∙ given)
    (λ k other. if_other k id (Some copy.items) (third.document k) (λ is. other (is ∙ sym new.number))
    ∙ ap (λ (f : ℕ → Option (List ℕ)). f k) gives.documents)
    gives.next last refl refl refl refl refl
    (ap (λ (d : Option (List ℕ)). unwrap_or d [])
    (if_same node.id id (Some copy.items) (third.document node.id) new.number) ∙ same) in
    let whole = sym (apply_append puts (PutDoc id copy ∷ []) second) in
    let keeps = rw whole at r.1 in
    success_plans caller command outcome stand
    (PutNext (id + 1) ∷ PutNode node ∷ puts ++ PutDoc id copy ∷ []) passed replied planned
    (tt, (tt, all_append IsOfObjects puts (PutDoc id copy ∷ []) gives.of_objects (tt, tt))) (
      rules_bumped stand is_path root_off absent found number.1 few new o lawful,
      (rules, rules_append puts (PutDoc id copy ∷ []) second gives.each (last, tt)),
    )
    (few_for_document t id none (id + 1) node new.number list copy)
    (rw whole at r.0) (λ q k at stands there. keeps q k at) (rw (← whole) (only_next stand is_path
    root_off absent found number.1 few new o lawful later gives.nodes))
