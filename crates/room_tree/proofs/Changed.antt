-- One object changed where it stands: what is planned is the effect.
use Rattle.room_tree.proofs.Common.{◌≡◌, ℕ, refl, ap, sym, ◌∙◌, inl, inr, List, [], Option, None, Some, unwrap_or}
use Rattle.room_tree.proofs.Common.{reverse, Vec, Global, AllByRecursion, Kind, File, Folder, SubjectModel, Change}
use Rattle.room_tree.proofs.Common.{PutNode, PutDoc, Node, Path, ObjectRecords, apply_to_objects, apply_all_to_objects}
use Rattle.room_tree.proofs.Common.{IsOfObjects, ObjectRulesHoldAfterEach, Object, Room, IsRoom, object_at, list_of}
use Rattle.room_tree.proofs.Common.{RepresentsRoom, if_same, if_other, SamePlace, shape_itself, shape_put}
use Rattle.room_tree.proofs.Common.{names_by_shape, rules_put, rules_put_doc, CommandModel, LoadedObject, Outcome}
use Rattle.room_tree.proofs.Common.{IsDir, first_refusal, checks, check_file, refuse_if, is_kind, changed, reply}
use Rattle.room_tree.proofs.Common.{with_object, IsLoaded, node_of, PlansEffect, most_rows, place_after, ChangesFewRows}
use Rattle.room_tree.proofs.Common.{reply_model, same_or_other_path, elsewhere_unchanged}
use Rattle.room_tree.proofs.Checking.{file_check, there}
use Rattle.room_tree.proofs.Outcomes.{success_plans}
use Rattle.room_tree.proofs.RowsReplaced.{Replaces, replaced, none_new, changed_at, stood_there}
use Rattle.room_tree.proofs.StoredLists.{stored_list, list_part, lists_alike, same_parts}

file_by_kind : (kind : Kind) (o : Object)
    → refuse_if (is_kind Folder (Some (record o { kind = kind }))) IsDir ≡ None → kind ≡ File
file_by_kind File o h = refl
file_by_kind Folder o h = cc

-- a found object that passes as a document is one
pub is_document : {t : ObjectRecords} {room : Room} {path : Path} {loaded : LoadedObject}
    (found : IsLoaded t room path loaded) → check_file room path ≡ None → loaded.kind ≡ File
is_document {loaded} found passed = file_by_kind loaded.kind found.object (sym (file_check found) ∙ passed)

-- what changed one object plans the effect
pub replaced_plans : {t : ObjectRecords} {room : Room} (caller : SubjectModel) (command : CommandModel)
    (outcome : Outcome) (changes : List Change) {path : Path} {o now_is : Object} {node now : Node}
    → RepresentsRoom t room → Replaces t (apply_all_to_objects changes t) room
    (changed room caller command) (λ q. q) path o now_is node now → first_refusal (checks room caller command) ≡ None
    → reply_model outcome.reply ≡ reply room caller command → outcome.changes.items ≡ changes
    → AllByRecursion IsOfObjects changes → ObjectRulesHoldAfterEach changes t
    → ChangesFewRows (most_rows command) t changes
    → ((q : Path) → place_after command None q ≡ q) → PlansEffect t room caller command outcome
replaced_plans {t} caller command outcome changes stand r passed replied planned of_objects rules few stays =
    let later = apply_all_to_objects changes t in
    success_plans caller command outcome stand changes passed replied planned of_objects rules few (replaced stand r)
    (λ q id at stands there. rw (stays q) (r.keeps q id at))
    (λ id absent present. absurd (none_new stand r id absent present))

module _ {t : ObjectRecords} {room : Room} (stand : RepresentsRoom t room) {path : Path} {loaded : LoadedObject}
    (found : IsLoaded t room path loaded) (change : Object → Object)
    (lawful : IsRoom (with_object room path change)) where
  parts_stay : (change found.object).own ≡ found.object.own → (change found.object).aclflag ≡ found.object.aclflag
      → (change found.object).kind ≡ found.object.kind
      → (p : Path) → list_part (object_at (with_object room path change) p) ≡ list_part (object_at room p)
  parts_stay own aclflag kind p = elim (same_or_other_path p path) [
    | inl same ↦
        let is_there = there found in
        ap (λ (q : Path). list_part (object_at (with_object room path change) q)) same
        ∙ ap list_part (changed_at room path change found.object is_there)
        ∙ same_parts (change found.object) found.object own aclflag kind
        ∙ ap list_part (sym is_there) ∙ ap (λ (q : Path). list_part (object_at room q)) (sym same)
    | inr other ↦ ap list_part (elsewhere_unchanged room path change p other)
  ]

  -- where own entries, list flags and kind stay, all lists stay
  lists_stay : (change found.object).own ≡ found.object.own → (change found.object).aclflag ≡ found.object.aclflag
      → (change found.object).kind ≡ found.object.kind
      → (q : Path) → list_of room q ≡ list_of (with_object room path change) q
  lists_stay own aclflag kind q = sym (lists_alike (with_object room path change) room (parts_stay own aclflag kind) q)

  -- its document
  pub document_replaces : (file : loaded.kind ≡ File) (bytes : Vec ℕ Global)
      → change found.object ≡ record found.object { bytes = bytes.items }
      → Replaces t (apply_to_objects (PutDoc loaded.id bytes) t) room (with_object room path change) (λ q. q)
      path found.object (change found.object) (node_of loaded) (node_of loaded)
  document_replaces file bytes becomes =
      let later = apply_to_objects (PutDoc loaded.id bytes) t in
      let shows = found.is_there.shows in
      let flags = ap (λ (o : Object). o.aclflag) becomes in
      let stays = lists_stay (ap (λ (o : Object). o.own) becomes) flags (ap (λ (o : Object). o.kind) becomes) in
      record {
        is_there = found.is_there;
        keeps = λ q. names_by_shape t later (shape_itself t later refl) (reverse q);
        rules = rules_put_doc t stand.rules loaded.id (node_of loaded) found.is_there.node_stands file bytes;
        stands = found.is_there.node_stands;
        shows = record {
          kind = shows.kind ∙ sym (ap (λ (o : Object). o.kind) becomes);
          owner = shows.owner ∙ sym (ap (λ (o : Object). o.owner) becomes);
          group = shows.group ∙ sym (ap (λ (o : Object). o.group) becomes);
          aclflag = shows.aclflag ∙ sym (ap (λ (o : Object). o.aclflag) becomes);
          entries = shows.entries ∙ stays path;
          bytes = ap (λ (d : Option (List ℕ)). unwrap_or d [])
              (if_same loaded.id loaded.id (Some bytes.items) (t.document loaded.id) refl)
              ∙ sym (ap (λ (o : Object). o.bytes) becomes);
        };
        nodes_away = λ id other. refl;
        lists_away = λ q id at other. stored_list stand q id at ∙ stays q;
        documents_away = λ id other. if_other id loaded.id (Some bytes.items) (t.document id) other;
        next = stand.next;
        lawful = lawful;
        at_path = changed_at room path change found.object (there found);
        away = λ q p other there. elsewhere_unchanged room path change q other ∙ there;
        back = stood_there room path change;
      }

  -- its row
  pub row_replaces : (now : Node) → SamePlace now (node_of loaded)
      → now.owner ≡ (change found.object).owner → now.group ≡ (change found.object).group
      → now.aclflag ≡ (change found.object).aclflag → (change found.object).aclflag ≡ found.object.aclflag
      → (change found.object).kind ≡ found.object.kind → (change found.object).own ≡ found.object.own
      → (change found.object).bytes ≡ found.object.bytes
      → Replaces t (apply_to_objects (PutNode now) t) room (with_object room path change) (λ q. q)
      path found.object (change found.object) (node_of loaded) now
  row_replaces now same owner group aclflag flags kind own bytes =
      let later = apply_to_objects (PutNode now) t in
      let shows = found.is_there.shows in
      let stays = lists_stay own flags kind in
      record {
        is_there = found.is_there;
        keeps = λ q. names_by_shape t later
            (shape_put t stand.rules (node_of loaded) now found.is_there.node_stands same) (reverse q);
        rules = rules_put t stand.rules (node_of loaded) now found.is_there.node_stands same;
        stands = if_same loaded.id now.id (Some now) (t.node loaded.id) (sym same.id);
        shows = record {
          kind = same.kind ∙ shows.kind ∙ sym kind;
          owner = owner;
          group = group;
          aclflag = aclflag;
          entries = ap t.entries same.id ∙ shows.entries ∙ stays path;
          bytes = ap (λ id. unwrap_or (t.document id) []) same.id ∙ shows.bytes ∙ sym bytes;
        };
        nodes_away = λ id other. if_other id now.id (Some now) (t.node id) (λ is. other (is ∙ same.id));
        lists_away = λ q id at other. stored_list stand q id at ∙ stays q;
        documents_away = λ id other. refl;
        next = stand.next;
        lawful = lawful;
        at_path = changed_at room path change found.object (there found);
        away = λ q p other there. elsewhere_unchanged room path change q other ∙ there;
        back = stood_there room path change;
      }
