-- SETLIST: what is planned is the effect.
use Rattle.room_tree.proofs.Common.{common_steps, arith, ◌≡◌, ℕ, ◌+◌, ◌⊎◌, refl, ap, sym, ◌∙◌, Bool, true, false, inl}
use Rattle.room_tree.proofs.Common.{inr, List, [], ◌∷◌, ◌++◌, map, drop, length, reverse, append-nil, Option, None}
use Rattle.room_tree.proofs.Common.{Some, unwrap_or, Vec, Global, reverse-append, append_cancel_left, Kind, EntryModel}
use Rattle.room_tree.proofs.Common.{with_inherited, SubjectModel, Node, PutNode, Name, Path, ObjectRecords, ObjectRules}
use Rattle.room_tree.proofs.Common.{apply_to_objects, apply_all_to_objects, ObjectRulesHoldAfterEach, Object, Room}
use Rattle.room_tree.proofs.Common.{object_at, list_of, RepresentsRoom, HasPath, list_of_child, list_of_root, some_is}
use Rattle.room_tree.proofs.Common.{Ends, if_same, if_other, SamePlace, SameShape, shape_put, rules_put, names_by_shape}
use Rattle.room_tree.proofs.Common.{first_refusal, checks, is_at_or_below, with_object, Done, reply_model}
use Rattle.room_tree.proofs.Common.{own_entries_of_setlist, setlist_is_room, at_behind, elsewhere_unchanged, rest_below}
use Rattle.room_tree.proofs.Common.{not_both, LoadedObject, Outcome, IsLoaded, node_of, PlansEffect, list_below}
use Rattle.room_tree.proofs.Common.{PutsList, entries_of}
use Rattle.room_commands.specs.CommandModel as C
use Rattle.room_tree.proofs.Changed.{replaced_plans}
use Rattle.room_tree.proofs.Checking.{there}
use Rattle.room_tree.proofs.ListsRenewed.{lists_renewed, lists_away, list_above_stays}
use Rattle.room_tree.proofs.OwnPart.{root_or_below}
use Rattle.room_tree.proofs.Renewed.{Puts, put, Relists, IsChangeOf, list_then_is, changes_list, puts_relist, stored_at}
use Rattle.room_tree.proofs.Renewed.{only_entries, relisted_at, relisted_off, relisted_of_objects, relisted_rules}
use Rattle.room_tree.proofs.Renewed.{relisted_few}
use Rattle.room_tree.proofs.RowsReplaced.{Replaces, changed_at, stood_there}
use Rattle.room_tree.proofs.StoredLists.{stored_list}

nothing_handed_down : (own : List EntryModel) (aclflag : ℕ) (kind : Kind) → with_inherited own aclflag kind [] ≡ own
nothing_handed_down own aclflag kind = grind (arith, common_steps)

-- the same nodes at the same places
shape_with : (t first later : ObjectRecords) → later.node ≡ first.node → SameShape t first → SameShape t later
shape_with t first later same shape = grind (arith, common_steps)

module _ {t : ObjectRecords} {room : Room} (stand : RepresentsRoom t room) {path : Path} {loaded : LoadedObject}
    (found : IsLoaded t room path loaded) where
  none_above : path ≡ [] → loaded.parent ≡ None
  none_above root = grind (arith, common_steps)

  folder_above : (folder : Path) (name : Name) → path ≡ folder ++ name ∷ []
      → entries_of t loaded.parent ≡ list_of room folder
  folder_above folder name is =
      let up = rw (ap reverse is ∙ reverse-append folder (name ∷ [])) at found.is_there.at in
      let same : node_of loaded ≡ up.0 = some_is (node_of loaded) up.0 (sym found.is_there.node_stands ∙ up.2) in
      let parent : loaded.parent ≡ Some up.1 = ap (λ (n : Node). n.parent) same ∙ up.4 in
      ap (entries_of t) parent ∙ stored_list stand folder up.1 up.5

  module _ (caller : SubjectModel) (flag : ℕ) (sent : List EntryModel) where
    abbrev kept : List EntryModel
    kept = own_entries_of_setlist path flag sent

    abbrev change : Object → Object
    change o = record o { aclflag = flag; own = kept }

    abbrev after : Room
    after = with_object room path change

    abbrev now : Node
    now = record (node_of loaded) { aclflag = flag }

    same_place : SamePlace now (node_of loaded)
    same_place = record { id = refl; parent = refl; name = refl; kind = refl }

    at_path : object_at after path ≡ Some (change found.object)
    at_path = changed_at room path change found.object (there found)

    -- the list that the object has afterwards
    list_after : list_of after path ≡ with_inherited kept flag loaded.kind (entries_of t loaded.parent)
    list_after = by_end (root_or_below path)
        ∙ ap (λ kind. with_inherited kept flag kind (entries_of t loaded.parent)) (sym found.is_there.shows.kind)
      where
        by_end : (path ≡ []) ⊎ Ends path
            → list_of after path ≡ with_inherited kept flag found.object.kind (entries_of t loaded.parent)
        by_end (inl root) =
            ap (list_of after) root ∙ list_of_root after (change found.object)
            (ap (object_at after) (sym root) ∙ at_path)
            ∙ sym (nothing_handed_down kept flag found.object.kind)
            ∙ ap (λ above. with_inherited kept flag found.object.kind (entries_of t above)) (sym (none_above root))
        by_end (inr end) =
            ap (list_of after) end.is ∙ list_of_child after end.folder end.name
            (change found.object) (ap (object_at after) (sym end.is) ∙ at_path)
            ∙ ap (with_inherited kept flag found.object.kind)
            (list_above_stays room after path end.folder end.name end.is (elsewhere_unchanged room path change)
            ∙ sym (folder_above end.folder end.name end.is))

    away_from : (q : Path) → is_at_or_below q path ≡ false → object_at after q ≡ object_at room q
    away_from q off = elsewhere_unchanged room path change q (λ same.
        not_both (is_at_or_below q path)
        (ap (λ p. is_at_or_below p path) (same ∙ sym (append-nil path)) ∙ at_behind path []) off)

    module _ (passed : first_refusal (checks room caller (C.SetList flag sent path)) ≡ None) {list : List EntryModel}
        (is : list_of after path ≡ list) {puts : Puts} (r : Relists t room path list puts) where
      abbrev first : ObjectRecords
      first = apply_to_objects (PutNode now) t

      abbrev later : ObjectRecords
      later = apply_all_to_objects (PutNode now ∷ map put puts) t

      node_after : (id : ℕ) → later.node id ≡ first.node id
      node_after id = ap (λ (f : ℕ → Option Node). f id) (only_entries puts first).0

      lists_below : (q : Path) (id : ℕ) → HasPath t q id → later.entries id ≡ list_of after q
      lists_below q id at = by_test (is_at_or_below q path) refl
        where
          by_test : (b : Bool) → is_at_or_below q path ≡ b → later.entries id ≡ list_of after q
          by_test true below =
              let rest : Path = drop (length path) q in
              let split : q ≡ path ++ rest = rest_below path q below in
              relisted_at stand r now rest id (rw (← split) (at))
              ∙ ap (λ l. list_below room path l (reverse rest)) (sym is)
              ∙ sym (lists_renewed room after path path (λ below some. elsewhere_unchanged room path change (path
              ++ below) (λ same. some (append_cancel_left path below [] (same ∙ sym (append-nil path))))) rest)
              ∙ ap (list_of after) (sym split)
          by_test false off = relisted_off stand r now q id at off
              ∙ stored_list stand q id at ∙ sym (lists_away room after path away_from q off)

      rules_after : ObjectRulesHoldAfterEach (PutNode now ∷ map put puts) t × ObjectRules later
      rules_after = relisted_rules stand r now
          (rules_put t stand.rules (node_of loaded) now found.is_there.node_stands same_place)

      replaces : Replaces t later room after (λ q. q) path found.object (change found.object) (node_of loaded) now
      replaces =
          let shows = found.is_there.shows in
          record {
            is_there = found.is_there;
            keeps = λ q. names_by_shape t later (shape_with t first later (only_entries puts first).0
                (shape_put t stand.rules (node_of loaded) now found.is_there.node_stands same_place)) (reverse q);
            rules = rules_after.1;
            stands = node_after loaded.id ∙ if_same loaded.id loaded.id (Some now) (t.node loaded.id) refl;
            shows = record {
              kind = shows.kind;
              owner = shows.owner;
              group = shows.group;
              aclflag = refl;
              entries = lists_below path loaded.id found.is_there.at;
              bytes = ap (λ (f : ℕ → Option (List ℕ)). unwrap_or (f loaded.id) [])
                  (only_entries puts first).1 ∙ shows.bytes;
            };
            nodes_away = λ id other. node_after id ∙ if_other id loaded.id (Some now) (t.node id) other;
            lists_away = λ q id at other. lists_below q id at;
            documents_away = λ id other. ap (λ (f : ℕ → Option (List ℕ)). f id) (only_entries puts first).1;
            next = ap (λ n. n + room.left) (only_entries puts first).2 ∙ stand.next;
            lawful = setlist_is_room room caller flag sent path stand.lawful passed;
            at_path = at_path;
            away = λ q p other there. elsewhere_unchanged room path change q other ∙ there;
            back = stood_there room path change;
          }

      planned_with : (outcome : Outcome) → reply_model outcome.reply ≡ Done
          → outcome.changes.items ≡ PutNode now ∷ map put puts
          → PlansEffect t room caller (C.SetList flag sent path) outcome
      planned_with outcome replied planned =
          replaced_plans caller (C.SetList flag sent path) outcome (PutNode now ∷ map put puts) stand
          replaces passed replied planned (relisted_of_objects stand r now)
          rules_after.0 (relisted_few stand r now) (λ q. refl)

    -- the row, its list where that changes, and those below lead to the room with other list flags and own entries
    pub setlist_plans : first_refusal (checks room caller (C.SetList flag sent path)) ≡ None
        → (list : List EntryModel) → list ≡ with_inherited kept flag loaded.kind (entries_of t loaded.parent)
        → (new : Option (Vec EntryModel Global)) → IsChangeOf (list_of room path) list new
        → (outcome : Outcome) → PutsList t room path now new outcome.changes.items
        → reply_model outcome.reply ≡ Done → PlansEffect t room caller (C.SetList flag sent path) outcome
    setlist_plans passed list is new changes outcome planned replied =
        let stored = stored_at found in
        let what = puts_relist stand path loaded.id found.is_there.at now refl new
        (changes_list t loaded.id (list_of room path) list stored new changes) outcome.changes.items planned in
        planned_with passed
        (list_after ∙ sym is ∙ sym (list_then_is t loaded.id (list_of room path) list stored new changes))
        what.2 outcome replied what.1
