-- RENAME: its checks by what was read, and what it plans.
use Rattle.room_tree.proofs.Common.{common_steps, arith, ◌≡◌, refl, ap, sym, ◌∙◌, Bool, true, false, not, ◌||◌, [], ◌∷◌}
use Rattle.room_tree.proofs.Common.{◌++◌, map, length, Option, None, Some, reverse, Vec, Global, true_from_ne_false}
use Rattle.room_tree.proofs.Common.{EntryModel, with_inherited, SubjectModel, PutNode, Node, Name, Path, IsPath}
use Rattle.room_tree.proofs.Common.{name_eq, path_eq, ObjectRecords, apply_all_to_objects, Object, Room, object_at}
use Rattle.room_tree.proofs.Common.{list_of, list_under, parent_of, RepresentsRoom, HasPath, reads_one, some_is}
use Rattle.room_tree.proofs.Common.{path_itself, other_path, parent_of_end, name_itself, same_name, path_parts, Outcome}
use Rattle.room_tree.proofs.Common.{LoadedObject, Inval, first_refusal, checks, refuse_if, is_root, is_at_or_below}
use Rattle.room_tree.proofs.Common.{renamed, IsLoaded, node_of, PlansEffect, IsMove, PutsList, Done, reply_model}
use Rattle.room_tree.proofs.Common.{absent_there, walk_ends_in_folder, changed_is_room, not_root_ends, not_in_root}
use Rattle.room_tree.proofs.Common.{all_none}
use Rattle.room_commands.specs.CommandModel as C
use Rattle.room_tree.specs.declared.moving.Move.{Move}
use Rattle.room_tree.proofs.ListsMoved.{list_of_moved}
use Rattle.room_tree.proofs.Outcomes.{success_plans}
use Rattle.room_tree.proofs.Renewed.{put, IsChangeOf, list_then, list_then_is, changes_list, puts_relist}
use Rattle.room_tree.proofs.Renewed.{stored_at}
use Rattle.room_tree.proofs.Renewed.{relisted_of_objects, relisted_few}
use Rattle.room_tree.proofs.RowsPut.{last_is_name}
use Rattle.room_tree.proofs.RowsMoved.{node_moved, MovesNode, rules_after, moves}
use Rattle.room_tree.proofs.RowsReplaced.{path_of_node, replaced, none_new}

-- a test that two names are other
pub other_names : (a b : Name) (differ : Bool) → differ ≡ not (name_eq a b) → differ ≡ true → a ≡ b → ⊥
other_names a b differ is so same =
    let one : name_eq a b ≡ true = ap (name_eq a) (sym same) ∙ name_itself a in
    let no : true ≡ false = sym so ∙ is ∙ ap not one in cc

pub same_names : (a b : Name) (differ : Bool) → differ ≡ not (name_eq a b) → differ ≡ false → a ≡ b
same_names a b differ is so = same_name a b (true_from_ne_false (name_eq a b)
    (λ e. let no : true ≡ false = sym (is ∙ ap not e) ∙ so in cc))

pub root_is_short : (path : Path) → length path ≡ 0 → is_root path ≡ false → ⊥
root_is_short [] none off = cc
root_is_short (name ∷ path) none off = cc

-- where the paths of a rename pass
pub record PathsPass (path to : Path) : Type 0 where
  pub below_root : is_root path ≡ false
  pub to_below_root : is_root to ≡ false
  pub apart : is_at_or_below to path ≡ false

pub paths_pass : (path to : Path)
    → refuse_if (is_root path || is_root to || is_at_or_below to path) Inval ≡ None → PathsPass path to
paths_pass path to passed = grind (arith, common_steps)

module _ {t : ObjectRecords} {room : Room} (stand : RepresentsRoom t room) {a b : Path} {here there : LoadedObject}
    (is_here : IsLoaded t room a here) (is_there : IsLoaded t room b there) where
  -- a folder is another one exactly where its number is
  pub same_folder : here.id ≡ there.id → path_eq a b ≡ true
  same_folder same = grind (arith, common_steps, path_of_node, path_itself)

  pub other_folder : (here.id ≡ there.id → ⊥) → path_eq a b ≡ false
  other_folder other = other_path a b (λ same.
      other (reads_one t stand.rules (reverse a) here.id there.id
      is_here.is_there.at (rw same is_there.is_there.at)))

-- the row that is planned leads to the room with the subtree moved
pub rename_plans : {t : ObjectRecords} {room : Room} (caller : SubjectModel) {path to : Path} {move : Move}
    (now : Node) (outcome : Outcome) → RepresentsRoom t room → IsPath path → IsPath to
    → first_refusal (checks room caller (C.Rename path to)) ≡ None → IsMove t room path to move
    → ((folder : Path) (name : Name) → to ≡ folder ++ name ∷ []
    → now ≡ node_moved (node_of move.loaded) move.into.id name)
    → (new : Option (Vec EntryModel Global))
    → IsChangeOf (t.entries move.loaded.id) (list_under (object_at room path) (t.entries move.into.id)) new
    → (HasPath t path now.id → t.node now.id ≡ Some (node_of move.loaded) → (node_of move.loaded).kind ≡ now.kind
    → PutsList t room path now new outcome.changes.items) → reply_model outcome.reply ≡ Done
    → PlansEffect t room caller (C.Rename path to) outcome
rename_plans {t} {room} caller {path} {to} {move} now outcome stand is_path is_to passed found row new changes
    planned replied =
    let command = C.Rename path to in
    let a = all_none (checks room caller command) passed in
    let pass = paths_pass path to a.0 in
    let last = not_root_ends to pass.to_below_root in
    let in_folder : parent_of to ≡ last.folder = ap parent_of last.is ∙ parent_of_end last.folder last.name in
    let lawful = changed_is_room room caller command (is_path, is_to) stand.lawful passed in
    let above = walk_ends_in_folder room caller last.folder last.name (rw (← last.is) a.1.1.1.0) in
    let into = found.into.is_there in
    let same : found.into.object ≡ above.0 =
    some_is found.into.object above.0 (sym into.object_stands ∙ ap (object_at room) in_folder ∙ above.1) in
    let m : MovesNode t room path last.folder last.name found.loaded.object (node_of move.loaded) move.into.id =
    record {
      is_there = found.loaded.is_there;
      off_root = not_in_root path pass.below_root;
      apart = ap (λ p. is_at_or_below p path) (sym last.is) ∙ pass.apart;
      free = ap (object_at room) (sym last.is) ∙ absent_there room to a.1.1.1.1.0;
      up_at = rw (← in_folder) into.at;
      parent = node_of move.into;
      parent_stands = into.node_stands;
      parent_folder = into.shows.kind ∙ ap (λ (o : Object). o.kind) same ∙ above.2;
      named = last_is_name last.folder last.name (path_parts _ (rw last.is at is_to)).names;
      lawful = rw (← last.is) lawful;
    } in
    plan_by last.folder last.name last.is m
  where
    plan_by : (up : Path) (name : Name) → to ≡ up ++ name ∷ []
        → MovesNode t room path up name found.loaded.object (node_of move.loaded) move.into.id
        → PlansEffect t room caller (C.Rename path to) outcome
    plan_by up name is m =
        let target : Path = up ++ name ∷ [] in
        let o = found.loaded.object in
        let node = node_of move.loaded in
        let loaded = move.loaded in
        let after = node_moved node move.into.id name in
        let there = found.loaded.is_there in
        let given = list_under (object_at room path) (t.entries move.into.id) in
        let puts = (rw (row up name is) at planned) there.at there.node_stands refl in
        let changed = changes_list t loaded.id (t.entries loaded.id) given refl new changes in
        let what = puts_relist stand path loaded.id there.at after refl new changed outcome.changes.items puts in
        let list = list_then t loaded.id new in
        let in_folder : parent_of to ≡ up = ap parent_of is ∙ parent_of_end up name in
        let handed : t.entries move.into.id ≡ list_of room up = stored_at found.into ∙ ap (list_of room) in_folder in
        let as_moved : list_of (renamed room path target) target ≡ given =
        list_of_moved room stand.lawful path target o m.apart there.object_stands m.free up name found.into.object refl
        (ap (object_at room) (sym in_folder) ∙ found.into.is_there.object_stands)
        ∙ ap (with_inherited o.own o.aclflag o.kind) (sym handed)
        ∙ ap (λ found. list_under found (t.entries move.into.id)) (sym there.object_stands) in
        let list_is : list_of (renamed room path target) target ≡ list =
        as_moved ∙ sym (list_then_is t loaded.id (t.entries loaded.id) given refl new changes) in
        let later = apply_all_to_objects (PutNode after ∷ map put what.0) t in
        let w = moves stand m list_is what.2 in
        success_plans caller (C.Rename path to) outcome stand (PutNode after ∷ map put what.0) passed replied what.1
        (relisted_of_objects stand what.2 after) (rules_after stand m list_is what.2).0
        (relisted_few stand what.2 after)
        (rw is (replaced stand w)) (λ q id at stands there.
        (rw (← is) at w.keeps) q id at) (λ id absent present.
        absurd (none_new stand w id absent present))
