-- What the definitions of rooms and commands mean: refusals, successes, a READ after a WRITE, a RENAME.
use Rattle.room_commands.proofs.Common.{◌≡◌, ℕ, refl, ap, sym, ◌∙◌, Bool, true, false, not, cond, ◌||◌, List, [], ◌∷◌}
use Rattle.room_commands.proofs.Common.{◌++◌, map, Option, None, Some, is_some, option_map, arith, or_parts, Kind, File}
use Rattle.room_commands.proofs.Common.{Folder, SubjectModel, read_data, execute, Path, path_eq}
use Rattle.room_commands.proofs.Common.{Object, Room, IsRoom, object_at, list_of, without_bytes}
use Rattle.room_commands.proofs.Common.{lists_without_bytes, CommandModel, Bytes, IsNotDone, first_refusal}
use Rattle.room_commands.proofs.Common.{checks, is_kind, check_exists, check_file, check_folder, check_right}
use Rattle.room_commands.proofs.Common.{refuse_if, prefix_refusal, proper_prefixes, walk, bytes_at, is_root}
use Rattle.room_commands.proofs.Common.{is_at_or_below, NoEnt, NotDir, IsDir, effect, effect_by, changed, reply}
use Rattle.room_commands.proofs.Common.{with_object, renamed, NeedsAllowed}
use Rattle.std.proofs.lemmas.Grind.{common_steps}
use Rattle.room_commands.specs.CommandModel as C
use Rattle.room_commands.proofs.Rights.{AllNone, all_none, rights_of_success}
use Rattle.room_commands.proofs.ChecksTell.{not_refused, exists_there, absent_there}
use Rattle.room_commands.proofs.RoomsObject.{at_changed, after_change}
use Rattle.room_commands.proofs.RoomsRenamed.{at_new_place, at_old_place, away}
use Rattle.room_commands.proofs.Shorthands.{bytes_of, right_by}

-- the reply of what no check refuses is no refusal
pub reply_is_no_refusal : (room : Room) (caller : SubjectModel) (command : CommandModel)
    → IsNotDone (reply room caller command) → ⊥
reply_is_no_refusal room caller command refused = grind (arith, common_steps)

-- a refused command leaves the room
pub refused_leaves : (room : Room) (caller : SubjectModel) (command : CommandModel)
    → IsNotDone (effect room caller command).reply → (effect room caller command).room ≡ room
refused_leaves room caller command refused = grind (arith, common_steps)

-- a command that is not refused passed every check
pub passed_if_not_refused : (room : Room) (caller : SubjectModel) (command : CommandModel)
    → (IsNotDone (effect room caller command).reply → ⊥) → first_refusal (checks room caller command) ≡ None
passed_if_not_refused room caller command success = grind (arith, common_steps)

-- and had every right that it needs
pub success_had_rights : (room : Room) (caller : SubjectModel) (command : CommandModel)
    → (IsNotDone (effect room caller command).reply → ⊥) → NeedsAllowed room caller command
success_had_rights room caller command h =
    rights_of_success room caller command (passed_if_not_refused room caller command h)

pub room_if_passed : (room : Room) (caller : SubjectModel) (command : CommandModel) →
    first_refusal (checks room caller command) ≡ None → (effect room caller command).room ≡ changed room caller command
room_if_passed room caller command passed = ap (λ o. (effect_by room caller command o).room) passed

pub reply_if_passed : (room : Room) (caller : SubjectModel) (command : CommandModel)
    → first_refusal (checks room caller command) ≡ None → (effect room caller command).reply ≡ reply room caller command
reply_if_passed room caller command passed = ap (λ o. (effect_by room caller command o).reply) passed

-- two rooms that differ in bytes alone check alike
module _ (room other : Room) (caller : SubjectModel)
    (alike : (path : Path) → without_bytes (object_at room path) ≡ without_bytes (object_at other path)) where
  pub some_alike : (path : Path) → is_some (object_at room path) ≡ is_some (object_at other path)
  some_alike path = grind (arith, common_steps)

  pub kind_alike : (kind : Kind) (path : Path)
      → is_kind kind (object_at room path) ≡ is_kind kind (object_at other path)
  kind_alike kind path = grind (arith, common_steps)

  pub exists_alike : (path : Path) → check_exists room path ≡ check_exists other path
  exists_alike path = ap (λ b. refuse_if (not b) NoEnt) (some_alike path)

  pub folder_alike : (path : Path) → check_folder room path ≡ check_folder other path
  folder_alike path = ap (λ b. refuse_if b NotDir) (kind_alike File path)

  pub file_alike : (path : Path) → check_file room path ≡ check_file other path
  file_alike path = ap (λ b. refuse_if b IsDir) (kind_alike Folder path)

  pub right_alike : (path : Path) (wanted : ℕ)
      → check_right room caller path wanted ≡ check_right other caller path wanted
  right_alike path wanted =
      ap (λ entries. right_by caller path wanted entries (object_at room path))
      (lists_without_bytes room other alike path)
      ∙ bare (object_at room path) ∙ ap (right_by caller path wanted (list_of other path)) (alike path)
      ∙ sym (bare (object_at other path))
    where
      bare : (o : Option Object) → right_by caller path wanted (list_of other path) o
          ≡ right_by caller path wanted (list_of other path) (without_bytes o)
      bare None = refl
      bare (Some o) = refl

  prefix_alike : (path : Path) → prefix_refusal room caller path ≡ prefix_refusal other caller path
  prefix_alike path = (λ i. first_refusal (exists_alike path i ∷ folder_alike path i ∷ right_alike path execute i ∷ []))

  pub walk_alike : (path : Path) → walk room caller path ≡ walk other caller path
  walk_alike path = (λ i. first_refusal (map (λ front. prefix_alike front i) (proper_prefixes path)))

  read_alike : (path : Path) → checks room caller (C.Read path) ≡ checks other caller (C.Read path)
  read_alike path =
      (λ i. walk_alike path i ∷ exists_alike path i ∷ file_alike path i ∷ right_alike path read_data i ∷ [])

pub bytes_stay_out : (room : Room) (path : Path) (new : List ℕ → List ℕ) (q : Path)
    → without_bytes (object_at (with_object room path (λ o. record o { bytes = new o.bytes })) q)
    ≡ without_bytes (object_at room q)
bytes_stay_out room path new q =
    ap without_bytes (after_change room path (λ o. record o { bytes = new o.bytes }) q)
    ∙ by_test (path_eq q path) (object_at room q)
  where
    by_test : (b : Bool) (o : Option Object)
        → without_bytes (cond b (option_map (λ (f : Object). record f { bytes = new f.bytes }) o) o) ≡ without_bytes o
    by_test true None = refl
    by_test true (Some o) = refl
    by_test false o = refl

read_back : (room : Room) (caller : SubjectModel) (path : Path) (new : List ℕ → List ℕ)
    → first_refusal (checks room caller (C.Read path)) ≡ None
    → (effect (with_object room path (λ o. record o { bytes = new o.bytes })) caller (C.Read path)).reply
    ≡ Bytes (new (bytes_at room path))
read_back room caller path new passed =
    let later = with_object room path (λ o. record o { bytes = new o.bytes }) in
    let again = ap first_refusal (read_alike later room caller (bytes_stay_out room path new) path) ∙ passed in
    let there = exists_there room path (all_none (checks room caller (C.Read path)) passed).1.0 in
    reply_if_passed later caller (C.Read path) again
    ∙ ap (λ o. Bytes (bytes_of o)) (at_changed room path (λ o. record o { bytes = new o.bytes })
    ∙ ap (option_map (λ (o : Object). record o { bytes = new o.bytes })) there.1)
    ∙ ap (λ o. Bytes (new (bytes_of o))) (sym there.1)

-- what was written is read
pub read_after_write : (room : Room) (caller : SubjectModel) (path : Path) (bytes : List ℕ)
    → (IsNotDone (effect room caller (C.Write bytes path)).reply → ⊥)
    → (IsNotDone (effect room caller (C.Read path)).reply → ⊥)
    → (effect (effect room caller (C.Write bytes path)).room caller (C.Read path)).reply ≡ Bytes bytes
read_after_write room caller path bytes may_write may_read =
    ap (λ r. (effect r caller (C.Read path)).reply) (room_if_passed room caller
    (C.Write bytes path) (passed_if_not_refused room caller (C.Write bytes path) may_write))
    ∙ read_back room caller path (λ old. bytes) (passed_if_not_refused room caller (C.Read path) may_read)

-- what was appended is read behind what was there
pub read_after_append : (room : Room) (caller : SubjectModel) (path : Path) (bytes : List ℕ)
    → (IsNotDone (effect room caller (C.Append bytes path)).reply → ⊥)
    → (IsNotDone (effect room caller (C.Read path)).reply → ⊥)
    → (effect (effect room caller (C.Append bytes path)).room caller (C.Read path)).reply
    ≡ Bytes (bytes_at room path ++ bytes)
read_after_append room caller path bytes may_append may_read =
    ap (λ r. (effect r caller (C.Read path)).reply) (room_if_passed room caller
    (C.Append bytes path) (passed_if_not_refused room caller (C.Append bytes path) may_append))
    ∙ read_back room caller path (λ old. old ++ bytes) (passed_if_not_refused room caller (C.Read path) may_read)

module _ (room : Room) (caller : SubjectModel) (path to : Path) (lawful : IsRoom room)
    (success : IsNotDone (effect room caller (C.Rename path to)).reply → ⊥) where
  passed : first_refusal (checks room caller (C.Rename path to)) ≡ None
  passed = passed_if_not_refused room caller (C.Rename path to) success

  each : AllNone (checks room caller (C.Rename path to))
  each = all_none (checks room caller (C.Rename path to)) passed

  apart : is_at_or_below to path ≡ false
  apart = let (outside, _) = each in
      (or_parts (is_root path || is_root to) (is_at_or_below to path) (not_refused _ _ outside)).1

  moving : (o : Object) × (object_at room path ≡ Some o)
  moving = let (_, (_, (there, _))) = each in exists_there room path there

  free : object_at room to ≡ None
  free = let (_, (_, (_, (_, (free_there, _))))) = each in absent_there room to free_there

  later_is : (effect room caller (C.Rename path to)).room ≡ renamed room path to
  later_is = room_if_passed room caller (C.Rename path to) passed

  -- a RENAME moves a subtree
  pub rename_moves : (rest : Path)
      → object_at (effect room caller (C.Rename path to)).room (to ++ rest) ≡ object_at room (path ++ rest)
  rename_moves rest = ap (λ r. object_at r (to ++ rest)) later_is
      ∙ at_new_place room lawful path to moving.0 apart moving.1 free rest

  pub rename_leaves_nothing : (rest : Path)
      → object_at (effect room caller (C.Rename path to)).room (path ++ rest) ≡ None
  rename_leaves_nothing rest =
      ap (λ r. object_at r (path ++ rest)) later_is ∙ at_old_place room lawful path to moving.0 apart moving.1 free rest

  pub rename_spares : (q : Path) → is_at_or_below q path ≡ false → is_at_or_below q to ≡ false
      → object_at (effect room caller (C.Rename path to)).room q ≡ object_at room q
  rename_spares q off_path off_to =
      ap (λ r. object_at r q) later_is ∙ away room lawful path to moving.0 apart moving.1 free q off_path off_to
