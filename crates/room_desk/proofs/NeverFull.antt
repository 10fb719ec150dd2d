-- A room that has a number left was never full: ROOM_FULL is answered where none is left, and their number never rises.
use Rattle.room_desk.proofs.Common.{◌≡◌, ◌≤◌, ℕ, ◌+◌, ◌-◌, refl, ap, sym, ◌∙◌, arith, Bool, true, false, cond, List, []}
use Rattle.room_desk.proofs.Common.{◌∷◌, map, Option, None, Some, ◌==◌, if◌then◌else◌, AllByRecursion, nat_tests}
use Rattle.room_desk.proofs.Common.{execute, delete_object, SubjectModel, Path, path_eq, Records, Object, Room, list_of}
use Rattle.room_desk.proofs.Common.{standing_of, object_at, parent_of, CommandModel, ReplyModel, Refusal, NotDone}
use Rattle.room_desk.proofs.Common.{effect, effect_by, IsRoomFull, Slot, History, is_accepted, state_after}
use Rattle.room_desk.proofs.Common.{RepresentsHistory}
use Rattle.room_acl.specs.declared.access.Decision.{Decision}
use Rattle.room_acl.specs.declared.access.Decision.TheVariants.{Allowed, Denied}
use Rattle.room_acl.specs.declared.inheritance.ListFault.{ListFault}
use Rattle.room_acl.specs.declared.inheritance.ListFault.TheVariants as L
use Rattle.room_acl.specs.Access.{decision}
use Rattle.room_acl.specs.Inheritance.{own_entries_fault}
use Rattle.room_records.specs.Limits.{max_objects}
use Rattle.room_commands.specs.CommandModel as C
use Rattle.room_commands.specs.Checks as K
use Rattle.room_commands.specs.Checks.{RoomCheck, run_check, checks_of, first_refusal, checks, check_right, denied_at}
use Rattle.room_commands.specs.Checks.{walk, refuse_if, check_exists, check_folder, check_folder_full, check_lawful}
use Rattle.room_commands.specs.Checks.{check_room_full, may_delete, prefix_refusal, proper_prefixes, object_or_default}
use Rattle.room_commands.specs.Checks.{right_to_add}
use Rattle.room_commands.specs.declared.reply.RefusalCode.{RefusalCode}
use Rattle.room_commands.specs.declared.reply.RefusalCode.TheVariants.{NoEnt, NotDir, Inval, FolderFull, RoomFull}
use Rattle.room_commands.proofs.Shorthands.{also, right_on}
use Rattle.room_desk.specs.Made.{NeverFull}

abbrev is_full_code : RefusalCode → Bool
is_full_code RoomFull = true
is_full_code code = false

abbrev says_full : Option Refusal → Bool
says_full None = false
says_full (Some r) = is_full_code r.code

abbrev NoneSaysFull : List (Option Refusal) → Type 0
NoneSaysFull xs = AllByRecursion (λ (x : Option Refusal). says_full x ≡ false) xs

first_says : (xs : List (Option Refusal)) → NoneSaysFull xs → says_full (first_refusal xs) ≡ false
first_says [] none = refl
first_says (None ∷ xs) none = first_says xs none.1
first_says (Some r ∷ xs) none = none.0

refused : (test : Bool) (code : RefusalCode) → is_full_code code ≡ false → says_full (refuse_if test code) ≡ false
refused true code other = other
refused false code other = refl

denied : (path : Path) (d : Decision) → says_full (denied_at path d) ≡ false
denied path Allowed = refl
denied path (Denied bit) = refl

no_fault : (fault : Option ListFault) → says_full (check_lawful fault) ≡ false
no_fault None = refl
no_fault (Some L.Inval) = refl
no_fault (Some L.AttrNotSupp) = refl

unless : (test : Bool) (x : Option Refusal) → says_full x ≡ false → says_full (if test then None else x) ≡ false
unless true x silent = refl
unless false x silent = silent

module _ (room : Room) (caller : SubjectModel) where
  by_object : (path : Path) (wanted : ℕ) (o : Option Object) → says_full (right_on room caller path wanted o) ≡ false
  by_object path wanted None = refl
  by_object path wanted (Some o) = denied path (decision (list_of room path) caller (standing_of o) wanted)

  right : (path : Path) (wanted : ℕ) → says_full (check_right room caller path wanted) ≡ false
  right path wanted = by_object path wanted (object_at room path)

  on_the_way : (fronts : List Path) → NoneSaysFull (map (prefix_refusal room caller) fronts)
  on_the_way [] = tt
  on_the_way (front ∷ fronts) = also
      (first_says (check_exists room front ∷ check_folder room front ∷ check_right room caller front execute ∷ [])
      (also (refused _ NoEnt refl) (also (refused _ NotDir refl) (also (right front execute) tt)))) (on_the_way fronts)

  way : (path : Path) → says_full (walk room caller path) ≡ false
  way path = first_says (map (prefix_refusal room caller) (proper_prefixes path)) (on_the_way (proper_prefixes path))

  module _ (some : 1 ≤ room.left) where
    some_left : (left : ℕ) → 1 ≤ left → (left == 0) ≡ false
    some_left left some = grind (arith, nat_tests)

    left : says_full (check_room_full room) ≡ false
    left = ap (λ test. says_full (refuse_if test RoomFull)) (some_left room.left some)

    silent : (check : RoomCheck) → says_full (run_check room caller check) ≡ false
    silent (K.Walks path) = way path
    silent (K.IsAllowed path wanted) = right path wanted
    silent (K.MayRemove path) = unless (may_delete room caller path) (denied_at path (Denied delete_object)) refl
    silent (K.MayMoveTo path to) = right (parent_of to) (right_to_add (object_or_default room path).kind)
    silent K.RoomTakes = left
    silent (K.FolderTakesMoved path to) = unless (path_eq (parent_of path) (parent_of to))
        (check_folder_full room (parent_of to)) (refused _ FolderFull refl)
    silent (K.EntriesFit own path) = no_fault (own_entries_fault own (object_or_default room path).kind)
    silent check = refused _ _ refl

    none_says : (checked : List RoomCheck) → NoneSaysFull (map (run_check room caller) checked)
    none_says [] = tt
    none_says (check ∷ others) = also (silent check) (none_says others)

  abbrev replies_full : ReplyModel → Bool
  replies_full (NotDone r) = is_full_code r.code
  replies_full other = false

  as_refused : (command : CommandModel) (x : Option Refusal)
      → replies_full (effect_by room caller command x).reply ≡ says_full x
  as_refused command (Some r) = refl
  as_refused (C.Stat path) None = refl
  as_refused command None = refl

  not_full : (command : CommandModel) → 1 ≤ room.left → IsRoomFull (effect room caller command).reply → ⊥
  not_full command some full =
      let says : true ≡ false = sym (ap replies_full full)
      ∙ as_refused command (first_refusal (checks room caller command))
      ∙ first_says (checks room caller command) (none_says some (checks_of command)) in cc

  -- what was left before
  less : (left : ℕ) → 1 ≤ left - 1 → 1 ≤ left
  less left some = omega arith

  left_before : (command : CommandModel) (x : Option Refusal) → 1 ≤ (effect_by room caller command x).room.left
      → 1 ≤ room.left
  left_before command (Some r) some = some
  left_before (C.Mkdir path) None some = less room.left some
  left_before (C.Create bytes path) None some = less room.left some
  left_before command None some = some

left_of_either : (t : Bool) (x y : Room) → (1 ≤ x.left → 1 ≤ y.left) → 1 ≤ (cond t x y).left → 1 ≤ y.left
left_of_either true x y before some = before some
left_of_either false x y before some = some

never : (start : Room) (past : History) → 1 ≤ (state_after start past).left → NeverFull start past
never start [] some = tt
never start (Slot q ∷ past) some =
    let s = state_after start past in
    let before : 1 ≤ s.left = left_of_either (is_accepted past q) (effect s q.caller q.command).room s
    (left_before s q.caller q.command (first_refusal (checks s q.caller q.command))) some in
    (λ accepted. not_full s q.caller q.command before, never start past before)
never start (event ∷ past) some = never start past some

one_left : (next left : ℕ) → next + left ≡ max_objects + 1 → next ≤ max_objects → 1 ≤ left
one_left next left all below = omega arith

pub never_full : (start : Room) (r : Records) (past : History) → RepresentsHistory start r past
    → r.objects.next ≤ max_objects → NeverFull start past
never_full start r past stand below =
    never start past (one_left r.objects.next (state_after start past).left stand.room.next below)
