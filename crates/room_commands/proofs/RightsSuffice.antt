-- Where the lists allow all that a command needs, no check refuses it for a right.
use Rattle.room_commands.proofs.Common.{◌≡◌, ℕ, refl, ap, sym, subst, ◌∙◌, Bool, true, false, List, [], ◌∷◌}
use Rattle.room_commands.proofs.Common.{Option, None, Some, inl, inr, is_none, ◌||◌, ◌⊎◌, if◌then◌else◌, AllByRecursion}
use Rattle.room_commands.proofs.Common.{SubjectModel, Kind, File, Folder, Denied}
use Rattle.room_commands.proofs.Common.{add_file, add_subdirectory, execute, delete_child}
use Rattle.room_commands.proofs.Common.{delete_object, IsMask, Path}
use Rattle.room_commands.proofs.Common.{Object, Room, object_at, list_of, standing_of, parent_of, RefusalCode, Access}
use Rattle.room_commands.proofs.Common.{NoEnt, CommandModel, ReplyModel, Refusal, NotDone, IsNotDone}
use Rattle.room_commands.proofs.Common.{map, RoomCheck, run_check, checks_of, first_refusal, checks, check_right}
use Rattle.room_commands.proofs.Common.{check_removal, denied_at, walk, refuse_if}
use Rattle.room_commands.proofs.Common.{prefix_refusal, proper_prefixes, check_exists, check_folder, right_to_add, may}
use Rattle.room_commands.proofs.Common.{object_or_default, check_lawful, check_folder_full}
use Rattle.room_commands.proofs.Common.{effect, effect_by, HasRight, HasRemoval, HasWay}
use Rattle.room_commands.proofs.Common.{NeedsAllowed, IsDenial}
use Rattle.room_acl.specs.declared.inheritance.ListFault.{ListFault}
use Rattle.room_acl.specs.declared.inheritance.ListFault.TheVariants as L
use Rattle.room_acl.proofs.Decisions.{decision-allowed}
use Rattle.room_commands.specs.CommandModel as C
use Rattle.room_commands.specs.Checks as K
use Rattle.room_commands.proofs.Rights.{all_mapped, all_prefixes}
use Rattle.room_commands.proofs.ChecksTell.{exists_there}
use Rattle.room_commands.proofs.RoomLaws.{reply_is_no_refusal}
use Rattle.room_commands.proofs.Shorthands.{also, right_on, or_no_object}

-- a check passes, or refuses for something else than a right
abbrev pub IsNoDenial : Option Refusal → Type 0
IsNoDenial None = Unit {0}
IsNoDenial (Some r) = r.code ≡ Access → ⊥

passes : (x : Option Refusal) → x ≡ None → IsNoDenial x
passes x is = subst IsNoDenial (sym is) tt

-- a refusal without a place is none, but for its code
plain : (refused : Bool) (code : RefusalCode) → (code ≡ Access → ⊥) → IsNoDenial (refuse_if refused code)
plain true code other = other
plain false code other = tt

lawful_plain : (fault : Option ListFault) → IsNoDenial (check_lawful fault)
lawful_plain None = tt
lawful_plain (Some L.Inval) = λ e. cc
lawful_plain (Some L.AttrNotSupp) = λ e. cc

first_plain : (checked : List (Option Refusal)) → AllByRecursion IsNoDenial checked → IsNoDenial (first_refusal checked)
first_plain [] all = tt
first_plain (None ∷ others) all = first_plain others all.1
first_plain (Some r ∷ others) all = all.0

-- and where one passes, so do those behind it
first_by : (a : Option Refusal) (others : List (Option Refusal)) → IsNoDenial a
    → (a ≡ None → IsNoDenial (first_refusal others)) → IsNoDenial (first_refusal (a ∷ others))
first_by None others plain rest = rest refl
first_by (Some r) others plain rest = plain

pub if_true : (path : Path) (may : Bool) → may ≡ true → (if may then None else denied_at path
    (Denied delete_object)) ≡ None
if_true path true is = refl
if_true path false is = cc

or_true : (a b : Bool) → (a ≡ true) ⊎ (b ≡ true) → (a || b) ≡ true
or_true true b h = refl
or_true false b (inl h) = cc
or_true false b (inr h) = h

module _ (room : Room) (caller : SubjectModel) where
  granted : (path : Path) (right : ℕ) → IsMask right → HasRight room caller path right
      → check_right room caller path right ≡ None
  granted path right mask (o, is, allows) =
      ap (λ found. right_on room caller path right found) is
      ∙ ap (λ d. denied_at path d)
      ((decision-allowed (list_of room path) caller (standing_of o) right mask).1 allows)

  granted_may : (path : Path) (right : ℕ) → IsMask right → HasRight room caller path right
      → may room caller path right ≡ true
  granted_may path right mask has = ap is_none (granted path right mask has)

  removal_granted : (path : Path) → HasRemoval room caller path → check_removal room caller path ≡ None
  removal_granted path (inl own) =
      if_true path _ (or_true _ _ (inl (granted_may path delete_object refl own)))
  removal_granted path (inr by_folder) =
      if_true path _ (or_true _ _ (inr (granted_may (parent_of path) delete_child refl by_folder)))

  way_plain : (path : Path) → HasWay room caller path → IsNoDenial (walk room caller path)
  way_plain path way = first_plain _ (all_mapped IsNoDenial (prefix_refusal room caller) (proper_prefixes path)
      (all_prefixes (λ front. IsNoDenial (prefix_refusal room caller front)) path
      (λ front name rest is. first_plain
      (check_exists room front ∷ check_folder room front ∷ check_right room caller front execute ∷ [])
      (also (plain _ _ (λ e. cc)) (also (plain _ _ (λ e. cc))
      (also (passes _ (granted front execute refl (way front rest name is))) tt))))))

  -- the right to add what is moved
  added_plain : (path to : Path) (o : Object) → object_at room path ≡ Some o
      → (o.kind ≡ File → HasRight room caller (parent_of to) add_file)
      × (o.kind ≡ Folder → HasRight room caller (parent_of to) add_subdirectory)
      → IsNoDenial (check_right room caller (parent_of to) (right_to_add (object_or_default room path).kind))
  added_plain path to o is adds =
      subst (λ found. IsNoDenial (check_right room caller (parent_of to) (right_to_add (or_no_object found).kind)))
      (sym is) (by_kind o.kind refl)
    where
      by_kind : (kind : Kind) → o.kind ≡ kind → IsNoDenial (check_right room caller (parent_of to) (right_to_add kind))
      by_kind File file = passes _ (granted (parent_of to) add_file refl (adds.0 file))
      by_kind Folder folder = passes _ (granted (parent_of to) add_subdirectory refl (adds.1 folder))

  full_plain : (same : Bool) (folder : Path) → IsNoDenial (if same then None else check_folder_full room folder)
  full_plain true folder = tt
  full_plain false folder = plain _ _ (λ e. cc)

  -- what a check asks of the lists, if anything
  abbrev IsGranted : RoomCheck → Type 0
  IsGranted (K.Walks path) = HasWay room caller path
  IsGranted (K.IsAllowed path right) = IsMask right × HasRight room caller path right
  IsGranted (K.MayRemove path) = HasRemoval room caller path
  IsGranted (K.MayMoveTo path to) = IsNoDenial (run_check room caller (K.MayMoveTo path to))
  IsGranted check = Unit {0}

  granted_plain : (check : RoomCheck) → IsGranted check → IsNoDenial (run_check room caller check)
  granted_plain (K.Walks path) way = way_plain path way
  granted_plain (K.IsAllowed path right) (mask, has) = passes _ (granted path right mask has)
  granted_plain (K.MayRemove path) removal = passes _ (removal_granted path removal)
  granted_plain (K.MayMoveTo path to) adds = adds
  granted_plain (K.FolderTakesMoved path to) is = full_plain _ (parent_of to)
  granted_plain (K.EntriesFit own path) is = lawful_plain _
  granted_plain check is = plain _ _ (λ e. cc)

  all_plain : (cs : List RoomCheck) → AllByRecursion IsGranted cs
      → IsNoDenial (first_refusal (map (run_check room caller) cs))
  all_plain [] all = tt
  all_plain (c ∷ cs) all = first_by (run_check room caller c) _ (granted_plain c all.0) (λ passed. all_plain cs all.1)

  no_denial : (command : CommandModel) → NeedsAllowed room caller command
      → IsNoDenial (first_refusal (checks room caller command))
  no_denial (C.Stat path) (right, way, _) =
      all_plain (checks_of (C.Stat path)) (also way (also tt (also (refl, right) tt)))
  no_denial (C.ListNames path) (right, way, _) =
      all_plain (checks_of (C.ListNames path)) (also way (also tt (also tt (also (refl, right) tt))))
  no_denial (C.Mkdir path) (right, way, _) =
      all_plain (checks_of (C.Mkdir path)) (also tt (also way (also tt (also (refl, right) (also tt (also tt tt))))))
  no_denial (C.Create bytes path) (right, way, _) =
      all_plain (checks_of (C.Create bytes path))
      (also tt (also way (also tt (also (refl, right) (also tt (also tt (also tt tt)))))))
  no_denial (C.Read path) (right, way, _) =
      all_plain (checks_of (C.Read path)) (also way (also tt (also tt (also (refl, right) tt))))
  no_denial (C.Write bytes path) (right, way, _) =
      all_plain (checks_of (C.Write bytes path)) (also way (also tt (also tt (also (refl, right) (also tt tt)))))
  no_denial (C.Append bytes path) (right, way, _) =
      all_plain (checks_of (C.Append bytes path)) (also way (also tt (also tt (also (refl, right) (also tt tt)))))
  no_denial (C.Remove path) (removal, way, _) =
      all_plain (checks_of (C.Remove path)) (also tt (also way (also tt (also removal (also tt tt)))))
  no_denial (C.Rename path to) ((removal, adds), way, way_to) =
      first_by (run_check room caller (K.MovesOutside path to)) _ (granted_plain (K.MovesOutside path to) tt)
      (λ _. first_by (walk room caller path) _ (way_plain path way)
      (λ _. first_by (check_exists room path) _ (granted_plain (K.IsThere path) tt) (λ there.
      let (o, is) = exists_there room path there in
      all_plain (K.Walks to ∷ K.IsFree to ∷ K.MayRemove path ∷ K.MayMoveTo path to ∷ K.DepthFits path to
      ∷ K.FolderTakesMoved path to ∷ [])
      (also way_to (also tt (also removal (also (added_plain path to o is (adds o is)) (also tt (also tt tt)))))))))
  no_denial (C.GetList path) (right, way, _) =
      all_plain (checks_of (C.GetList path)) (also way (also tt (also (refl, right) tt)))
  no_denial (C.SetList aclflag entries path) (right, way, _) =
      all_plain (checks_of (C.SetList aclflag entries path)) (also way (also tt (also (refl, right) (also tt tt))))
  no_denial (C.Chown group owner path) (right, way, _) =
      all_plain (checks_of (C.Chown group owner path)) (also way (also tt (also (refl, right) tt)))
  no_denial (C.Access mask path) (_, way, _) = all_plain (checks_of (C.Access mask path)) (also way (also tt tt))

  code_of : ReplyModel → RefusalCode
  code_of (NotDone r) = r.code
  code_of other = NoEnt

  at_end : (command : CommandModel) (x : Option Refusal) → IsNoDenial x
      → IsDenial (effect_by room caller command x).reply → ⊥
  unfolding code_of
  at_end command None h (place, is) = reply_is_no_refusal room caller command (subst IsNotDone (sym is) tt)
  at_end command (Some r) h (place, is) = h (ap code_of is)

-- so no answer refuses it for one
pub never_denied : (room : Room) (caller : SubjectModel) (command : CommandModel)
    → NeedsAllowed room caller command → IsDenial (effect room caller command).reply → ⊥
never_denied room caller command needs =
    at_end room caller command (first_refusal (checks room caller command)) (no_denial room caller command needs)
