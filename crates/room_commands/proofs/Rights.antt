-- Where no check fails, the lists allow all that the command needs.
use Rattle.room_commands.proofs.Common.{◌≡◌, ℕ, refl, ap, subst, ◌∙◌, Bool, true, false, List, [], ◌∷◌, ◌++◌, map}
use Rattle.room_commands.proofs.Common.{Option, None, Some, inl, inr, is_none, if◌then◌else◌, AllByRecursion, or_cases}
use Rattle.room_commands.proofs.Common.{SubjectModel, Decision, Denied, read_data, list_directory, write_data, add_file}
use Rattle.room_commands.proofs.Common.{append_data, add_subdirectory, execute, delete_child, read_attributes}
use Rattle.room_commands.proofs.Common.{delete_object, read_acl, write_acl, write_owner, IsMask, Name, Path, Object}
use Rattle.room_commands.proofs.Common.{Room, object_at, list_of, standing_of, parent_of, CommandModel}
use Rattle.room_commands.proofs.Common.{Refusal, first_refusal, checks, check_right, check_removal, denied_at, walk}
use Rattle.room_commands.proofs.Common.{prefix_refusal, proper_prefixes, check_exists, check_folder, right_to_add}
use Rattle.room_commands.proofs.Common.{object_or_default, HasRight, HasRemoval, HasWay, NeedsAllowed}
use Rattle.room_acl.specs.declared.access.Decision.TheVariants.{Allowed}
use Rattle.room_acl.proofs.Decisions.{decision-allowed}
use Rattle.room_commands.specs.CommandModel as C
use Rattle.room_commands.proofs.Shorthands.{right_on, or_no_object}

-- each check passes
abbrev pub AllNone : List (Option Refusal) → Type 0
AllNone checked = AllByRecursion (λ o. o ≡ None) checked

pub all_none : (checked : List (Option Refusal)) → first_refusal checked ≡ None → AllNone checked
all_none [] h = tt
all_none (None ∷ others) h = (refl, all_none others h)
all_none (Some x ∷ others) h = cc

-- what is not refused may be removed
pub one_may : (path : Path) (may : Bool) → (if may then None else denied_at path (Denied delete_object)) ≡ None
    → may ≡ true
one_may path true passed = refl
one_may path false passed = cc

all_unmapped : {X Y : Type 0} (P : Y → Type 0) (g : X → Y) (xs : List X)
    → AllByRecursion P (map g xs) → AllByRecursion (λ x. P (g x)) xs
all_unmapped P g [] h = tt
all_unmapped P g (x ∷ xs) h = (h.0, all_unmapped P g xs h.1)

-- each folder above is a proper prefix
pub at_front : (P : Path → Type 0) (front rest : Path) (name : Name)
    → AllByRecursion P (proper_prefixes (front ++ name ∷ rest)) → P front
at_front P [] rest name h = h.0
at_front P (first ∷ front) rest name h = at_front (λ path. P (first ∷ path)) front rest name
    (all_unmapped P (λ path. first ∷ path) (proper_prefixes (front ++ name ∷ rest)) h.1)

pub all_mapped : {X Y : Type 0} (P : Y → Type 0) (g : X → Y) (xs : List X)
    → AllByRecursion (λ x. P (g x)) xs → AllByRecursion P (map g xs)
all_mapped P g [] h = tt
all_mapped P g (x ∷ xs) h = (h.0, all_mapped P g xs h.1)

-- what holds of each front of a path with a name behind it holds of its proper prefixes
pub all_prefixes : (P : Path → Type 0) (path : Path)
    → ((front : Path) (name : Name) (rest : Path) → path ≡ front ++ name ∷ rest → P front)
    → AllByRecursion P (proper_prefixes path)
all_prefixes P [] each = tt
all_prefixes P (first ∷ path) each = (
  each [] first path refl,
  all_mapped P (λ front. first ∷ front)
      (proper_prefixes path) (all_prefixes (λ front. P (first ∷ front)) path
      (λ front name rest is. each (first ∷ front) name rest (ap (λ p. first ∷ p) is))),
)

-- what is no refusal
pub none_of : {X : Type 0} (x : Option X) → is_none x ≡ true → x ≡ None
none_of None h = refl
none_of (Some x) h = cc

not_denied : (path : Path) (d : Decision) → denied_at path d ≡ None → d ≡ Allowed
not_denied path Allowed h = refl
not_denied path (Denied bit) h = cc

module _ (room : Room) (caller : SubjectModel) where
  -- a walk that passes finds each proper prefix passable
  pub walk_passes : (path : Path) → walk room caller path ≡ None
      → AllByRecursion (λ front. prefix_refusal room caller front ≡ None) (proper_prefixes path)
  walk_passes path h = all_unmapped (λ o. o ≡ None) (prefix_refusal room caller) (proper_prefixes path)
      (all_none (map (prefix_refusal room caller) (proper_prefixes path)) h)

  has_of : (path : Path) (right : ℕ) → IsMask right → (found : Option Object) → object_at room path ≡ found
      → right_on room caller path right found ≡ None → HasRight room caller path right
  has_of path right mask None is h = cc
  has_of path right mask (Some o) is h =
      (o, is, (decision-allowed (list_of room path) caller (standing_of o) right mask).0 (not_denied path _ h))

  has : (path : Path) (right : ℕ) → IsMask right → check_right room caller path right ≡ None
      → HasRight room caller path right
  has path right mask h = has_of path right mask (object_at room path) refl h

  has_removal : (path : Path) → check_removal room caller path ≡ None → HasRemoval room caller path
  has_removal path h =
      elim (or_cases _ _ (one_may path _ h)) [
        | inl own ↦ inl (has path delete_object refl (none_of _ own))
        | inr by_folder ↦ inr (has (parent_of path) delete_child refl (none_of _ by_folder))
      ]

  has_way : (path : Path) → walk room caller path ≡ None → HasWay room caller path
  has_way path h front rest name is =
      let (_, (_, (right, _))) =
      all_none (check_exists room front ∷ check_folder room front ∷ check_right room caller front execute ∷ [])
      (at_front (λ front. prefix_refusal room caller front ≡ None) front rest name
      (subst (λ p. AllByRecursion (λ front. prefix_refusal room caller front ≡ None) (proper_prefixes p)) is
      (walk_passes path h))) in
      has front execute refl right

  at_one : {T : Type 0} (path : Path) → walk room caller path ≡ None → T
      → T × HasWay room caller path × HasWay room caller path
  at_one path w t = (t, has_way path w, has_way path w)

  added : (path to : Path) (right : ℕ) (o : Object) → object_at room path ≡ Some o → right_to_add o.kind ≡ right
      → check_right room caller (parent_of to) (right_to_add (object_or_default room path).kind) ≡ None
      → check_right room caller (parent_of to) right ≡ None
  added path to right o is kind h =
      subst (λ right. check_right room caller (parent_of to) right ≡ None)
      (ap (λ found. right_to_add (or_no_object found).kind) is ∙ kind) h

  by_checks : (command : CommandModel) → AllNone (checks room caller command) → NeedsAllowed room caller command
  by_checks (C.Stat path) (walked, (_, (right, _))) = at_one path walked (has path read_attributes refl right)
  by_checks (C.ListNames path) (walked, (_, (_, (right, _)))) = at_one path walked (has path list_directory refl right)
  by_checks (C.Mkdir path) (_, (walked, (_, (right, _)))) =
      at_one path walked (has (parent_of path) add_subdirectory refl right)
  by_checks (C.Create bytes path) (_, (walked, (_, (right, _)))) =
      at_one path walked (has (parent_of path) add_file refl right)
  by_checks (C.Read path) (walked, (_, (_, (right, _)))) = at_one path walked (has path read_data refl right)
  by_checks (C.Write bytes path) (walked, (_, (_, (right, _)))) = at_one path walked (has path write_data refl right)
  by_checks (C.Append bytes path) (walked, (_, (_, (right, _)))) = at_one path walked (has path append_data refl right)
  by_checks (C.Remove path) (_, (walked, (_, (removal, _)))) = at_one path walked (has_removal path removal)
  by_checks (C.Rename path to) (_, (walked, (_, (walked_to, (_, (removal, (right, _))))))) = (
    (
      has_removal path removal,
      λ o is. (
        λ file. has (parent_of to) add_file refl (added path to add_file o is (ap right_to_add file) right),
        λ folder. has (parent_of to) add_subdirectory refl
            (added path to add_subdirectory o is (ap right_to_add folder) right),
      ),
    ),
    has_way path walked,
    has_way to walked_to,
  )
  by_checks (C.GetList path) (walked, (_, (right, _))) = at_one path walked (has path read_acl refl right)
  by_checks (C.SetList flags sent path) (walked, (_, (right, _))) = at_one path walked (has path write_acl refl right)
  by_checks (C.Chown group owner path) (walked, (_, (right, _))) = at_one path walked (has path write_owner refl right)
  by_checks (C.Access mask path) (walked, _) = at_one path walked tt

-- success needs every right
pub rights_of_success : (room : Room) (caller : SubjectModel) (command : CommandModel)
    → first_refusal (checks room caller command) ≡ None → NeedsAllowed room caller command
rights_of_success room caller command passed = by_checks room caller command (all_none _ passed)
