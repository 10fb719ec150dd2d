-- Checks at a found object.
use Rattle.room_tree.proofs.Common.{common_steps, ◌≡◌, ℕ, false, ◌≤◌, arith, length, refl, ap, sym, ◌∙◌, Option, None}
use Rattle.room_tree.proofs.Common.{Some, List, [], ◌∷◌, ◌++◌, not, is_some, Folder, SubjectModel, decision, Path}
use Rattle.room_tree.proofs.Common.{ObjectRecords, max_document, RepresentsRoom, object_there_is_lawful, Object, Room}
use Rattle.room_tree.proofs.Common.{object_at, parent_of, standing_of, LoadedObject, NoEnt, Exist, Inval, IsDir}
use Rattle.room_tree.proofs.Common.{Refusal, refuse_if, refusal_without_place, is_kind, denied_at, check_exists}
use Rattle.room_tree.proofs.Common.{right_on, check_absent, check_right, check_folder, check_file, prefix_refusal}
use Rattle.room_tree.proofs.Common.{first_refusal, is_root, bytes_at, walk, check_removal, check_folder_full}
use Rattle.room_tree.proofs.Common.{check_room_full, IsLoaded}

-- the checks that several commands begin with, or end with
abbrev pub found_checks : Room → SubjectModel → Path → List (Option Refusal)
found_checks room caller path = walk room caller path ∷ check_exists room path ∷ []

abbrev pub file_checks : Room → SubjectModel → Path → ℕ → List (Option Refusal)
file_checks room caller path wanted =
    walk room caller path ∷ check_exists room path ∷ check_file room path ∷ check_right room caller path wanted ∷ []

abbrev pub removal_checks : Room → SubjectModel → Path → List (Option Refusal)
removal_checks room caller path = refuse_if (is_root path) Inval ∷ walk room caller path
    ∷ check_exists room path ∷ check_removal room caller path ∷ []

abbrev pub new_checks : Room → SubjectModel → Path → ℕ → List (Option Refusal)
new_checks room caller path wanted = refuse_if (is_root path) Exist ∷ walk room caller path
    ∷ check_absent room path ∷ check_right room caller (parent_of path) wanted ∷ []

abbrev pub limit_checks : Room → Path → List (Option Refusal)
limit_checks room path = check_folder_full room (parent_of path) ∷ check_room_full room ∷ []

pub first_alone : (o : Option Refusal) → first_refusal (o ∷ []) ≡ o
first_alone None = refl
first_alone (Some r) = refl

pub skip : (o : Option Refusal) (others : List (Option Refusal))
    → o ≡ None → first_refusal (o ∷ others) ≡ first_refusal others
skip o others none = ap (λ first. first_refusal (first ∷ others)) none

pub stop : (o : Option Refusal) (others : List (Option Refusal)) (r : Refusal)
    → o ≡ Some r → first_refusal (o ∷ others) ≡ Some r
stop o others r some = ap (λ first. first_refusal (first ∷ others)) some

pub off_root : (path : Path) → (length path ≡ 0 → ⊥) → is_root path ≡ false
off_root [] h = absurd (h refl)
off_root (name ∷ path) h = refl

pub is_absent : (room : Room) (path : Path) → object_at room path ≡ None → check_absent room path ≡ None
is_absent room path nothing = ap (λ (o : Option Object). refuse_if (is_some o) Exist) nothing

module _ {t : ObjectRecords} {room : Room} {path : Path} {loaded : LoadedObject}
    (found : IsLoaded t room path loaded) where
  pub there : object_at room path ≡ Some found.object
  there = found.is_there.object_stands

  pub exists_there : check_exists room path ≡ None
  exists_there = ap (λ (o : Option Object). refuse_if (not (is_some o)) NoEnt) there

  pub not_absent : check_absent room path ≡ Some (refusal_without_place Exist)
  not_absent = ap (λ (o : Option Object). refuse_if (is_some o) Exist) there

  pub file_check : check_file room path
      ≡ refuse_if (is_kind Folder (Some (record found.object { kind = loaded.kind }))) IsDir
  file_check = grind (arith, common_steps)

  pub right_check : (caller : SubjectModel) (wanted : ℕ)
      → check_right room caller path wanted
      ≡ denied_at path (decision (t.entries loaded.id) caller loaded.standing wanted)
  right_check caller wanted =
      ap (right_on room caller path wanted) there
      ∙ ap (λ list. denied_at path (decision list caller (standing_of found.object) wanted))
      (sym found.is_there.shows.entries)
      ∙ ap (λ owner. denied_at path (decision (t.entries loaded.id) caller
      (record { owner = owner; group = found.object.group }) wanted)) (sym found.is_there.shows.owner)
      ∙ ap (λ group. denied_at path (decision (t.entries loaded.id) caller
      (record { owner = loaded.standing.owner; group = group }) wanted)) (sym found.is_there.shows.group)

  -- a folder on the way
  pub way_check : (caller : SubjectModel) → prefix_refusal room caller path
      ≡ first_refusal (check_folder room path ∷ check_right room caller path 0x20 ∷ [])
  way_check caller =
      ap (λ o. first_refusal (o ∷ check_folder room path ∷ check_right room caller path 0x20 ∷ [])) exists_there

  -- nothing is refused at an object that is there
  pub passes_to : (way : Option Refusal) → way ≡ None → first_refusal (way ∷ check_exists room path ∷ []) ≡ None
  passes_to way none = ap (λ (o : Option Refusal). first_refusal (o ∷ check_exists room path ∷ [])) none
      ∙ ap (λ (o : Option Refusal). first_refusal (o ∷ [])) exists_there

-- the checks before others decide, where they refuse
pub some_stays : (done others : List (Option Refusal)) (r : Refusal)
    → first_refusal done ≡ Some r → first_refusal (done ++ others) ≡ Some r
some_stays [] others r h = cc
some_stays (None ∷ done) others r h = some_stays done others r h
some_stays (Some x ∷ done) others r h = h

-- and else the others do
pub none_passes : (done others : List (Option Refusal)) → first_refusal done ≡ None
    → first_refusal (done ++ others) ≡ first_refusal others
none_passes [] others h = refl
none_passes (None ∷ done) others h = none_passes done others h
none_passes (Some x ∷ done) others h = cc

-- nothing is there
pub missing : (room : Room) (path : Path) (way : Option Refusal) → way ≡ None → object_at room path ≡ None
    → first_refusal (way ∷ check_exists room path ∷ []) ≡ Some (refusal_without_place NoEnt)
missing room path way none nothing = grind (arith, common_steps)

module _ {t : ObjectRecords} {room : Room} (stand : RepresentsRoom t room) {path : Path} {loaded : LoadedObject}
    (found : IsLoaded t room path loaded) where
  pub bytes_there : bytes_at room path ≡ found.object.bytes
  bytes_there = grind (arith, common_steps)

  pub few_bytes : length (bytes_at room path) ≤ max_document
  few_bytes =
      let small = (object_there_is_lawful room stand.lawful path found.object (there found)).small in
      omega (arith, ap length bytes_there, small)
