-- Two rooms that look alike to a caller: what each check and each reply of its commands asks is the same in both.
use Rattle.room_commands.proofs.Common.{◌≡◌, ℕ, refl, ap, sym, ◌∙◌, Bool, true, false, not, cond, ◌&&◌, ◌||◌, List, []}
use Rattle.room_commands.proofs.Common.{◌∷◌, ◌++◌, map, length, Option, None, Some, is_some, option_map, nat_le, find}
use Rattle.room_commands.proofs.Common.{list_all, AllByRecursion, map-append, and_parts, and_from, Kind, File, Folder}
use Rattle.room_commands.proofs.Common.{Decision, has_bit, named_bits, all_rights, execute, add_file, add_subdirectory}
use Rattle.room_commands.proofs.Common.{SubjectModel, EntryModel, allows_bit, allowed_mask, decision, decision_by}
use Rattle.room_commands.proofs.Common.{max_children, Name, Path, Object, Room, object_at, children, list_of, subst}
use Rattle.room_commands.proofs.Common.{standing_of, some_is, none_is_some, children_rise, same_entries, kind_of_child}
use Rattle.room_commands.proofs.Common.{Refusal, NoEnt, NotDir, IsDir, Exist, FolderFull, RoomFull, first_refusal}
use Rattle.room_commands.proofs.Common.{refuse_if, refusal_without_place, denied_at, check_right, is_file, is_kind}
use Rattle.room_commands.proofs.Common.{check_exists, check_absent, check_folder, check_file, proper_prefixes}
use Rattle.room_commands.proofs.Common.{prefix_refusal, walk, check_folder_full, check_room_full, may, Sight, sight_of}
use Rattle.room_commands.proofs.Common.{view, then_some}
use Rattle.room_acl.specs.declared.subject.Standing.{Standing}
use Rattle.room_acl.proofs.BitTests.{has_bit-mask_of}
use Rattle.room_commands.proofs.Rights.{all_none}
use Rattle.room_commands.proofs.ChecksTell.{not_refused, exists_there}
use Rattle.room_commands.proofs.Shorthands.{if_reached, there_seen, kind_of, right_on}
use Rattle.std.specs.Result.{result_err}

-- what checks come to in two rooms, where it is the same: both pass, or both refuse alike
pub by_outcome : (P : Option Refusal → Option Refusal → Type 0) (x y : Option Refusal) → x ≡ y
    → (x ≡ None → y ≡ None → P None None) → ((r : Refusal) → P (Some r) (Some r)) → P x y
by_outcome P None y same passed refused = subst (P None) same (passed refl (sym same))
by_outcome P (Some r) y same passed refused = subst (P (Some r)) same (refused r)

-- checks of two rooms are alike where the first two are, and the others are where the first two pass
pub then_alike : (x y : Option Refusal) (xs ys : List (Option Refusal)) → x ≡ y
    → (x ≡ None → first_refusal xs ≡ first_refusal ys) → first_refusal (x ∷ xs) ≡ first_refusal (y ∷ ys)
then_alike x y xs ys same others = by_outcome (λ x y. first_refusal (x ∷ xs) ≡ first_refusal (y ∷ ys)) x y same
    (λ passed _. others passed) (λ r. refl)

first_of_both : (xs ys : List (Option Refusal))
    → first_refusal (xs ++ ys) ≡ first_refusal (first_refusal xs ∷ first_refusal ys ∷ [])
first_of_both [] ys = alone (first_refusal ys)
  where
    alone : (o : Option Refusal) → o ≡ first_refusal (o ∷ [])
    alone None = refl
    alone (Some r) = refl
first_of_both (None ∷ xs) ys = first_of_both xs ys
first_of_both (Some r ∷ xs) ys = refl

prefixes_end : (folder : Path) (name : Name)
    → proper_prefixes (folder ++ name ∷ []) ≡ proper_prefixes folder ++ folder ∷ []
prefixes_end [] name = refl
prefixes_end (first ∷ folder) name =
    ap (λ ways. [] ∷ map (λ front. first ∷ front) ways) (prefixes_end folder name)
    ∙ ap (λ ways. [] ∷ ways) (map-append (λ front. first ∷ front) (proper_prefixes folder) (folder ∷ []))

-- the way into a folder is the way to it, and through it
pub walk_end : (room : Room) (caller : SubjectModel) (folder : Path) (name : Name)
    → walk room caller (folder ++ name ∷ [])
    ≡ first_refusal (walk room caller folder ∷ prefix_refusal room caller folder ∷ [])
walk_end room caller folder name =
    ap (λ ways. first_refusal (map (prefix_refusal room caller) ways)) (prefixes_end folder name)
    ∙ ap first_refusal (map-append (prefix_refusal room caller) (proper_prefixes folder) (folder ∷ []))
    ∙ first_of_both (map (prefix_refusal room caller) (proper_prefixes folder)) (prefix_refusal room caller folder ∷ [])
    ∙ last (walk room caller folder) (prefix_refusal room caller folder)
  where
    last : (way here : Option Refusal)
        → first_refusal (way ∷ first_refusal (here ∷ []) ∷ []) ≡ first_refusal (way ∷ here ∷ [])
    last None None = refl
    last None (Some r) = refl
    last (Some r) here = refl

first_none : (x y : Option Refusal) → first_refusal (x ∷ y ∷ []) ≡ None → (x ≡ None) × (y ≡ None)
first_none None None h = (refl, refl)
first_none None (Some r) h = absurd (none_is_some r (sym h))
first_none (Some r) y h = absurd (none_is_some r (sym h))

module _ (room : Room) (caller : SubjectModel) where
  pub walk_to_folder : (folder : Path) (name : Name) → walk room caller (folder ++ name ∷ []) ≡ None
      → (walk room caller folder ≡ None) × (prefix_refusal room caller folder ≡ None)
  walk_to_folder folder name walked = first_none (walk room caller folder) (prefix_refusal room caller folder)
      (sym (walk_end room caller folder name) ∙ walked)

  -- every name in a folder is reached by the same way
  pub walk_to_other : (folder : Path) (name other : Name)
      → walk room caller (folder ++ name ∷ []) ≡ walk room caller (folder ++ other ∷ [])
  walk_to_other folder name other = walk_end room caller folder name ∙ sym (walk_end room caller folder other)

-- a decision by the rights that a list gives
abbrev pub decision_in : ℕ → ℕ → Decision
decision_in rights wanted = decision_by (find (λ bit. has_bit wanted bit && not (has_bit rights bit)) named_bits)

find_same : (test other : ℕ → Bool) (xs : List ℕ) → AllByRecursion (λ x. test x ≡ other x) xs
    → find test xs ≡ find other xs
find_same test other [] same = refl
find_same test other (x ∷ xs) same =
    (λ i. cond (same.0 i) (Some x) (find_same test other xs same.1 i))

-- the rights say what is decided
pub decided_by_rights : (entries : List EntryModel) (caller : SubjectModel) (standing : Standing) (wanted : ℕ)
    → decision entries caller standing wanted ≡ decision_in (allowed_mask entries caller standing) wanted
decided_by_rights entries caller standing wanted =
    ap decision_by (find_same (λ bit. has_bit wanted bit && not (allows_bit entries caller standing bit))
    (λ bit. has_bit wanted bit && not (has_bit (allowed_mask entries caller standing) bit)) named_bits
    (all named_bits named))
  where
    at : (bit : ℕ) → has_bit all_rights bit ≡ true
        → (has_bit wanted bit && not (allows_bit entries caller standing bit))
        ≡ (has_bit wanted bit && not (has_bit (allowed_mask entries caller standing) bit))
    at bit is = ap (λ b. has_bit wanted bit && not b)
        (sym (has_bit-mask_of (allows_bit entries caller standing) bit
        ∙ ap (λ b. b && allows_bit entries caller standing bit) is))

    all : (bits : List ℕ) → list_all (has_bit all_rights) bits ≡ true
        → AllByRecursion (λ bit. (has_bit wanted bit && not (allows_bit entries caller standing bit))
        ≡ (has_bit wanted bit && not (has_bit (allowed_mask entries caller standing) bit))) bits
    all [] is = tt
    all (bit ∷ bits) is =
        let parts = and_parts (has_bit all_rights bit) (list_all (has_bit all_rights) bits) is in
        (at bit parts.0, all bits parts.1)

    named : list_all (has_bit all_rights) named_bits ≡ true
    named = refl

-- what is shown in two rooms is the same, where it is shown
pub shown_same : {X : Type 0} (t u : Bool) (x y : X) → then_some t x ≡ then_some u y → t ≡ true → x ≡ y
shown_same true true x y same is = some_is x y same
shown_same true false x y same is = absurd (none_is_some x (sym same))
shown_same false u x y same is = let no : false ≡ true = is in cc

-- an object is there in one room where it is in the other, with the same sight of it
pub record BothThere (a b : Room) (caller : SubjectModel) (path : Path) : Type 0 where
  pub here : Object
  pub other : Object
  pub is : object_at a path ≡ Some here
  pub is_other : object_at b path ≡ Some other
  pub same : sight_of a caller path here ≡ sight_of b caller path other

-- what a sight tells of an object, and of none
abbrev seen_kind : Kind → Option Sight → Bool
seen_kind kind None = false
seen_kind File (Some s) = is_file s.kind
seen_kind Folder (Some s) = not (is_file s.kind)

abbrev kind_seen : Option Sight → Kind
kind_seen None = File
kind_seen (Some s) = s.kind

abbrev right_seen : Path → ℕ → Option Sight → Option Refusal
right_seen path wanted None = Some (refusal_without_place NoEnt)
right_seen path wanted (Some s) = denied_at path (decision_in s.rights wanted)

module _ (room : Room) (caller : SubjectModel) (path : Path) where
  abbrev sights : Option Object → Option Sight
  sights = option_map (sight_of room caller path)

  is_some_seen : (o : Option Object) → is_some o ≡ is_some (sights o)
  is_some_seen None = refl
  is_some_seen (Some o) = refl

  is_kind_seen : (kind : Kind) (o : Option Object) → is_kind kind o ≡ seen_kind kind (sights o)
  is_kind_seen kind None = refl
  is_kind_seen File (Some o) = refl
  is_kind_seen Folder (Some o) = refl

  kind_of_seen : (o : Option Object) → kind_of o ≡ kind_seen (sights o)
  kind_of_seen None = refl
  kind_of_seen (Some o) = refl

  kinds_seen : (o : Option Object)
      → option_map (λ (found : Object). found.kind) o ≡ option_map (λ (s : Sight). s.kind) (sights o)
  kinds_seen None = refl
  kinds_seen (Some o) = refl

  right_is_seen : (wanted : ℕ) (o : Option Object)
      → right_on room caller path wanted o ≡ right_seen path wanted (sights o)
  right_is_seen wanted None = refl
  right_is_seen wanted (Some o) =
      ap (denied_at path) (decided_by_rights (list_of room path) caller (standing_of o) wanted)

way_seen : (way : Option Refusal) (there : Option Sight) → result_err (if_reached way there) ≡ way
way_seen None there = refl
way_seen (Some r) there = refl

module _ (a b : Room) (caller : SubjectModel) (path : Path) (alike : view a caller path ≡ view b caller path) where
  pub way_alike : walk a caller path ≡ walk b caller path
  way_alike = sym (way_seen (walk a caller path) (option_map (sight_of a caller path) (object_at a path)))
      ∙ ap result_err (alike)
      ∙ way_seen (walk b caller path) (option_map (sight_of b caller path) (object_at b path))

  -- what stands at the end of a way that passes looks the same
  pub there_alike : walk a caller path ≡ None
      → option_map (sight_of a caller path) (object_at a path) ≡ option_map (sight_of b caller path) (object_at b path)
  there_alike walked = ap there_seen
      (ap (λ way. if_reached way (option_map (sight_of a caller path) (object_at a path))) (sym walked)
      ∙ alike
      ∙ ap (λ way. if_reached way (option_map (sight_of b caller path) (object_at b path)))
      (sym way_alike ∙ walked))

  module _ (walked : walk a caller path ≡ None) where
    some_alike : is_some (object_at a path) ≡ is_some (object_at b path)
    some_alike = is_some_seen a caller path (object_at a path) ∙ ap is_some (there_alike walked)
        ∙ sym (is_some_seen b caller path (object_at b path))

    pub kind_alike : (kind : Kind) → is_kind kind (object_at a path) ≡ is_kind kind (object_at b path)
    kind_alike kind = is_kind_seen a caller path kind (object_at a path)
        ∙ ap (seen_kind kind) (there_alike walked) ∙ sym (is_kind_seen b caller path kind (object_at b path))

    pub kind_of_alike : kind_of (object_at a path) ≡ kind_of (object_at b path)
    kind_of_alike = kind_of_seen a caller path (object_at a path)
        ∙ ap kind_seen (there_alike walked) ∙ sym (kind_of_seen b caller path (object_at b path))

    pub kinds_alike : option_map (λ (o : Object). o.kind) (object_at a path)
        ≡ option_map (λ (o : Object). o.kind) (object_at b path)
    kinds_alike = kinds_seen a caller path (object_at a path)
        ∙ ap (option_map (λ (s : Sight). s.kind)) (there_alike walked)
        ∙ sym (kinds_seen b caller path (object_at b path))

    pub exists_alike : check_exists a path ≡ check_exists b path
    exists_alike = ap (λ found. refuse_if (not found) NoEnt) some_alike

    pub absent_alike : check_absent a path ≡ check_absent b path
    absent_alike = ap (λ found. refuse_if found Exist) some_alike

    pub folder_alike : check_folder a path ≡ check_folder b path
    folder_alike = ap (λ test. refuse_if test NotDir) (kind_alike File)

    pub file_alike : check_file a path ≡ check_file b path
    file_alike = ap (λ test. refuse_if test IsDir) (kind_alike Folder)

    pub right_alike : (wanted : ℕ) → check_right a caller path wanted ≡ check_right b caller path wanted
    right_alike wanted = right_is_seen a caller path wanted (object_at a path)
        ∙ ap (right_seen path wanted) (there_alike walked)
        ∙ sym (right_is_seen b caller path wanted (object_at b path))

    -- what is there in one room is there in the other, and looks the same
    pub both_there : check_exists a path ≡ None → BothThere a b caller path
    both_there exists =
        let here = exists_there a path exists in
        let other = exists_there b path (sym exists_alike ∙ exists) in
        record {
          here = here.0;
          other = other.0;
          is = here.1;
          is_other = other.1;
          same = some_is (sight_of a caller path here.0) (sight_of b caller path other.0)
              (ap (option_map (sight_of a caller path)) (sym here.1)
              ∙ there_alike walked ∙ ap (option_map (sight_of b caller path)) other.1);
        }

module _ (a b : Room) (caller : SubjectModel) (folder : Path) (name : Name)
    (walked : walk a caller (folder ++ name ∷ []) ≡ None) where
  -- a folder that can be traversed shows each name in it
  pub folder_full_alike : ((n : Name) → view a caller (folder ++ n ∷ []) ≡ view b caller (folder ++ n ∷ []))
      → check_folder_full a folder ≡ check_folder_full b folder
  folder_full_alike alike =
      ap (λ named. refuse_if (nat_le max_children (length named)) FolderFull) (same_entries (children a folder)
      (children b folder) (children_rise a folder) (children_rise b folder) (λ n.
      kind_of_child a folder n
      ∙ kinds_alike a b caller (folder ++ n ∷ []) (alike n) (walk_to_other a caller folder n name ∙ walked)
      ∙ sym (kind_of_child b folder n)))

  module _ (alike : view a caller folder ≡ view b caller folder) where
    pub in_folder_alike : (wanted : ℕ) → check_right a caller folder wanted ≡ check_right b caller folder wanted
    in_folder_alike = right_alike a b caller folder alike (walk_to_folder a caller folder name walked).0

    -- the caller may add to the folder
    pub room_full_alike : (may a caller folder add_file || may a caller folder add_subdirectory) ≡ true
        → check_room_full a ≡ check_room_full b
    room_full_alike adds =
        let ways = walk_to_folder a caller folder name walked in
        let (there, (no_file, _)) = all_none (check_exists a folder ∷ check_folder a folder
        ∷ check_right a caller folder execute ∷ []) ways.1 in
        let both = both_there a b caller folder alike ways.0 there in
        let is_folder : is_file both.here.kind ≡ false =
        sym (ap (is_kind File) both.is) ∙ not_refused (is_kind File (object_at a folder)) _ no_file in
        ap (λ test. refuse_if test RoomFull) (shown_same _ _ _ _ (ap (λ (s : Sight). s.full) both.same)
        (and_from _ _ (ap not is_folder) adds))
