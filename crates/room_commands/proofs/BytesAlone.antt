-- A command that changes bytes alone leaves rooms that look alike so.
use Rattle.room_commands.proofs.Common.{◌⊎◌, inl, inr, ◌≡◌, ℕ, ◌+◌, refl, ap, sym, ◌∙◌, Bool, true, false, not, ◌&&◌}
use Rattle.room_commands.proofs.Common.{◌||◌, List, ◌++◌}
use Rattle.room_commands.proofs.Common.{length, Option, None, Some, ◌==◌, cond, option_map, length-append, is_none}
use Rattle.room_commands.proofs.Common.{Result, Kind, File, Folder, read_data, list_directory, add_file, append_data}
use Rattle.room_commands.proofs.Common.{add_subdirectory, read_attributes, read_acl, delete_object, delete_child}
use Rattle.room_commands.proofs.Common.{SubjectModel, EntryModel, allowed_mask, Name, Path, path_eq, Object, Room}
use Rattle.room_commands.proofs.Common.{IsRoom, object_at, children, list_of, standing_of, parent_of}
use Rattle.room_commands.proofs.Common.{same_path, without_bytes, lists_without_bytes, CommandModel, Refusal}
use Rattle.room_commands.proofs.Common.{Attributes, IsLawful, first_refusal, checks, check_right, walk, is_file}
use Rattle.room_commands.proofs.Common.{is_root, is_kind, check_exists, check_file, effect, effect_by, changed}
use Rattle.room_commands.proofs.Common.{with_object, size_of, LooksAlike, Sight, may, may_remove, depth_in, sight_of}
use Rattle.room_commands.proofs.Common.{view, changes_bytes_alone, handed_to, object_or_default, then_some}
use Rattle.room_commands.specs.CommandModel as C
use Rattle.room_commands.proofs.Rights.{all_none}
use Rattle.room_commands.proofs.ChecksTell.{exists_there, file_there}
use Rattle.room_commands.proofs.RoomsObject.{after_change, children_stay, depth_stays}
use Rattle.room_commands.proofs.RoomLaws.{right_alike, walk_alike, bytes_stay_out}
use Rattle.room_commands.proofs.Looks.{by_outcome}
use Rattle.room_commands.proofs.NothingShows.{refused_alike, in_turn}
use Rattle.room_commands.proofs.Shorthands.{bytes_of, handed_by, if_reached, seen_less, or_no_object}

-- what a sight is made of, besides the object
pub record Facts : Type 0 where
  pub list : List EntryModel
  pub may : ℕ → Bool
  pub removes : Bool
  pub names : List (Name × Kind)
  pub depth : ℕ
  pub full : Bool

abbrev pub facts_at : Room → SubjectModel → Path → Facts
facts_at room caller path = record {
  list = list_of room path;
  may = may room caller path;
  removes = may_remove room caller path;
  names = children room path;
  depth = depth_in path room.objects;
  full = (room.left == 0);
}

abbrev pub size_with : List (Name × Kind) → List ℕ → Kind → ℕ
size_with names bytes File = length bytes
size_with names bytes Folder = length names

abbrev pub attributes_sized : ℕ → Object → Attributes
attributes_sized size o =
    record { aclflag = o.aclflag; group = o.group; kind = o.kind; owner = o.owner; size = size }

abbrev pub attributes_with : List (Name × Kind) → Object → Attributes
attributes_with names o = attributes_sized (size_with names o.bytes o.kind) o

abbrev pub sight_with : SubjectModel → Facts → Object → Sight
sight_with caller facts o = record {
  kind = o.kind;
  rights = allowed_mask facts.list caller (standing_of o);
  attributes = then_some (facts.may read_attributes) (attributes_with facts.names o);
  names = then_some (not (is_file o.kind) && facts.may list_directory) facts.names;
  bytes = then_some (is_file o.kind && facts.may read_data) o.bytes;
  entries = then_some (facts.may read_acl) (o.aclflag, facts.list);
  size = then_some (is_file o.kind && facts.may append_data) (length o.bytes);
  depth = then_some facts.removes facts.depth;
  full = then_some (not (is_file o.kind) && (facts.may add_file || facts.may add_subdirectory)) facts.full;
}

abbrev pub view_with : SubjectModel → Option Refusal → Facts → Option Object → Result (Option Sight) Refusal
view_with caller way facts o = if_reached way (option_map (sight_with caller facts) o)

module _ (room : Room) (caller : SubjectModel) (path : Path) where
  size_by_facts : (o : Object) → object_at room path ≡ Some o → (kind : Kind)
      → size_of room path kind ≡ size_with (children room path) o.bytes kind
  size_by_facts o is File = ap (λ found. length (bytes_of found)) is
  size_by_facts o is Folder = refl

  sight_by_facts : (o : Object) → object_at room path ≡ Some o
      → sight_of room caller path o ≡ sight_with caller (facts_at room caller path) o
  sight_by_facts o is = ap (λ (n : ℕ). record (sight_of room caller path o) {
    attributes = then_some (may room caller path read_attributes) (attributes_sized n o);
  }) (size_by_facts o is o.kind)

  there_by_facts : (found : Option Object) → object_at room path ≡ found
      → option_map (sight_of room caller path) found ≡ option_map (sight_with caller (facts_at room caller path)) found
  there_by_facts None is = refl
  there_by_facts (Some o) is = ap Some (sight_by_facts o is)

  pub view_by_facts : view room caller path
      ≡ view_with caller (walk room caller path) (facts_at room caller path) (object_at room path)
  view_by_facts = ap (if_reached (walk room caller path)) (there_by_facts (object_at room path) refl)

pub shown_map : {X Y : Type 0} (f : X → Y) (test : Bool) (x : X)
    → then_some test (f x) ≡ option_map f (then_some test x)
shown_map f true x = refl
shown_map f false x = refl

pub same_or_hidden : {X : Type 0} (test : Bool) (x y : X) → (x ≡ y) ⊎ (test ≡ false)
    → then_some test x ≡ then_some test y
same_or_hidden test x y (inl same) = ap (then_some test) same
same_or_hidden true x y (inr off) = let no : true ≡ false = off in cc
same_or_hidden false x y (inr off) = refl

-- new bytes, by what was there, and how many they are
module _ (new : List ℕ → List ℕ) (count : ℕ → ℕ) (counts : (l : List ℕ) → length (new l) ≡ count (length l)) where
  abbrev pub write_to : Object → Object
  write_to o = record o { bytes = new o.bytes }

  -- what the sight of a file becomes
  abbrev pub sight_written : Sight → Sight
  sight_written s = record s {
    attributes = option_map (λ (x : Attributes). record x { size = count x.size }) s.attributes;
    bytes = option_map new s.bytes;
    size = option_map count s.size;
  }

  abbrev pub view_written : Bool → Result (Option Sight) Refusal → Result (Option Sight) Refusal
  view_written false seen = seen
  view_written true seen = seen_less sight_written seen

  sight_after : (caller : SubjectModel) (facts : Facts) (o : Object) → o.kind ≡ File
      → sight_with caller facts (write_to o) ≡ sight_written (sight_with caller facts o)
  sight_after caller facts o file =
      let size : size_with facts.names (new o.bytes) o.kind ≡ count (size_with facts.names o.bytes o.kind) =
      ap (size_with facts.names (new o.bytes)) file ∙ counts o.bytes
      ∙ ap (λ kind. count (size_with facts.names o.bytes kind)) (sym file) in
      let attributes = ap (λ (n : ℕ). then_some (facts.may read_attributes) (attributes_sized n o)) size
      ∙ shown_map (λ (x : Attributes). record x { size = count x.size }) (facts.may read_attributes)
      (attributes_with facts.names o) in
      let bytes = shown_map new (is_file o.kind && facts.may read_data) o.bytes in
      let length_shown = ap (then_some (is_file o.kind && facts.may append_data)) (counts o.bytes)
      ∙ shown_map count (is_file o.kind && facts.may append_data) (length o.bytes) in
      (λ i. record (sight_with caller facts o) {
        attributes = attributes i;
        bytes = bytes i;
        size = length_shown i;
      })

  module _ (room : Room) (caller : SubjectModel) (path : Path) (o : Object)
      (there : object_at room path ≡ Some o) (file : o.kind ≡ File) where
    abbrev later : Room
    later = with_object room path write_to

    out : (q : Path) → without_bytes (object_at later q) ≡ without_bytes (object_at room q)
    out = bytes_stay_out room path new

    right_stays : (q : Path) (wanted : ℕ) → check_right later caller q wanted ≡ check_right room caller q wanted
    right_stays = right_alike later room caller out

    facts_stay : (q : Path) → facts_at later caller q ≡ facts_at room caller q
    facts_stay q = (λ i. record {
      list = lists_without_bytes later room out q i;
      may = λ wanted. is_none (right_stays q wanted i);
      removes = not (is_root q) && (is_none (right_stays q delete_object i)
          || is_none (right_stays (parent_of q) delete_child i));
      names = children_stay room path write_to (λ found. refl) q i;
      depth = depth_stays room path write_to q i;
      full = (room.left == 0);
    })

    seen_after : (here : Bool) (q : Path) → path_eq q path ≡ here → (way : Option Refusal) (facts : Facts)
        → view_with caller way facts (cond here (option_map write_to (object_at room q)) (object_at room q))
        ≡ view_written here (view_with caller way facts (object_at room q))
    seen_after false q other way facts = refl
    seen_after true q same (Some r) facts = refl
    seen_after true q same None facts =
        let is : object_at room q ≡ Some o = ap (object_at room) (same_path q path same) ∙ there in
        rw is (ap (λ (s : Sight). if_reached None (Some s)) (sight_after caller facts o file))

    -- a view after new bytes, by the view before
    pub view_after : (q : Path) → view later caller q ≡ view_written (path_eq q path) (view room caller q)
    view_after q =
        view_by_facts later caller q
        ∙ (λ i. view_with caller (walk_alike later room caller out q i) (facts_stay q i)
        (after_change room path write_to q i))
        ∙ seen_after (path_eq q path) q refl (walk room caller q) (facts_at room caller q)
        ∙ ap (view_written (path_eq q path)) (sym (view_by_facts room caller q))

module _ (a b : Room) (caller : SubjectModel) (room_a : IsRoom a) (room_b : IsRoom b)
    (alike : LooksAlike caller a b) where
  file_kind : (kind : Kind) → is_file kind ≡ true → kind ≡ File
  file_kind File h = refl
  file_kind Folder h = let no : false ≡ true = h in cc

  written_alike : (path : Path) (new : List ℕ → List ℕ) (count : ℕ → ℕ)
      → ((l : List ℕ) → length (new l) ≡ count (length l))
      → check_exists a path ≡ None → check_file a path ≡ None → check_exists b path ≡ None → check_file b path ≡ None
      → LooksAlike caller (with_object a path (λ o. record o { bytes = new o.bytes }))
      (with_object b path (λ o. record o { bytes = new o.bytes }))
  written_alike path new count counts there file there_b file_b q =
      let here = exists_there a path there in
      let other = exists_there b path there_b in
      view_after new count counts a caller path here.0 here.1
      (file_kind here.0.kind (file_there a path here.0 here.1 file)) q
      ∙ ap (view_written new count counts (path_eq q path)) (alike q)
      ∙ sym (view_after new count counts b caller path other.0 other.1
      (file_kind other.0.kind (file_there b path other.0 other.1 file_b)) q)

  pub change_alike : (command : CommandModel) → changes_bytes_alone command ≡ true
      → first_refusal (checks a caller command) ≡ None → first_refusal (checks b caller command) ≡ None
      → LooksAlike caller (changed a caller command) (changed b caller command)
  change_alike (C.Stat path) alone passed passed_b = alike
  change_alike (C.ListNames path) alone passed passed_b = alike
  change_alike (C.Read path) alone passed passed_b = alike
  change_alike (C.GetList path) alone passed passed_b = alike
  change_alike (C.Access mask path) alone passed passed_b = alike
  change_alike (C.Write bytes path) alone passed passed_b =
      let (_, (there, (file, _))) = all_none (checks a caller (C.Write bytes path)) passed in
      let (_, (there_b, (file_b, _))) = all_none (checks b caller (C.Write bytes path)) passed_b in
      written_alike path (λ old. bytes) (λ n. length bytes) (λ old. refl) there file there_b file_b
  change_alike (C.Append bytes path) alone passed passed_b =
      let (_, (there, (file, _))) = all_none (checks a caller (C.Append bytes path)) passed in
      let (_, (there_b, (file_b, _))) = all_none (checks b caller (C.Append bytes path)) passed_b in
      written_alike path (λ old. old ++ bytes) (λ n. n + length bytes) (λ old. length-append old bytes)
      there file there_b file_b
  change_alike command alone passed passed_b = let no : false ≡ true = alone in cc

  pub stay_alike : (command : CommandModel) → IsLawful command → changes_bytes_alone command ≡ true
      → LooksAlike caller (effect a caller command).room (effect b caller command).room
  stay_alike command lawful alone =
      by_outcome (λ x y. LooksAlike caller (effect_by a caller command x).room (effect_by b caller command y).room)
      (first_refusal (checks a caller command)) (first_refusal (checks b caller command))
      (refused_alike _ (checks a caller command) (checks b caller command)
      (in_turn a b caller room_a room_b alike command lawful))
      (change_alike command alone) (λ r. alike)

-- two rooms that differ in bytes alone give the same to what is added, and hand down the same
module _ (room other : Room)
    (out : (q : Path) → without_bytes (object_at room q) ≡ without_bytes (object_at other q)) where
  group_bare : (o : Option Object) → (or_no_object o).group ≡ (or_no_object (without_bytes o)).group
  group_bare None = refl
  group_bare (Some o) = refl

  handed_bare : (o : Option Object) (above : List EntryModel) → handed_by o above ≡ handed_by (without_bytes o) above
  handed_bare None above = refl
  handed_bare (Some o) above = refl

  kind_bare : (kind : Kind) (o : Option Object) → is_kind kind o ≡ is_kind kind (without_bytes o)
  kind_bare kind None = refl
  kind_bare File (Some o) = refl
  kind_bare Folder (Some o) = refl

  pub kind_kept : (q : Path) (kind : Kind) → is_kind kind (object_at room q) ≡ is_kind kind (object_at other q)
  kind_kept q kind = kind_bare kind (object_at room q) ∙ ap (is_kind kind) (out q)
      ∙ sym (kind_bare kind (object_at other q))

  pub group_kept : (q : Path) → (object_or_default room q).group ≡ (object_or_default other q).group
  group_kept q = group_bare (object_at room q) ∙ ap (λ o. (or_no_object o).group) (out q)
      ∙ sym (group_bare (object_at other q))

  pub handed_kept : (q : Path) → handed_to room q ≡ handed_to other q
  handed_kept q =
      handed_bare (object_at room q) (list_of room (parent_of q))
      ∙ (λ i. handed_by (out q i) (lists_without_bytes room other out (parent_of q) i))
      ∙ sym (handed_bare (object_at other q) (list_of other (parent_of q)))
