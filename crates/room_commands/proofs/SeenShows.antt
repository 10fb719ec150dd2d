-- What a caller sees a command of its own tells.
use Rattle.room_commands.proofs.Common.{◌≡◌, ℕ, ◌+◌, ◌≤◌, refl, ap, ◌∙◌, arith, Bool, true, false, List, [], ◌∷◌}
use Rattle.room_commands.proofs.Common.{length, Option, None, Some, Ok, Err, option_map, is_some, not, ◌&&◌, bit_and}
use Rattle.room_commands.proofs.Common.{nat_lt, if◌then◌else◌, then_some, and_parts, not-true, le-ltb, SubjectModel}
use Rattle.room_commands.proofs.Common.{EntryModel, allowed_of, Kind, File, Folder, read_data, list_directory}
use Rattle.room_commands.proofs.Common.{append_data, read_attributes, read_acl, max_document, Name, Path, Object, Room}
use Rattle.room_commands.proofs.Common.{IsRoom, object_at, list_of, standing_of, children, object_there_is_lawful}
use Rattle.room_commands.proofs.Common.{NoEnt, NotDir, IsDir, NotEmpty, Inval, FBig, Refusal, Attributes, Done, About}
use Rattle.room_commands.proofs.Common.{Names, Size, Bytes, Entries, Allowed, NotDone, first_refusal, check_right}
use Rattle.room_commands.proofs.Common.{check_folder, check_file, check_size, walk, refuse_if, refusal_without_place}
use Rattle.room_commands.proofs.Common.{is_file, is_root, may_delete, depth_in, is_kind, effect, effect_by}
use Rattle.room_commands.proofs.Common.{attributes_of, Sight, sight_of, view, may, may_remove, IsSightTold}
use Rattle.room_commands.specs.CommandModel as C
use Rattle.room_commands.proofs.DepthTells.{depth_tells_empty}
use Rattle.room_commands.proofs.OwnersLists.{pass}
use Rattle.room_commands.proofs.Rights.{none_of}
use Rattle.room_commands.proofs.RightsSuffice.{if_true}
use Rattle.room_commands.proofs.RoomLaws.{reply_if_passed}
use Rattle.room_commands.proofs.Shorthands.{if_reached, or_no_object}

by_parts : {s : Sight} (way : Option Refusal) (there : Option Object) (seen : Object → Sight)
    → if_reached way (option_map seen there) ≡ Ok (Some s)
    → (way ≡ None) × (o : Object) × (there ≡ Some o) × (seen o ≡ s)
by_parts (Some r) there seen h = cc
by_parts None None seen h = cc
by_parts None (Some o) seen h = (refl, o, refl, cc)

-- a thing that is shown is shown by its test
by_test : {X : Type 0} {y : X} (test : Bool) (x : X) → then_some test x ≡ Some y → (test ≡ true) × (x ≡ y)
by_test true x h = (refl, cc)
by_test false x h = cc

pub fault_told : (room : Room) (caller : SubjectModel) (path : Path) (fault : Refusal)
    → view room caller path ≡ Err fault → (effect room caller (C.Stat path)).reply ≡ NotDone fault
fault_told room caller path fault h = by_way (walk room caller path) refl (object_at room path) h
  where
    by_way : (way : Option Refusal) → walk room caller path ≡ way → (there : Option Object)
        → if_reached way (option_map (sight_of room caller path) there) ≡ Err fault
        → (effect room caller (C.Stat path)).reply ≡ NotDone fault
    by_way None is there h = cc
    by_way (Some r) is there h =
        ap (λ w. (effect_by room caller (C.Stat path)
        (first_refusal (w ∷ refuse_if (not (is_some (object_at room path)))
        NoEnt ∷ check_right room caller path read_attributes ∷ []))).reply) is
        ∙ (let same : r ≡ fault = cc in ap NotDone same)

pub absence_told : (room : Room) (caller : SubjectModel) (path : Path) → view room caller path ≡ Ok None
    → (effect room caller (C.Stat path)).reply ≡ NotDone (refusal_without_place NoEnt)
absence_told room caller path h = by_both (walk room caller path) refl (object_at room path) refl h
  where
    by_both : (way : Option Refusal) → walk room caller path ≡ way → (there : Option Object)
        → object_at room path ≡ there → if_reached way (option_map (sight_of room caller path) there) ≡ Ok None
        → (effect room caller (C.Stat path)).reply ≡ NotDone (refusal_without_place NoEnt)
    by_both (Some r) is there at h = cc
    by_both None is (Some o) at h = cc
    by_both None is None at h =
        ap (λ refused. (effect_by room caller (C.Stat path) refused).reply)
        (ap (λ w. first_refusal (w ∷ refuse_if (not (is_some (object_at room path))) NoEnt
        ∷ check_right room caller path read_attributes ∷ [])) is
        ∙ ap (λ found. first_refusal (refuse_if (not (is_some found)) NoEnt
        ∷ check_right room caller path read_attributes ∷ [])) at)

module _ (room : Room) (caller : SubjectModel) (path : Path) (s : Sight) (seen : view room caller path ≡ Ok (Some s))
  where
    parts : (walk room caller path ≡ None)
        × (o : Object) × (object_at room path ≡ Some o) × (sight_of room caller path o ≡ s)
    parts = by_parts (walk room caller path) (object_at room path) (sight_of room caller path) seen

    exists : (o : Object) → object_at room path ≡ Some o → refuse_if (not (is_some (object_at room path))) NoEnt ≡ None
    exists o there = ap (λ found. refuse_if (not (is_some found)) NoEnt) there

    no_file : (o : Object) → object_at room path ≡ Some o → is_file o.kind ≡ false → check_folder room path ≡ None
    no_file o there folder =
        ap (λ (found : Option Object). refuse_if (is_kind File found) NotDir) there
        ∙ ap (λ b. refuse_if b NotDir) folder

    no_folder : (o : Object) → object_at room path ≡ Some o → is_file o.kind ≡ true → check_file room path ≡ None
    no_folder o there file =
        ap (λ (found : Option Object). refuse_if (is_kind Folder found) IsDir) there
        ∙ ap (λ b. refuse_if (not b) IsDir) file

    pub file_told : s.kind ≡ File
        → (effect room caller (C.ListNames path)).reply ≡ NotDone (refusal_without_place NotDir)
    file_told file =
        let (way, o, there, is) = parts in
        let kind : o.kind ≡ File = ap (λ (x : Sight). x.kind) is ∙ file in
        ap (λ refused. (effect_by room caller (C.ListNames path) refused).reply)
        (pass _ _ way (pass _ _ (exists o there) (ap (λ found. first_refusal (refuse_if (is_kind File found) NotDir
        ∷ check_right room caller path list_directory ∷ [])) there
        ∙ ap (λ kind. first_refusal (refuse_if (is_file kind) NotDir
        ∷ check_right room caller path list_directory ∷ [])) kind)))

    pub folder_told : s.kind ≡ Folder → (effect room caller (C.Read path)).reply ≡ NotDone (refusal_without_place IsDir)
    folder_told folder =
        let (way, o, there, is) = parts in
        let kind : o.kind ≡ Folder = ap (λ (x : Sight). x.kind) is ∙ folder in
        ap (λ refused. (effect_by room caller (C.Read path) refused).reply)
        (pass _ _ way (pass _ _ (exists o there) (ap (λ found. first_refusal (refuse_if (is_kind Folder found) IsDir
        ∷ check_right room caller path read_data ∷ [])) there
        ∙ ap (λ kind. first_refusal (refuse_if (not (is_file kind)) IsDir
        ∷ check_right room caller path read_data ∷ [])) kind)))

    pub rights_told : (mask : ℕ) → (effect room caller (C.Access mask path)).reply ≡ Allowed (bit_and mask s.rights)
    rights_told mask =
        let (way, o, there, is) = parts in
        reply_if_passed room caller (C.Access mask path) (pass _ _ way (pass _ _ (exists o there) refl))
        ∙ ap (λ found. Allowed (allowed_of (list_of room path) caller (standing_of (or_no_object found)) mask)) there
        ∙ ap (λ (x : Sight). Allowed (bit_and mask x.rights)) is

    pub attributes_told : (x : Attributes) → s.attributes ≡ Some x → (effect room caller (C.Stat path)).reply ≡ About x
    attributes_told x h =
        let (way, o, there, is) = parts in
        let (right, same) = by_test (may room caller path read_attributes) (attributes_of room path o)
        (ap (λ (x : Sight). x.attributes) is ∙ h) in
        reply_if_passed room caller (C.Stat path)
        (pass _ _ way (pass _ _ (exists o there) (pass _ _ (none_of _ right) refl)))
        ∙ ap (λ found. About (attributes_of room path (or_no_object found))) there ∙ ap About same

    pub names_told : (names : List (Name × Kind)) → s.names ≡ Some names
        → (effect room caller (C.ListNames path)).reply ≡ Names names
    names_told names h =
        let (way, o, there, is) = parts in
        let (tested, same) = by_test (not (is_file o.kind) && may room caller path list_directory) (children room path)
        (ap (λ (x : Sight). x.names) is ∙ h) in
        let (folder, right) = and_parts _ _ tested in
        reply_if_passed room caller (C.ListNames path) (pass _ _ way (pass _ _ (exists o there)
        (pass _ _ (no_file o there (not-true _ folder)) (pass _ _ (none_of _ right) refl))))
        ∙ ap Names same

    pub bytes_told : (bytes : List ℕ) → s.bytes ≡ Some bytes → (effect room caller (C.Read path)).reply ≡ Bytes bytes
    bytes_told bytes h =
        let (way, o, there, is) = parts in
        let (tested, same) = by_test (is_file o.kind && may room caller path read_data) o.bytes
        (ap (λ (x : Sight). x.bytes) is ∙ h) in
        let (file, right) = and_parts _ _ tested in
        reply_if_passed room caller (C.Read path) (pass _ _ way (pass _ _ (exists o there)
        (pass _ _ (no_folder o there file) (pass _ _ (none_of _ right) refl))))
        ∙ ap (λ found. Bytes (or_no_object found).bytes) there ∙ ap Bytes same

    pub entries_told : (aclflag : ℕ) (entries : List EntryModel) → s.entries ≡ Some (aclflag, entries)
        → (effect room caller (C.GetList path)).reply ≡ Entries aclflag entries
    entries_told aclflag entries h =
        let (way, o, there, is) = parts in
        let (right, same) = by_test (may room caller path read_acl) (o.aclflag, list_of room path)
        (ap (λ (x : Sight). x.entries) is ∙ h) in
        reply_if_passed room caller (C.GetList path)
        (pass _ _ way (pass _ _ (exists o there) (pass _ _ (none_of _ right) refl)))
        ∙ ap (λ found. Entries (or_no_object found).aclflag (list_of room path)) there
        ∙ ap (λ (p : ℕ × List EntryModel). Entries p.0 p.1) same

    module _ (lawful : IsRoom room) where
      pub size_told : (size : ℕ) → s.size ≡ Some size → (effect room caller (C.Append [] path)).reply ≡ Size size
      size_told size h =
          let (way, o, there, is) = parts in
          let (tested, same) = by_test (is_file o.kind && may room caller path append_data) (length o.bytes)
          (ap (λ (x : Sight). x.size) is ∙ h) in
          let (file, right) = and_parts _ _ tested in
          let small : length o.bytes ≤ max_document = (object_there_is_lawful room lawful path o there).small in
          let fits : check_size (length o.bytes + 0) ≡ None =
          ap (λ b. refuse_if b FBig) (le-ltb max_document (length o.bytes + 0) (omega (arith, small))) in
          reply_if_passed room caller (C.Append [] path)
          (pass _ _ way (pass _ _ (exists o there) (pass _ _ (no_folder o there file) (pass _ _ (none_of _ right)
          (pass _ _ (ap (λ found. check_size (length (or_no_object found).bytes + 0)) there ∙ fits) refl)))))
          ∙ ap (λ found. Size (length (or_no_object found).bytes + 0)) there
          ∙ (let n : length o.bytes + 0 ≡ size = omega (arith, same) in ap Size n)

      pub depth_told : (depth : ℕ) → s.depth ≡ Some depth → (effect room caller (C.Remove path)).reply
          ≡ (if nat_lt 0 depth then NotDone (refusal_without_place NotEmpty) else Done)
      depth_told depth h =
          let (way, o, there, is) = parts in
          let (tested, same) = by_test (may_remove room caller path) (depth_in path room.objects)
          (ap (λ (x : Sight). x.depth) is ∙ h) in
          let (below, right) = and_parts _ _ tested in
          by_depth way (exists o there) (not-true _ below) right (nat_lt 0 depth)
          (depth_tells_empty room lawful path ∙ ap (nat_lt 0) same)
        where
          last : (deep : Bool)
              → (effect_by room caller (C.Remove path) (first_refusal (refuse_if deep NotEmpty ∷ []))).reply
              ≡ (if deep then NotDone (refusal_without_place NotEmpty) else Done)
          last true = refl
          last false = refl

          by_depth : walk room caller path ≡ None → refuse_if (not (is_some (object_at room path))) NoEnt ≡ None
              → is_root path ≡ false → may_delete room caller path ≡ true
              → (deep : Bool) → nat_lt 0 (length (children room path)) ≡ deep
              → (effect room caller (C.Remove path)).reply
              ≡ (if deep then NotDone (refusal_without_place NotEmpty) else Done)
          by_depth way there below right deep is =
              ap (λ refused. (effect_by room caller (C.Remove path) refused).reply)
              (pass _ _ (ap (λ b. refuse_if b Inval) below) (pass _ _ way (pass _ _ there
              (pass _ _ (if_true path _ right) (ap (λ b. first_refusal (refuse_if b NotEmpty ∷ [])) is)))))
              ∙ last deep

pub all_told : (room : Room) (caller : SubjectModel) (path : Path) (s : Sight) → IsRoom room
    → view room caller path ≡ Ok (Some s) → IsSightTold room caller path s
all_told room caller path s lawful seen = record {
  file = file_told room caller path s seen;
  folder = folder_told room caller path s seen;
  rights = rights_told room caller path s seen;
  attributes = attributes_told room caller path s seen;
  names = names_told room caller path s seen;
  bytes = bytes_told room caller path s seen;
  entries = entries_told room caller path s seen;
  size = size_told room caller path s seen lawful;
  depth = depth_told room caller path s seen lawful;
}
