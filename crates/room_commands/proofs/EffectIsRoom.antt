-- A command leaves a room.
use Rattle.room_commands.proofs.Common.{◌≡◌, ℕ, ◌+◌, ◌≤◌, refl, ap, ◌∙◌, arith, false, ◌||◌, inl, inr, List, [], ◌∷◌}
use Rattle.room_commands.proofs.Common.{◌++◌, length, Option, None, Some, both_ways, cases_lt, lt-ltb, ltb-false}
use Rattle.room_commands.proofs.Common.{or_parts, length-append, Kind, File, Folder, SubjectModel, EntryModel}
use Rattle.room_commands.proofs.Common.{own_entries_fault, max_own_entries, Path, IsPath, Object, Room, IsRoom}
use Rattle.room_commands.proofs.Common.{IsObject, object_at, children, parent_of, parent_of_end, Ends, ends}
use Rattle.room_commands.proofs.Common.{object_there_is_lawful, other_path, nothing_in_empty, CommandModel, Refusal}
use Rattle.room_commands.proofs.Common.{IsLawful, own_entries_of_setlist, first_refusal, checks, is_root}
use Rattle.room_commands.proofs.Common.{is_at_or_below, bytes_at, check_absent, check_folder_full, check_lawful, walk}
use Rattle.room_commands.proofs.Common.{changed, effect, effect_by, new_object, with_new, renamed}
use Rattle.room_commands.specs.CommandModel as C
use Rattle.room_commands.proofs.Rights.{AllNone, all_none}
use Rattle.room_commands.proofs.ChecksTell.{not_refused, exists_there, absent_there, file_there, file_is_no_folder}
use Rattle.room_commands.proofs.ChecksTell.{small_enough, not_full_there, walk_ends_in_folder, depth_there}
use Rattle.room_commands.proofs.RoomsNew.{with_new_is_room}
use Rattle.room_commands.proofs.RoomsObject.{with_object_is_room}
use Rattle.room_commands.proofs.RoomsWithout.{without_is_room}
use Rattle.room_commands.proofs.RenamedIsRoom.{renamed_is_room}
use Rattle.room_commands.proofs.SetListKept.{no_mark_left}
use Rattle.room_commands.proofs.Shorthands.{bytes_of, kind_of}

-- a path that passes the test for the root has a folder and a name
pub not_root_ends : (path : Path) → is_root path ≡ false → Ends path
not_root_ends [] h = cc
not_root_ends (first ∷ rest) h = ends first rest

pub not_in_root : (path : Path) → is_root path ≡ false → is_at_or_below [] path ≡ false
not_in_root [] h = cc
not_in_root (first ∷ rest) h = refl

module _ (room : Room) (caller : SubjectModel) (lawful : IsRoom room) where
  -- a new object in the folder at the end of a walk
  new_is_room : (path : Path) (o : Object) → IsPath path → is_root path ≡ false
      → walk room caller path ≡ None → check_absent room path ≡ None
      → check_folder_full room (parent_of path) ≡ None → IsObject o → IsRoom (with_new room path o)
  new_is_room path o is_path not_root walked absent not_full is_object =
      let end = not_root_ends path not_root in
      let above = walk_ends_in_folder room caller end.folder end.name (rw (← end.is) walked) in
      let in_folder : parent_of path ≡ end.folder = ap parent_of end.is ∙ parent_of_end end.folder end.name in
      rw end.is (with_new_is_room room end.folder end.name o lawful (rw (← end.is) is_path) is_object
      (rw (← end.is) (absent_there room path absent))
      above.0 above.1 above.2 (rw (← in_folder) (not_full_there room (parent_of path) not_full)))

  object_lawful : (path : Path) (o : Object) → object_at room path ≡ Some o → IsObject o
  object_lawful = object_there_is_lawful room lawful

-- RENAME, where its checks pass
renaming : (room : Room) (caller : SubjectModel) (path to : Path) → IsPath to → IsRoom room
    → AllNone (checks room caller (C.Rename path to)) → IsRoom (renamed room path to)
renaming room caller path to is_path lawful (outside, (_, (there, (walked_to, (free, (_, (_, (depth, (full, _))))))))) =
    let roots = or_parts (is_root path || is_root to) (is_at_or_below to path) (not_refused _ _ outside) in
    let two = or_parts (is_root path) (is_root to) roots.0 in
    let end = not_root_ends to two.1 in
    let moving = exists_there room path there in
    let above = walk_ends_in_folder room caller end.folder end.name (rw (← end.is) walked_to) in
    let in_folder : parent_of to ≡ end.folder = ap parent_of end.is ∙ parent_of_end end.folder end.name in
    rw end.is (renamed_is_room room lawful path end.folder end.name (record {
      o = moving.0;
      there = moving.1;
      below_root = not_in_root path two.0;
      apart = rw (← end.is) roots.1;
      free = rw (← end.is) (absent_there room to free);
      is_path = rw (← end.is) is_path;
      above = above.0;
      stands = above.1;
      is_folder = above.2;
      fits = λ q other there below. rw (← end.is) (depth_there room path to depth q other there below);
      not_full = λ other.
          let apart = other_path (parent_of path) (parent_of to) (λ same. other (same ∙ in_folder)) in
          rw (← in_folder) (not_full_there room (parent_of to) (rw apart at full));
    }))

few_by_fault : (entries : List EntryModel) (kind : Kind)
    → check_lawful (own_entries_fault entries kind) ≡ None → length entries ≤ max_own_entries
few_by_fault entries kind h = elim (cases_lt max_own_entries (length entries)) [
  | inl many ↦ absurd (let refused = rw (lt-ltb max_own_entries (length entries) many) at h in cc)
  | inr few ↦ few
]

pub created_is_room : (room : Room) (caller : SubjectModel) (bytes : List ℕ) (path : Path) → IsPath path → IsRoom room →
    first_refusal (checks room caller (C.Create bytes path)) ≡ None → IsRoom (changed room caller (C.Create bytes path))
created_is_room room caller bytes path is_path lawful passed =
    let (not_root, (walked, (free, (_, (small, (not_full, _)))))) =
    all_none (checks room caller (C.Create bytes path)) passed in
    new_is_room room caller lawful path (new_object room caller path File bytes)
    is_path (not_refused _ _ not_root) walked free not_full
    (record {
      few_entries = omega arith;
      own_entries = refl;
      small = small_enough room (length bytes) small;
      folder = λ is. absurd (file_is_no_folder File refl is);
    })

pub written_is_room : (room : Room) (caller : SubjectModel) (bytes : List ℕ) (path : Path) → IsRoom room
    → first_refusal (checks room caller (C.Write bytes path)) ≡ None → IsRoom (changed room caller (C.Write bytes path))
written_is_room room caller bytes path lawful passed =
    let (_, (_, (file, (_, (small, _))))) = all_none (checks room caller (C.Write bytes path)) passed in
    with_object_is_room room path (λ o. record o { bytes = bytes }) (λ o. refl) lawful
    (λ o there. let was = object_lawful room caller lawful path o there in record {
      few_entries = was.few_entries;
      own_entries = was.own_entries;
      small = small_enough room (length bytes) small;
      folder = λ is. absurd (file_is_no_folder o.kind (file_there room path o there file) is);
    })

pub appended_is_room : (room : Room) (caller : SubjectModel) (bytes : List ℕ) (path : Path) → IsRoom room →
    first_refusal (checks room caller (C.Append bytes path)) ≡ None → IsRoom (changed room caller (C.Append bytes path))
appended_is_room room caller bytes path lawful passed =
    let (_, (_, (file, (_, (small, _))))) = all_none (checks room caller (C.Append bytes path)) passed in
    with_object_is_room room path (λ o. record o { bytes = o.bytes ++ bytes }) (λ o. refl) lawful
    (λ o there.
    let size = small_enough room (length (bytes_at room path) + length bytes) small in
    let same : length (bytes_at room path) ≡ length o.bytes = ap (λ found. length (bytes_of found)) there in
    let was = object_lawful room caller lawful path o there in
    record {
      few_entries = was.few_entries;
      own_entries = was.own_entries;
      small = omega (arith, size, same, length-append o.bytes bytes);
      folder = λ is. absurd (file_is_no_folder o.kind (file_there room path o there file) is);
    })

pub setlist_is_room : (room : Room) (caller : SubjectModel) (aclflag : ℕ) (sent : List EntryModel) (path : Path)
    → IsRoom room → first_refusal (checks room caller (C.SetList aclflag sent path)) ≡ None
    → IsRoom (changed room caller (C.SetList aclflag sent path))
setlist_is_room room caller aclflag sent path lawful passed =
    let (_, (_, (_, (own_lawful, _)))) = all_none (checks room caller (C.SetList aclflag sent path)) passed in
    with_object_is_room room path
    (λ o. record o { aclflag = aclflag; own = own_entries_of_setlist path aclflag sent }) (λ o. refl) lawful
    (λ o there. record {
      few_entries = few_by_fault (own_entries_of_setlist path aclflag sent) (kind_of (object_at room path)) own_lawful;
      own_entries = no_mark_left path aclflag sent;
      small = (object_lawful room caller lawful path o there).small;
      folder = (object_lawful room caller lawful path o there).folder;
    })

pub chown_is_room : (room : Room) (caller : SubjectModel) (group owner : List ℕ) (path : Path)
    → IsRoom room → first_refusal (checks room caller (C.Chown group owner path)) ≡ None
    → IsRoom (changed room caller (C.Chown group owner path))
chown_is_room room caller group owner path lawful passed =
    with_object_is_room room path (λ o. record o { owner = owner; group = group }) (λ o. refl) lawful
    (λ o there. let was = object_lawful room caller lawful path o there in record {
      few_entries = was.few_entries;
      own_entries = was.own_entries;
      small = was.small;
      folder = was.folder;
    })

-- what a command changes where no check fails is a room
pub changed_is_room : (room : Room) (caller : SubjectModel) (command : CommandModel) → IsLawful command → IsRoom room
    → first_refusal (checks room caller command) ≡ None → IsRoom (changed room caller command)
changed_is_room room caller (C.Mkdir path) is_lawful lawful passed =
    let (not_root, (walked, (free, (_, (not_full, _))))) = all_none (checks room caller (C.Mkdir path)) passed in
    new_is_room room caller lawful path (new_object room caller path Folder [])
    is_lawful (not_refused _ _ not_root) walked free not_full
    (record { few_entries = omega arith; own_entries = refl; small = omega arith; folder = λ is. refl })
changed_is_room room caller (C.Create bytes path) is_lawful lawful passed =
    created_is_room room caller bytes path is_lawful.1 lawful passed
changed_is_room room caller (C.Write bytes path) is_lawful lawful passed =
    written_is_room room caller bytes path lawful passed
changed_is_room room caller (C.Append bytes path) is_lawful lawful passed =
    appended_is_room room caller bytes path lawful passed
changed_is_room room caller (C.Remove path) is_lawful lawful passed =
    let (not_root, (_, (_, (_, (empty, _))))) = all_none (checks room caller (C.Remove path)) passed in
    without_is_room room path lawful (λ same. both_ways (is_root path) (not_refused _ _ not_root) (rw (← same) refl))
    (nothing_in_empty room path
    (omega (arith, ltb-false 0 (length (children room path)) (not_refused _ _ empty))))
changed_is_room room caller (C.Rename path to) is_lawful lawful passed =
    renaming room caller path to is_lawful.1 lawful (all_none (checks room caller (C.Rename path to)) passed)
changed_is_room room caller (C.SetList aclflag sent path) is_lawful lawful passed =
    setlist_is_room room caller aclflag sent path lawful passed
changed_is_room room caller (C.Chown group owner path) is_lawful lawful passed =
    chown_is_room room caller group owner path lawful passed
changed_is_room room caller command is_lawful lawful passed = lawful

-- every command leaves a room
pub effect_is_room : (room : Room) (caller : SubjectModel) (command : CommandModel)
    → IsLawful command → IsRoom room → IsRoom (effect room caller command).room
effect_is_room room caller command is_lawful lawful = by_value (first_refusal (checks room caller command)) refl
  where
    by_value : (o : Option Refusal) → first_refusal (checks room caller command) ≡ o
        → IsRoom (effect_by room caller command o).room
    by_value None passed = changed_is_room room caller command is_lawful lawful passed
    by_value (Some refusal) refused = lawful
