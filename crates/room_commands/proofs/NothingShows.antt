-- What a caller may not see does not show in the answer to its command.
use Rattle.room_commands.proofs.Common.{◌≡◌, ℕ, ◌+◌, refl, ap, sym, ◌∙◌, Bool, true, false, not, ◌&&◌, ◌||◌, List, []}
use Rattle.room_commands.proofs.Common.{◌∷◌, ◌++◌, length, Option, None, Some, nat_lt, cond, is_none, bit_and, or_parts}
use Rattle.room_commands.proofs.Common.{and_from, or_left, or_right, Kind, File, Folder, read_data, list_directory}
use Rattle.room_commands.proofs.Common.{write_data, add_file, append_data, add_subdirectory, delete_child}
use Rattle.room_commands.proofs.Common.{read_attributes, delete_object, read_acl, write_acl, write_owner, SubjectModel}
use Rattle.room_commands.proofs.Common.{allowed_mask, own_entries_fault, max_names, Name, Path, path_eq, Room, IsRoom}
use Rattle.room_commands.proofs.Common.{object_at, children, list_of, standing_of, parent_of, none_is_some}
use Rattle.room_commands.proofs.Common.{parent_of_end, Ends, CommandModel, paths_of, Refusal, About, Names}
use Rattle.room_commands.proofs.Common.{Size, Bytes, Entries, Allowed, RefusalCode, NotEmpty, TooDeep, Inval}
use Rattle.room_commands.proofs.Common.{Exist, IsLawful, own_entries_of_setlist, first_refusal, checks, refuse_if}
use Rattle.room_commands.proofs.Common.{check_right, check_removal, may_delete, walk, check_exists, check_absent}
use Rattle.room_commands.proofs.Common.{check_folder, check_file, is_kind, is_file, is_root, right_to_add}
use Rattle.room_commands.proofs.Common.{object_or_default, check_depth, check_folder_full, check_room_full, check_size}
use Rattle.room_commands.proofs.Common.{check_lawful, bytes_at, is_at_or_below, effect, effect_by, reply, attributes_of}
use Rattle.room_commands.proofs.Common.{LooksAlike, Sight, may, may_add, may_remove, depth_in, view}
use Rattle.room_commands.specs.CommandModel as C
use Rattle.room_commands.proofs.Rights.{one_may}
use Rattle.room_commands.proofs.ChecksTell.{not_refused}
use Rattle.room_commands.proofs.EffectIsRoom.{not_root_ends}
use Rattle.room_commands.proofs.DepthTells.{depth_tells_empty}
use Rattle.room_commands.proofs.Looks.{BothThere, both_there, way_alike, exists_alike, absent_alike, folder_alike}
use Rattle.room_commands.proofs.Looks.{file_alike, right_alike, kind_of_alike, in_folder_alike}
use Rattle.room_commands.proofs.Looks.{by_outcome, folder_full_alike, room_full_alike, shown_same}
use Rattle.room_commands.proofs.Shorthands.{also, bytes_of, or_no_object, removal_refusal}

-- two lists of checks refuse alike: each pair is alike where those before it pass. Where all pass, so is the rest
abbrev pub AlikeInTurn : Type 0 → List (Option Refusal) → List (Option Refusal) → Type 0
AlikeInTurn Rest [] [] = Rest
AlikeInTurn Rest [] (y ∷ ys) = ⊥
AlikeInTurn Rest (x ∷ xs) [] = ⊥
AlikeInTurn Rest (x ∷ xs) (y ∷ ys) = (x ≡ y) × (x ≡ None → AlikeInTurn Rest xs ys)

pub refused_alike : (Rest : Type 0) (xs ys : List (Option Refusal)) → AlikeInTurn Rest xs ys
    → first_refusal xs ≡ first_refusal ys
refused_alike Rest [] [] alike = refl
refused_alike Rest [] (y ∷ ys) alike = absurd alike
refused_alike Rest (x ∷ xs) [] alike = absurd alike
refused_alike Rest (None ∷ xs) (None ∷ ys) alike = refused_alike Rest xs ys (alike.1 refl)
refused_alike Rest (Some r ∷ xs) (Some s ∷ ys) alike = alike.0
refused_alike Rest (None ∷ xs) (Some s ∷ ys) alike = absurd (none_is_some s alike.0)
refused_alike Rest (Some r ∷ xs) (None ∷ ys) alike = absurd (none_is_some r (sym alike.0))

pub passed_alike : (Rest : Type 0) (xs ys : List (Option Refusal)) → AlikeInTurn Rest xs ys
    → first_refusal xs ≡ None → Rest
passed_alike Rest [] [] alike passed = alike
passed_alike Rest [] (y ∷ ys) alike passed = absurd alike
passed_alike Rest (x ∷ xs) [] alike passed = absurd alike
passed_alike Rest (None ∷ xs) (y ∷ ys) alike passed = passed_alike Rest xs ys (alike.1 refl) passed
passed_alike Rest (Some r ∷ xs) (y ∷ ys) alike passed = absurd (none_is_some r (sym passed))

-- what a command at a path asks of the rooms looks the same in both
pub record AlikeAt (a b : Room) (caller : SubjectModel) (path : Path) : Type 0 where
  pub here : view a caller path ≡ view b caller path
  pub above : view a caller (parent_of path) ≡ view b caller (parent_of path)
  pub full : Ends path → walk a caller path ≡ None → may_add a caller (parent_of path) ≡ true
      → check_folder_full a (parent_of path) ≡ check_folder_full b (parent_of path)

alike_at : (a b : Room) (caller : SubjectModel) → LooksAlike caller a b → (path : Path) → AlikeAt a b caller path
alike_at a b caller alike path = record {
  here = alike path;
  above = alike (parent_of path);
  full = λ end walked adds.
      let folder : parent_of path ≡ end.folder = ap parent_of end.is ∙ parent_of_end end.folder end.name in
      ap (check_folder_full a) folder
      ∙ folder_full_alike a b caller end.folder end.name (ap (walk a caller) (sym end.is) ∙ walked)
      (λ n. alike (end.folder ++ n ∷ []))
      ∙ ap (check_folder_full b) (sym folder);
}

pub adds_either : (kind : Kind) (may : ℕ → Bool) → may (right_to_add kind) ≡ true
    → (may add_file || may add_subdirectory) ≡ true
adds_either File may adds = or_left _ _ adds
adds_either Folder may adds = or_right _ _ adds

-- a right that is not refused is there
is_there : (x : Option Refusal) → x ≡ None → is_none x ≡ true
is_there x none = ap is_none none

module _ (a b : Room) (caller : SubjectModel) (room_a : IsRoom a) (room_b : IsRoom b) where
  -- what is shown of an object that is there in both
  module _ (path : Path) (near : AlikeAt a b caller path) (walked : walk a caller path ≡ None)
      (there : check_exists a path ≡ None) where
    both : BothThere a b caller path
    both = both_there a b caller path near.here walked there

    is_folder : check_folder a path ≡ None → is_file both.here.kind ≡ false
    is_folder passed = sym (ap (is_kind File) both.is) ∙ not_refused (is_kind File (object_at a path)) _ passed

    is_file_here : check_file a path ≡ None → is_file both.here.kind ≡ true
    is_file_here passed =
        file_of (is_file both.here.kind)
        (sym (ap (is_kind Folder) both.is) ∙ not_refused (is_kind Folder (object_at a path)) _ passed)
      where
        file_of : (f : Bool) → not f ≡ false → f ≡ true
        file_of true h = refl
        file_of false h = cc

    attributes_alike : check_right a caller path read_attributes ≡ None
        → reply a caller (C.Stat path) ≡ reply b caller (C.Stat path)
    attributes_alike right =
        ap (λ o. About (attributes_of a path (or_no_object o))) both.is
        ∙ ap About (shown_same _ _ _ _ (ap (λ (s : Sight). s.attributes) both.same) (is_there _ right))
        ∙ ap (λ o. About (attributes_of b path (or_no_object o))) (sym both.is_other)

    names_alike : check_folder a path ≡ None → check_right a caller path list_directory ≡ None
        → reply a caller (C.ListNames path) ≡ reply b caller (C.ListNames path)
    names_alike folder right =
        ap Names (shown_same _ _ _ _ (ap (λ (s : Sight). s.names) both.same)
        (and_from _ _ (ap not (is_folder folder)) (is_there _ right)))

    bytes_shown : check_file a path ≡ None → check_right a caller path read_data ≡ None
        → reply a caller (C.Read path) ≡ reply b caller (C.Read path)
    bytes_shown file right =
        ap (λ o. Bytes (bytes_of o)) both.is
        ∙ ap Bytes (shown_same _ _ _ _ (ap (λ (s : Sight). s.bytes) both.same)
        (and_from _ _ (is_file_here file) (is_there _ right)))
        ∙ ap (λ o. Bytes (bytes_of o)) (sym both.is_other)

    size_shown : check_file a path ≡ None → check_right a caller path append_data ≡ None
        → length (bytes_at a path) ≡ length (bytes_at b path)
    size_shown file right =
        ap (λ o. length (bytes_of o)) both.is
        ∙ shown_same _ _ _ _ (ap (λ (s : Sight). s.size) both.same)
        (and_from _ _ (is_file_here file) (is_there _ right))
        ∙ ap (λ o. length (bytes_of o)) (sym both.is_other)

    list_shown : check_right a caller path read_acl ≡ None
        → reply a caller (C.GetList path) ≡ reply b caller (C.GetList path)
    list_shown right =
        let same = shown_same _ _ _ _ (ap (λ (s : Sight). s.entries) both.same) (is_there _ right) in
        ap (λ o. Entries (or_no_object o).aclflag (list_of a path)) both.is
        ∙ (λ i. Entries (same i).0 (same i).1)
        ∙ ap (λ o. Entries (or_no_object o).aclflag (list_of b path)) (sym both.is_other)

    rights_shown : (mask : ℕ) → reply a caller (C.Access mask path) ≡ reply b caller (C.Access mask path)
    rights_shown mask =
        ap (λ o. Allowed (bit_and mask (allowed_mask (list_of a path) caller (standing_of (or_no_object o))))) both.is
        ∙ ap (λ (s : Sight). Allowed (bit_and mask s.rights)) both.same
        ∙ ap (λ o. Allowed (bit_and mask (allowed_mask (list_of b path) caller (standing_of (or_no_object o)))))
        (sym both.is_other)

    depth_shown : may_remove a caller path ≡ true → depth_in path a.objects ≡ depth_in path b.objects
    depth_shown removes = shown_same _ _ _ _ (ap (λ (s : Sight). s.depth) both.same) removes

  -- what the folder above shows
  module _ (path : Path) (near : AlikeAt a b caller path) (end : Ends path) (walked : walk a caller path ≡ None) where
    above : parent_of path ≡ end.folder
    above = ap parent_of end.is ∙ parent_of_end end.folder end.name

    alike_above : view a caller end.folder ≡ view b caller end.folder
    alike_above = rw above at near.above

    way_in : walk a caller (end.folder ++ end.name ∷ []) ≡ None
    way_in = ap (walk a caller) (sym end.is) ∙ walked

    right_above : (wanted : ℕ)
        → check_right a caller (parent_of path) wanted ≡ check_right b caller (parent_of path) wanted
    right_above wanted =
        ap (λ folder. check_right a caller folder wanted) above
        ∙ in_folder_alike a b caller end.folder end.name way_in alike_above wanted
        ∙ ap (λ folder. check_right b caller folder wanted) (sym above)

    full_above : (may a caller end.folder add_file || may a caller end.folder add_subdirectory) ≡ true
        → check_folder_full a (parent_of path) ≡ check_folder_full b (parent_of path)
    full_above adds = near.full end walked (ap (may_add a caller) above ∙ adds)

    may_above : (wanted : ℕ) → check_right a caller (parent_of path) wanted ≡ None
        → may a caller end.folder wanted ≡ true
    may_above wanted right =
        is_there (check_right a caller end.folder wanted)
        (ap (λ folder. check_right a caller folder wanted) (sym above) ∙ right)

    room_full : (may a caller end.folder add_file || may a caller end.folder add_subdirectory) ≡ true
        → check_room_full a ≡ check_room_full b
    room_full = room_full_alike a b caller end.folder end.name way_in alike_above

    removal_alike : check_removal a caller path ≡ check_removal b caller path
    removal_alike = (λ i. removal_refusal path (right_alike a b caller path near.here walked delete_object i)
        (right_above delete_child i))

    removes : check_removal a caller path ≡ None → may_remove a caller path ≡ true
    removes right = ap (λ p. not (is_root p) && may_delete a caller path) end.is
        ∙ and_from _ _ (below_root end.folder end.name) (one_may path _ right)
      where
        below_root : (folder : Path) (name : Name) → not (is_root (folder ++ name ∷ [])) ≡ true
        below_root [] name = refl
        below_root (first ∷ folder) name = refl

    depth_alike : check_exists a path ≡ None → check_removal a caller path ≡ None
        → depth_in path a.objects ≡ depth_in path b.objects
    depth_alike there right = depth_shown path near walked there (removes right)

    empty_alike : check_exists a path ≡ None → check_removal a caller path ≡ None
        → refuse_if (nat_lt 0 (length (children a path))) NotEmpty
        ≡ refuse_if (nat_lt 0 (length (children b path))) NotEmpty
    empty_alike there right = ap (λ test. refuse_if test NotEmpty)
        (depth_tells_empty a room_a path ∙ ap (nat_lt 0) (depth_alike there right)
        ∙ sym (depth_tells_empty b room_b path))

    too_deep_alike : (to : Path) → check_exists a path ≡ None → check_removal a caller path ≡ None
        → check_depth a path to ≡ check_depth b path to
    too_deep_alike to there right =
        ap (λ depth. refuse_if (nat_lt max_names (length to + depth)) TooDeep) (depth_alike there right)

  module _ (path : Path) (near : AlikeAt a b caller path) where
    way : walk a caller path ≡ walk b caller path
    way = way_alike a b caller path near.here

    exists : walk a caller path ≡ None → check_exists a path ≡ check_exists b path
    exists = exists_alike a b caller path near.here

    right : walk a caller path ≡ None → (wanted : ℕ)
        → check_right a caller path wanted ≡ check_right b caller path wanted
    right = right_alike a b caller path near.here

    file : walk a caller path ≡ None → check_file a path ≡ check_file b path
    file = file_alike a b caller path near.here

    absent : walk a caller path ≡ None → check_absent a path ≡ check_absent b path
    absent = absent_alike a b caller path near.here

  ends_of : (path : Path) (code : RefusalCode) → refuse_if (is_root path) code ≡ None → Ends path
  ends_of path code passed = not_root_ends path (not_refused (is_root path) code passed)

  in_turn_at : (command : CommandModel) → IsLawful command → AlikeAt a b caller (paths_of command).0
      → AlikeAt a b caller (paths_of command).1 → AlikeInTurn
      (reply a caller command ≡ reply b caller command) (checks a caller command) (checks b caller command)
  in_turn_at (C.Stat path) lawful near near_to =
      also (way path near) (λ walked. also (exists path near walked) (λ there.
      also (right path near walked read_attributes) (attributes_alike path near walked there)))
  in_turn_at (C.ListNames path) lawful near near_to =
      also (way path near) (λ walked. also (exists path near walked) (λ there.
      also (folder_alike a b caller path near.here walked) (λ folder.
      also (right path near walked list_directory) (names_alike path near walked there folder))))
  in_turn_at (C.Mkdir path) lawful near near_to =
      also refl (λ not_root. also (way path near) (λ walked. also (absent path near walked) (λ free.
      let end = ends_of path Exist not_root in
      also (right_above path near end walked add_subdirectory) (λ may.
      let adds = or_right _ _ (may_above path near end walked add_subdirectory may) in
      also (full_above path near end walked adds) (λ not_full.
      also (room_full path near end walked adds) (λ left. refl))))))
  in_turn_at (C.Create bytes path) lawful near near_to =
      also refl (λ not_root. also (way path near) (λ walked. also (absent path near walked) (λ free.
      let end = ends_of path Exist not_root in
      also (right_above path near end walked add_file) (λ may. also refl (λ small.
      let adds = or_left _ _ (may_above path near end walked add_file may) in
      also (full_above path near end walked adds) (λ not_full.
      also (room_full path near end walked adds) (λ left. refl)))))))
  in_turn_at (C.Read path) lawful near near_to =
      also (way path near) (λ walked. also (exists path near walked) (λ there. also (file path near walked) (λ is.
      also (right path near walked read_data) (bytes_shown path near walked there is))))
  in_turn_at (C.Write bytes path) lawful near near_to =
      also (way path near) (λ walked. also (exists path near walked) (λ there. also (file path near walked) (λ is.
      also (right path near walked write_data) (λ may. also refl (λ small. refl)))))
  in_turn_at (C.Append bytes path) lawful near near_to =
      also (way path near) (λ walked. also (exists path near walked) (λ there. also (file path near walked) (λ is.
      also (right path near walked append_data) (λ may.
      let size = size_shown path near walked there is may in
      also (ap (λ n. check_size (n + length bytes)) size) (λ small. ap (λ n. Size (n + length bytes)) size)))))
  in_turn_at (C.Remove path) lawful near near_to =
      also refl (λ not_root. also (way path near) (λ walked. also (exists path near walked) (λ there.
      let end = ends_of path Inval not_root in
      also (removal_alike path near end walked) (λ may.
      also (empty_alike path near end walked there may) (λ empty. refl)))))
  in_turn_at (C.Rename path to) lawful near near_to =
      also refl (λ outside. also (way path near) (λ walked. also (exists path near walked) (λ there.
      also (way to near_to) (λ walked_to. also (absent to near_to walked_to) (λ free.
      let apart = or_parts (is_root path || is_root to) (is_at_or_below to path) (not_refused _ _ outside) in
      let roots = or_parts (is_root path) (is_root to) apart.0 in
      let end = not_root_ends path roots.0 in
      let end_to = not_root_ends to roots.1 in
      let kind = (object_or_default a path).kind in
      also (removal_alike path near end walked) (λ removal.
      also (right_above to near_to end_to walked_to (right_to_add kind)
      ∙ ap (λ kind. check_right b caller (parent_of to) (right_to_add kind))
      (kind_of_alike a b caller path near.here walked)) (λ adds.
      also (too_deep_alike path near end walked to there removal) (λ fits.
      also (ap (cond (path_eq (parent_of path) (parent_of to)) None) (full_above to near_to end_to walked_to
      (adds_either kind (may a caller end_to.folder) (may_above to near_to end_to walked_to (right_to_add kind) adds))))
      (λ not_full. refl)))))))))
  in_turn_at (C.GetList path) lawful near near_to =
      also (way path near) (λ walked. also (exists path near walked) (λ there.
      also (right path near walked read_acl) (list_shown path near walked there)))
  in_turn_at (C.SetList aclflag entries path) lawful near near_to =
      also (way path near) (λ walked. also (exists path near walked) (λ there.
      also (right path near walked write_acl) (λ may.
      also (ap (λ kind. check_lawful (own_entries_fault (own_entries_of_setlist path aclflag entries) kind))
      (kind_of_alike a b caller path near.here walked)) (λ fits. refl))))
  in_turn_at (C.Chown group owner path) lawful near near_to =
      also (way path near) (λ walked. also (exists path near walked) (λ there.
      also (right path near walked write_owner) (λ may. refl)))
  in_turn_at (C.Access mask path) lawful near near_to =
      also (way path near) (λ walked. also (exists path near walked) (λ there.
      rights_shown path near walked there mask))

  pub reply_at : (command : CommandModel) → IsLawful command → AlikeAt a b caller (paths_of command).0
      → AlikeAt a b caller (paths_of command).1
      → (effect a caller command).reply ≡ (effect b caller command).reply
  reply_at command lawful near near_to =
      let each = in_turn_at command lawful near near_to in
      let Rest = reply a caller command ≡ reply b caller command in
      by_outcome (λ x y. (effect_by a caller command x).reply ≡ (effect_by b caller command y).reply) _ _
      (refused_alike Rest (checks a caller command) (checks b caller command) each)
      (λ passed _. passed_alike Rest (checks a caller command) (checks b caller command) each passed) (λ r. refl)

  module _ (alike : LooksAlike caller a b) (command : CommandModel) (lawful : IsLawful command) where
    pub in_turn : AlikeInTurn
        (reply a caller command ≡ reply b caller command) (checks a caller command) (checks b caller command)
    in_turn = in_turn_at command lawful (alike_at a b caller alike (paths_of command).0)
        (alike_at a b caller alike (paths_of command).1)

    pub reply_alike : (effect a caller command).reply ≡ (effect b caller command).reply
    reply_alike = reply_at command lawful (alike_at a b caller alike (paths_of command).0)
        (alike_at a b caller alike (paths_of command).1)
