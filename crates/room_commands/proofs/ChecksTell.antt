-- What a check that passes tells of the room.
use Rattle.room_commands.proofs.Common.{◌≡◌, ℕ, ◌+◌, ◌-◌, ◌<◌, ◌≤◌, refl, ap, sym, ◌∙◌, arith, Bool, true, false, []}
use Rattle.room_commands.proofs.Common.{◌∷◌, ◌++◌, length, Option, None, Some, is_some, nat_lt, nat_le, ltb-false}
use Rattle.room_commands.proofs.Common.{leb-false, not-false, Kind, File, Folder, SubjectModel, execute, max_names}
use Rattle.room_commands.proofs.Common.{max_children, max_document, Name, Path, Object, Room, object_at, children}
use Rattle.room_commands.proofs.Common.{none_is_some, found_stands, RefusalCode, refuse_if, is_kind, is_file}
use Rattle.room_commands.proofs.Common.{check_exists, check_absent, check_folder, check_file, check_right, walk}
use Rattle.room_commands.proofs.Common.{prefix_refusal, check_size, check_folder_full, check_depth, depth_in}
use Rattle.room_commands.proofs.Common.{is_at_or_below}
use Rattle.room_commands.proofs.Rights.{all_none, at_front, walk_passes}
use Rattle.room_commands.proofs.DepthTells.{within_depth}

pub not_refused : (b : Bool) (code : RefusalCode) → refuse_if b code ≡ None → b ≡ false
not_refused true code h = absurd (none_is_some _ (sym h))
not_refused false code h = refl

pub some_there : (o : Option Object) → is_some o ≡ true → (found : Object) × (o ≡ Some found)
some_there None h = absurd (let e : false ≡ true = h in cc)
some_there (Some found) h = (found, refl)

pub none_there : (o : Option Object) → is_some o ≡ false → o ≡ None
none_there None h = refl
none_there (Some found) h = absurd (let e : true ≡ false = h in cc)

pub folder_of_kind : (kind : Kind) → is_file kind ≡ false → kind ≡ Folder
folder_of_kind File h = absurd (let e : true ≡ false = h in cc)
folder_of_kind Folder h = refl

pub file_is_no_folder : (kind : Kind) → is_file kind ≡ true → kind ≡ Folder → ⊥
file_is_no_folder kind h e = let no : true ≡ false = sym h ∙ ap is_file e in cc

module _ (room : Room) where
  -- an object is there
  pub exists_there : (path : Path) → check_exists room path ≡ None → (o : Object) × (object_at room path ≡ Some o)
  exists_there path h = some_there (object_at room path) (not-false _ (not_refused _ _ h))

  -- none is
  pub absent_there : (path : Path) → check_absent room path ≡ None → object_at room path ≡ None
  absent_there path h = none_there (object_at room path) (not_refused _ _ h)

  pub folder_there : (path : Path) (o : Object) → object_at room path ≡ Some o
      → check_folder room path ≡ None → o.kind ≡ Folder
  folder_there path o is h =
      folder_of_kind o.kind (sym (ap (is_kind File) is) ∙ not_refused (is_kind File (object_at room path)) _ h)

  pub file_there : (path : Path) (o : Object) → object_at room path ≡ Some o
      → check_file room path ≡ None → is_file o.kind ≡ true
  file_there path o is h =
      not-false (is_file o.kind) (sym (ap (is_kind Folder) is) ∙ not_refused (is_kind Folder (object_at room path)) _ h)

  pub small_enough : (size : ℕ) → check_size size ≡ None → size ≤ max_document
  small_enough size h = ltb-false max_document size (not_refused (nat_lt max_document size) _ h)

  pub not_full_there : (folder : Path) → check_folder_full room folder ≡ None
      → length (children room folder) < max_children
  not_full_there folder h = leb-false max_children (length (children room folder))
      (not_refused (nat_le max_children (length (children room folder))) _ h)

module _ (room : Room) (caller : SubjectModel) where
  -- at its end stands a folder
  pub walk_ends_in_folder : (folder : Path) (name : Name) → walk room caller (folder ++ name ∷ []) ≡ None
      → (above : Object) × (object_at room folder ≡ Some above) × (above.kind ≡ Folder)
  walk_ends_in_folder folder name h =
      let here = at_front (λ front. prefix_refusal room caller front ≡ None)
      folder [] name (walk_passes room caller (folder ++ name ∷ []) h) in
      let (there, (is_folder, _)) = all_none (check_exists room folder ∷ check_folder room folder
      ∷ check_right room caller folder execute ∷ []) here in
      let above = exists_there room folder there in
      (above.0, above.1, folder_there room folder above.0 above.1 is_folder)

-- each object of a subtree that is moved keeps to the limit on names
pub depth_there : (room : Room) (path to : Path) → check_depth room path to ≡ None
    → (q : Path) (o : Object) → object_at room q ≡ Some o → is_at_or_below q path ≡ true
    → length to + (length q - length path) ≤ max_names
depth_there room path to h q o is below =
    let within = within_depth path room.objects q o (found_stands room.objects q o is) below in
    omega (arith, within, ltb-false max_names (length to + depth_in path room.objects) (not_refused _ _ h))
