-- No check and no change looks at the bytes of a file.
use Rattle.room_commands.proofs.Common.{◌≡◌, ℕ, ◌+◌, ◌-◌, refl, ap, sym, ◌∙◌, arith, Bool, true, false, not, cond}
use Rattle.room_commands.proofs.Common.{List, [], ◌∷◌, ◌++◌, map, length, Option, None, Some, nat_lt, nat_le}
use Rattle.room_commands.proofs.Common.{option_map, bit_and, is_none, max, lookup, filter_map, map-append, length-map}
use Rattle.room_commands.proofs.Common.{Kind, File, Folder, read_data, write_data, add_file}
use Rattle.room_commands.proofs.Common.{append_data, delete_child, delete_object}
use Rattle.room_commands.proofs.Common.{SubjectModel, allowed_mask, own_entries_fault}
use Rattle.room_commands.proofs.Common.{max_names, max_children, Name, Path, path_eq, Object, Room, object_at, children}
use Rattle.room_commands.proofs.Common.{child_in, by_name, list_of, standing_of, parent_of, without_bytes}
use Rattle.room_commands.proofs.Common.{lists_without_bytes, CommandModel, Refusal, About, Names, Size, Bytes, Entries}
use Rattle.room_commands.proofs.Common.{Allowed, NotEmpty, Exist, TooDeep, FolderFull, own_entries_of_setlist}
use Rattle.room_commands.proofs.Common.{RoomCheck, run_check, checks_of, first_refusal, checks, refuse_if, check_right}
use Rattle.room_commands.proofs.Common.{check_size}
use Rattle.room_commands.proofs.Common.{check_folder_full}
use Rattle.room_commands.proofs.Common.{check_lawful, right_to_add, bytes_at, is_at_or_below}
use Rattle.room_commands.proofs.Common.{depth_in, effect, effect_by, changed, reply, attributes_of, size_of, with_new}
use Rattle.room_commands.proofs.Common.{moved, new_object, may, object_or_default}
use Rattle.std.specs.List.{filter}
use Rattle.room_commands.specs.CommandModel as C
use Rattle.room_commands.specs.Checks as K
use Rattle.room_commands.specs.OtherBytes.{room_with, command_with, reply_with}
use Rattle.room_commands.proofs.Rights.{all_none}
use Rattle.room_commands.proofs.RoomLaws.{some_alike, exists_alike, folder_alike, file_alike, right_alike}
use Rattle.room_commands.proofs.RoomLaws.{walk_alike}
use Rattle.room_commands.proofs.Shorthands.{bytes_of, kind_of, object_with, or_no_object, removal_refusal}

module _ (new : ℕ → ℕ) where
  abbrev entry_with : Path × Object → Path × Object
  entry_with e = (e.0, object_with new e.1)

  found_with : (test : Path → Bool) (es : List (Path × Object))
      → lookup test (map entry_with es) ≡ option_map (object_with new) (lookup test es)
  found_with test [] = refl
  found_with test (e ∷ es) = grind (arith, found_with test es)

  listed_with : (folder : Path) (es : List (Path × Object))
      → filter_map (child_in folder) (map entry_with es) ≡ filter_map (child_in folder) es
  listed_with folder [] = refl
  listed_with folder (e ∷ es) = grind (arith, listed_with folder es)

  depth_with : (path : Path) (es : List (Path × Object)) → depth_in path (map entry_with es) ≡ depth_in path es
  depth_with path [] = refl
  depth_with path (e ∷ es) =
      ap (λ d. cond (is_at_or_below e.0 path) (max (length e.0 - length path) d) d) (depth_with path es)

  -- a change that does the same to an object with other bytes
  changed_with : (path : Path) (change then : Object → Object)
      → ((o : Object) → then (object_with new o) ≡ object_with new (change o)) → (es : List (Path × Object))
      → map (λ (e : Path × Object). cond (path_eq path e.0) (e.0, then e.1) e) (map entry_with es)
      ≡ map entry_with (map (λ (e : Path × Object). cond (path_eq path e.0) (e.0, change e.1) e) es)
  changed_with path change then same [] = refl
  changed_with path change then same (e ∷ es) =
      (λ i. by_test (path_eq path e.0) i ∷ changed_with path change then same es i)
    where
      by_test : (t : Bool) → cond t (e.0, then (object_with new e.1)) (entry_with e)
          ≡ entry_with (cond t (e.0, change e.1) e)
      by_test true = (λ i. (e.0, same e.1 i))
      by_test false = refl

  left_with : (path : Path) (es : List (Path × Object))
      → filter (λ (e : Path × Object). not (path_eq path e.0)) (map entry_with es)
      ≡ map entry_with (filter (λ (e : Path × Object). not (path_eq path e.0)) es)
  left_with path [] = refl
  left_with path (e ∷ es) = grind (arith, left_with path es)

  moved_with : (path to : Path) (es : List (Path × Object))
      → map (λ (e : Path × Object). (moved path to e.0, e.1)) (map entry_with es)
      ≡ map entry_with (map (λ (e : Path × Object). (moved path to e.0, e.1)) es)
  moved_with path to [] = refl
  moved_with path to (e ∷ es) = ap (λ others. (moved path to e.0, object_with new e.1) ∷ others) (moved_with path to es)

  module _ (room : Room) (caller : SubjectModel) where
    abbrev other : Room
    other = room_with new room

    there : (q : Path) → object_at other q ≡ option_map (object_with new) (object_at room q)
    there q = found_with (path_eq q) room.objects

    bare_with : (o : Option Object) → without_bytes (option_map (object_with new) o) ≡ without_bytes o
    bare_with None = refl
    bare_with (Some o) = refl

    bare : (q : Path) → without_bytes (object_at other q) ≡ without_bytes (object_at room q)
    bare q = ap without_bytes (there q) ∙ bare_with (object_at room q)

    names : (q : Path) → children other q ≡ children room q
    names q = ap by_name (listed_with q room.objects)

    lists : (q : Path) → list_of other q ≡ list_of room q
    lists = lists_without_bytes other room bare

    right : (q : Path) (wanted : ℕ) → check_right other caller q wanted ≡ check_right room caller q wanted
    right = right_alike other room caller bare

    full : (q : Path) → check_folder_full other q ≡ check_folder_full room q
    full q = ap (λ (l : List (Name × Kind)). refuse_if (nat_le max_children (length l)) FolderFull) (names q)

    bytes_with : (o : Option Object) → bytes_of (option_map (object_with new) o) ≡ map new (bytes_of o)
    bytes_with None = refl
    bytes_with (Some o) = refl

    bytes_there : (q : Path) → bytes_at other q ≡ map new (bytes_at room q)
    bytes_there q = ap bytes_of (there q) ∙ bytes_with (object_at room q)

    size_there : (q : Path) → length (bytes_at other q) ≡ length (bytes_at room q)
    size_there q = ap length (bytes_there q) ∙ length-map (bytes_at room q) new

    kind_with : (o : Option Object) → kind_of (option_map (object_with new) o) ≡ kind_of o
    kind_with None = refl
    kind_with (Some o) = refl

    kind : (q : Path) → kind_of (object_at other q) ≡ kind_of (object_at room q)
    kind q = ap kind_of (there q) ∙ kind_with (object_at room q)

    -- so each kind of check is the same
    same_check : (check : RoomCheck) → run_check other caller check ≡ run_check room caller check
    same_check (K.Walks q) = walk_alike other room caller bare q
    same_check (K.IsThere q) = exists_alike other room caller bare q
    same_check (K.IsFree q) = ap (λ t. refuse_if t Exist) (some_alike other room caller bare q)
    same_check (K.IsNoFile q) = folder_alike other room caller bare q
    same_check (K.IsNoFolder q) = file_alike other room caller bare q
    same_check (K.IsEmpty q) = ap (λ (l : List (Name × Kind)). refuse_if (nat_lt 0 (length l)) NotEmpty) (names q)
    same_check (K.IsAllowed q wanted) = right q wanted
    same_check (K.MayRemove q) =
        (λ i. removal_refusal q (right q delete_object i) (right (parent_of q) delete_child i))
    same_check (K.MayMoveTo q to) = right (parent_of to) (right_to_add (kind_of (object_at other q)))
        ∙ ap (λ kind. check_right room caller (parent_of to) (right_to_add kind)) (kind q)
    same_check (K.FolderTakes q) = full q
    same_check (K.FolderTakesMoved q to) = ap (cond (path_eq (parent_of q) (parent_of to)) None) (full (parent_of to))
    same_check (K.DepthFits q to) =
        ap (λ d. refuse_if (nat_lt max_names (length to + d)) TooDeep) (depth_with q room.objects)
    same_check (K.LongerFits q more) = ap (λ n. check_size (n + more)) (size_there q)
    same_check (K.EntriesFit own q) = ap (λ kind. check_lawful (own_entries_fault own kind)) (kind q)
    same_check check = refl

    asked_with : (command : CommandModel) → checks_of (command_with new command) ≡ checks_of command
    asked_with (C.Create bytes path) = (λ i. K.MakesBelowRoot path ∷ K.Walks path ∷ K.IsFree path
        ∷ K.IsAllowed (parent_of path) add_file ∷ K.SizeFits (length-map bytes new i) ∷ K.FolderTakes (parent_of path)
        ∷ K.RoomTakes ∷ [])
    asked_with (C.Write bytes path) = (λ i. K.Walks path ∷ K.IsThere path ∷ K.IsNoFolder path
        ∷ K.IsAllowed path write_data ∷ K.SizeFits (length-map bytes new i) ∷ [])
    asked_with (C.Append bytes path) = (λ i. K.Walks path ∷ K.IsThere path ∷ K.IsNoFolder path
        ∷ K.IsAllowed path append_data ∷ K.LongerFits path (length-map bytes new i) ∷ [])
    asked_with command = refl

    checks_with : (command : CommandModel) → checks other caller (command_with new command) ≡ checks room caller command
    checks_with command = ap (map (run_check other caller)) (asked_with command)
        ∙ (λ i. map (λ check. same_check check i) (checks_of command))

    default_with : (o : Option Object) → or_no_object (option_map (object_with new) o)
        ≡ object_with new (or_no_object o)
    default_with None = refl
    default_with (Some o) = refl

    default_there : (q : Path) → object_or_default other q ≡ object_with new (object_or_default room q)
    default_there q = ap or_no_object (there q) ∙ default_with (object_at room q)

    size_with : (q : Path) (kind : Kind) → size_of other q kind ≡ size_of room q kind
    size_with q File = size_there q
    size_with q Folder = ap length (names q)

    replies_with : (command : CommandModel)
        → reply other caller (command_with new command) ≡ reply_with new (reply room caller command)
    replies_with (C.Stat path) =
        let o = object_or_default room path in
        ap (λ found. About (attributes_of other path found)) (default_there path)
        ∙ ap (λ (n : ℕ). About (record (attributes_of room path o) { size = n })) (size_with path o.kind)
    replies_with (C.ListNames path) = ap Names (names path)
    replies_with (C.Create bytes path) = ap Size (length-map bytes new)
    replies_with (C.Read path) = ap Bytes (bytes_there path)
    replies_with (C.Write bytes path) = ap Size (length-map bytes new)
    replies_with (C.Append bytes path) = (λ i. Size (size_there path i + length-map bytes new i))
    replies_with (C.GetList path) = (λ i. Entries (default_there path i).aclflag (lists path i))
    replies_with (C.Access mask path) =
        (λ i. Allowed (bit_and mask (allowed_mask (lists path i) caller (standing_of (default_there path i)))))
    replies_with command = refl

    abbrev of_objects : List (Path × Object) → Room
    of_objects objects = record room { objects = objects }

    made_with : (path : Path) (kind : Kind) (bytes : List ℕ)
        → with_new other path (new_object other caller path kind (map new bytes))
        ≡ room_with new (with_new room path (new_object room caller path kind bytes))
    made_with path kind bytes =
        ap (λ (o : Object). with_new other path (record (new_object room caller path kind (map new bytes)) {
          group = o.group;
        })) (default_there (parent_of path))

    rooms_with : (command : CommandModel)
        → changed other caller (command_with new command) ≡ room_with new (changed room caller command)
    rooms_with (C.Mkdir path) = made_with path Folder []
    rooms_with (C.Create bytes path) = made_with path File bytes
    rooms_with (C.Write bytes path) = ap of_objects (changed_with path (λ o. record o { bytes = bytes })
        (λ o. record o { bytes = map new bytes }) (λ o. refl) room.objects)
    rooms_with (C.Append bytes path) = ap of_objects (changed_with path (λ o. record o { bytes = o.bytes ++ bytes })
        (λ o. record o { bytes = o.bytes ++ map new bytes })
        (λ o. ap (λ (l : List ℕ). record o { bytes = l }) (sym (map-append new o.bytes bytes))) room.objects)
    rooms_with (C.Remove path) = ap of_objects (left_with path room.objects)
    rooms_with (C.Rename path to) = ap of_objects (moved_with path to room.objects)
    rooms_with (C.SetList aclflag entries path) =
        let set = (λ (o : Object). record o { aclflag = aclflag; own = own_entries_of_setlist path aclflag entries }) in
        ap of_objects (changed_with path set set (λ o. refl) room.objects)
    rooms_with (C.Chown group owner path) =
        let set = (λ (o : Object). record o { owner = owner; group = group }) in
        ap of_objects (changed_with path set set (λ o. refl) room.objects)
    rooms_with command = refl

    module _ (command : CommandModel) where
      room_by : (r : Option Refusal) → (effect_by other caller (command_with new command) r).room
          ≡ room_with new (effect_by room caller command r).room
      room_by None = rooms_with command
      room_by (Some refusal) = refl

      reply_by : (r : Option Refusal) → (effect_by other caller (command_with new command) r).reply
          ≡ reply_with new (effect_by room caller command r).reply
      reply_by None = replies_with command
      reply_by (Some refusal) = refl

      pub same_room : (effect other caller (command_with new command)).room
          ≡ room_with new (effect room caller command).room
      same_room =
          ap (λ all. (effect_by other caller (command_with new command) (first_refusal all)).room) (checks_with command)
          ∙ room_by (first_refusal (checks room caller command))

      pub same_reply : (effect other caller (command_with new command)).reply
          ≡ reply_with new (effect room caller command).reply
      same_reply =
          ap (λ all. (effect_by other caller (command_with new command) (first_refusal all)).reply)
          (checks_with command)
          ∙ reply_by (first_refusal (checks room caller command))

-- bytes are the answer to a READ, by READ_DATA
module _ (room : Room) (caller : SubjectModel) where
  abbrev IsRead : CommandModel → Type 0
  IsRead command = (path : Path) × (command ≡ C.Read path) × (may room caller path read_data ≡ true)

  read_right : (path : Path) → first_refusal (checks room caller (C.Read path)) ≡ None
      → may room caller path read_data ≡ true
  read_right path passed =
      let (_, (_, (_, (right, _)))) = all_none (checks room caller (C.Read path)) passed in ap is_none right

  read_by : (command : CommandModel) (r : Option Refusal) → first_refusal (checks room caller command) ≡ r
      → (bytes : List ℕ) → (effect_by room caller command r).reply ≡ Bytes bytes → IsRead command
  read_by command (Some refusal) passed bytes is = cc
  read_by (C.Read path) None passed bytes is = (path, refl, read_right path passed)
  read_by command None passed bytes is = cc

  pub read_alone : (command : CommandModel) (bytes : List ℕ) → (effect room caller command).reply ≡ Bytes bytes
      → IsRead command
  read_alone command bytes is = read_by command (first_refusal (checks room caller command)) refl bytes is
