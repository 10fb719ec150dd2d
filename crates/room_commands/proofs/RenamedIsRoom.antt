-- A room with a subtree moved is a room.
use Rattle.room_commands.proofs.Common.{◌≡◌, ℕ, zero, suc, ◌+◌, ◌-◌, ◌<◌, ◌≤◌, refl, ap, sym, ◌∙◌, arith, true, false}
use Rattle.room_commands.proofs.Common.{◌⊎◌, inl, inr, List, [], ◌∷◌, ◌++◌, map, drop, length, append-nil, append_assoc}
use Rattle.room_commands.proofs.Common.{None, Some, IsSome, is_some, lookup, AllByRecursion, cases_Bool}
use Rattle.room_commands.proofs.Common.{false_from_ne_true, length-append, length-drop, length_push, same_from_push}
use Rattle.room_commands.proofs.Common.{Folder, max_names, max_children, Name, Path, IsPath, IsFileName, path_eq}
use Rattle.room_commands.proofs.Common.{Object, Room, IsRoom, AreObjects, object_at, children, parent_of, parent_of_end}
use Rattle.room_commands.proofs.Common.{ends, StandsIn, standing_found, no_more_children, one_more_child}
use Rattle.room_commands.proofs.Common.{one_exchanged_child, is_at_or_below, moved, renamed}
use Rattle.room_records.proofs.Lists.{all_append}
use Rattle.room_records.proofs.PathParts.{path_parts, path_of_names}
use Rattle.room_commands.proofs.ChecksTell.{some_there}
use Rattle.room_commands.proofs.Renaming.{NoneBelow, at_behind, lookup_moved}
use Rattle.room_commands.proofs.RoomsNew.{same_or_other_path}
use Rattle.room_commands.proofs.RoomsRenamed.{rest_below, below_more, not_both, move, lookup_away, free_list}
use Rattle.room_commands.proofs.RoomsRenamed.{at_new_place, at_old_place, away, stands_after, Stands}
use Rattle.room_commands.proofs.RoomsRenamed.Stands.{Moved, Stayed}

all_drop : {X : Type 0} (P : X → Type 0) (n : ℕ) (xs : List X) → AllByRecursion P xs → AllByRecursion P (drop n xs)
all_drop P zero xs all = all
all_drop P (suc n) [] all = tt
all_drop P (suc n) (x ∷ xs) all = all_drop P n xs all.1

none_after_move : (path to : Path) (q : Path) (es : List (Path × Object))
    → NoneBelow to es → is_at_or_below q to ≡ false → lookup (path_eq q) es ≡ None
    → lookup (path_eq (moved path to q)) (map (move path to) es) ≡ None
none_after_move path to q es free off none = elim (cases_Bool (is_at_or_below q path)) [
  | inl below ↦ rw below (lookup_moved path to (drop (length path) q) es free
      ∙ ap (λ p. lookup (path_eq p) es) (sym (rest_below path q below)) ∙ none)
  | inr off_path ↦ rw off_path (lookup_away path to q off_path off es ∙ none)
]

module _ (path to : Path) (is_path : IsPath to) where
  moved_is_path : (q : Path) → IsPath q
      → (is_at_or_below q path ≡ true → length to + (length q - length path) ≤ max_names) → IsPath (moved path to q)
  moved_is_path q lawful fits = elim (cases_Bool (is_at_or_below q path)) [
    | inl below ↦ rw below (path_of_names (to ++ drop (length path) q)
        (omega (arith, fits below, length-append to (drop (length path) q), length-drop (length path) q))
        (all_append IsFileName to (drop (length path) q) (path_parts to is_path).names
        (all_drop IsFileName (length path) q (path_parts q lawful).names)))
    | inr off ↦ rw off lawful
  ]

  all_moved : (es : List (Path × Object)) → AreObjects es → NoneBelow to es
      → ((q : Path) (o : Object) → StandsIn es q o → is_at_or_below q path ≡ true
      → length to + (length q - length path) ≤ max_names)
      → AreObjects (map (move path to) es)
  all_moved [] once free fits = tt
  all_moved (e ∷ es) once free fits = (
    moved_is_path e.0 once.0 (fits e.0 e.1 (inl (refl, refl))),
    once.1,
    none_after_move path to e.0 es free.1 free.0 once.2,
    all_moved es once.3 free.1 (λ q o there. fits q o (inr there)),
  )

-- a subtree moves to a free place in a folder that is not full, and not into itself
pub record Moves (room : Room) (path folder : Path) (name : Name) : Type 0 where
  pub o : Object
  pub there : object_at room path ≡ Some o
  pub below_root : is_at_or_below [] path ≡ false
  pub apart : is_at_or_below (folder ++ name ∷ []) path ≡ false
  pub free : object_at room (folder ++ name ∷ []) ≡ None
  pub is_path : IsPath (folder ++ name ∷ [])
  pub above : Object
  pub stands : object_at room folder ≡ Some above
  pub is_folder : above.kind ≡ Folder
  pub fits : (q : Path) (other : Object) → object_at room q ≡ Some other → is_at_or_below q path ≡ true
      → length (folder ++ name ∷ []) + (length q - length path) ≤ max_names
  pub not_full : (parent_of path ≡ folder → ⊥) → length (children room folder) < max_children

module _ (room : Room) (lawful : IsRoom room) (path folder : Path)
    (name : Name) (moves : Moves room path folder name) where
  abbrev to : Path
  to = folder ++ name ∷ []

  abbrev later : Room
  later = renamed room path to

  at_new : (rest : Path) → object_at later (to ++ rest) ≡ object_at room (path ++ rest)
  at_new = at_new_place room lawful path to moves.o moves.apart moves.there moves.free

  stays : (q : Path) → is_at_or_below q path ≡ false → is_at_or_below q to ≡ false
      → object_at later q ≡ object_at room q
  stays = away room lawful path to moves.o moves.apart moves.there moves.free

  abbrev StandsAfter : Path → Object → Type 0
  StandsAfter = Stands room lawful path to moves.o moves.apart moves.there moves.free

  after : (q : Path) (o : Object) → object_at later q ≡ Some o → StandsAfter q o
  after = stands_after room lawful path to moves.o moves.apart moves.there moves.free

  root_off_to : (f : Path) → is_at_or_below [] (f ++ name ∷ []) ≡ false
  root_off_to [] = refl
  root_off_to (first ∷ f) = refl

  -- the folder of what is away is away
  off_by : (q : Path) (n : Name) (top : Path) → is_at_or_below (q ++ n ∷ []) top ≡ false → is_at_or_below q top ≡ false
  off_by q n top off = false_from_ne_true (is_at_or_below q top)
      (λ below. not_both (is_at_or_below (q ++ n ∷ []) top) (below_more top q (n ∷ []) below) off)

  -- that of the new place is away from both
  folder_off_to : is_at_or_below folder to ≡ false
  folder_off_to = false_from_ne_true (is_at_or_below folder to) (λ below.
      let n = ap length (rest_below to folder below) ∙ length-append to (drop (length to) folder) in
      omega (arith, n, length_push folder name))

  folder_stays : object_at later folder ≡ Some moves.above
  folder_stays = stays folder (off_by folder name path moves.apart) folder_off_to ∙ moves.stands

  abbrev AboveIs : Path → Type 0
  AboveIs q = (parent : Object) × (object_at later q ≡ Some parent) × (parent.kind ≡ Folder)

  -- a path that ends below the new place: its folder is below it, too
  split_below : (q : Path) (n first : Name) (rest : Path) (same : q ++ n ∷ [] ≡ to ++ first ∷ rest)
      → (q ≡ to ++ (ends first rest).folder) × (n ≡ (ends first rest).name)
  split_below q n first rest same =
      let end = ends first rest in
      same_from_push q (to ++ end.folder) n end.name
      (same ∙ ap (λ r. to ++ r) end.is ∙ sym (append_assoc to end.folder (end.name ∷ [])))

  -- the parent of what moved
  above_moved : (q : Path) (n : Name) (child : Object) (rest : Path)
      → q ++ n ∷ [] ≡ to ++ rest → object_at room (path ++ rest) ≡ Some child → AboveIs q
  above_moved q n child [] same is =
      let parts = same_from_push q folder n name (same ∙ append-nil to) in
      (moves.above, ap (object_at later) parts.0 ∙ folder_stays, moves.is_folder)
  above_moved q n child (first ∷ rest) same is =
      let end = ends first rest in
      let above = lawful.parents (path ++ end.folder) end.name child (ap (object_at room)
      (append_assoc path end.folder (end.name ∷ []) ∙ ap (λ r. path ++ r) (sym end.is)) ∙ is) in
      (above.0, ap (object_at later) (split_below q n first rest same).0 ∙ at_new end.folder ∙ above.1, above.2)

  parents_after : (q : Path) (n : Name) (child : Object) → object_at later (q ++ n ∷ []) ≡ Some child → AboveIs q
  parents_after q n child is = by_stand (q ++ n ∷ []) refl child (after (q ++ n ∷ []) child is)
    where
      by_stand : (p : Path) → q ++ n ∷ [] ≡ p → (other : Object) → StandsAfter p other → AboveIs q
      by_stand p e other (Moved same_p same_other rest same at) = above_moved q n other rest (e ∙ same) at
      by_stand p e other (Stayed same_p same_other off_path off_new at) =
          let above = lawful.parents q n other (rw e at) in
          (above.0, stays q (off_by q n path (rw e off_path)) (off_by q n to (rw e off_new)) ∙ above.1, above.2)

  -- what is in a folder came with the new name, is below the new place, or was there
  abbrev CameOrWas : Path → Name → Type 0
  CameOrWas f n = ((f ≡ folder) × (n ≡ name)) ⊎ ((is_at_or_below f to ≡ true) ⊎ IsSome (object_at room (f ++ n ∷ [])))

  pub came_or_was : (f : Path) (n : Name) → IsSome (object_at later (f ++ n ∷ [])) → CameOrWas f n
  came_or_was f n there =
      let found = some_there (object_at later (f ++ n ∷ [])) there in
      by_stand (f ++ n ∷ []) refl found.0 (after (f ++ n ∷ []) found.0 found.1)
    where
      moved_there : (rest : Path) → f ++ n ∷ [] ≡ to ++ rest → CameOrWas f n
      moved_there [] same = inl (same_from_push f folder n name (same ∙ append-nil to))
      moved_there (first ∷ rest) same =
          inr (inl (rw (split_below f n first rest same).0 (at_behind to (ends first rest).folder)))

      by_stand : (p : Path) → f ++ n ∷ [] ≡ p → (other : Object) → StandsAfter p other → CameOrWas f n
      by_stand p e other (Moved same_p same_other rest same at) = moved_there rest (e ∙ same)
      by_stand p e other (Stayed same_p same_other off_path off_new at) =
          inr (inr (ap (λ k. is_some (object_at room k)) e ∙ ap is_some at))

  few_below : (f : Path) → is_at_or_below f to ≡ true → length (children later f) ≤ max_children
  few_below f below =
      let rest = drop (length to) f in
      let fewer = no_more_children room later f (path ++ rest) (λ n there.
      let as_new : object_at later (f ++ n ∷ []) ≡ object_at room (path ++ (rest ++ n ∷ [])) =
      ap (λ p. object_at later (p ++ n ∷ [])) (rest_below to f below)
      ∙ ap (object_at later) (append_assoc to rest (n ∷ [])) ∙ at_new (rest ++ n ∷ []) in
      ap (λ p. is_some (object_at room p)) (append_assoc path rest (n ∷ [])) ∙ sym (ap is_some as_new) ∙ there) in
      omega (arith, fewer, lawful.few (path ++ rest))

  among_folder : (n : Name) → IsSome (object_at later (folder ++ n ∷ []))
      → (n ≡ name) ⊎ IsSome (object_at room (folder ++ n ∷ []))
  among_folder n there = elim (came_or_was folder n there) [
    | inl new ↦ inl new.1
    | inr old ↦ elim old [
      | inl below ↦ absurd (not_both (is_at_or_below folder to) below folder_off_to)
      | inr was ↦ inr was
    ]
  ]

  -- the moved object left the folder that it comes to
  few_same : (p : Path) → path ≡ p → is_at_or_below [] p ≡ false
      → parent_of p ≡ folder → length (children later folder) ≤ max_children
  few_same [] e below_root in_folder = absurd (let no : true ≡ false = below_root in cc)
  few_same (first ∷ rest) e below_root in_folder =
      let end = ends first rest in
      let in_it : end.folder ≡ folder =
      sym (parent_of_end end.folder end.name) ∙ ap parent_of (sym end.is) ∙ in_folder in
      let path_is : path ≡ folder ++ end.name ∷ [] = e ∙ end.is ∙ ap (λ f. f ++ end.name ∷ []) in_it in
      let gone : object_at later (folder ++ end.name ∷ []) ≡ None =
      ap (object_at later) (sym path_is ∙ sym (append-nil path))
      ∙ at_old_place room lawful path to moves.o moves.apart moves.there moves.free [] in
      let was : is_some (object_at room (folder ++ end.name ∷ [])) ≡ true =
      ap (λ p. is_some (object_at room p)) (sym path_is) ∙ ap is_some moves.there in
      let fewer = one_exchanged_child room later folder name end.name moves.o.kind gone was among_folder in
      omega (arith, fewer, lawful.few folder)

  few_after : (f : Path) → length (children later f) ≤ max_children
  few_after f = elim (cases_Bool (is_at_or_below f to)) [
    | inl below ↦ few_below f below
    | inr off ↦ elim (same_or_other_path f folder) [
      | inl here ↦ rw here few_in_folder
      | inr other ↦ (
          let fewer = no_more_children room later f f (λ n there. elim (came_or_was f n there) [
            | inl new ↦ absurd (other new.0)
            | inr old ↦ elim old [ inl below ↦ absurd (not_both (is_at_or_below f to) below off) | inr was ↦ was ]
          ]) in
          omega (arith, fewer, lawful.few f))
    ]
  ]
    where
      few_in_folder : length (children later folder) ≤ max_children
      few_in_folder = elim (same_or_other_path (parent_of path) folder) [
        | inl inside ↦ few_same path refl moves.below_root inside
        | inr elsewhere ↦ (
            let more = one_more_child room later folder folder name moves.o.kind among_folder in
            omega (arith, more, moves.not_full elsewhere))
      ]

  pub renamed_is_room : IsRoom (renamed room path (folder ++ name ∷ []))
  renamed_is_room = record {
    root = (lawful.root.0, stays [] moves.below_root (root_off_to folder) ∙ lawful.root.1, lawful.root.2);
    parents = parents_after;
    once = all_moved path to moves.is_path room.objects lawful.once
        (free_list room lawful path to moves.o moves.apart moves.there moves.free)
        (λ q other stands below. moves.fits q other (standing_found room.objects lawful.once q other stands) below);
    few = few_after;
  }
