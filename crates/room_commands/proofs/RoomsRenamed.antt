-- A room with a subtree moved.
use Rattle.room_commands.proofs.Common.{◌≡◌, refl, ap, sym, ◌∙◌, Bool, true, false, cond, ◌⊎◌, inl, inr, List, [], ◌∷◌}
use Rattle.room_commands.proofs.Common.{◌++◌, map, drop, length, append_assoc, None, Some, lookup, and_parts, both_ways}
use Rattle.room_commands.proofs.Common.{cases_Bool, false_from_ne_true, Path, path_eq, name_eq, Object, Room, IsRoom}
use Rattle.room_commands.proofs.Common.{object_at, none_is_some, other_path, StandsIn, standing_found, nothing_below}
use Rattle.room_commands.proofs.Common.{name_itself, same_name, is_at_or_below, moved, renamed}
use Rattle.room_commands.proofs.Renaming.{NoneBelow, at_behind, lookup_moved}

-- a path at or below another is that one and a rest
pub rest_below : (top path : Path) → is_at_or_below path top ≡ true → path ≡ top ++ drop (length top) path
rest_below [] path below = refl
rest_below (name ∷ top) [] below = let no : false ≡ true = below in cc
rest_below (name ∷ top) (other ∷ path) below =
    let parts = and_parts (name_eq name other) (is_at_or_below path top) below in
    let names : name ≡ other = same_name name other parts.0 in
    let rests = rest_below top path parts.1 in
    (λ i. sym names i ∷ rests i)

pub below_more : (top path rest : Path) → is_at_or_below path top ≡ true → is_at_or_below (path ++ rest) top ≡ true
below_more top path rest below =
    rw (rest_below top path below, append_assoc) (at_behind top (drop (length top) path ++ rest))

-- two paths that a third continues: one continues the other
pub one_continues : (a b : Path) (r s : Path) → a ++ r ≡ b ++ s → (is_at_or_below a b ≡ true)
    ⊎ (is_at_or_below b a ≡ true)
one_continues [] b r s same = inr (at_behind [] b)
one_continues (x ∷ a) [] r s same = inl (at_behind [] (x ∷ a))
one_continues (x ∷ a) (y ∷ b) r s same =
    let heads : x ≡ y = cc in
    let tails : a ++ r ≡ b ++ s = cc in
    elim (one_continues a b r s tails) [
      | inl below ↦ inl (rw (heads, name_itself y) below)
      | inr below ↦ inr (rw (heads, name_itself y) below)
    ]

pub not_both : (b : Bool) → b ≡ true → b ≡ false → ⊥
not_both b is off = both_ways b off is

abbrev pub move : Path → Path → Path × Object → Path × Object
move path to e = (moved path to e.0, e.1)

-- a path away from both places keeps what it has
pub lookup_away : (path to q : Path) → is_at_or_below q path ≡ false
    → is_at_or_below q to ≡ false → (es : List (Path × Object))
    → lookup (path_eq q) (map (move path to) es) ≡ lookup (path_eq q) es
lookup_away path to q off_path off_to [] = refl
lookup_away path to q off_path off_to (e ∷ es) =
    ap (λ b. cond b (Some e.1) (lookup (path_eq q) (map (move path to) es))) here
    ∙ ap (cond (path_eq q e.0) (Some e.1)) (lookup_away path to q off_path off_to es)
  where
    here : path_eq q (moved path to e.0) ≡ path_eq q e.0
    here = elim (cases_Bool (is_at_or_below e.0 path)) [
      | inl below ↦ rw below (
          other_path q (to ++ drop (length path) e.0) (λ same.
          not_both (is_at_or_below q to) (rw same (at_behind to (drop (length path) e.0))) off_to)
          ∙ sym (other_path q e.0 (λ same. not_both (is_at_or_below q path) (rw same below) off_path)))
      | inr off ↦ rw off refl
    ]

-- nothing is left at the old place
lookup_left : (path to rest : Path) → is_at_or_below to path ≡ false
    → is_at_or_below path to ≡ false → (es : List (Path × Object))
    → lookup (path_eq (path ++ rest)) (map (move path to) es) ≡ None
lookup_left path to rest apart apart' [] = refl
lookup_left path to rest apart apart' (e ∷ es) =
    ap (λ b. cond b (Some e.1) (lookup (path_eq (path ++ rest)) (map (move path to) es))) here
    ∙ lookup_left path to rest apart apart' es
  where
    here : path_eq (path ++ rest) (moved path to e.0) ≡ false
    here = elim (cases_Bool (is_at_or_below e.0 path)) [
      | inl below ↦ rw below (other_path (path ++ rest) (to ++ drop (length path) e.0)
          (λ same. elim (one_continues path to rest (drop (length path) e.0) same) [
            | inl below_to ↦ not_both (is_at_or_below path to) below_to apart'
            | inr below_path ↦ not_both (is_at_or_below to path) below_path apart
          ]))
      | inr off ↦ rw off (other_path (path ++ rest) e.0
          (λ same. not_both (is_at_or_below e.0 path) (rw (← same) (at_behind path rest)) off))
    ]

none_below : (to : Path) (es : List (Path × Object))
    → ((k : Path) (o : Object) → StandsIn es k o → is_at_or_below k to ≡ false) → NoneBelow to es
none_below to [] off = tt
none_below to (e ∷ es) off = (off e.0 e.1 (inl (refl, refl)), none_below to es (λ k o there. off k o (inr there)))

module _ (room : Room) (lawful : IsRoom room) (path to : Path) (o : Object) (apart : is_at_or_below to path ≡ false)
    (there : object_at room path ≡ Some o) (free : object_at room to ≡ None) where
  -- no object is at the new place or below it
  pub off_to : (k : Path) (other : Object) → object_at room k ≡ Some other → is_at_or_below k to ≡ false
  off_to k other is = false_from_ne_true (is_at_or_below k to) (λ below.
      none_is_some other (sym (nothing_below room lawful (drop (length to) k) to free)
      ∙ ap (object_at room) (sym (rest_below to k below)) ∙ is))

  pub free_list : NoneBelow to room.objects
  free_list = none_below to room.objects
      (λ k other stands. off_to k other (standing_found room.objects lawful.once k other stands))

  apart_too : is_at_or_below path to ≡ false
  apart_too = off_to path o there

  -- below the new place stands what stood below the old one
  pub at_new_place : (rest : Path) → object_at (renamed room path to) (to ++ rest) ≡ object_at room (path ++ rest)
  at_new_place rest = lookup_moved path to rest room.objects free_list

  -- nothing is left at the old place
  pub at_old_place : (rest : Path) → object_at (renamed room path to) (path ++ rest) ≡ None
  at_old_place rest = lookup_left path to rest apart apart_too room.objects

  -- all else stays
  pub away : (q : Path) → is_at_or_below q path ≡ false → is_at_or_below q to ≡ false
      → object_at (renamed room path to) q ≡ object_at room q
  away q off_path off_new = lookup_away path to q off_path off_new room.objects

  -- an object stands where its path was moved
  pub at_moved : (q : Path) (other : Object) → object_at room q ≡ Some other
      → object_at (renamed room path to) (moved path to q) ≡ Some other
  at_moved q other is = elim (cases_Bool (is_at_or_below q path)) [
    | inl below ↦ rw below
        (at_new_place (drop (length path) q) ∙ ap (object_at room) (sym (rest_below path q below)) ∙ is)
    | inr off ↦ rw off (away q off (off_to q other is) ∙ is)
  ]

  -- a path that has an object afterwards: below the new place, or away from both
  pub data Stands : Path → Object → Type 0 where
    Moved : (q : Path) (other : Object) (rest : Path) → q ≡ to ++ rest
        → object_at room (path ++ rest) ≡ Some other → Stands q other
    Stayed : (q : Path) (other : Object) → is_at_or_below q path ≡ false
        → is_at_or_below q to ≡ false → object_at room q ≡ Some other → Stands q other

  pub stands_after : (q : Path) (other : Object) → object_at (renamed room path to) q ≡ Some other → Stands q other
  stands_after q other is = elim (cases_Bool (is_at_or_below q to)) [
    | inl below ↦ (
        let rest = drop (length to) q in
        let same = rest_below to q below in
        Moved q other rest same (sym (at_new_place rest) ∙ ap (object_at (renamed room path to)) (sym same) ∙ is))
    | inr off ↦ (
        let off_path = false_from_ne_true (is_at_or_below q path) (λ below.
        none_is_some other (sym (at_old_place (drop (length path) q))
        ∙ ap (object_at (renamed room path to)) (sym (rest_below path q below)) ∙ is)) in
        Stayed q other off_path off (sym (away q off_path off) ∙ is))
  ]
