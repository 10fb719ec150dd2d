-- A room with the object at one path changed.
use Rattle.room_commands.proofs.Common.{◌≡◌, refl, ap, sym, ◌∙◌, Bool, true, false, cond, List, [], ◌∷◌, ◌++◌, map}
use Rattle.room_commands.proofs.Common.{Option, None, Some, option_map, arith, inl, inr, length, ◌-◌, max, lookup}
use Rattle.room_commands.proofs.Common.{cases_Bool, Kind, Path, path_eq, Object, Room, IsRoom, IsObject, AreObjects}
use Rattle.room_commands.proofs.Common.{object_at, children, some_is, none_is_some, same_path, path_itself, other_path}
use Rattle.room_commands.proofs.Common.{kind_of_child, children_rise, same_entries, depth_in, is_at_or_below}
use Rattle.room_commands.proofs.Common.{with_object}
use Rattle.std.proofs.lemmas.Grind.{common_steps}
use Rattle.room_commands.proofs.RoomsNew.{same_or_other_path}

module _ (path : Path) (change : Object → Object) where
  abbrev change_at : Path × Object → Path × Object
  change_at e = cond (path_eq path e.0) (e.0, change e.1) e

  changed_here : (es : List (Path × Object))
      → lookup (path_eq path) (map change_at es) ≡ option_map change (lookup (path_eq path) es)
  changed_here [] = refl
  changed_here (e ∷ es) = grind (arith, common_steps, changed_here es)

  left_elsewhere : (q : Path) → (q ≡ path → ⊥) → (es : List (Path × Object))
      → lookup (path_eq q) (map change_at es) ≡ lookup (path_eq q) es
  left_elsewhere q apart [] = refl
  left_elsewhere q apart (e ∷ es) = elim (cases_Bool (path_eq path e.0)) [
    | inl here ↦ (
        let no : path_eq q e.0 ≡ false = other_path q e.0 (λ same. apart (same ∙ sym (same_path path e.0 here))) in
        rw (here, no) (left_elsewhere q apart es))
    | inr there ↦ rw there (ap (cond (path_eq q e.0) (Some e.1)) (left_elsewhere q apart es))
  ]

  none_stays : (test : Path → Bool) (es : List (Path × Object))
      → lookup test es ≡ None → lookup test (map change_at es) ≡ None
  none_stays test [] none = refl
  none_stays test (e ∷ es) none = elim (cases_Bool (test e.0)) [
    | inl passes ↦ absurd (none_is_some e.1 (sym (rw passes at none)))
    | inr fails ↦ (
        let rest = none_stays test es (rw fails at none) in
        elim (cases_Bool (path_eq path e.0)) [ inl here ↦ rw (here, fails) rest | inr there ↦ rw (there, fails) rest ])
  ]

  all_objects : (es : List (Path × Object)) → AreObjects es
      → ((o : Object) → lookup (path_eq path) es ≡ Some o → IsObject (change o)) → AreObjects (map change_at es)
  all_objects [] once becomes = tt
  all_objects (e ∷ es) once becomes = elim (cases_Bool (path_eq path e.0)) [
    | inl here ↦ rw here (
      once.0,
      becomes e.1 (rw here refl),
      none_stays (path_eq e.0) es once.2,
      all_objects es once.3 (λ o found. absurd (none_is_some o
          (sym once.2 ∙ ap (λ p. lookup (path_eq p) es) (sym (same_path path e.0 here)) ∙ found))),
    )
    | inr there ↦ rw there (
      once.0,
      once.1,
      none_stays (path_eq e.0) es once.2,
      all_objects es once.3 (λ o found. becomes o (rw there found)),
    )
  ]

  depth_by : (q : Path) (es : List (Path × Object)) → depth_in q (map change_at es) ≡ depth_in q es
  depth_by q [] = refl
  depth_by q (e ∷ es) =
      let again = ap (λ d. cond (is_at_or_below e.0 q) (max (length e.0 - length q) d) d) (depth_by q es) in
      elim (cases_Bool (path_eq path e.0)) [ inl here ↦ rw here again | inr other ↦ rw other again ]

module _ (room : Room) (path : Path) (change : Object → Object) where
  -- at its path the changed object, if there was one, and elsewhere what was there
  pub at_changed : object_at (with_object room path change) path ≡ option_map change (object_at room path)
  at_changed = changed_here path change room.objects

  pub elsewhere_unchanged : (q : Path) → (q ≡ path → ⊥) → object_at (with_object room path change) q ≡ object_at room q
  elsewhere_unchanged q apart = left_elsewhere path change q apart room.objects

  -- what stands at a path afterwards
  pub after_change : (q : Path) → object_at (with_object room path change) q
      ≡ cond (path_eq q path) (option_map change (object_at room q)) (object_at room q)
  after_change q = elim (same_or_other_path q path) [
    | inl here ↦ rw (here, path_itself path) at_changed
    | inr apart ↦ rw (other_path q path apart) (elsewhere_unchanged q apart)
  ]

  -- each subtree is as deep as it was
  pub depth_stays : (q : Path) → depth_in q (with_object room path change).objects ≡ depth_in q room.objects
  depth_stays q = depth_by path change q room.objects

  module _ (keeps_kind : (o : Object) → (change o).kind ≡ o.kind) where
    pub kinds_stay : (q : Path) → option_map (λ (o : Object). o.kind) (object_at (with_object room path change) q)
        ≡ option_map (λ (o : Object). o.kind) (object_at room q)
    kinds_stay q = ap (option_map (λ (o : Object). o.kind)) (after_change q)
        ∙ by_test (path_eq q path) (object_at room q)
      where
        by_test : (b : Bool) (o : Option Object) →
            option_map (λ (f : Object). f.kind) (cond b (option_map change o) o) ≡ option_map (λ (f : Object). f.kind) o
        by_test true None = refl
        by_test true (Some o) = ap Some (keeps_kind o)
        by_test false o = refl

    -- names and kinds in each folder stay
    pub children_stay : (folder : Path) → children (with_object room path change) folder ≡ children room folder
    children_stay folder =
        same_entries (children (with_object room path change) folder) (children room folder)
        (children_rise (with_object room path change) folder) (children_rise room folder)
        (λ n. kind_of_child (with_object room path change) folder n
        ∙ kinds_stay (folder ++ n ∷ []) ∙ sym (kind_of_child room folder n))

    of_kind : (q : Path) (kind : Kind) (o : Option Object) → option_map (λ (f : Object). f.kind) o ≡ Some kind
        → (found : Object) × (o ≡ Some found) × (found.kind ≡ kind)
    of_kind q kind None h = absurd (none_is_some kind h)
    of_kind q kind (Some found) h = (found, refl, some_is found.kind kind h)

    -- an object that was there is there, of its kind; and the other way round
    pub still_there : (q : Path) (o : Object) → object_at room q ≡ Some o
        → (now : Object) × (object_at (with_object room path change) q ≡ Some now) × (now.kind ≡ o.kind)
    still_there q o is = of_kind q o.kind (object_at (with_object room path change) q)
        (kinds_stay q ∙ ap (option_map (λ (f : Object). f.kind)) is)

    pub was_there : (q : Path) (o : Object) → object_at (with_object room path change) q ≡ Some o
        → (before : Object) × (object_at room q ≡ Some before) × (before.kind ≡ o.kind)
    was_there q o is =
        of_kind q o.kind (object_at room q) (sym (kinds_stay q) ∙ ap (option_map (λ (f : Object). f.kind)) is)

    -- a change to a lawful object of the same kind leaves a room
    pub with_object_is_room : IsRoom room → ((o : Object) → object_at room path ≡ Some o → IsObject (change o))
        → IsRoom (with_object room path change)
    with_object_is_room lawful becomes = record {
      root = let now = still_there [] lawful.root.0 lawful.root.1 in (now.0, now.1, now.2 ∙ lawful.root.2);
      parents = λ q n child is.
          let before = was_there (q ++ n ∷ []) child is in
          let above = lawful.parents q n before.0 before.1 in
          let now = still_there q above.0 above.1 in
          (now.0, now.1, now.2 ∙ above.2);
      once = all_objects path change room.objects lawful.once becomes;
      few = λ folder. rw (children_stay folder) (lawful.few folder);
    }
