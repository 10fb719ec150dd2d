-- A room without the object at one path.
use Rattle.room_commands.proofs.Common.{◌≡◌, refl, ap, sym, ◌∙◌, arith, Bool, true, false, not, inl, inr, List, [], ◌∷◌}
use Rattle.room_commands.proofs.Common.{◌++◌, filter, None, Some, IsSome, is_some, lookup, cases_Bool, Name, Path}
use Rattle.room_commands.proofs.Common.{path_eq, Object, Room, IsRoom, AreObjects, object_at, none_is_some, same_path}
use Rattle.room_commands.proofs.Common.{other_path, no_more_children, without}
use Rattle.std.proofs.lemmas.Map.Entries.{lookup-filter-keys}
use Rattle.room_records.proofs.Options.{none_is_not_some}
use Rattle.room_commands.proofs.RoomsNew.{same_or_other_path}

module _ (room : Room) (path : Path) where
  -- nothing at its path, and elsewhere what was there
  pub at_removed : object_at (without room path) path ≡ None
  at_removed = lookup-filter-keys (path_eq path) (λ k. not (path_eq path k)) false (λ k here. ap not here) room.objects

  pub elsewhere_left : (q : Path) → (q ≡ path → ⊥) → object_at (without room path) q ≡ object_at room q
  elsewhere_left q apart =
      lookup-filter-keys (path_eq q) (λ k. not (path_eq path k)) true
      (λ k here. ap not (other_path path k (λ same. apart (same_path q k here ∙ sym same)))) room.objects

  -- what is there was there, and not at the path
  pub left_was_there : (q : Path) (o : Object) → object_at (without room path) q ≡ Some o
      → (q ≡ path → ⊥) × (object_at room q ≡ Some o)
  left_was_there q o is =
      let apart : q ≡ path → ⊥ =
      (λ same. none_is_some o (sym at_removed ∙ ap (object_at (without room path)) (sym same) ∙ is)) in
      (apart, sym (elsewhere_left q apart) ∙ is)

  some_was_there : (q : Path) → IsSome (object_at (without room path) q) → IsSome (object_at room q)
  some_was_there q is = elim (same_or_other_path q path) [
    | inl here ↦ absurd (none_is_not_some (object_at (without room path) path) at_removed (rw here at is))
    | inr apart ↦ ap is_some (sym (elsewhere_left q apart)) ∙ is
  ]

none_after_filter : (keeps : Path × Object → Bool) (test : Path → Bool) (es : List (Path × Object))
    → lookup test es ≡ None → lookup test (filter keeps es) ≡ None
none_after_filter keeps test [] none = refl
none_after_filter keeps test (e ∷ es) none = elim (cases_Bool (test e.0)) [
  | inl passes ↦ absurd (none_is_some e.1 (sym (rw passes at none)))
  | inr fails ↦ (
      let rest = none_after_filter keeps test es (rw fails at none) in
      elim (cases_Bool (keeps e)) [ inl kept ↦ rw (kept, fails) rest | inr dropped ↦ rw dropped rest ])
]

filter_objects : (keeps : Path × Object → Bool) (es : List (Path × Object))
    → AreObjects es → AreObjects (filter keeps es)
filter_objects keeps [] once = tt
filter_objects keeps (e ∷ es) once =
    let rest = filter_objects keeps es once.3 in
    elim (cases_Bool (keeps e)) [
      | inl kept ↦ rw kept (once.0, once.1, none_after_filter keeps (path_eq e.0) es once.2, rest)
      | inr dropped ↦ rw dropped rest
    ]

-- the removal of an object other than the root, with nothing in it, leaves a room
pub without_is_room : (room : Room) (path : Path) → IsRoom room → ([] ≡ path → ⊥)
    → ((n : Name) → object_at room (path ++ n ∷ []) ≡ None) → IsRoom (without room path)
without_is_room room path lawful not_root empty = record {
  root = (lawful.root.0, elsewhere_left room path [] not_root ∙ lawful.root.1, lawful.root.2);
  parents = λ q n child is.
      let was = left_was_there room path (q ++ n ∷ []) child is in
      let above = lawful.parents q n child was.1 in
      let apart : q ≡ path → ⊥ =
      (λ same. none_is_some child (sym (empty n) ∙ ap (λ p. object_at room (p ++ n ∷ [])) (sym same) ∙ was.1)) in
      (above.0, elsewhere_left room path q apart ∙ above.1, above.2);
  once = filter_objects (λ (e : Path × Object). not (path_eq path e.0)) room.objects lawful.once;
  few = λ folder.
      let fewer = no_more_children room (without room path) folder folder
      (λ n there. some_was_there room path (folder ++ n ∷ []) there) in
      omega (arith, fewer, lawful.few folder);
}
