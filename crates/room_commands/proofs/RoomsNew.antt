-- A room with one object more.
use Rattle.room_commands.proofs.Common.{◌≡◌, ◌<◌, ◌≤◌, refl, ap, sym, ◌∙◌, arith, cond, ◌⊎◌, inl, inr, [], ◌∷◌, ◌++◌}
use Rattle.room_commands.proofs.Common.{length, None, Some, IsSome, both_ways, cases_Bool, same_from_push, Folder}
use Rattle.room_commands.proofs.Common.{max_children, Name, Path, IsPath, path_eq, Object, Room, IsRoom, IsObject}
use Rattle.room_commands.proofs.Common.{object_at, children, some_is, none_is_some, same_path, path_itself, other_path}
use Rattle.room_commands.proofs.Common.{no_more_children, one_more_child, with_new}

-- two paths are one or not
pub same_or_other_path : (a b : Path) → (a ≡ b) ⊎ (a ≡ b → ⊥)
same_or_other_path a b = elim (cases_Bool (path_eq a b)) [
  | inl same ↦ inl (same_path a b same)
  | inr other ↦ inr (λ same. both_ways (path_eq a b) other (rw same (path_itself b)))
]

module _ (room : Room) (path : Path) (o : Object) where
  -- at its path the new object, and elsewhere what was there
  pub at_new : (q : Path) → object_at (with_new room path o) q ≡ cond (path_eq q path) (Some o) (object_at room q)
  at_new q = refl

  pub new_there : object_at (with_new room path o) path ≡ Some o
  new_there = ap (λ b. cond b (Some o) (object_at room path)) (path_itself path)

  pub elsewhere_as_before : (q : Path) → (q ≡ path → ⊥) → object_at (with_new room path o) q ≡ object_at room q
  elsewhere_as_before q apart = ap (λ b. cond b (Some o) (object_at room q)) (other_path q path apart)

  -- what was there still is
  pub old_stays : object_at room path ≡ None → (q : Path) (other : Object)
      → object_at room q ≡ Some other → object_at (with_new room path o) q ≡ Some other
  old_stays free q other is =
      elsewhere_as_before q (λ same. none_is_some other (sym free ∙ ap (object_at room) (sym same) ∙ is)) ∙ is

  -- what is there is the new object, or was there
  pub new_or_old : (q : Path) (other : Object) → object_at (with_new room path o) q ≡ Some other
      → ((q ≡ path) × (o ≡ other)) ⊎ (object_at room q ≡ Some other)
  new_or_old q other is = elim (cases_Bool (path_eq q path)) [
    | inl here ↦ inl (same_path q path here, some_is o other (rw here at is))
    | inr there ↦ inr (rw there at is)
  ]

  pub some_new_or_old : (q : Path) → IsSome (object_at (with_new room path o) q)
      → (q ≡ path) ⊎ IsSome (object_at room q)
  some_new_or_old q is = elim (cases_Bool (path_eq q path)) [
    | inl here ↦ inl (same_path q path here)
    | inr there ↦ inr (rw there at is)
  ]

-- a new object in a folder that is not full leaves a room
pub with_new_is_room : (room : Room) (folder : Path) (name : Name) (o : Object)
    → IsRoom room → IsPath (folder ++ name ∷ []) → IsObject o
    → object_at room (folder ++ name ∷ []) ≡ None → (above : Object)
    → object_at room folder ≡ Some above → above.kind ≡ Folder
    → length (children room folder) < max_children → IsRoom (with_new room (folder ++ name ∷ []) o)
with_new_is_room room folder name o lawful is_path is_object free above stands is_folder not_full = record {
  root = (lawful.root.0, old_stays room (folder ++ name ∷ []) o free [] lawful.root.0 lawful.root.1, lawful.root.2);
  parents = parents;
  once = (is_path, is_object, free, lawful.once);
  few = few;
}
  where
    parents : (q : Path) (n : Name) (child : Object)
        → object_at (with_new room (folder ++ name ∷ []) o) (q ++ n ∷ []) ≡ Some child
        → (parent : Object) × (object_at (with_new room (folder ++ name ∷ []) o) q ≡ Some parent)
        × (parent.kind ≡ Folder)
    parents q n child is = elim (new_or_old room (folder ++ name ∷ []) o (q ++ n ∷ []) child is) [
      | inl here ↦
          let same = same_from_push q folder n name here.0 in
          (above, old_stays room (folder ++ name ∷ []) o free q above (ap (object_at room) same.0 ∙ stands), is_folder)
      | inr there ↦
          let parent = lawful.parents q n child there in
          (parent.0, old_stays room (folder ++ name ∷ []) o free q parent.0 parent.1, parent.2)
    ]

    few : (other : Path) → length (children (with_new room (folder ++ name ∷ []) o) other) ≤ max_children
    few other = elim (same_or_other_path other folder) [
      | inl here ↦ (
          let more = one_more_child room (with_new room (folder ++ name ∷ []) o) folder folder name o.kind
          (λ n there. elim (some_new_or_old room (folder ++ name ∷ []) o (folder ++ n ∷ []) there)
          [ inl new ↦ inl (same_from_push folder folder n name new).1 | inr old ↦ inr old ]) in
          omega (arith, more, not_full, ap (λ p. length (children (with_new room (folder ++ name ∷ []) o) p)) here))
      | inr apart ↦ (
          let same = no_more_children room (with_new room (folder ++ name ∷ []) o) other other
          (λ n is. elim (some_new_or_old room (folder ++ name ∷ []) o (other ++ n ∷ []) is)
          [ inl new ↦ absurd (apart (same_from_push other folder n name new).0) | inr old ↦ old ]) in
          omega (arith, same, lawful.few other))
    ]
