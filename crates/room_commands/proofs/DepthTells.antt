-- How deep a subtree goes, and that this tells whether a folder is empty.
use Rattle.room_commands.proofs.Common.{◌≡◌, ℕ, ◌-◌, ◌<◌, ◌≤◌, refl, ap, sym, ◌∙◌, arith, true, inl, inr, List, [], ◌∷◌}
use Rattle.room_commands.proofs.Common.{◌++◌, drop, length, Option, None, Some, nat_lt, append_assoc, cond, option_map}
use Rattle.room_commands.proofs.Common.{length-append, lookup, cases_Bool, cases_lt, lt-ltb, le-ltb, Kind, Name, Path}
use Rattle.room_commands.proofs.Common.{name_eq, Object, Room, IsRoom, object_at, children, none_is_some, StandsIn}
use Rattle.room_commands.proofs.Common.{found_stands, standing_found, nothing_below, nothing_in_empty, kind_of_child}
use Rattle.room_commands.proofs.Common.{name_itself, is_at_or_below, depth_in}
use Rattle.std.proofs.Math.Nat.{le-max_left, le-max_right, max-le}
use Rattle.room_commands.proofs.Renaming.{at_behind}
use Rattle.room_commands.proofs.RoomsRenamed.{rest_below}

-- each object at or below a path is within its depth
pub within_depth : (path : Path) (es : List (Path × Object)) (k : Path) (o : Object) → StandsIn es k o
    → is_at_or_below k path ≡ true → length k - length path ≤ depth_in path es
within_depth path [] k o stands below = absurd stands
within_depth path (e ∷ es) k o (inl here) below =
    rw (ap (λ p. is_at_or_below p path) here.0 ∙ below)
    (rw here.0 (le-max_left (length k - length path) (depth_in path es)))
within_depth path (e ∷ es) k o (inr there) below =
    let rest = within_depth path es k o there below in
    elim (cases_Bool (is_at_or_below e.0 path)) [
      | inl inside ↦ rw inside (omega (arith, rest, le-max_right (length e.0 - length path) (depth_in path es)))
      | inr outside ↦ rw outside rest
    ]

-- and the depth is no more than those ask
pub no_deeper : (path : Path) (es : List (Path × Object)) (n : ℕ)
    → ((k : Path) (o : Object) → StandsIn es k o → is_at_or_below k path ≡ true → length k - length path ≤ n)
    → depth_in path es ≤ n
no_deeper path [] n each = omega arith
no_deeper path (e ∷ es) n each =
    let rest = no_deeper path es n (λ k o there below. each k o (inr there) below) in
    elim (cases_Bool (is_at_or_below e.0 path)) [
      | inl inside ↦ rw inside (max-le (each e.0 e.1 (inl (refl, refl)) inside) rest)
      | inr outside ↦ rw outside rest
    ]

length_behind : (path rest : Path) → length (path ++ rest) - length path ≡ length rest
length_behind path rest = omega (arith, length-append path rest)

module _ (room : Room) (lawful : IsRoom room) (path : Path) where
  holds_nothing : length (children room path) ≡ 0 → depth_in path room.objects ≤ 0
  holds_nothing empty = no_deeper path room.objects 0
      (λ k o stands below. at k o stands below (drop (length path) k) refl)
    where
      at : (k : Path) (o : Object) → StandsIn room.objects k o → is_at_or_below k path ≡ true
          → (rest : Path) → drop (length path) k ≡ rest → length k - length path ≤ 0
      at k o stands below [] is =
          rw (rest_below path k below ∙ ap (λ r. path ++ r) is) (rw (length_behind path []) (omega arith))
      at k o stands below (name ∷ rest) is =
          let whole : k ≡ (path ++ name ∷ []) ++ rest =
          rest_below path k below ∙ ap (λ r. path ++ r) is ∙ sym (append_assoc path (name ∷ []) rest) in
          absurd (none_is_some o
          (sym (nothing_below room lawful rest (path ++ name ∷ []) (nothing_in_empty room path empty name))
          ∙ ap (object_at room) (sym whole) ∙ standing_found room.objects lawful.once k o stands))

  holds_something : (es : List (Name × Kind)) → children room path ≡ es → 0 < length es → 0 < depth_in path room.objects
  holds_something [] is some = absurd (omega (arith, some))
  holds_something (e ∷ es) is some =
      let named : lookup (name_eq e.0) (children room path) ≡ Some e.1 =
      ap (lookup (name_eq e.0)) is ∙ ap (λ b. cond b (Some e.1) (lookup (name_eq e.0) es)) (name_itself e.0) in
      let found = some_found (object_at room (path ++ e.0 ∷ [])) e.1 (sym (kind_of_child room path e.0) ∙ named) in
      let deep = within_depth path room.objects (path ++ e.0 ∷ []) found.0
      (found_stands room.objects (path ++ e.0 ∷ []) found.0 found.1) (at_behind path (e.0 ∷ [])) in
      omega (arith, deep, length_behind path (e.0 ∷ []))
    where
      some_found : (o : Option Object) (kind : Kind) → option_map (λ (f : Object). f.kind) o ≡ Some kind
          → (f : Object) × (o ≡ Some f)
      some_found None kind h = absurd (none_is_some kind h)
      some_found (Some f) kind h = (f, refl)

  -- a folder holds something where its depth is not 0
  pub depth_tells_empty : nat_lt 0 (length (children room path)) ≡ nat_lt 0 (depth_in path room.objects)
  depth_tells_empty = elim (cases_lt 0 (length (children room path))) [
    | inl some ↦ lt-ltb _ _ some
        ∙ sym (lt-ltb _ _ (holds_something (children room path) refl some))
    | inr none ↦ le-ltb _ _ none ∙ sym (le-ltb _ _ (holds_nothing (omega (arith, none))))
  ]
