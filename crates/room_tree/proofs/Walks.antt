-- The walk of a path, one folder after another.
use Rattle.room_tree.proofs.Common.{common_steps, ◌≡◌, ℕ, ◌+◌, ◌<◌, ◌≤◌, refl, ap, sym, ◌∙◌, subst, List, [], ◌∷◌, ◌++◌}
use Rattle.room_tree.proofs.Common.{map, take, drop, length, get_or, append_assoc, arith, Option, None, Some, not}
use Rattle.room_tree.proofs.Common.{is_some, take_more, drop_more, drop_all, take_all, append-nil, SubjectModel, Name}
use Rattle.room_tree.proofs.Common.{Path, Object, Room, object_at, parent_of, NoEnt, Refusal, refuse_if}
use Rattle.room_tree.proofs.Common.{refusal_without_place, first_refusal, check_folder, check_right, prefix_refusal}
use Rattle.room_tree.proofs.Common.{proper_prefixes, walk}
use Rattle.room_tree.specs.declared.refusal.Stop.{Stop}
use Rattle.room_tree.specs.declared.refusal.Stop.TheVariants.{Refused, Shelf}
use Rattle.room_tree.specs.Stops.{Stopped}
use Rattle.room_tree.proofs.Checking.{skip}

-- the first fault from this front on
abbrev pub walk_from : Room → SubjectModel → Path → Path → Option Refusal
walk_from room caller front rest =
    first_refusal (map (λ (more : Path). prefix_refusal room caller (front ++ more)) (proper_prefixes rest))

module _ (room : Room) (caller : SubjectModel) where
  shifted : (front : Path) (name : Name) (fronts : List Path)
      → map (λ (more : Path). prefix_refusal room caller (front ++ more)) (map (λ (more : Path). name ∷ more) fronts)
      ≡ map (λ (more : Path). prefix_refusal room caller ((front ++ name ∷ []) ++ more)) fronts
  shifted front name [] = refl
  shifted front name (more ∷ fronts) =
      let head : prefix_refusal room caller (front ++ name ∷ more)
      ≡ prefix_refusal room caller ((front ++ name ∷ []) ++ more) =
      ap (prefix_refusal room caller) (sym (append_assoc front (name ∷ []) more)) in
      let rest = shifted front name fronts in
      (λ i. head i ∷ rest i)

  one_on : (front : Path) (name : Name) (rest : Path) → prefix_refusal room caller front ≡ None
      → walk_from room caller front (name ∷ rest) ≡ walk_from room caller (front ++ name ∷ []) rest
  one_on front name rest none =
      let others = map (λ (more : Path). prefix_refusal room caller (front ++ more))
      (map (λ (more : Path). name ∷ more) (proper_prefixes rest)) in
      skip (prefix_refusal room caller (front ++ [])) others
      (ap (prefix_refusal room caller) (append-nil front) ∙ none)
      ∙ ap first_refusal (shifted front name (proper_prefixes rest))

  one_off : (front : Path) (name : Name) (rest : Path) (r : Refusal) → prefix_refusal room caller front ≡ Some r
      → walk_from room caller front (name ∷ rest) ≡ Some r
  one_off front name rest r some = grind (arith, common_steps)

  module _ (path : Path) (i : ℕ) (name : Name) (below : i < length path) (is : name ≡ get_or path i name) where
    here_on : drop i path ≡ name ∷ drop (i + 1) path
    here_on = drop_more path i name below ∙ ap (λ n. n ∷ drop (i + 1) path) (sym is)

    next_front : take (i + 1) path ≡ take i path ++ name ∷ []
    next_front = take_more path i name below ∙ ap (λ n. take i path ++ n ∷ []) (sym is)

    pub walk_stops : (r : Refusal) → walk room caller path ≡ walk_from room caller (take i path) (drop i path)
        → prefix_refusal room caller (take i path) ≡ Some r → walk room caller path ≡ Some r
    walk_stops r so some = so ∙ ap (walk_from room caller (take i path)) here_on
        ∙ one_off (take i path) name (drop (i + 1) path) r some

    pub walk_stopped : (why : Stop) → walk room caller path ≡ walk_from room caller (take i path) (drop i path)
        → Stopped (prefix_refusal room caller (take i path)) why → Stopped (walk room caller path) why
    walk_stopped (Refused r) so is = walk_stops r so is
    walk_stopped (Shelf fault) so is = tt

    pub walk_goes_on : walk room caller path ≡ walk_from room caller (take i path) (drop i path)
        → prefix_refusal room caller (take i path) ≡ None
        → walk room caller path ≡ walk_from room caller (take (i + 1) path) (drop (i + 1) path)
    walk_goes_on so none =
        so ∙ ap (walk_from room caller (take i path)) here_on ∙ one_on (take i path) name (drop (i + 1) path) none
        ∙ ap (λ front. walk_from room caller front (drop (i + 1) path)) (sym next_front)

    pub walk_ends : walk room caller path ≡ walk_from room caller (take i path) (drop i path)
        → prefix_refusal room caller (take i path) ≡ None
        → length path ≤ i + 1 → walk room caller path ≡ None
    walk_ends so none last =
        walk_goes_on so none ∙ ap (walk_from room caller (take (i + 1) path)) (drop_all (i + 1) path last)

    pub walk_is_cut : walk room caller path ≡ walk_from room caller (take i path) (drop i path)
        → prefix_refusal room caller (take i path) ≡ None
        → object_at room (take i path ++ name ∷ []) ≡ None → i + 1 < length path
        → walk room caller path ≡ Some (refusal_without_place NoEnt)
    walk_is_cut so none nothing more =
        let front = take (i + 1) path in
        let rest : drop (i + 1) path ≡ get_or path (i + 1) name ∷ drop (i + 1 + 1) path =
        drop_more path (i + 1) name more in
        let missing : prefix_refusal room caller front ≡ Some (refusal_without_place NoEnt) =
        ap (λ (o : Option Object). first_refusal (refuse_if (not (is_some o)) NoEnt
        ∷ check_folder room front ∷ check_right room caller front 0x20 ∷ []))
        (ap (object_at room) next_front ∙ nothing) in
        walk_goes_on so none ∙ ap (walk_from room caller front) rest
        ∙ one_off front (get_or path (i + 1) name) (drop (i + 1 + 1) path) (refusal_without_place NoEnt) missing

    pub last_is_absent : object_at room (take i path ++ name ∷ []) ≡ None
        → length path ≤ i + 1 → object_at room path ≡ None
    last_is_absent nothing last = ap (object_at room) (sym (sym next_front ∙ take_all (i + 1) path last)) ∙ nothing

    pub next_is_there : (P : Path → Type 0) → P (take i path ++ name ∷ []) → P (take (i + 1) path)
    next_is_there P here = subst P (sym next_front) here

    pub last_folder : length path ≤ i + 1 → take i path ≡ parent_of path
    last_folder last = ap (λ (n : ℕ). take n path) (omega (arith, last, below))

  pub walk_done : (path : Path) (i : ℕ) → walk room caller path ≡ walk_from room caller (take i path) (drop i path)
      → length path ≤ i → walk room caller path ≡ None
  walk_done path i so all = so ∙ ap (walk_from room caller (take i path)) (drop_all i path all)
