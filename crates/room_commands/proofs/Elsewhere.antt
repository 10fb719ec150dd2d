-- What a command of anybody's changes for a caller at paths neither at nor below its own, or out of reach.
use Rattle.room_commands.proofs.Common.{◌≡◌, ◌⊎◌, ℕ, refl, ap, sym, ◌∙◌, Bool, true, false, ◌||◌, inl, inr, List, []}
use Rattle.room_commands.proofs.Common.{◌∷◌, ◌++◌, append-nil, append_assoc, is_none, Err, Result, length, drop, Option}
use Rattle.room_commands.proofs.Common.{None, Some, ◌==◌, option_map, both_ways, or_parts, false_from_ne_true, Kind}
use Rattle.room_commands.proofs.Common.{read_attributes, SubjectModel, Name, Path, Object, Room, IsRoom, object_at}
use Rattle.room_commands.proofs.Common.{children, CommandModel, paths_of, Refusal, Attributes, IsLawful, first_refusal}
use Rattle.room_commands.proofs.Common.{checks, prefix_refusal, walk, is_root, is_at_or_below, effect, effect_by}
use Rattle.room_commands.proofs.Common.{changed, Sight, view, depth_in, IsOff, HoldsNeither, IsAboveNeither, but_full}
use Rattle.room_commands.proofs.Common.{but_depth, but_names, view_less, then_some}
use Rattle.room_commands.specs.CommandModel as C
use Rattle.room_commands.proofs.Shorthands.{if_reached, seen_less}
use Rattle.room_commands.proofs.Rights.{all_none}
use Rattle.room_commands.proofs.ChecksTell.{absent_there, exists_there, not_refused}
use Rattle.room_commands.proofs.Renaming.{at_behind}
use Rattle.room_commands.proofs.RoomsNew.{elsewhere_as_before}
use Rattle.room_commands.proofs.RoomsObject.{elsewhere_unchanged}
use Rattle.room_commands.proofs.RoomsWithout.{elsewhere_left}
use Rattle.room_commands.proofs.RoomsRenamed.{rest_below, one_continues, away, off_to}
use Rattle.room_commands.proofs.RoomLaws.{room_if_passed}
use Rattle.room_commands.proofs.Looks.{walk_end}
use Rattle.room_commands.proofs.EffectIsRoom.{effect_is_room}
use Rattle.room_commands.proofs.BytesAlone.{attributes_sized, Facts, facts_at, sight_with, size_with, view_with}
use Rattle.room_commands.proofs.BytesAlone.{view_by_facts}
use Rattle.room_commands.proofs.SameParts.{children_same, depth_same, walk_same}
use Rattle.room_commands.proofs.Staying.{Off, Below_p, Below_t, Away, place, child_off, prefix_out, walk_out, facts_out}
use Rattle.room_commands.proofs.CommandsStay.{apart_from, own_fronts, moved_fronts}

-- what a command that passes leaves as it was: all but its paths and what is below them, and so what is above them
pub record Leaves (room later : Room) (p t : Path) : Type 0 where
  pub is_room : IsRoom later
  pub out : (q : Path) → Off p t q → object_at later q ≡ object_at room q
  pub fronts : (front : Path) (n : Name) (rest : Path) → (p ≡ front ++ n ∷ rest) ⊎ (t ≡ front ++ n ∷ rest)
      → Off p t front

either_front : (p front : Path) (n : Name) (rest : Path) → (p ≡ front ++ n ∷ rest) ⊎ (p ≡ front ++ n ∷ rest)
    → Off p p front
either_front p front n rest (inl is) = own_fronts p front n rest is
either_front p front n rest (inr is) = own_fronts p front n rest is

module _ (room : Room) (other : SubjectModel) (lawful_room : IsRoom room) where
  -- a command with one path
  at_one : (p : Path) (later : Room) → IsRoom later
      → ((q : Path) → is_at_or_below q p ≡ false → object_at later q ≡ object_at room q) → Leaves room later p p
  at_one p later is_room out =
      record { is_room = is_room; out = λ q off. out q off.0; fronts = either_front p }

  left : (command : CommandModel) → first_refusal (checks room other command) ≡ None
      → IsRoom (changed room other command)
      → Leaves room (changed room other command) (paths_of command).0 (paths_of command).1
  left (C.Mkdir path) passed later =
      at_one path _ later (λ q off. elsewhere_as_before room path _ q (apart_from q path off))
  left (C.Create bytes path) passed later =
      at_one path _ later (λ q off. elsewhere_as_before room path _ q (apart_from q path off))
  left (C.Write bytes path) passed later =
      at_one path _ later (λ q off. elsewhere_unchanged room path _ q (apart_from q path off))
  left (C.Append bytes path) passed later =
      at_one path _ later (λ q off. elsewhere_unchanged room path _ q (apart_from q path off))
  left (C.SetList aclflag entries path) passed later =
      at_one path _ later (λ q off. elsewhere_unchanged room path _ q (apart_from q path off))
  left (C.Chown group owner path) passed later =
      at_one path _ later (λ q off. elsewhere_unchanged room path _ q (apart_from q path off))
  left (C.Remove path) passed later =
      at_one path _ later (λ q off. elsewhere_left room path q (apart_from q path off))
  left (C.Rename path to) passed later =
      let (outside, (_, (there, (_, (free, _))))) = all_none (checks room other (C.Rename path to)) passed in
      let apart = or_parts (is_root path || is_root to) (is_at_or_below to path) (not_refused _ _ outside) in
      let found = exists_there room path there in
      let apart_too = off_to room lawful_room path to found.0 apart.1 found.1 (absent_there room to free) path found.0
      found.1 in
      record {
        is_room = later;
        out = λ q off. away room lawful_room path to found.0 apart.1 found.1 (absent_there room to free) q off.0 off.1;
        fronts = moved_fronts path to apart.1 apart_too;
      }
  left command passed later = at_one (paths_of command).0 _ later (λ q off. refl)

  -- what holds of the room, and of what the command leaves where it passes, holds after it
  pub by_result : (command : CommandModel) → IsLawful command → (P : Room → Type 0) → P room
      → ((later : Room) → Leaves room later (paths_of command).0 (paths_of command).1 → P later)
      → P (effect room other command).room
  by_result command lawful P refused done = by_check (first_refusal (checks room other command)) refl
    where
      by_check : (r : Option Refusal) → first_refusal (checks room other command) ≡ r
          → P (effect_by room other command r).room
      by_check (Some fault) is = refused
      by_check None is = done (changed room other command) (left command is
          (rw (room_if_passed room other command is) at (effect_is_room room other command lawful lawful_room)))

off_below : (p q rest : Path) → is_at_or_below q p ≡ false → is_at_or_below p q ≡ false
    → is_at_or_below (q ++ rest) p ≡ false
off_below p q rest off above = false_from_ne_true (is_at_or_below (q ++ rest) p) (λ below.
    elim (one_continues q p rest (drop (length p) (q ++ rest)) (rest_below p (q ++ rest) below)) [
      | inl inside ↦ both_ways (is_at_or_below q p) off inside
      | inr holds ↦ both_ways (is_at_or_below p q) above holds
    ])

-- what is left out of a view
module _ (caller : SubjectModel) (facts : Facts) (names : List (Name × Kind)) (depth : ℕ) (full : Bool) where
  sizes : (test : Bool) (o : Object) (m n : ℕ)
      → option_map (λ (x : Attributes). record x { size = 0 }) (then_some test (attributes_sized m o))
      ≡ option_map (λ (x : Attributes). record x { size = 0 }) (then_some test (attributes_sized n o))
  sizes true o m n = refl
  sizes false o m n = refl

  names_out : (way : Option Refusal) (o : Option Object)
      → seen_less but_names (view_with caller way (record facts { names = names; depth = depth; full = full }) o)
      ≡ seen_less but_names (view_with caller way facts o)
  names_out (Some r) o = refl
  names_out None None = refl
  names_out None (Some o) =
      let same = sizes (facts.may read_attributes) o (size_with names o.bytes o.kind)
      (size_with facts.names o.bytes o.kind) in
      (λ i. if_reached None (Some (record (sight_with caller facts o) {
        attributes = same i;
        names = None;
        depth = None;
        full = None;
      })))

  pub depth_out : (way : Option Refusal) (o : Option Object)
      → seen_less but_depth (view_with caller way (record facts { depth = depth; full = full }) o)
      ≡ seen_less but_depth (view_with caller way facts o)
  depth_out (Some r) o = refl
  depth_out None None = refl
  depth_out None (Some o) = refl

  full_out : (way : Option Refusal) (o : Option Object)
      → seen_less but_full (view_with caller way (record facts { full = full }) o)
      ≡ seen_less but_full (view_with caller way facts o)
  full_out (Some r) o = refl
  full_out None None = refl
  full_out None (Some o) = refl

-- ---- behind a fault on the way

-- a fault on the way to a path is one on the way to all below it
pub blocked : (room : Room) (caller : SubjectModel) (fault : Refusal) (rest top : Path)
    → walk room caller top ≡ Some fault → walk room caller (top ++ rest) ≡ Some fault
blocked room caller fault [] top is = ap (walk room caller) (append-nil top) ∙ is
blocked room caller fault (name ∷ rest) top is =
    ap (walk room caller) (sym (append_assoc top (name ∷ []) rest))
    ∙ blocked room caller fault rest (top ++ name ∷ []) (walk_end room caller top name
    ∙ ap (λ way. first_refusal (way ∷ prefix_refusal room caller top ∷ [])) is)

-- and nothing is seen there
pub nothing_seen : (room : Room) (caller : SubjectModel) (fault : Refusal) (q : Path)
    → walk room caller q ≡ Some fault → view room caller q ≡ Err fault
nothing_seen room caller fault q is = view_by_facts room caller q
    ∙ ap (λ way. view_with caller way (facts_at room caller q) (object_at room q)) is

pub fault_on : (way : Option Refusal) → is_none way ≡ false → (fault : Refusal) × (way ≡ Some fault)
fault_on None h = absurd (let no : true ≡ false = h in cc)
fault_on (Some fault) h = (fault, refl)

-- ---- one command later

module _ (room later : Room) (caller : SubjectModel) (p t : Path) (is_room : IsRoom room)
    (s : Leaves room later p t) where
  out : (k : Path) → Off p t k → object_at later k ≡ object_at room k
  out = s.out

  -- what the caller cannot reach it sees no more of
  pub seen_behind : (top : Path) → ((front : Path) (n : Name) (rest : Path) → top ≡ front ++ n ∷ rest → Off p t front)
      → (q rest : Path) → q ≡ top ++ rest → is_none (walk room caller top) ≡ false
      → view later caller q ≡ view room caller q
  seen_behind top fronts q rest is unreached =
      let fault = fault_on (walk room caller top) unreached in
      let before = ap (walk room caller) is ∙ blocked room caller fault.0 rest top fault.1 in
      let way : walk later caller top ≡ walk room caller top = walk_same later room caller top
      (λ front n more at. prefix_out room later caller p t out front (fronts front n more at)) in
      let after = ap (walk later caller) is ∙ blocked later caller fault.0 rest top (way ∙ fault.1) in
      nothing_seen later caller fault.0 q after ∙ sym (nothing_seen room caller fault.0 q before)

  module _ (q : Path) where
    abbrev facts : Facts
    facts = facts_at room caller q

    abbrev full : Bool
    full = (later.left == 0)

    pub view_off : Off p t q → view later caller q ≡ view_with caller (walk room caller q)
        (record facts { names = children later q; depth = depth_in q later.objects; full = full }) (object_at room q)
    view_off off = view_by_facts later caller q ∙ (λ i. view_with caller (walk_out room later caller p t out q off i)
        (facts_out room later caller p t out q off i) (out q off i))

    -- away from both paths, or behind a fault
    pub by_place : {Y : Type 0} (of : Result (Option Sight) Refusal → Y) → IsOff caller room (p, t) q
        → (Off p t q → of (view later caller q) ≡ of (view room caller q))
        → of (view later caller q) ≡ of (view room caller q)
    by_place of off away = elim (place p t q) [
      | Below_p rest is ↦ ap of (seen_behind p
          (λ front n more at. s.fronts front n more (inl at)) q rest is
          (off.0 (ap (λ k. is_at_or_below k p) is ∙ at_behind p rest)))
      | Below_t rest is ↦ ap of (seen_behind t
          (λ front n more at. s.fronts front n more (inr at)) q rest is
          (off.1 (ap (λ k. is_at_or_below k t) is ∙ at_behind t rest)))
      | Away off_both ↦ away off_both
    ]

    pub seen_above : IsOff caller room (p, t) q → view_less but_names later caller q ≡ view_less but_names room caller q
    seen_above off = by_place (seen_less but_names) off (λ away.
        ap (seen_less but_names) (view_off away)
        ∙ names_out caller facts (children later q) (depth_in q later.objects) full (walk room caller q)
        (object_at room q)
        ∙ ap (seen_less but_names) (sym (view_by_facts room caller q)))

    module _ (holds : HoldsNeither (p, t) q) where
      names_stay : Off p t q → children later q ≡ children room q
      names_stay off = children_same later room caller q (λ n. ap (option_map (λ (o : Object). o.kind))
          (out (q ++ n ∷ []) (child_off p t q off (λ name. (holds name).0) (λ name. (holds name).1) n)))

      pub view_named : Off p t q → view later caller q ≡ view_with caller (walk room caller q)
          (record facts { depth = depth_in q later.objects; full = full }) (object_at room q)
      view_named off = view_off off ∙ ap (λ (names : List (Name × Kind)). view_with caller (walk room caller q)
          (record facts { names = names; depth = depth_in q later.objects; full = full }) (object_at room q))
          (names_stay off)

      pub seen_higher : IsOff caller room (p, t) q
          → view_less but_depth later caller q ≡ view_less but_depth room caller q
      seen_higher off = by_place (seen_less but_depth) off (λ away.
          ap (seen_less but_depth) (view_named away)
          ∙ depth_out caller facts facts.names (depth_in q later.objects) full (walk room caller q) (object_at room q)
          ∙ ap (seen_less but_depth) (sym (view_by_facts room caller q)))

    module _ (above : IsAboveNeither (p, t) q) where
      holds_neither : HoldsNeither (p, t) q
      holds_neither name = (
        λ is. both_ways (is_at_or_below p q) above.0 (ap (λ k. is_at_or_below k q) is ∙ at_behind q (name ∷ [])),
        λ is. both_ways (is_at_or_below t q) above.1 (ap (λ k. is_at_or_below k q) is ∙ at_behind q (name ∷ [])),
      )

      pub depth_stays : Off p t q → depth_in q later.objects ≡ depth_in q room.objects
      depth_stays off = depth_same later room s.is_room is_room q
          (λ rest. out (q ++ rest) (off_below p q rest off.0 above.0, off_below t q rest off.1 above.1))

      pub seen_aside : IsOff caller room (p, t) q → view_less but_full later caller q ≡ view_less but_full room caller q
      seen_aside off = by_place (seen_less but_full) off (λ away.
          ap (seen_less but_full) (view_named holds_neither away
          ∙ ap (λ (depth : ℕ). view_with caller (walk room caller q)
          (record facts { depth = depth; full = full }) (object_at room q)) (depth_stays away))
          ∙ full_out caller facts facts.names facts.depth full (walk room caller q) (object_at room q)
          ∙ ap (seen_less but_full) (sym (view_by_facts room caller q)))

-- ---- and after a command, refused or not

module _ (room : Room) (caller other : SubjectModel) (command : CommandModel) (lawful : IsLawful command)
    (is_room : IsRoom room) (q : Path) (off : IsOff caller room (paths_of command) q) where
  pub shown_above : view_less but_names (effect room other command).room caller q ≡ view_less but_names room caller q
  shown_above = by_result room other is_room command lawful
      (λ later. view_less but_names later caller q ≡ view_less but_names room caller q) refl
      (λ later s. seen_above room later caller (paths_of command).0 (paths_of command).1 is_room s q off)

  pub shown_higher : HoldsNeither (paths_of command) q
      → view_less but_depth (effect room other command).room caller q ≡ view_less but_depth room caller q
  shown_higher holds = by_result room other is_room command lawful
      (λ later. view_less but_depth later caller q ≡ view_less but_depth room caller q) refl
      (λ later s. seen_higher room later caller (paths_of command).0 (paths_of command).1 is_room s q holds off)

  pub shown_aside : IsAboveNeither (paths_of command) q
      → view_less but_full (effect room other command).room caller q ≡ view_less but_full room caller q
  shown_aside above = by_result room other is_room command lawful
      (λ later. view_less but_full later caller q ≡ view_less but_full room caller q) refl
      (λ later s. seen_aside room later caller (paths_of command).0 (paths_of command).1 is_room s q above off)
