-- What others do out of a caller's sight.
use Rattle.room_commands.proofs.Common.{◌≡◌, ◌⊎◌, ap, sym, ◌∙◌, Bool, true, false, ◌||◌, inl, inr, ◌++◌, length, drop}
use Rattle.room_commands.proofs.Common.{None, Some, ◌==◌, is_none, both_ways, or_left, or_right, false_from_ne_true}
use Rattle.room_commands.proofs.Common.{Folder, add_file, add_subdirectory, write_acl, write_owner}
use Rattle.room_commands.proofs.Common.{SubjectModel, handed_down, Path, Object, Room, IsRoom, object_at, none_is_some}
use Rattle.room_commands.proofs.Common.{CommandModel, paths_of, IsLawful, walk, is_at_or_below, effect, StayAlike}
use Rattle.room_commands.proofs.Common.{SameBelow, may, may_remove, IsOutOfSight, AddsNowhere}
use Rattle.room_commands.proofs.ChecksTell.{walk_ends_in_folder}
use Rattle.room_commands.proofs.RoomsRenamed.{rest_below, one_continues}
use Rattle.room_commands.proofs.Looks.{walk_to_folder}
use Rattle.room_commands.proofs.Staying.{Off, Below_p, Below_t, Away, place, list_out, handed_out}
use Rattle.room_commands.proofs.Staying.{some_folder}
use Rattle.room_commands.proofs.NothingShows.{adds_either}
use Rattle.room_commands.proofs.Others.{stay_itself}
use Rattle.room_commands.proofs.Elsewhere.{Leaves, by_result, blocked, fault_on}
use Rattle.room_commands.proofs.NamesUnseen.{NameUnseen, FullUnseen, seen_unnamed}
use Rattle.room_commands.proofs.Shorthands.{or_no_object}

module _ (room later : Room) (caller : SubjectModel) (p t : Path) (is_room : IsRoom room) (s : Leaves room later p t)
    (unseen_p : IsOutOfSight caller room p) (unseen_t : IsOutOfSight caller room t)
    (numbers : (later.left ≡ room.left) ⊎ AddsNowhere caller room) where
  not_below : (top q : Path) → is_none (walk room caller top) ≡ false → walk room caller q ≡ None
      → is_at_or_below q top ≡ false
  not_below top q unreached walked = false_from_ne_true (is_at_or_below q top) (λ below.
      let fault = fault_on (walk room caller top) unreached in
      none_is_some fault.0 (sym walked ∙ ap (walk room caller) (rest_below top q below)
      ∙ blocked room caller fault.0 (drop (length top) q) top fault.1))

  -- what the caller reaches is away from both paths
  reached_off : (q : Path) → walk room caller q ≡ None → Off p t q
  reached_off q walked = (not_below p q unseen_p.0 walked, not_below t q unseen_t.0 walked)

  abbrev has_power : Path → Bool
  has_power q = may_remove room caller q || (may room caller q write_acl || may room caller q write_owner)

  no_power_above : (top : Path) → IsOutOfSight caller room top → (q rest more : Path) → q ++ rest ≡ top ++ more
      → walk room caller q ≡ None → has_power q ≡ true → ⊥
  no_power_above top unseen q rest more is walked power = elim (one_continues q top rest more is) [
    | inl inside ↦ both_ways (is_at_or_below q top) (not_below top q unseen.0 walked) inside
    | inr holds ↦
        let none = unseen.2 q (drop (length q) top) (rest_below q top holds) walked in
        both_ways (has_power q) (λ i. none.0 i || none.1 i) power
  ]

  -- below what it has power over all is as it was
  power_below : (q : Path) → walk room caller q ≡ None → has_power q ≡ true → SameBelow room later q
  power_below q walked power rest = elim (place p t (q ++ rest)) [
    | Below_p more is ↦ absurd (no_power_above p unseen_p q rest more is walked power)
    | Below_t more is ↦ absurd (no_power_above t unseen_t q rest more is walked power)
    | Away off ↦ sym (s.out (q ++ rest) off)
  ]

  -- no folder above that it may remove changed
  unnamed : (top : Path) → IsOutOfSight caller room top → NameUnseen caller room later top
  unnamed top unseen = record {
    unlisted = unseen.1;
    depth = λ front above walked removes. absurd (both_ways (may_remove room caller front)
        (unseen.2 front (drop (length front) top) (rest_below front top above) walked).0 removes);
  }

  numbers_seen : FullUnseen caller room later
  numbers_seen = elim numbers [
    | inl same ↦ inl (ap (λ n. n == 0) same)
    | inr nowhere ↦ inr nowhere
  ]

  -- where the caller may add, no number was taken
  made_same : (folder : Path) (o : Object) → object_at room folder ≡ Some o → o.kind ≡ Folder
      → walk room caller folder ≡ None
      → ((may room caller folder add_file || may room caller folder add_subdirectory)
      || (may room caller folder write_acl || may room caller folder write_owner)) ≡ true → room.left ≡ later.left
  made_same folder o at is_folder walked adds = elim numbers [
    | inl same ↦ sym same
    | inr nowhere ↦ absurd (both_ways _ (nowhere folder o at is_folder walked) adds)
  ]

  pub stays_unseen : StayAlike caller room later
  stays_unseen = record {
    now = λ q. sym (seen_unnamed room later caller p t is_room s q (unnamed p unseen_p) (unnamed t unseen_t)
        numbers_seen (λ below. unseen_p.0, λ below. unseen_t.0));
    adding = λ folder name kind walked adds.
        let way = (walk_to_folder room caller folder name walked).0 in
        let off = reached_off folder way in
        let (above, at, is_folder) = walk_ends_in_folder room caller folder name walked in (
          made_same folder above at is_folder way (or_left _ _ (adds_either kind (may room caller folder) adds)),
          ap (λ o. (or_no_object o).group) (sym (s.out folder off)),
          ap (λ entries. handed_down entries kind) (sym (list_out room later caller p t s.out folder off)),
        );
    moving = λ q walked removes. power_below q walked (or_left _ _ removes);
    setting = λ q walked sets. (
      power_below q walked (or_right _ _ sets),
      sym (handed_out room later caller p t s.out q (reached_off q walked)),
      λ folder.
          let (o, at, is_folder) = some_folder (object_at room q) folder in
          made_same q o at is_folder walked (or_right _ _ sets),
    );
  }

-- a command out of a caller's sight
pub done_unseen : (room : Room) (caller other : SubjectModel) (command : CommandModel) → IsLawful command → IsRoom room
    → IsOutOfSight caller room (paths_of command).0 → IsOutOfSight caller room (paths_of command).1
    → ((effect room other command).room.left ≡ room.left) ⊎ AddsNowhere caller room
    → StayAlike caller room (effect room other command).room
done_unseen room caller other command lawful is_room unseen_p unseen_t =
    by_result room other is_room command lawful
    (λ later. ((later.left ≡ room.left) ⊎ AddsNowhere caller room) → StayAlike caller room later)
    (λ numbers. stay_itself room caller)
    (λ later s numbers. stays_unseen room later caller (paths_of command).0 (paths_of command).1 is_room s unseen_p
    unseen_t numbers)
