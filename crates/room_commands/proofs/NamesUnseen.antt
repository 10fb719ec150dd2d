-- What comes into folders, and goes from them, where a caller may not list them.
use Rattle.room_commands.proofs.Common.{◌≡◌, ◌⊎◌, refl, ap, sym, ◌∙◌, Bool, true, false, not, ◌&&◌, ◌||◌, inl, inr}
use Rattle.room_commands.proofs.Common.{List, [], ◌∷◌, ◌++◌, append_assoc, length, drop, Option, None, Some, ◌==◌}
use Rattle.room_commands.proofs.Common.{cases_Bool, and_right, or_parts, Kind, File, Folder, list_directory, add_file}
use Rattle.room_commands.proofs.Common.{add_subdirectory, read_attributes, SubjectModel, Name, Path, Object, Room}
use Rattle.room_commands.proofs.Common.{IsRoom, object_at, children, parent_of, parent_of_end, ends, CommandModel}
use Rattle.room_commands.proofs.Common.{paths_of, Refusal, IsLawful, walk, is_file, is_at_or_below, is_full}
use Rattle.room_commands.proofs.Common.{check_folder_full, effect, view, may_add, may_remove, may_set, depth_in, IsOff}
use Rattle.room_commands.proofs.Common.{IsUnlisted, AddsNowhere, but_depth, view_less}
use Rattle.room_commands.proofs.RoomsRenamed.{rest_below}
use Rattle.room_commands.proofs.Renaming.{at_behind}
use Rattle.room_commands.proofs.EffectIsRoom.{effect_is_room}
use Rattle.room_commands.proofs.Looks.{walk_to_folder}
use Rattle.room_commands.proofs.NothingShows.{AlikeAt, reply_at}
use Rattle.room_commands.proofs.BytesAlone.{attributes_with, same_or_hidden, Facts, facts_at, sight_with, view_with}
use Rattle.room_commands.proofs.BytesAlone.{view_by_facts}
use Rattle.room_commands.proofs.Staying.{Off, in_folder}
use Rattle.room_commands.proofs.Elsewhere.{Leaves, by_result, view_off, view_named, by_place, depth_out, depth_stays}
use Rattle.room_commands.proofs.Shorthands.{if_reached, seen_less}

-- a path of which the folder shows no names, and each folder above that the caller may remove goes as deep as before
pub record NameUnseen (caller : SubjectModel) (room later : Room) (path : Path) : Type 0 where
  pub unlisted : IsUnlisted caller room path
  pub depth : (front : Path) → is_at_or_below path front ≡ true → walk room caller front ≡ None
      → may_remove room caller front ≡ true → depth_in front later.objects ≡ depth_in front room.objects

-- the law's premises on the last two rows: a number is left as before, or the caller may add nowhere; and each folder
-- to which it may add takes one more object as before
abbrev pub FullUnseen : SubjectModel → Room → Room → Type 0
FullUnseen caller room later = (is_full later ≡ is_full room) ⊎ AddsNowhere caller room

abbrev pub FoldersFullUnseen : SubjectModel → Room → Room → Type 0
FoldersFullUnseen caller room later = (folder : Path) → walk room caller folder ≡ None
    → may_add room caller folder ≡ true → check_folder_full later folder ≡ check_folder_full room folder

-- a sight of a folder without its names, and how many they are
abbrev Unnamed : Facts → Type 0
Unnamed facts = (facts.may list_directory ≡ false) × (facts.may read_attributes ≡ false)

unnamed_same : (caller : SubjectModel) (facts : Facts) (names : List (Name × Kind)) (way : Option Refusal)
    (o : Option Object) → (way ≡ None → Unnamed facts)
    → view_with caller way (record facts { names = names }) o ≡ view_with caller way facts o
unnamed_same caller facts names (Some r) o unnamed = refl
unnamed_same caller facts names None None unnamed = refl
unnamed_same caller facts names None (Some o) unnamed =
    let attributes = same_or_hidden (facts.may read_attributes) (attributes_with names o)
    (attributes_with facts.names o) (inr (unnamed refl).1) in
    let listed = same_or_hidden (not (is_file o.kind) && facts.may list_directory) names facts.names
    (inr (and_right (not (is_file o.kind)) (facts.may list_directory) (unnamed refl).0)) in
    (λ i. if_reached None (Some (record (sight_with caller facts o) { attributes = attributes i; names = listed i })))

module _ (room later : Room) (caller : SubjectModel) (p t : Path) (is_room : IsRoom room) (s : Leaves room later p t)
    (q : Path) where
  abbrev facts : Facts
  facts = facts_at room caller q

  abbrev facts_later : Facts
  facts_later = record facts { depth = depth_in q later.objects; full = (later.left == 0) }

  unnamed_in : (top : Path) → IsUnlisted caller room top → (n : Name) → top ≡ q ++ n ∷ []
      → walk room caller q ≡ None → Unnamed facts
  unnamed_in top unlisted n is walked =
      let folder : parent_of top ≡ q = ap parent_of is ∙ parent_of_end q n in
      rw folder at (unlisted (ap (walk room caller) folder ∙ walked))

  -- a view later, but for depth and the last number
  view_unlisted : IsUnlisted caller room p → IsUnlisted caller room t → Off p t q
      → view later caller q ≡ view_with caller (walk room caller q) facts_later (object_at room q)
  view_unlisted unlisted_p unlisted_t off = elim (in_folder p q) [
    | inl at ↦ hidden (unnamed_in p unlisted_p at.0 at.1)
    | inr no_p ↦ elim (in_folder t q) [
      | inl at ↦ hidden (unnamed_in t unlisted_t at.0 at.1)
      | inr no_t ↦ view_named room later caller p t is_room s q (λ n. (no_p n, no_t n)) off
    ]
  ]
    where
      hidden : (walk room caller q ≡ None → Unnamed facts)
          → view later caller q ≡ view_with caller (walk room caller q) facts_later (object_at room q)
      hidden unnamed = view_off room later caller p t is_room s q off
          ∙ unnamed_same caller facts_later (children later q) (walk room caller q) (object_at room q) unnamed

  pub seen_unlisted : IsUnlisted caller room p → IsUnlisted caller room t → IsOff caller room (p, t) q
      → view_less but_depth later caller q ≡ view_less but_depth room caller q
  seen_unlisted unlisted_p unlisted_t is_off =
      by_place room later caller p t is_room s q (seen_less but_depth) is_off (λ off.
      ap (seen_less but_depth) (view_unlisted unlisted_p unlisted_t off)
      ∙ depth_out caller facts facts.names (depth_in q later.objects) (later.left == 0) (walk room caller q)
      (object_at room q)
      ∙ ap (seen_less but_depth) (sym (view_by_facts room caller q)))

  module _ (name_p : NameUnseen caller room later p) (name_t : NameUnseen caller room later t)
      (numbers : FullUnseen caller room later) where
    depth_above : Off p t q → walk room caller q ≡ None → may_remove room caller q ≡ true
        → depth_in q later.objects ≡ depth_in q room.objects
    depth_above off walked removes = elim (cases_Bool (is_at_or_below p q)) [
      | inl above ↦ name_p.depth q above walked removes
      | inr not_p ↦ elim (cases_Bool (is_at_or_below t q)) [
        | inl above ↦ name_t.depth q above walked removes
        | inr not_t ↦ depth_stays room later caller p t is_room s q (not_p, not_t) off
      ]
    ]

    depth_seen : Off p t q → walk room caller q ≡ None
        → (depth_in q later.objects ≡ depth_in q room.objects) ⊎ (facts.removes ≡ false)
    depth_seen off walked = elim (cases_Bool (may_remove room caller q)) [
      | inl removes ↦ inl (depth_above off walked removes)
      | inr not_so ↦ inr not_so
    ]

    abbrev adds_there : Bool
    adds_there = facts.may add_file || facts.may add_subdirectory

    full_seen : (o : Object) → object_at room q ≡ Some o → walk room caller q ≡ None
        → ((later.left == 0) ≡ (room.left == 0)) ⊎ ((not (is_file o.kind) && adds_there) ≡ false)
    full_seen o at walked = elim numbers [
      | inl same ↦ inl same
      | inr nowhere ↦ inr (by_kind (λ folder reached.
          (or_parts adds_there (may_set room caller q) (nowhere q o at folder reached)).0) o.kind refl)
    ]
      where
        by_kind : (o.kind ≡ Folder → walk room caller q ≡ None → adds_there ≡ false) → (kind : Kind) → o.kind ≡ kind
            → (not (is_file o.kind) && adds_there) ≡ false
        by_kind nowhere File file = ap (λ kind. not (is_file kind) && adds_there) file
        by_kind nowhere Folder folder = and_right (not (is_file o.kind)) adds_there (nowhere folder walked)

    there_same : Off p t q → (way : Option Refusal) → walk room caller q ≡ way → (o : Option Object)
        → object_at room q ≡ o → view_with caller way facts_later o ≡ view_with caller way facts o
    there_same off (Some r) walked o at = refl
    there_same off None walked None at = refl
    there_same off None walked (Some o) at =
        let depth = same_or_hidden facts.removes (depth_in q later.objects) (depth_in q room.objects)
        (depth_seen off walked) in
        let full = same_or_hidden (not (is_file o.kind) && adds_there) (later.left == 0) (room.left == 0)
        (full_seen o at walked) in
        (λ i. if_reached None (Some (record (sight_with caller facts o) { depth = depth i; full = full i })))

    pub seen_unnamed : IsOff caller room (p, t) q → view later caller q ≡ view room caller q
    seen_unnamed is_off = by_place room later caller p t is_room s q (λ seen. seen) is_off (λ off.
        view_unlisted name_p.unlisted name_t.unlisted off
        ∙ there_same off (walk room caller q) refl (object_at room q) refl
        ∙ sym (view_by_facts room caller q))

-- ---- and after a command, refused or not

-- what is in a folder at or below a path is so too
below_too : (q top : Path) → is_at_or_below (parent_of q) top ≡ true → is_at_or_below q top ≡ true
below_too [] top below = below
below_too (first ∷ more) top below =
    let end = ends first more in
    let folder : parent_of (first ∷ more) ≡ end.folder = ap parent_of end.is ∙ parent_of_end end.folder end.name in
    let rest = drop (length top) end.folder in
    let inside : end.folder ≡ top ++ rest = rest_below top end.folder (rw folder at below) in
    ap (λ k. is_at_or_below k top) (end.is ∙ ap (λ f. f ++ end.name ∷ []) inside
    ∙ append_assoc top rest (end.name ∷ []))
    ∙ at_behind top (rest ++ end.name ∷ [])

module _ (room : Room) (caller other : SubjectModel) (command : CommandModel) (lawful : IsLawful command)
    (is_room : IsRoom room) where
  abbrev after : Room
  after = (effect room other command).room

  pub shown_unlisted : (q : Path) → IsUnlisted caller room (paths_of command).0
      → IsUnlisted caller room (paths_of command).1 → IsOff caller room (paths_of command) q
      → view_less but_depth after caller q ≡ view_less but_depth room caller q
  shown_unlisted q unlisted_p unlisted_t off = by_result room other is_room command lawful
      (λ later. view_less but_depth later caller q ≡ view_less but_depth room caller q) refl
      (λ later s. seen_unlisted room later caller (paths_of command).0 (paths_of command).1 is_room s q unlisted_p
      unlisted_t off)

  pub shown_unnamed : (q : Path) → NameUnseen caller room after (paths_of command).0
      → NameUnseen caller room after (paths_of command).1 → FullUnseen caller room after
      → IsOff caller room (paths_of command) q → view after caller q ≡ view room caller q
  shown_unnamed q = by_result room other is_room command lawful
      (λ later. NameUnseen caller room later (paths_of command).0 → NameUnseen caller room later (paths_of command).1
      → FullUnseen caller room later → IsOff caller room (paths_of command) q
      → view later caller q ≡ view room caller q)
      (λ name_p name_t numbers off. refl)
      (λ later s. seen_unnamed room later caller (paths_of command).0 (paths_of command).1 is_room s q)

  pub answered_unnamed : (own : CommandModel) → IsLawful own → NameUnseen caller room after (paths_of command).0
      → NameUnseen caller room after (paths_of command).1 → FullUnseen caller room after
      → FoldersFullUnseen caller room after → IsOff caller room (paths_of command) (paths_of own).0
      → IsOff caller room (paths_of command) (paths_of own).1
      → (effect after caller own).reply ≡ (effect room caller own).reply
  answered_unnamed own lawful_own name_p name_t numbers folders off_p off_t =
      sym (reply_at room after caller is_room (effect_is_room room other command lawful is_room) own lawful_own
      (at (paths_of own).0 off_p) (at (paths_of own).1 off_t))
    where
      at : (q : Path) → IsOff caller room (paths_of command) q → AlikeAt room after caller q
      at q off = record {
        here = sym (shown_unnamed q name_p name_t numbers off);
        above = sym (shown_unnamed (parent_of q) name_p name_t numbers (
          λ below. off.0 (below_too q (paths_of command).0 below),
          λ below. off.1 (below_too q (paths_of command).1 below),
        ));
        full = λ end walked adds.
            let folder : parent_of q ≡ end.folder = ap parent_of end.is ∙ parent_of_end end.folder end.name in
            sym (folders (parent_of q) (ap (walk room caller) folder
            ∙ (walk_to_folder room caller end.folder end.name (ap (walk room caller) (sym end.is) ∙ walked)).0) adds);
      }
