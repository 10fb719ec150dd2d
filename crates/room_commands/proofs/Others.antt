-- What others do, where it does not show to a caller.
use Rattle.room_commands.proofs.Common.{◌≡◌, ℕ, refl, ap, sym, ◌∙◌, Bool, true, false, ◌&&◌, ◌||◌, List, [], ◌∷◌, ◌++◌}
use Rattle.room_commands.proofs.Common.{Option, None, Some, option_map, length, ◌+◌, length-append, and_right, is_none}
use Rattle.room_commands.proofs.Common.{Kind, File, Folder, write_acl, write_owner, delete_object, delete_child}
use Rattle.room_commands.proofs.Common.{read_data, append_data, read_attributes, SubjectModel, Path, path_eq, Object}
use Rattle.room_commands.proofs.Common.{Room, IsRoom, object_at, parent_of, same_path, parent_of_end, ends, Refusal}
use Rattle.room_commands.proofs.Common.{Attributes, effect, effect_by, with_object, check_right, walk, first_refusal}
use Rattle.room_commands.proofs.Common.{checks, is_file, LooksAlike, StayAlike, may, may_remove, view, Turn, Own, Other}
use Rattle.room_commands.proofs.Common.{own_turns, replies_among, OthersUnseen, BytesUnseen, without_bytes}
use Rattle.room_commands.proofs.Common.{lists_without_bytes, handed_down, HasNoPower, SameBelow, or_left, or_right, inl}
use Rattle.room_commands.proofs.Common.{inr, then_some, right_to_add, check_exists, check_file}
use Rattle.room_commands.specs.CommandModel as C
use Rattle.room_commands.proofs.Rights.{all_none}
use Rattle.room_commands.proofs.ChecksTell.{exists_there, file_there}
use Rattle.room_commands.proofs.EffectIsRoom.{effect_is_room}
use Rattle.room_commands.proofs.NothingShows.{reply_alike}
use Rattle.room_commands.proofs.BytesAlone.{attributes_with, Facts, facts_at, sight_with, view_with, view_by_facts}
use Rattle.room_commands.proofs.BytesAlone.{view_after}
use Rattle.room_commands.proofs.BytesAlone.{group_kept, handed_kept}
use Rattle.room_commands.proofs.BytesAlone.{view_written}
use Rattle.room_commands.proofs.CommandsStay.{command_stays}
use Rattle.room_commands.proofs.RoomLaws.{bytes_stay_out}
use Rattle.room_commands.proofs.RoomsNew.{same_or_other_path}
use Rattle.room_commands.proofs.RoomsObject.{elsewhere_unchanged}
use Rattle.room_commands.proofs.Looks.{way_alike, right_alike, kind_alike, in_folder_alike, walk_to_folder}
use Rattle.room_commands.proofs.Shorthands.{if_reached}

module _ (a b : Room) (caller : SubjectModel) (alike : LooksAlike caller a b) where
  pub may_alike : (path : Path) → walk a caller path ≡ None → (wanted : ℕ)
      → may a caller path wanted ≡ may b caller path wanted
  may_alike path walked wanted = ap is_none (right_alike a b caller path (alike path) walked wanted)

  pub may_remove_alike : (path : Path) → walk a caller path ≡ None
      → may_remove a caller path ≡ may_remove b caller path
  may_remove_alike [] walked = refl
  may_remove_alike (first ∷ rest) walked =
      let end = ends first rest in
      let folder : parent_of (first ∷ rest) ≡ end.folder = ap parent_of end.is ∙ parent_of_end end.folder end.name in
      let above : check_right a caller (parent_of (first ∷ rest)) delete_child
      ≡ check_right b caller (parent_of (first ∷ rest)) delete_child =
      rw folder (in_folder_alike a b caller end.folder end.name (ap (walk a caller) (sym end.is) ∙ walked)
      (alike end.folder) delete_child) in
      let here = right_alike a b caller (first ∷ rest) (alike (first ∷ rest)) walked delete_object in
      (λ i. is_none (here i) || is_none (above i))

  pub way_back : (path : Path) → walk b caller path ≡ None → walk a caller path ≡ None
  way_back path walked = way_alike a b caller path (alike path) ∙ walked

-- looking alike, now and later, goes both ways
pub stay_turned : (a b : Room) (caller : SubjectModel) → StayAlike caller a b → StayAlike caller b a
stay_turned a b caller s = record {
  now = λ path. sym (s.now path);
  adding = λ folder name kind walked adds.
      let back = way_back a b caller s.now (folder ++ name ∷ []) walked in
      let given = s.adding folder name kind back
      (may_alike a b caller s.now folder (walk_to_folder a caller folder name back).0 (right_to_add kind) ∙ adds) in
      (sym given.0, sym given.1, sym given.2);
  moving = λ path walked removes rest.
      let back = way_back a b caller s.now path walked in
      sym (s.moving path back (may_remove_alike a b caller s.now path back ∙ removes) rest);
  setting = λ path walked sets.
      let back = way_back a b caller s.now path walked in
      let was = s.setting path back ((λ i. may_alike a b caller s.now path back write_acl i
      || may_alike a b caller s.now path back write_owner i) ∙ sets) in (
        λ rest. sym (was.0 rest),
        sym was.1,
        λ folder. sym (was.2 (kind_alike a b caller path (s.now path) back Folder ∙ folder)),
      );
}

-- and on
pub stay_joined : (a b c : Room) (caller : SubjectModel) → StayAlike caller a b → StayAlike caller b c
    → StayAlike caller a c
stay_joined a b c caller s next = record {
  now = λ path. s.now path ∙ next.now path;
  adding = λ folder name kind walked adds.
      let on = sym (way_alike a b caller (folder ++ name ∷ []) (s.now (folder ++ name ∷ []))) ∙ walked in
      let first = s.adding folder name kind walked adds in
      let second = next.adding folder name kind on
      (sym (may_alike a b caller s.now folder (walk_to_folder a caller folder name walked).0 (right_to_add kind))
      ∙ adds) in
      (first.0 ∙ second.0, first.1 ∙ second.1, first.2 ∙ second.2);
  moving = λ path walked removes rest.
      let on = sym (way_alike a b caller path (s.now path)) ∙ walked in
      s.moving path walked removes rest
      ∙ next.moving path on (sym (may_remove_alike a b caller s.now path walked) ∙ removes) rest;
  setting = λ path walked sets.
      let on = sym (way_alike a b caller path (s.now path)) ∙ walked in
      let first = s.setting path walked sets in
      let second = next.setting path on ((λ i. sym (may_alike a b caller s.now path walked write_acl) i
      || sym (may_alike a b caller s.now path walked write_owner) i) ∙ sets) in (
        λ rest. first.0 rest ∙ second.0 rest,
        first.1 ∙ second.1,
        λ folder. first.2 folder
            ∙ second.2 (sym (kind_alike a b caller path (s.now path) walked Folder) ∙ folder),
      );
}

-- so what others do unseen does not show in the answers
pub others_do_not_show : (caller : SubjectModel) (turns : List Turn) (a b : Room) → IsRoom a → IsRoom b
    → StayAlike caller a b → OthersUnseen caller a turns
    → replies_among a caller turns ≡ replies_among b caller (own_turns turns)
others_do_not_show caller [] a b room_a room_b alike unseen = refl
others_do_not_show caller (Own command ∷ turns) a b room_a room_b alike unseen =
    let first = reply_alike a b caller room_a room_b alike.now command unseen.0 in
    let others = others_do_not_show caller turns (effect a caller command).room (effect b caller command).room
    (effect_is_room a caller command unseen.0 room_a) (effect_is_room b caller command unseen.0 room_b)
    (command_stays a b caller room_a room_b alike command unseen.0) unseen.1 in
    (λ i. first i ∷ others i)
others_do_not_show caller (Other other command ∷ turns) a b room_a room_b alike unseen =
    others_do_not_show caller turns (effect a other command).room b
    (effect_is_room a other command unseen.0 room_a) room_b
    (stay_joined (effect a other command).room a b caller
    (stay_turned a (effect a other command).room caller unseen.1) alike) unseen.2

-- a room looks like itself
pub stay_itself : (room : Room) (caller : SubjectModel) → StayAlike caller room room
stay_itself room caller = record {
  now = λ path. refl;
  adding = λ folder name kind walked adds. (refl, refl, refl);
  moving = λ path walked removes rest. refl;
  setting = λ path walked sets. ((λ rest. refl), refl, λ folder. refl);
}

not_shown : {X : Type 0} (f : X → X) (test : Bool) (x : X) → test ≡ false
    → option_map f (then_some test x) ≡ then_some test x
not_shown f true x h = let no : true ≡ false = h in cc
not_shown f false x h = refl

-- new bytes that the caller may not see
module _ (new : List ℕ → List ℕ) (count : ℕ → ℕ) (counts : (l : List ℕ) → length (new l) ≡ count (length l))
    (room : Room) (caller : SubjectModel) (path : Path) (o : Object)
    (there : object_at room path ≡ Some o) (file : o.kind ≡ File) (unseen : BytesUnseen caller room path) where
  abbrev facts : Facts
  facts = facts_at room caller path

  stays_here : (way : Option Refusal) → walk room caller path ≡ way
      → view_written new count counts true (view_with caller way facts (Some o)) ≡ view_with caller way facts (Some o)
  stays_here (Some r) is = refl
  stays_here None is =
      let (no_bytes, no_size, no_attributes) = unseen is in
      let attributes = not_shown (λ (x : Attributes). record x { size = count x.size }) (facts.may read_attributes)
      (attributes_with facts.names o) no_attributes in
      let bytes = not_shown new (is_file o.kind && facts.may read_data) o.bytes
      (and_right (is_file o.kind) (facts.may read_data) no_bytes) in
      let size = not_shown count (is_file o.kind && facts.may append_data) (length o.bytes)
      (and_right (is_file o.kind) (facts.may append_data) no_size) in
      (λ i. if_reached None (Some (record (sight_with caller facts o) {
        attributes = attributes i;
        bytes = bytes i;
        size = size i;
      })))

  view_stays : (q : Path) (here : Bool) → path_eq q path ≡ here
      → view_written new count counts here (view room caller q) ≡ view room caller q
  view_stays q false other = refl
  view_stays q true same =
      let at : q ≡ path = same_path q path same in
      let whole : view room caller path ≡ view_with caller (walk room caller path) facts (Some o) =
      view_by_facts room caller path ∙ ap (view_with caller (walk room caller path) facts) there in
      rw at (ap (view_written new count counts true) whole ∙ stays_here (walk room caller path) refl ∙ sym whole)

  pub unseen_bytes : LooksAlike caller room (with_object room path (λ o. record o { bytes = new o.bytes }))
  unseen_bytes q =
      sym (view_after new count counts room caller path o there file q ∙ view_stays q (path_eq q path) refl)

  abbrev later : Room
  later = with_object room path (λ o. record o { bytes = new o.bytes })

  out : (q : Path) → without_bytes (object_at later q) ≡ without_bytes (object_at room q)
  out = bytes_stay_out room path new

  -- below what the caller has power over nothing changes
  below_stays : HasNoPower caller room path → (q : Path) → walk room caller q ≡ None
      → (may_remove room caller q || (may room caller q write_acl || may room caller q write_owner)) ≡ true
      → SameBelow room later q
  below_stays powerless q walked power rest = elim (same_or_other_path (q ++ rest) path) [
    | inl same ↦
        let none = powerless q rest (sym same) walked in
        let no : false ≡ true = (λ i. sym none.0 i || sym none.1 i) ∙ power in
        absurd (let wrong : false ≡ true = no in cc)
    | inr other ↦ sym (elsewhere_unchanged room path (λ o. record o { bytes = new o.bytes }) (q ++ rest) other)
  ]

  pub unseen_bytes_stay : HasNoPower caller room path → StayAlike caller room later
  unseen_bytes_stay powerless = record {
    now = unseen_bytes;
    adding = λ folder name kind walked adds. (
      refl,
      group_kept room later (λ q. sym (out q)) folder,
      ap (λ entries. handed_down entries kind) (sym (lists_without_bytes later room out folder)),
    );
    moving = λ q walked removes. below_stays powerless q walked (or_left _ _ removes);
    setting = λ q walked sets. (
      below_stays powerless q walked (or_right _ _ sets),
      handed_kept room later (λ k. sym (out k)) q,
      λ folder. refl,
    );
  }

file_of : (kind : Kind) → is_file kind ≡ true → kind ≡ File
file_of File h = refl
file_of Folder h = let no : false ≡ true = h in cc

-- another's WRITE, and APPEND
module _ (room : Room) (caller other : SubjectModel) (bytes : List ℕ) (path : Path)
    (unseen : BytesUnseen caller room path) where
  abbrev Unseen : Room → Type 0
  Unseen later = LooksAlike caller room later × (HasNoPower caller room path → StayAlike caller room later)

  bytes_unseen : (new : List ℕ → List ℕ) (count : ℕ → ℕ) → ((old : List ℕ) → length (new old) ≡ count (length old))
      → check_exists room path ≡ None → check_file room path ≡ None
      → Unseen (with_object room path (λ o. record o { bytes = new o.bytes }))
  bytes_unseen new count counts there file =
      let found = exists_there room path there in
      let kind = file_of found.0.kind (file_there room path found.0 found.1 file) in (
        unseen_bytes new count counts room caller path found.0 found.1 kind unseen,
        unseen_bytes_stay new count counts room caller path found.0 found.1 kind unseen,
      )

  written : (x : Option Refusal) → first_refusal (checks room other (C.Write bytes path)) ≡ x
      → Unseen (effect_by room other (C.Write bytes path) x).room
  written (Some r) is = (λ q. refl, λ powerless. stay_itself room caller)
  written None is =
      let (_, (there, (file, _))) = all_none (checks room other (C.Write bytes path)) is in
      bytes_unseen (λ old. bytes) (λ n. length bytes) (λ old. refl) there file

  pub unseen_write : Unseen (effect room other (C.Write bytes path)).room
  unseen_write = written (first_refusal (checks room other (C.Write bytes path))) refl

  appended : (x : Option Refusal) → first_refusal (checks room other (C.Append bytes path)) ≡ x
      → Unseen (effect_by room other (C.Append bytes path) x).room
  appended (Some r) is = (λ q. refl, λ powerless. stay_itself room caller)
  appended None is =
      let (_, (there, (file, _))) = all_none (checks room other (C.Append bytes path)) is in
      bytes_unseen (λ old. old ++ bytes) (λ n. n + length bytes) (λ old. length-append old bytes) there file

  pub unseen_append : Unseen (effect room other (C.Append bytes path)).room
  unseen_append = appended (first_refusal (checks room other (C.Append bytes path))) refl
