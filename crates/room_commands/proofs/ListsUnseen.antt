-- What a list hides: a list or an owner that changes out of a caller's sight.
use Rattle.room_commands.proofs.Common.{◌≡◌, ℕ, refl, ap, sym, ◌∙◌, Bool, true, false, not, ◌&&◌, ◌||◌, List, [], ◌∷◌}
use Rattle.room_commands.proofs.Common.{◌++◌, length, Option, None, Some, is_some, option_map, cond, append-nil}
use Rattle.room_commands.proofs.Common.{append_assoc, ◌⊎◌, inl, inr, is_none, both_ways, Kind, File, Folder, execute}
use Rattle.room_commands.proofs.Common.{list_directory, add_file, add_subdirectory, append_data, read_attributes}
use Rattle.room_commands.proofs.Common.{read_data, delete_child, delete_object, read_acl, SubjectModel, EntryModel}
use Rattle.room_commands.proofs.Common.{allowed_mask, Path, path_eq, Object, Room, object_at, list_of}
use Rattle.room_commands.proofs.Common.{standing_of, parent_of, some_is, same_path, parent_of_end, ends, Refusal}
use Rattle.room_commands.proofs.Common.{NoEnt, NotDir, own_entries_of_setlist, first_refusal, refuse_if}
use Rattle.room_commands.proofs.Common.{refusal_without_place, denied_at, check_right, is_file, is_kind, is_at_or_below}
use Rattle.room_commands.proofs.Common.{prefix_refusal, walk, effect_by, with_object, LooksAlike, view, may, may_remove}
use Rattle.room_commands.proofs.Common.{rights_at, ListUnseen, then_some}
use Rattle.room_commands.specs.CommandModel as C
use Rattle.room_commands.proofs.Renaming.{at_behind}
use Rattle.room_commands.proofs.RoomsObject.{after_change, elsewhere_unchanged, kinds_stay, children_stay, depth_stays}
use Rattle.room_commands.proofs.Looks.{then_alike, walk_end, walk_to_folder, decision_in, decided_by_rights}
use Rattle.room_commands.proofs.BytesAlone.{attributes_with, same_or_hidden, Facts, facts_at, sight_with, view_with}
use Rattle.room_commands.proofs.BytesAlone.{view_by_facts}
use Rattle.room_commands.proofs.Staying.{Off, Below_p, Below_t, Away, place, list_out}
use Rattle.room_commands.proofs.Elsewhere.{nothing_seen}
use Rattle.room_commands.proofs.Shorthands.{if_reached, right_on}

-- what kinds and rights alone decide
abbrev of_kind : Kind → Option Kind → Bool
of_kind kind None = false
of_kind File (Some k) = is_file k
of_kind Folder (Some k) = not (is_file k)

abbrev by_rights : Path → ℕ → Option ℕ → Option Refusal
by_rights path wanted None = Some (refusal_without_place NoEnt)
by_rights path wanted (Some rights) = denied_at path (decision_in rights wanted)

abbrev kind_in : Option Object → Option Kind
kind_in o = option_map (λ (found : Object). found.kind) o

some_by_kind : (o : Option Object) → is_some o ≡ is_some (kind_in o)
some_by_kind None = refl
some_by_kind (Some o) = refl

file_by_kind : (o : Option Object) → is_kind File o ≡ of_kind File (kind_in o)
file_by_kind None = refl
file_by_kind (Some o) = refl

right_by_rights : (room : Room) (caller : SubjectModel) (path : Path) (wanted : ℕ) (o : Option Object)
    → right_on room caller path wanted o ≡ by_rights path wanted
    (option_map (λ (found : Object). allowed_mask (list_of room path) caller (standing_of found)) o)
right_by_rights room caller path wanted None = refl
right_by_rights room caller path wanted (Some o) =
    ap (denied_at path) (decided_by_rights (list_of room path) caller (standing_of o) wanted)

-- what a caller reaches has its kind and the caller's rights in both rooms: so it reaches the same
module _ (a b : Room) (caller : SubjectModel) (kinds : (q : Path) → kind_in (object_at a q) ≡ kind_in (object_at b q))
    (rights : (q : Path) → walk a caller q ≡ None → rights_at a caller q ≡ rights_at b caller q) where
  right_kept : (q : Path) → walk a caller q ≡ None → (wanted : ℕ)
      → check_right a caller q wanted ≡ check_right b caller q wanted
  right_kept q reached wanted =
      right_by_rights a caller q wanted (object_at a q) ∙ ap (by_rights q wanted) (rights q reached)
      ∙ sym (right_by_rights b caller q wanted (object_at b q))

  some_kept : (q : Path) → is_some (object_at a q) ≡ is_some (object_at b q)
  some_kept q = some_by_kind (object_at a q) ∙ ap is_some (kinds q) ∙ sym (some_by_kind (object_at b q))

  file_kept : (q : Path) → is_kind File (object_at a q) ≡ is_kind File (object_at b q)
  file_kept q = file_by_kind (object_at a q) ∙ ap (of_kind File) (kinds q) ∙ sym (file_by_kind (object_at b q))

  prefix_kept : (q : Path) → walk a caller q ≡ None → prefix_refusal a caller q ≡ prefix_refusal b caller q
  prefix_kept q reached = (λ i. first_refusal (refuse_if (not (some_kept q i)) NoEnt
      ∷ refuse_if (file_kept q i) NotDir ∷ right_kept q reached execute i ∷ []))

  way_on : (rest top : Path) → walk a caller top ≡ walk b caller top
      → walk a caller (top ++ rest) ≡ walk b caller (top ++ rest)
  way_on [] top way = rw (append-nil top) way
  way_on (name ∷ rest) top way =
      let way_in : walk a caller (top ++ name ∷ []) ≡ walk b caller (top ++ name ∷ []) =
      walk_end a caller top name
      ∙ then_alike (walk a caller top) (walk b caller top) (prefix_refusal a caller top ∷ [])
      (prefix_refusal b caller top ∷ []) way
      (λ reached. ap (λ here. first_refusal (here ∷ [])) (prefix_kept top reached))
      ∙ sym (walk_end b caller top name) in
      rw (← append_assoc top (name ∷ []) rest) (way_on rest (top ++ name ∷ []) way_in)

  way_kept : (q : Path) → walk a caller q ≡ walk b caller q
  way_kept q = way_on q [] refl

  may_kept : (q : Path) → walk a caller q ≡ None → (wanted : ℕ) → may a caller q wanted ≡ may b caller q wanted
  may_kept q reached wanted = ap is_none (right_kept q reached wanted)

  removes_kept : (q : Path) → walk a caller q ≡ None → may_remove a caller q ≡ may_remove b caller q
  removes_kept [] reached = refl
  removes_kept (first ∷ rest) reached =
      let end = ends first rest in
      let folder : parent_of (first ∷ rest) ≡ end.folder = ap parent_of end.is ∙ parent_of_end end.folder end.name in
      let above : may a caller (parent_of (first ∷ rest)) delete_child ≡ may b caller (parent_of (first ∷ rest))
      delete_child = rw folder (may_kept end.folder
      (walk_to_folder a caller end.folder end.name (ap (walk a caller) (sym end.is) ∙ reached)).0 delete_child) in
      (λ i. may_kept (first ∷ rest) reached delete_object i || above i)

-- a sight with another list, and of the object with another owner, that both stay hidden
sight_hidden : (caller : SubjectModel) (facts : Facts) (list : List EntryModel) (o later : Object)
    → o.kind ≡ later.kind → o.bytes ≡ later.bytes
    → allowed_mask facts.list caller (standing_of o) ≡ allowed_mask list caller (standing_of later)
    → facts.may read_acl ≡ false → (o ≡ later) ⊎ (facts.may read_attributes ≡ false)
    → sight_with caller facts o ≡ sight_with caller (record facts { list = list }) later
sight_hidden caller facts list o later kind bytes rights no_list same = (λ i. record {
  kind = kind i;
  rights = rights i;
  attributes = attributes i;
  names = then_some (not (is_file (kind i)) && facts.may list_directory) facts.names;
  bytes = then_some (is_file (kind i) && facts.may read_data) (bytes i);
  entries = same_or_hidden (facts.may read_acl) (o.aclflag, facts.list) (later.aclflag, list) (inr no_list) i;
  size = then_some (is_file (kind i) && facts.may append_data) (length (bytes i));
  depth = then_some facts.removes facts.depth;
  full = then_some (not (is_file (kind i)) && (facts.may add_file || facts.may add_subdirectory)) facts.full;
})
  where
    attributes : then_some (facts.may read_attributes) (attributes_with facts.names o)
        ≡ then_some (facts.may read_attributes) (attributes_with facts.names later)
    attributes = same_or_hidden (facts.may read_attributes) (attributes_with facts.names o)
        (attributes_with facts.names later)
        (elim same [ inl is ↦ inl (ap (attributes_with facts.names) is) | inr off ↦ inr off ])

-- an object that keeps its kind and its bytes
module _ (room : Room) (caller : SubjectModel) (path : Path) (change : Object → Object)
    (keeps_kind : (o : Object) → (change o).kind ≡ o.kind)
    (keeps_bytes : (o : Object) → (change o).bytes ≡ o.bytes)
    (unseen : ListUnseen caller room (with_object room path change) path) where
  abbrev later : Room
  later = with_object room path change

  out : (q : Path) → Off path path q → object_at later q ≡ object_at room q
  out q off = elsewhere_unchanged room path change q (λ same. both_ways (is_at_or_below q path) off.0
      (ap (λ p. is_at_or_below p path) (same ∙ sym (append-nil path)) ∙ at_behind path []))

  kinds : (q : Path) → kind_in (object_at room q) ≡ kind_in (object_at later q)
  kinds q = sym (kinds_stay room path change keeps_kind q)

  rights : (q : Path) → walk room caller q ≡ None → rights_at room caller q ≡ rights_at later caller q
  rights q reached = elim (place path path q) [
    | Below_p rest is ↦ rw is (unseen.rights rest (ap (walk room caller) (sym is) ∙ reached))
    | Below_t rest is ↦ rw is (unseen.rights rest (ap (walk room caller) (sym is) ∙ reached))
    | Away off ↦ (λ i. option_map (λ (o : Object). allowed_mask (sym (list_out room later caller path path out q off) i)
        caller (standing_of o)) (sym (out q off) i))
  ]

  -- all but the list is as it was
  facts_kept : (q : Path) → walk room caller q ≡ None
      → record (facts_at room caller q) { list = list_of later q } ≡ facts_at later caller q
  facts_kept q reached = (λ i. record {
    list = list_of later q;
    may = λ wanted. may_kept room later caller kinds rights q reached wanted i;
    removes = removes_kept room later caller kinds rights q reached i;
    names = sym (children_stay room path change keeps_kind q) i;
    depth = sym (depth_stays room path change q) i;
    full = (facts_at room caller q).full;
  })

  seen_at : (q : Path) (o later_o : Object) → walk room caller q ≡ None → object_at room q ≡ Some o
      → object_at later q ≡ Some later_o → o.kind ≡ later_o.kind → o.bytes ≡ later_o.bytes
      → may room caller q read_acl ≡ false → (o ≡ later_o) ⊎ (may room caller q read_attributes ≡ false)
      → sight_with caller (facts_at room caller q) o ≡ sight_with caller (facts_at later caller q) later_o
  seen_at q o later_o reached is is_later kind bytes no_list same =
      sight_hidden caller (facts_at room caller q) (list_of later q) o later_o kind bytes
      (some_is _ _ (ap (option_map (λ (x : Object). allowed_mask (list_of room q) caller (standing_of x))) (sym is)
      ∙ rights q reached
      ∙ ap (option_map (λ (x : Object). allowed_mask (list_of later q) caller (standing_of x))) is_later))
      no_list same
      ∙ ap (λ facts. sight_with caller facts later_o) (facts_kept q reached)

  now_there : (q : Path) (here : Bool) → path_eq q path ≡ here → (found : Option Object) → object_at room q ≡ found
      → object_at later q ≡ cond here (option_map change found) found
  now_there q here test found is = after_change room path change q
      ∙ (λ i. cond (test i) (option_map change (is i)) (is i))

  abbrev SeenSame : Path → Type 0
  SeenSame q = option_map (sight_with caller (facts_at room caller q)) (object_at room q)
      ≡ option_map (sight_with caller (facts_at later caller q)) (object_at later q)

  seen_none : (q : Path) → object_at room q ≡ None → object_at later q ≡ None → SeenSame q
  seen_none q is is_later = ap (option_map (sight_with caller (facts_at room caller q))) is
      ∙ sym (ap (option_map (sight_with caller (facts_at later caller q))) is_later)

  seen_some : (q : Path) (o later_o : Object) → walk room caller q ≡ None → object_at room q ≡ Some o
      → object_at later q ≡ Some later_o → o.kind ≡ later_o.kind → o.bytes ≡ later_o.bytes
      → may room caller q read_acl ≡ false → (o ≡ later_o) ⊎ (may room caller q read_attributes ≡ false) → SeenSame q
  seen_some q o later_o reached is is_later kind bytes no_list same =
      ap (option_map (sight_with caller (facts_at room caller q))) is
      ∙ ap Some (seen_at q o later_o reached is is_later kind bytes no_list same)
      ∙ sym (ap (option_map (sight_with caller (facts_at later caller q))) is_later)

  seen_below : (q : Path) → walk room caller q ≡ None → may room caller q read_acl ≡ false
      → (q ≡ path → may room caller q read_attributes ≡ false) → (here : Bool) → path_eq q path ≡ here
      → (found : Option Object) → object_at room q ≡ found → SeenSame q
  seen_below q reached no_list no_attributes true test None is = seen_none q is (now_there q true test None is)
  seen_below q reached no_list no_attributes false test None is = seen_none q is (now_there q false test None is)
  seen_below q reached no_list no_attributes true test (Some o) is =
      seen_some q o (change o) reached is (now_there q true test (Some o) is) (sym (keeps_kind o))
      (sym (keeps_bytes o)) no_list (inr (no_attributes (same_path q path test)))
  seen_below q reached no_list no_attributes false test (Some o) is =
      seen_some q o o reached is (now_there q false test (Some o) is) refl refl no_list (inl refl)

  inside : (rest q : Path) → q ≡ path ++ rest → walk room caller q ≡ None → SeenSame q
  inside rest q is reached =
      seen_below q reached
      (ap (λ p. may room caller p read_acl) is ∙ unseen.lists rest (ap (walk room caller) (sym is) ∙ reached))
      (λ at. ap (λ p. may room caller p read_attributes) at
      ∙ unseen.attributes (ap (walk room caller) (sym at) ∙ reached))
      (path_eq q path) refl (object_at room q) refl

  seen : (q : Path) → walk room caller q ≡ None → SeenSame q
  seen q reached = elim (place path path q) [
    | Below_p rest is ↦ inside rest q is reached
    | Below_t rest is ↦ inside rest q is reached
    | Away off ↦
        (λ i. option_map (sight_with caller
        (record (facts_at room caller q) { list = sym (list_out room later caller path path out q off) i }))
        (sym (out q off) i))
        ∙ ap (λ facts. option_map (sight_with caller facts) (object_at later q)) (facts_kept q reached)
  ]

  by_way : (q : Path) (way : Option Refusal) → walk room caller q ≡ way → view room caller q ≡ view later caller q
  by_way q None is =
      view_by_facts room caller q
      ∙ ap (λ way. view_with caller way (facts_at room caller q) (object_at room q)) is
      ∙ ap (if_reached None) (seen q is)
      ∙ ap (λ way. view_with caller way (facts_at later caller q) (object_at later q))
      (sym is ∙ way_kept room later caller kinds rights q)
      ∙ sym (view_by_facts later caller q)
  by_way q (Some fault) is =
      nothing_seen room caller fault q is
      ∙ sym (nothing_seen later caller fault q (sym (way_kept room later caller kinds rights q) ∙ is))

  pub unseen_list : LooksAlike caller room later
  unseen_list q = by_way q (walk room caller q) refl

-- another's SETLIST, and CHOWN
module _ (room : Room) (caller other : SubjectModel) (path : Path) where
  pub unseen_setlist : (aclflag : ℕ) (entries : List EntryModel) (x : Option Refusal)
      → ListUnseen caller room (effect_by room other (C.SetList aclflag entries path) x).room path
      → LooksAlike caller room (effect_by room other (C.SetList aclflag entries path) x).room
  unseen_setlist aclflag entries (Some r) unseen = (λ q. refl)
  unseen_setlist aclflag entries None unseen =
      unseen_list room caller path
      (λ o. record o { aclflag = aclflag; own = own_entries_of_setlist path aclflag entries })
      (λ o. refl) (λ o. refl) unseen

  pub unseen_chown : (group owner : List ℕ) (x : Option Refusal)
      → ListUnseen caller room (effect_by room other (C.Chown group owner path) x).room path
      → LooksAlike caller room (effect_by room other (C.Chown group owner path) x).room
  unseen_chown group owner (Some r) unseen = (λ q. refl)
  unseen_chown group owner None unseen =
      unseen_list room caller path (λ o. record o { owner = owner; group = group }) (λ o. refl) (λ o. refl) unseen
