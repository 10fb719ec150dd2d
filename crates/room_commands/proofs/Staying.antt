-- Two rooms that look alike to a caller, each changed below the same two paths: they stay alike.
use Rattle.room_commands.proofs.Common.{◌≡◌, ℕ, refl, ap, sym, ◌∙◌, Bool, true, false, not, ◌&&◌, ◌||◌, List, [], ◌∷◌}
use Rattle.room_commands.proofs.Common.{◌++◌, length, drop, Option, None, Some, is_some, ◌==◌, option_map, append-nil}
use Rattle.room_commands.proofs.Common.{inl, inr, ◌⊎◌, is_none, cases_Bool, and_parts, and_right, both_ways}
use Rattle.room_commands.proofs.Common.{false_from_ne_true, not-true, same_from_push, Kind, File, Folder}
use Rattle.room_commands.proofs.Common.{list_directory, add_file, add_subdirectory, read_attributes, write_acl}
use Rattle.room_commands.proofs.Common.{write_owner, delete_object, delete_child, SubjectModel, handed_down, Name, Path}
use Rattle.room_commands.proofs.Common.{name_eq, Object, Room, IsRoom, object_at, children, list_of, parent_of, some_is}
use Rattle.room_commands.proofs.Common.{none_is_some, parent_of_end, ends, lists_by_objects_above, same_name, Refusal}
use Rattle.room_commands.proofs.Common.{Attributes, first_refusal, check_right, is_file, is_kind, is_root}
use Rattle.room_commands.proofs.Common.{prefix_refusal, walk, is_at_or_below, LooksAlike, StayAlike, SameBelow, Sight}
use Rattle.room_commands.proofs.Common.{may, may_remove, depth_in, view, handed_to, object_or_default, then_some}
use Rattle.room_commands.proofs.Common.{right_to_add, subst}
use Rattle.std.proofs.Common.{subst₂}
use Rattle.room_commands.proofs.RoomsRenamed.{rest_below, below_more}
use Rattle.room_commands.proofs.RoomsNew.{same_or_other_path}
use Rattle.room_commands.proofs.ChecksTell.{folder_of_kind, walk_ends_in_folder}
use Rattle.room_commands.proofs.Looks.{walk_end, walk_to_folder, way_alike, kinds_alike, walk_to_other, right_alike}
use Rattle.room_commands.proofs.BytesAlone.{attributes_with, shown_map, Facts, facts_at, sight_with, size_with}
use Rattle.room_commands.proofs.BytesAlone.{view_with, view_by_facts}
use Rattle.room_commands.proofs.SameParts.{right_same, prefix_same, walk_same, children_same, depth_same, Region}
use Rattle.room_commands.proofs.SameParts.{list_in, same_in, view_in, handed_in, list_by_handed}
use Rattle.room_commands.proofs.Shorthands.{handed_by, if_reached, there_seen, or_no_object}

-- neither at or below the one path nor the other
abbrev pub Off : Path → Path → Path → Type 0
Off p t q = (is_at_or_below q p ≡ false) × (is_at_or_below q t ≡ false)

pub data Place (p t q : Path) : Type 0 where
  Below_p : (rest : Path) → q ≡ p ++ rest → Place p t q
  Below_t : (rest : Path) → q ≡ t ++ rest → Place p t q
  Away : Off p t q → Place p t q

pub place : (p t q : Path) → Place p t q
place p t q = elim (cases_Bool (is_at_or_below q p)) [
  | inl below ↦ Below_p (drop (length p) q) (rest_below p q below)
  | inr off_p ↦ elim (cases_Bool (is_at_or_below q t)) [
    | inl below ↦ Below_t (drop (length t) q) (rest_below t q below)
    | inr off_t ↦ Away (off_p, off_t)
  ]
]

pub off_front : (top front rest q : Path) → q ≡ front ++ rest → is_at_or_below q top ≡ false
    → is_at_or_below front top ≡ false
off_front top front rest q is off = false_from_ne_true (is_at_or_below front top) (λ below.
    both_ways (is_at_or_below q top) off (ap (λ k. is_at_or_below k top) is ∙ below_more top front rest below))

-- a child at or below a path that its folder is not at or below is at it
child_at : (q p : Path) (n : Name) → is_at_or_below (q ++ n ∷ []) p ≡ true → is_at_or_below q p ≡ false
    → p ≡ q ++ n ∷ []
child_at q [] n below off = let no : true ≡ false = off in cc
child_at [] (x ∷ []) n below off =
    let parts = and_parts (name_eq x n) true below in ap (λ m. m ∷ []) (same_name x n parts.0)
child_at [] (x ∷ z ∷ p) n below off =
    let parts = and_parts (name_eq x n) false below in let no : false ≡ true = parts.1 in cc
child_at (y ∷ q) (x ∷ p) n below off =
    let parts = and_parts (name_eq x y) (is_at_or_below (q ++ n ∷ []) p) below in
    let names = same_name x y parts.0 in
    let off_rest : is_at_or_below q p ≡ false = ap (λ b. b && is_at_or_below q p) (sym parts.0) ∙ off in
    let rests = child_at q p n parts.1 off_rest in
    (λ i. names i ∷ rests i)

-- whether a path is that of a child of a folder
pub in_folder : (p q : Path) → ((n : Name) × (p ≡ q ++ n ∷ [])) ⊎ ((n : Name) → p ≡ q ++ n ∷ [] → ⊥)
in_folder [] q = inr (λ n is. nothing q n is)
  where
    nothing : (q : Path) (n : Name) → [] ≡ q ++ n ∷ [] → ⊥
    nothing [] n is = cc
    nothing (y ∷ q) n is = cc
in_folder (first ∷ rest) q =
    let end = ends first rest in
    elim (same_or_other_path end.folder q) [
      | inl same ↦ inl (end.name, end.is ∙ ap (λ f. f ++ end.name ∷ []) same)
      | inr other ↦ inr (λ n is. other (same_from_push end.folder q end.name n (sym end.is ∙ is)).0)
    ]

-- what is in a folder in which nothing came or went is away from both paths
pub child_off : (p t q : Path) → Off p t q → ((n : Name) → p ≡ q ++ n ∷ [] → ⊥) → ((n : Name) → t ≡ q ++ n ∷ [] → ⊥)
    → (n : Name) → Off p t (q ++ n ∷ [])
child_off p t q off no_p no_t n = (
  false_from_ne_true (is_at_or_below (q ++ n ∷ []) p) (λ below. no_p n (child_at q p n below off.0)),
  false_from_ne_true (is_at_or_below (q ++ n ∷ []) t) (λ below. no_t n (child_at q t n below off.1)),
)

-- one room changed below two paths
module _ (r later : Room) (caller : SubjectModel) (p t : Path)
    (out : (q : Path) → Off p t q → object_at later q ≡ object_at r q) where
  fronts_off : (front rest q : Path) → q ≡ front ++ rest → Off p t q → Off p t front
  fronts_off front rest q is off = (off_front p front rest q is off.0, off_front t front rest q is off.1)

  pub list_out : (q : Path) → Off p t q → list_of later q ≡ list_of r q
  list_out q off = lists_by_objects_above later r q (λ front rest is. out front (fronts_off front rest q is off))

  pub right_out : (q : Path) (wanted : ℕ) → Off p t q
      → check_right later caller q wanted ≡ check_right r caller q wanted
  right_out q wanted off = right_same later r caller q wanted (list_out q off) (out q off)

  pub prefix_out : (q : Path) → Off p t q → prefix_refusal later caller q ≡ prefix_refusal r caller q
  prefix_out q off = prefix_same later r caller q (list_out q off) (out q off)

  pub walk_out : (q : Path) → Off p t q → walk later caller q ≡ walk r caller q
  walk_out q off = walk_same later r caller q (λ front name rest is.
      prefix_out front (fronts_off front (name ∷ rest) q is off))

  above_out : (q : Path) (wanted : ℕ) → Off p t q
      → check_right later caller (parent_of q) wanted ≡ check_right r caller (parent_of q) wanted
  above_out [] wanted off = right_out [] wanted off
  above_out (first ∷ rest) wanted off =
      let end = ends first rest in
      let folder : parent_of (first ∷ rest) ≡ end.folder = ap parent_of end.is ∙ parent_of_end end.folder end.name in
      rw folder (right_out end.folder wanted (fronts_off end.folder (end.name ∷ []) (first ∷ rest) end.is off))

  pub handed_out : (q : Path) → Off p t q → handed_to later q ≡ handed_to r q
  handed_out [] off = (λ i. handed_by (out [] off i) (list_out [] off i))
  handed_out (first ∷ rest) off =
      let end = ends first rest in
      let folder : parent_of (first ∷ rest) ≡ end.folder = ap parent_of end.is ∙ parent_of_end end.folder end.name in
      rw folder (λ i. handed_by (out (first ∷ rest) off i) (list_out end.folder
      (fronts_off end.folder (end.name ∷ []) (first ∷ rest) end.is off) i))

  pub facts_out : (q : Path) → Off p t q → facts_at later caller q ≡ record (facts_at r caller q) {
    names = children later q;
    depth = depth_in q later.objects;
    full = (later.left == 0);
  }
  facts_out q off = (λ i. record {
    list = list_out q off i;
    may = λ wanted. is_none (right_out q wanted off i);
    removes = not (is_root q) && (is_none (right_out q delete_object off i)
        || is_none (above_out q delete_child off i));
    names = children later q;
    depth = depth_in q later.objects;
    full = (later.left == 0);
  })

shown_if : {X : Type 0} (test other : Bool) (x y : X) → test ≡ other → (test ≡ true → x ≡ y)
    → then_some test x ≡ then_some other y
shown_if true true x y same value = ap Some (value refl)
shown_if false false x y same value = refl
shown_if true false x y same value = cc
shown_if false true x y same value = cc

shown_is : {X : Type 0} (test : Bool) (x : X) → is_some (then_some test x) ≡ test
shown_is true x = refl
shown_is false x = refl

-- a command leaves both counts of what was made alike, or as they were
abbrev pub Numbers : Room → Room → Room → Room → Type 0
Numbers a b a' b' = (a'.left ≡ b'.left) ⊎ ((a'.left ≡ a.left) × (b'.left ≡ b.left))

made_after : (a b a' b' : Room) → Numbers a b a' b' → a.left ≡ b.left → a'.left ≡ b'.left
made_after a b a' b' (inl alike) same = alike
made_after a b a' b' (inr kept) same = kept.0 ∙ same ∙ sym kept.1

full_after : (a b a' b' : Room) → Numbers a b a' b' → (test other : Bool)
    → then_some test (a.left == 0) ≡ then_some other (b.left == 0)
    → then_some test (a'.left == 0) ≡ then_some other (b'.left == 0)
full_after a b a' b' (inl alike) test other same =
    shown_if test other (a'.left == 0) (b'.left == 0)
    (sym (shown_is test (a.left == 0)) ∙ ap is_some same ∙ shown_is other (b.left == 0))
    (λ h. ap (λ n. n == 0) alike)
full_after a b a' b' (inr kept) test other same =
    ap (λ n. then_some test (n == 0)) kept.0 ∙ same
    ∙ ap (λ n. then_some other (n == 0)) (sym kept.1)

abbrev resized : List (Name × Kind) → ℕ → Kind → ℕ
resized names size File = size
resized names size Folder = length names

abbrev with_names : List (Name × Kind) → Attributes → Attributes
with_names names x = record x { size = resized names x.size x.kind }

resizes : (names others : List (Name × Kind)) (bytes : List ℕ) (kind : Kind)
    → size_with names bytes kind ≡ resized names (size_with others bytes kind) kind
resizes names others bytes File = refl
resizes names others bytes Folder = refl

module _ (caller : SubjectModel) where
  attributes_shown : (test : Bool) (names others : List (Name × Kind)) (o : Object)
      → then_some test (attributes_with names o)
      ≡ option_map (with_names names) (then_some test (attributes_with others o))
  attributes_shown test names others o =
      ap (λ (n : ℕ). then_some test (record (attributes_with names o) { size = n }))
      (resizes names others o.bytes o.kind)
      ∙ shown_map (with_names names) test (attributes_with others o)

  abbrev full_seen : Facts → Object → Bool → Option Bool
  full_seen facts o full = then_some (not (is_file o.kind) && (facts.may add_file || facts.may add_subdirectory)) full

  -- a sight where names, depth and the last number changed
  seen_changed : (fa fb : Facts) (oa ob : Object) → sight_with caller fa oa ≡ sight_with caller fb ob
      → (names : List (Name × Kind)) (da db : ℕ) (full other : Bool) → full_seen fa oa full ≡ full_seen fb ob other
      → (fa.removes ≡ true → da ≡ db)
      → sight_with caller (record fa { names = names; depth = da; full = full }) oa
      ≡ sight_with caller (record fb { names = names; depth = db; full = other }) ob
  seen_changed fa fb oa ob same names da db full other fulls depths =
      let removes : fa.removes ≡ fb.removes = sym (shown_is fa.removes fa.depth)
      ∙ ap (λ (s : Sight). is_some s.depth) same ∙ shown_is fb.removes fb.depth in
      let attributes = attributes_shown (fa.may read_attributes) names fa.names oa
      ∙ ap (λ (s : Sight). option_map (with_names names) s.attributes) same
      ∙ sym (attributes_shown (fb.may read_attributes) names fb.names ob) in
      let listed = shown_map (λ (others : List (Name × Kind)). names)
      (not (is_file oa.kind) && fa.may list_directory) fa.names
      ∙ ap (λ (s : Sight). option_map (λ (others : List (Name × Kind)). names) s.names) same
      ∙ sym (shown_map (λ (others : List (Name × Kind)). names)
      (not (is_file ob.kind) && fb.may list_directory) fb.names) in
      let depth = shown_if fa.removes fb.removes da db removes depths in
      (λ i. record (same i) { attributes = attributes i; names = listed i; depth = depth i; full = fulls i })

  -- the same, where the names are as they were
  seen_kept : (fa fb : Facts) (oa ob : Object) → sight_with caller fa oa ≡ sight_with caller fb ob
      → (da db : ℕ) (full other : Bool) → full_seen fa oa full ≡ full_seen fb ob other
      → (fa.removes ≡ true → da ≡ db)
      → sight_with caller (record fa { depth = da; full = full }) oa
      ≡ sight_with caller (record fb { depth = db; full = other }) ob
  seen_kept fa fb oa ob same da db full other fulls depths =
      let removes : fa.removes ≡ fb.removes = sym (shown_is fa.removes fa.depth)
      ∙ ap (λ (s : Sight). is_some s.depth) same ∙ shown_is fb.removes fb.depth in
      let depth = shown_if fa.removes fb.removes da db removes depths in
      (λ i. record (same i) { depth = depth i; full = fulls i })

pub some_folder : (o : Option Object) → is_kind Folder o ≡ true
    → (found : Object) × (o ≡ Some found) × (found.kind ≡ Folder)
some_folder None h = absurd (let no : false ≡ true = h in cc)
some_folder (Some o) h = (o, refl, folder_of_kind o.kind (not-true (is_file o.kind) h))

-- what a folder gives to what is added to it
abbrev Gives : Room → Room → Path → Kind → Type 0
Gives x y folder kind = (x.left ≡ y.left)
    × ((object_or_default x folder).group ≡ (object_or_default y folder).group)
    × (handed_down (list_of x folder) kind ≡ handed_down (list_of y folder) kind)

-- what a command does to two rooms: all else stays, and below two paths both rooms become the same
pub record Step (a b a' b' : Room) (caller : SubjectModel) (p t : Path) : Type 0 where
  pub before : StayAlike caller a b
  pub room_a : IsRoom a'
  pub room_b : IsRoom b'
  pub out_a : (q : Path) → Off p t q → object_at a' q ≡ object_at a q
  pub out_b : (q : Path) → Off p t q → object_at b' q ≡ object_at b q
  pub numbers : Numbers a b a' b'
  pub at_p : Region a' b' caller p
  pub at_t : Region a' b' caller t
  pub to_p : walk a caller p ≡ None
  pub to_t : walk a caller t ≡ None

module _ (a b a' b' : Room) (caller : SubjectModel) (p t : Path) (s : Step a b a' b' caller p t) where
  alike : LooksAlike caller a b
  alike = s.before.now

  -- what was the same below a path still is
  still_same : (q : Path) → SameBelow a b q → SameBelow a' b' q
  still_same q same rest = elim (place p t (q ++ rest)) [
    | Below_p more is ↦ rw is (s.at_p.inside more)
    | Below_t more is ↦ rw is (s.at_t.inside more)
    | Away off ↦ s.out_a (q ++ rest) off ∙ same rest ∙ sym (s.out_b (q ++ rest) off)
  ]

  -- in a folder that can be traversed
  names_after : (q : Path) (n : Name) → walk a caller (q ++ n ∷ []) ≡ None → children a' q ≡ children b' q
  names_after q n walked = children_same a' b' caller q (λ name. elim (place p t (q ++ name ∷ [])) [
    | Below_p more is ↦ ap (option_map (λ (o : Object). o.kind)) (rw is (s.at_p.inside more))
    | Below_t more is ↦ ap (option_map (λ (o : Object). o.kind)) (rw is (s.at_t.inside more))
    | Away off ↦
        ap (option_map (λ (o : Object). o.kind)) (s.out_a (q ++ name ∷ []) off)
        ∙ kinds_alike a b caller (q ++ name ∷ []) (alike (q ++ name ∷ [])) (walk_to_other a caller q name n ∙ walked)
        ∙ ap (option_map (λ (o : Object). o.kind)) (sym (s.out_b (q ++ name ∷ []) off))
  ])

  names_kept_a : (q : Path) → ((n : Name) → Off p t (q ++ n ∷ [])) → children a' q ≡ children a q
  names_kept_a q off = children_same a' a caller q
      (λ n. ap (option_map (λ (o : Object). o.kind)) (s.out_a (q ++ n ∷ []) (off n)))

  names_kept_b : (q : Path) → ((n : Name) → Off p t (q ++ n ∷ [])) → children b' q ≡ children b q
  names_kept_b q off = children_same b' b caller q
      (λ n. ap (option_map (λ (o : Object). o.kind)) (s.out_b (q ++ n ∷ []) (off n)))

  module _ (q : Path) (off : Off p t q) where
    abbrev facts_a : Facts
    facts_a = facts_at a caller q

    abbrev facts_b : Facts
    facts_b = facts_at b caller q

    -- what is told of a room where these names are in the folder now
    abbrev told : Room → Room → List (Name × Kind) → Facts
    told old new names = record (facts_at old caller q) {
      names = names;
      depth = depth_in q new.objects;
      full = (new.left == 0);
    }

    abbrev Alike : Object → Object → List (Name × Kind) → List (Name × Kind) → Type 0
    Alike oa ob names others = sight_with caller (told a a' names) oa ≡ sight_with caller (told b b' others) ob

    way_after : walk a' caller q ≡ walk b' caller q
    way_after = walk_out a a' caller p t s.out_a q off ∙ way_alike a b caller q (alike q)
        ∙ sym (walk_out b b' caller p t s.out_b q off)

    depth_after : walk a caller q ≡ None → may_remove a caller q ≡ true
        → depth_in q a'.objects ≡ depth_in q b'.objects
    depth_after walked removes =
        depth_same a' b' s.room_a s.room_b q (still_same q (s.before.moving q walked removes))

    sight_after : walk a caller q ≡ None → (oa ob : Object)
        → sight_with caller facts_a oa ≡ sight_with caller facts_b ob
        → sight_with caller (facts_at a' caller q) oa ≡ sight_with caller (facts_at b' caller q) ob
    sight_after walked oa ob same =
        ap (λ facts. sight_with caller facts oa) (facts_out a a' caller p t s.out_a q off)
        ∙ elim (in_folder p q) [
          | inl at ↦ changed_names (names_after q at.0 (ap (walk a caller) (sym at.1) ∙ s.to_p))
          | inr no_p ↦ elim (in_folder t q) [
            | inl at ↦ changed_names (names_after q at.0 (ap (walk a caller) (sym at.1) ∙ s.to_t))
            | inr no_t ↦ kept_names (child_off p t q off no_p no_t)
          ]
        ]
        ∙ sym (ap (λ facts. sight_with caller facts ob) (facts_out b b' caller p t s.out_b q off))
      where
        fulls : full_seen caller facts_a oa (a'.left == 0)
            ≡ full_seen caller facts_b ob (b'.left == 0)
        fulls = full_after a b a' b' s.numbers
            (not (is_file oa.kind) && (facts_a.may add_file || facts_a.may add_subdirectory))
            (not (is_file ob.kind) && (facts_b.may add_file || facts_b.may add_subdirectory))
            (ap (λ (seen : Sight). seen.full) same)

        changed_names : children a' q ≡ children b' q → Alike oa ob (children a' q) (children b' q)
        changed_names names = subst (Alike oa ob (children a' q)) names
            (seen_changed caller facts_a facts_b oa ob same (children a' q) (depth_in q a'.objects)
            (depth_in q b'.objects) (a'.left == 0) (b'.left == 0) fulls (depth_after walked))

        kept_names : ((n : Name) → Off p t (q ++ n ∷ [])) → Alike oa ob (children a' q) (children b' q)
        kept_names offs = subst₂ (Alike oa ob) (sym (names_kept_a q offs)) (sym (names_kept_b q offs))
            (seen_kept caller facts_a facts_b oa ob same (depth_in q a'.objects)
            (depth_in q b'.objects) (a'.left == 0) (b'.left == 0) fulls (depth_after walked))

    -- where the way passes, what is there looks alike
    there_after : walk a caller q ≡ None → (oa ob : Option Object)
        → option_map (sight_with caller facts_a) oa ≡ option_map (sight_with caller facts_b) ob
        → option_map (sight_with caller (facts_at a' caller q)) oa
        ≡ option_map (sight_with caller (facts_at b' caller q)) ob
    there_after walked None None same = refl
    there_after walked (Some oa) (Some ob) same = ap Some (sight_after walked oa ob (some_is _ _ same))
    there_after walked None (Some ob) same = absurd (none_is_some _ same)
    there_after walked (Some oa) None same = absurd (none_is_some _ (sym same))

    view_away : (way : Option Refusal) → walk a caller q ≡ way → view a' caller q ≡ view b' caller q
    view_away way is =
        view_by_facts a' caller q
        ∙ (λ i. view_with caller (way_after i) (facts_at a' caller q) (s.out_a q off i))
        ∙ (λ i. view_with caller (way_b i) (facts_at a' caller q) (object_at a q))
        ∙ by_way way is
        ∙ (λ i. view_with caller (sym way_b i) (facts_at b' caller q) (sym (s.out_b q off) i))
        ∙ sym (view_by_facts b' caller q)
      where
        way_b : walk b' caller q ≡ way
        way_b = walk_out b b' caller p t s.out_b q off ∙ sym (way_alike a b caller q (alike q)) ∙ is

        there_before : walk a caller q ≡ None
            → option_map (sight_with caller facts_a) (object_at a q)
            ≡ option_map (sight_with caller facts_b) (object_at b q)
        there_before h =
            let whole = sym (view_by_facts a caller q) ∙ alike q ∙ view_by_facts b caller q in
            ap there_seen
            (ap (λ w. if_reached w (option_map (sight_with caller facts_a) (object_at a q))) (sym h) ∙ whole
            ∙ ap (λ w. if_reached w (option_map (sight_with caller facts_b) (object_at b q)))
            (sym (way_alike a b caller q (alike q)) ∙ h))

        by_way : (w : Option Refusal) → walk a caller q ≡ w
            → view_with caller w (facts_at a' caller q) (object_at a q)
            ≡ view_with caller w (facts_at b' caller q) (object_at b q)
        by_way (Some r) h = refl
        by_way None h = ap (if_reached None) (there_after h (object_at a q) (object_at b q) (there_before h))

  looks_alike : LooksAlike caller a' b'
  looks_alike q = elim (place p t q) [
    | Below_p rest is ↦ rw is (view_in a' b' caller s.room_a s.room_b p s.at_p rest)
    | Below_t rest is ↦ rw is (view_in a' b' caller s.room_a s.room_b t s.at_t rest)
    | Away off ↦ view_away q off (walk a caller q) refl
  ]

  gives_away : (folder : Path) → Off p t folder → (kind : Kind)
      → Gives a b folder kind → Gives a' b' folder kind
  gives_away folder off kind given = (
    made_after a b a' b' s.numbers given.0,
    ap (λ o. (or_no_object o).group) (s.out_a folder off) ∙ given.1
        ∙ ap (λ o. (or_no_object o).group) (sym (s.out_b folder off)),
    ap (λ entries. handed_down entries kind) (list_out a a' caller p t s.out_a folder off) ∙ given.2
        ∙ ap (λ entries. handed_down entries kind) (sym (list_out b b' caller p t s.out_b folder off)),
  )

  gives_below : (top : Path) → Region a' b' caller top → (rest folder : Path) → folder ≡ top ++ rest → (kind : Kind)
      → (name : Name) → walk a' caller (folder ++ name ∷ []) ≡ None → Gives a' b' folder kind
  gives_below top region rest folder is kind name walked =
      let (above, there, is_folder) = walk_ends_in_folder a' caller folder name walked in (
        region.made rest above (ap (object_at a') (sym is) ∙ there) is_folder,
        rw is (ap (λ o. (or_no_object o).group) (region.inside rest)),
        rw is (ap (λ entries. handed_down entries kind) (list_in a' b' caller s.room_a s.room_b top region rest)),
      )

  same_below : (top : Path) → Region a' b' caller top → (rest q : Path) → q ≡ top ++ rest
      → SameBelow a' b' q × (handed_to a' q ≡ handed_to b' q) × (is_kind Folder (object_at a' q) ≡ true
      → a'.left ≡ b'.left)
  same_below top region rest q is = (
    rw is (same_in a' b' caller s.room_a s.room_b top region rest),
    rw is (handed_in a' b' caller s.room_a s.room_b top region rest),
    λ folder.
        let (o, there, is_folder) = some_folder (object_at a' q) folder in
        region.made rest o (ap (object_at a') (sym is) ∙ there) is_folder,
  )

  -- the way into a folder away from both paths was the same before
  way_before : (folder : Path) (name : Name) → Off p t folder → walk a' caller (folder ++ name ∷ []) ≡ None
      → walk a caller (folder ++ name ∷ []) ≡ None
  way_before folder name off walked =
      walk_end a caller folder name
      ∙ (λ i. first_refusal (sym (walk_out a a' caller p t s.out_a folder off) i
      ∷ sym (prefix_out a a' caller p t s.out_a folder off) i ∷ []))
      ∙ sym (walk_end a' caller folder name) ∙ walked

  may_before : (q : Path) → Off p t q → (wanted : ℕ) → may a' caller q wanted ≡ may a caller q wanted
  may_before q off wanted = ap is_none (right_out a a' caller p t s.out_a q wanted off)

  removes_before : (q : Path) → Off p t q → may_remove a' caller q ≡ may_remove a caller q
  removes_before q off = (λ i. not (is_root q) && (is_none (right_out a a' caller p t s.out_a q delete_object off i)
      || is_none (above_out a a' caller p t s.out_a q delete_child off i)))

  -- rooms that look alike to a caller, and will after its commands, do so after the change
  pub stay : StayAlike caller a' b'
  stay = record {
    now = looks_alike;
    adding = λ folder name kind walked adds. elim (place p t folder) [
      | Below_p rest is ↦ gives_below p s.at_p rest folder is kind name walked
      | Below_t rest is ↦ gives_below t s.at_t rest folder is kind name walked
      | Away off ↦ gives_away folder off kind (s.before.adding folder name kind
          (way_before folder name off walked)
          (sym (may_before folder off (right_to_add kind)) ∙ adds))
    ];
    moving = λ q walked removes. elim (place p t q) [
      | Below_p rest is ↦ (same_below p s.at_p rest q is).0
      | Below_t rest is ↦ (same_below t s.at_t rest q is).0
      | Away off ↦ still_same q (s.before.moving q (sym (walk_out a a' caller p t s.out_a q off) ∙ walked)
          (sym (removes_before q off) ∙ removes))
    ];
    setting = λ q walked sets. elim (place p t q) [
      | Below_p rest is ↦ same_below p s.at_p rest q is
      | Below_t rest is ↦ same_below t s.at_t rest q is
      | Away off ↦
          let was = s.before.setting q (sym (walk_out a a' caller p t s.out_a q off) ∙ walked)
          ((λ i. sym (may_before q off write_acl) i || sym (may_before q off write_owner) i) ∙ sets) in (
            still_same q was.0,
            handed_out a a' caller p t s.out_a q off ∙ was.1
                ∙ sym (handed_out b b' caller p t s.out_b q off),
            λ folder. made_after a b a' b' s.numbers
                (was.2 (ap (is_kind Folder) (sym (s.out_a q off)) ∙ folder)),
          )
    ];
  }

-- a front of a path is not at or below it
pub front_is_off : (front : Path) (n : Name) (rest : Path) → is_at_or_below front (front ++ n ∷ rest) ≡ false
front_is_off [] n rest = refl
front_is_off (first ∷ front) n rest = and_right (name_eq first first) _ (front_is_off front n rest)

module _ (a b a' b' : Room) (caller : SubjectModel) (p t : Path) (before : StayAlike caller a b)
    (out_a : (q : Path) → Off p t q → object_at a' q ≡ object_at a q)
    (out_b : (q : Path) → Off p t q → object_at b' q ≡ object_at b q)
    (top : Path) (walked : walk a caller top ≡ None)
    (fronts : (front : Path) (n : Name) (rest : Path) → top ≡ front ++ n ∷ rest → Off p t front)
    (inside : SameBelow a' b' top) (handed : handed_to a' top ≡ handed_to b' top)
    (made : (rest : Path) (o : Object) → object_at a' (top ++ rest) ≡ Some o → o.kind ≡ Folder
    → a'.left ≡ b'.left) where
  object_here : object_at a' top ≡ object_at b' top
  object_here = rw (append-nil top) at (inside [])

  list_here : list_of a' top ≡ list_of b' top
  list_here = list_by_handed a' b' top object_here handed

  way_here : walk a' caller top ≡ walk b' caller top
  way_here =
      walk_same a' a caller top (λ front n rest is. prefix_out a a' caller p t out_a front (fronts front n rest is))
      ∙ way_alike a b caller top (before.now top)
      ∙ walk_same b b' caller top (λ front n rest is.
      sym (prefix_out b b' caller p t out_b front (fronts front n rest is)))

  above_here : (path : Path) → top ≡ path → (wanted : ℕ)
      → check_right a' caller (parent_of path) wanted ≡ check_right b' caller (parent_of path) wanted
  above_here [] is wanted = right_same a' b' caller [] wanted (rw is at list_here) (rw is at object_here)
  above_here (first ∷ rest) is wanted =
      let end = ends first rest in
      let folder : parent_of (first ∷ rest) ≡ end.folder = ap parent_of end.is ∙ parent_of_end end.folder end.name in
      let off = fronts end.folder end.name [] (is ∙ end.is) in
      let to_folder = walk_to_folder a caller end.folder end.name (ap (walk a caller) (sym (is ∙ end.is)) ∙ walked) in
      rw folder (right_out a a' caller p t out_a end.folder wanted off
      ∙ right_alike a b caller end.folder (before.now end.folder) to_folder.0 wanted
      ∙ sym (right_out b b' caller p t out_b end.folder wanted off))

  pub region_at : Region a' b' caller top
  region_at = record {
    inside = inside;
    list = list_here;
    handed = handed;
    way = way_here;
    above = above_here top refl;
    made = made;
  }
