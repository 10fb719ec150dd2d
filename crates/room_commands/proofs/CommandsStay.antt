-- Rooms that look alike to a caller, and will after its commands, do so after each of them.
use Rattle.room_commands.proofs.Common.{◌≡◌, ℕ, ◌-◌, refl, ap, sym, ◌∙◌, arith, true, false, not, ◌&&◌, ◌||◌, cond}
use Rattle.room_commands.proofs.Common.{List, [], ◌∷◌, ◌++◌, length, Option, None, Some, option_map, append-nil}
use Rattle.room_commands.proofs.Common.{append_assoc, nat_lt, length-append, ◌⊎◌, inl, inr, is_none, AllByRecursion}
use Rattle.room_commands.proofs.Common.{both_ways, or_parts, and_from, or_left, or_right, ltb-false, Kind, File, Folder}
use Rattle.room_commands.proofs.Common.{write_acl, write_owner, delete_object, delete_child, SubjectModel, handed_down}
use Rattle.room_commands.proofs.Common.{Name, Path, path_eq, Object, Room, IsRoom, object_at, children, list_of}
use Rattle.room_commands.proofs.Common.{parent_of, root_list, some_is, none_is_some, other_path, nothing_below, Ends}
use Rattle.room_commands.proofs.Common.{ends, parent_of_end, nothing_in_empty, without_bytes, lists_without_bytes}
use Rattle.room_commands.proofs.Common.{CommandModel, IsLawful, first_refusal, checks, check_right}
use Rattle.room_commands.proofs.Common.{check_absent, walk, is_at_or_below, is_root, is_file, is_kind, right_to_add}
use Rattle.room_commands.proofs.Common.{refuse_if, NotEmpty, own_entries_of_setlist, effect, effect_by, changed}
use Rattle.room_commands.proofs.Common.{with_object, with_new, without, renamed, new_object, reply, LooksAlike}
use Rattle.room_commands.proofs.Common.{StayAlike, SameBelow, may, may_remove, handed_to, object_or_default}
use Rattle.room_commands.specs.CommandModel as C
use Rattle.room_commands.proofs.Shorthands.{replies}
use Rattle.room_commands.proofs.Rights.{all_none, one_may}
use Rattle.room_commands.proofs.ChecksTell.{absent_there, exists_there, not_refused}
use Rattle.room_commands.proofs.Renaming.{at_behind}
use Rattle.room_commands.proofs.RoomsNew.{elsewhere_as_before, new_there}
use Rattle.room_commands.proofs.RoomsObject.{after_change, at_changed}
use Rattle.room_commands.proofs.RoomsWithout.{at_removed, elsewhere_left}
use Rattle.room_commands.proofs.RoomsRenamed.{at_new_place, at_old_place, away, off_to}
use Rattle.room_commands.proofs.RoomLaws.{room_if_passed, right_alike, walk_alike, bytes_stay_out}
use Rattle.room_commands.proofs.BytesAlone.{change_alike, group_kept, handed_kept, kind_kept}
use Rattle.room_commands.proofs.EffectIsRoom.{effect_is_room, not_root_ends}
use Rattle.room_commands.proofs.Looks.{by_outcome}
use Rattle.room_commands.proofs.NothingShows.{refused_alike, in_turn, reply_alike}
use Rattle.room_commands.proofs.Staying.{Off, Numbers, stay, region_at, front_is_off, off_front, list_out}
use Rattle.room_commands.proofs.Shorthands.{handed_by, kind_of}

-- where a folder stands at or below a path, there is one at the path
folder_at : (room : Room) → IsRoom room → (p rest : Path) (o : Object) → object_at room (p ++ rest) ≡ Some o
    → o.kind ≡ Folder → (above : Object) × (object_at room p ≡ Some above) × (above.kind ≡ Folder)
folder_at room lawful p [] o is folder = (o, rw (append-nil p) at is, folder)
folder_at room lawful p (n ∷ rest) o is folder =
    lawful.parents p n (found_in (object_at room (p ++ n ∷ [])) refl).0
    (found_in (object_at room (p ++ n ∷ [])) refl).1
  where
    found_in : (found : Option Object) → object_at room (p ++ n ∷ []) ≡ found
        → (f : Object) × (object_at room (p ++ n ∷ []) ≡ Some f)
    found_in (Some f) at = (f, at)
    found_in None at = absurd (none_is_some o (sym (nothing_below room lawful rest (p ++ n ∷ []) at)
        ∙ ap (object_at room) (append_assoc p (n ∷ []) rest) ∙ is))

-- a path that is not at or below another is another
pub apart_from : (q p : Path) → is_at_or_below q p ≡ false → q ≡ p → ⊥
apart_from q p off same =
    both_ways (is_at_or_below q p) off (rw same (ap (λ k. is_at_or_below k p) (sym (append-nil p)) ∙ at_behind p []))

here_of : (x y : Room) (p : Path) → SameBelow x y p → object_at x p ≡ object_at y p
here_of x y p same = rw (append-nil p) at (same [])

-- what is handed down to what stands at a path after a change, where it was the same before
module _ (a b a' b' : Room) (caller : SubjectModel) (p t : Path)
    (out_a : (q : Path) → Off p t q → object_at a' q ≡ object_at a q)
    (out_b : (q : Path) → Off p t q → object_at b' q ≡ object_at b q)
    (top : Path)
    (fronts : (front : Path) (n : Name) (rest : Path) → top ≡ front ++ n ∷ rest → Off p t front)
    (here : object_at a' top ≡ object_at b' top)
    (given : (o : Object) → object_at a' top ≡ Some o
    → handed_down (list_of a (parent_of top)) o.kind ≡ handed_down (list_of b (parent_of top)) o.kind) where
  by_object : (o : Option Object) → object_at a' top ≡ o
      → handed_by o (list_of a (parent_of top)) ≡ handed_by o (list_of b (parent_of top))
  by_object None is = refl
  by_object (Some o) is = given o is

  by_path : (path : Path) → top ≡ path → handed_to a' top ≡ handed_to b' top
  by_path [] is =
      let root : object_at a' [] ≡ object_at b' [] = rw is at here in
      rw is (λ i. handed_by (root i) (root_list (root i)))
  by_path (first ∷ rest) is =
      let end = ends first rest in
      let folder : parent_of top ≡ end.folder =
      ap parent_of (is ∙ end.is) ∙ parent_of_end end.folder end.name in
      let off : Off p t (parent_of top) = rw folder (fronts end.folder end.name [] (is ∙ end.is)) in
      ap (handed_by (object_at a' top)) (list_out a a' caller p t out_a (parent_of top) off)
      ∙ by_object (object_at a' top) refl
      ∙ (λ i. handed_by (here i) (sym (list_out b b' caller p t out_b (parent_of top) off) i))

  pub handed_after : handed_to a' top ≡ handed_to b' top
  handed_after = by_path top refl

pub own_fronts : (p : Path) (front : Path) (n : Name) (rest : Path) → p ≡ front ++ n ∷ rest → Off p p front
own_fronts p front n rest is = let off = ap (is_at_or_below front) is ∙ front_is_off front n rest in (off, off)

-- of two paths apart, each front is off both
pub moved_fronts : (p t : Path) → is_at_or_below t p ≡ false → is_at_or_below p t ≡ false
    → (front : Path) (n : Name) (rest : Path) → (p ≡ front ++ n ∷ rest) ⊎ (t ≡ front ++ n ∷ rest) → Off p t front
moved_fronts p t apart apart_too front n rest (inl is) =
    (ap (is_at_or_below front) is ∙ front_is_off front n rest, off_front t front (n ∷ rest) p is apart_too)
moved_fronts p t apart apart_too front n rest (inr is) =
    (off_front p front (n ∷ rest) t is apart, ap (is_at_or_below front) is ∙ front_is_off front n rest)

module _ (a b a' b' : Room) (caller : SubjectModel) (p : Path) (before : StayAlike caller a b)
    (room_a : IsRoom a') (room_b : IsRoom b')
    (out_a : (q : Path) → is_at_or_below q p ≡ false → object_at a' q ≡ object_at a q)
    (out_b : (q : Path) → is_at_or_below q p ≡ false → object_at b' q ≡ object_at b q)
    (numbers : Numbers a b a' b') (walked : walk a caller p ≡ None)
    (inside : SameBelow a' b' p) (handed : handed_to a' p ≡ handed_to b' p)
    (made : (rest : Path) (o : Object) → object_at a' (p ++ rest) ≡ Some o → o.kind ≡ Folder → a'.left ≡ b'.left) where
  -- a change below one path
  pub one_place : StayAlike caller a' b'
  one_place =
      let region = region_at a b a' b' caller p p before (λ q off. out_a q off.0) (λ q off. out_b q off.0) p walked
      (own_fronts p) inside handed made in
      stay a b a' b' caller p p (record {
        before = before;
        room_a = room_a;
        room_b = room_b;
        out_a = λ q off. out_a q off.0;
        out_b = λ q off. out_b q off.0;
        numbers = numbers;
        at_p = region;
        at_t = region;
        to_p = walked;
        to_t = walked;
      })

module _ (a b : Room) (caller : SubjectModel) (room_a : IsRoom a) (room_b : IsRoom b)
    (before : StayAlike caller a b) where
  -- the object at a path changed, where the caller may set its list or its owner
  object_set : (p : Path) (change : Object → Object) → ((o : Object) → (change o).kind ≡ o.kind)
      → walk a caller p ≡ None → (may a caller p write_acl || may a caller p write_owner) ≡ true
      → (old : Object) → object_at a p ≡ Some old
      → IsRoom (with_object a p change) → IsRoom (with_object b p change)
      → StayAlike caller (with_object a p change) (with_object b p change)
  object_set p change keeps walked sets old there later_a later_b =
      let same = before.setting p walked sets in
      let there_b : object_at b p ≡ Some old = sym (rw (append-nil p) at (same.0 [])) ∙ there in
      let handed : handed_down (list_of a (parent_of p)) old.kind ≡ handed_down (list_of b (parent_of p)) old.kind =
      ap (λ o. handed_by o (list_of a (parent_of p))) (sym there) ∙ same.1
      ∙ ap (λ o. handed_by o (list_of b (parent_of p))) there_b in
      let out : (room : Room) (q : Path) → is_at_or_below q p ≡ false
      → object_at (with_object room p change) q ≡ object_at room q =
      (λ room q off. after_change room p change q
      ∙ ap (λ here. cond here (option_map change (object_at room q)) (object_at room q))
      (other_path q p (apart_from q p off))) in
      let inside : SameBelow (with_object a p change) (with_object b p change) p =
      (λ rest. after_change a p change (p ++ rest)
      ∙ (λ i. cond (path_eq (p ++ rest) p) (option_map change (same.0 rest i)) (same.0 rest i))
      ∙ sym (after_change b p change (p ++ rest))) in
      let here : object_at (with_object a p change) p ≡ Some (change old) =
      at_changed a p change ∙ ap (option_map change) there in
      one_place a b (with_object a p change) (with_object b p change) caller p before later_a later_b
      (out a) (out b) (inr (refl, refl)) walked inside
      (handed_after a b (with_object a p change) (with_object b p change) caller p p
      (λ q off. out a q off.0) (λ q off. out b q off.0) p (own_fronts p)
      (here_of (with_object a p change) (with_object b p change) p inside)
      (λ o is.
      let kind : o.kind ≡ old.kind = ap (λ (f : Object). f.kind) (some_is o (change old) (sym is ∙ here)) ∙ keeps old in
      rw kind handed))
      (λ rest o is folder.
      let above = folder_at (with_object a p change) later_a p rest o is folder in
      let kind : old.kind ≡ Folder = sym (keeps old)
      ∙ ap (λ (f : Object). f.kind) (some_is (change old) above.0 (sym here ∙ above.1)) ∙ above.2 in
      same.2 (ap (is_kind Folder) there ∙ ap (λ k. not (is_file k)) kind))

  -- an object made where nothing was
  object_made : (p : Path) (end : Ends p) (kind : Kind) (bytes : List ℕ) → walk a caller p ≡ None
      → check_absent a p ≡ None → check_absent b p ≡ None
      → check_right a caller (parent_of p) (right_to_add kind) ≡ None
      → IsRoom (with_new a p (new_object a caller p kind bytes))
      → IsRoom (with_new b p (new_object b caller p kind bytes))
      → StayAlike caller (with_new a p (new_object a caller p kind bytes))
      (with_new b p (new_object b caller p kind bytes))
  object_made p end kind bytes walked free free_b adds later_a later_b =
      let folder : parent_of p ≡ end.folder = ap parent_of end.is ∙ parent_of_end end.folder end.name in
      let given = before.adding end.folder end.name kind (ap (walk a caller) (sym end.is) ∙ walked)
      (ap (λ f. is_none (check_right a caller f (right_to_add kind))) (sym folder) ∙ ap is_none adds) in
      let new_a = new_object a caller p kind bytes in
      let new_b = new_object b caller p kind bytes in
      let same_group : (object_or_default a (parent_of p)).group ≡ (object_or_default b (parent_of p)).group =
      rw folder given.1 in
      let same_new : new_a ≡ new_b = ap (λ (g : List ℕ). record new_a { group = g }) same_group in
      let out_a = λ (q : Path) (off : is_at_or_below q p
      ≡ false). elsewhere_as_before a p new_a q (apart_from q p off) in
      let out_b = λ (q : Path) (off : is_at_or_below q p
      ≡ false). elsewhere_as_before b p new_b q (apart_from q p off) in
      let inside : SameBelow (with_new a p new_a) (with_new b p new_b) p =
      (λ rest i. cond (path_eq (p ++ rest) p) (Some (same_new i))
      ((nothing_below a room_a rest p (absent_there a p free)
      ∙ sym (nothing_below b room_b rest p (absent_there b p free_b))) i)) in
      one_place a b (with_new a p new_a) (with_new b p new_b) caller p before later_a later_b out_a out_b
      (inl (ap (λ n. n - 1) given.0)) walked inside
      (handed_after a b (with_new a p new_a) (with_new b p new_b) caller p p
      (λ q off. out_a q off.0) (λ q off. out_b q off.0) p (own_fronts p)
      (here_of (with_new a p new_a) (with_new b p new_b) p inside)
      (λ o is.
      let kind_is : o.kind ≡ kind =
      ap (λ (f : Object). f.kind) (some_is o new_a (sym is ∙ new_there a p new_a)) in
      rw (kind_is, folder) given.2))
      (λ rest o is is_folder. ap (λ n. n - 1) given.0)

  -- what nothing is in, removed
  object_removed : (p : Path) → walk a caller p ≡ None → length (children a p) ≡ 0 → length (children b p) ≡ 0
      → IsRoom (without a p) → IsRoom (without b p) → StayAlike caller (without a p) (without b p)
  object_removed p walked empty empty_b later_a later_b =
      one_place a b (without a p) (without b p) caller p before later_a later_b
      (λ q off. elsewhere_left a p q (apart_from q p off)) (λ q off. elsewhere_left b p q (apart_from q p off))
      (inr (refl, refl)) walked
      (λ rest. gone a room_a empty rest ∙ sym (gone b room_b empty_b rest))
      (ap (λ o. handed_by o (list_of (without a p) (parent_of p))) (at_removed a p)
      ∙ ap (λ o. handed_by o (list_of (without b p) (parent_of p))) (sym (at_removed b p)))
      (λ rest o is folder. absurd (none_is_some o (sym (gone a room_a empty rest) ∙ is)))
    where
      longer : (n : Name) (r : Path) → p ++ n ∷ r ≡ p → ⊥
      longer n r same = omega (arith, length-append p (n ∷ r), ap length same)

      gone : (room : Room) → IsRoom room → length (children room p) ≡ 0 → (rest : Path)
          → object_at (without room p) (p ++ rest) ≡ None
      gone room lawful none [] = rw (append-nil p) (at_removed room p)
      gone room lawful none (n ∷ r) =
          elsewhere_left room p (p ++ n ∷ r) (longer n r)
          ∙ ap (object_at room) (sym (append_assoc p (n ∷ []) r))
          ∙ nothing_below room lawful r (p ++ n ∷ []) (nothing_in_empty room p none n)

  -- a subtree moved
  object_moved : (p t : Path) (end : Ends t) (o : Object) → object_at a p ≡ Some o → is_at_or_below t p ≡ false
      → object_at a t ≡ None → object_at b t ≡ None → walk a caller p ≡ None → walk a caller t ≡ None
      → may_remove a caller p ≡ true
      → check_right a caller (parent_of t) (right_to_add (object_or_default a p).kind) ≡ None
      → IsRoom (renamed a p t) → IsRoom (renamed b p t) → StayAlike caller (renamed a p t) (renamed b p t)
  object_moved p t end o there apart free free_b walked walked_to removes adds later_a later_b =
      let same = before.moving p walked removes in
      let there_b : object_at b p ≡ Some o = sym (here_of a b p same) ∙ there in
      let apart_too = off_to a room_a p t o apart there free p o there in
      let out_a : (q : Path) → Off p t q → object_at (renamed a p t) q ≡ object_at a q =
      (λ q off. away a room_a p t o apart there free q off.0 off.1) in
      let out_b : (q : Path) → Off p t q → object_at (renamed b p t) q ≡ object_at b q =
      (λ q off. away b room_b p t o apart there_b free_b q off.0 off.1) in
      let fronts_p : (front : Path) (n : Name) (rest : Path) → p ≡ front ++ n ∷ rest → Off p t front =
      (λ front n rest is. moved_fronts p t apart apart_too front n rest (inl is)) in
      let fronts_t : (front : Path) (n : Name) (rest : Path) → t ≡ front ++ n ∷ rest → Off p t front =
      (λ front n rest is. moved_fronts p t apart apart_too front n rest (inr is)) in
      let inside_p : SameBelow (renamed a p t) (renamed b p t) p =
      (λ rest. at_old_place a room_a p t o apart there free rest
      ∙ sym (at_old_place b room_b p t o apart there_b free_b rest)) in
      let inside_t : SameBelow (renamed a p t) (renamed b p t) t =
      (λ rest. at_new_place a room_a p t o apart there free rest ∙ same rest
      ∙ sym (at_new_place b room_b p t o apart there_b free_b rest)) in
      let gone : object_at (renamed a p t) p ≡ None =
      rw (append-nil p) at (at_old_place a room_a p t o apart there free []) in
      let come : object_at (renamed a p t) t ≡ Some o =
      (let whole : object_at (renamed a p t) t ≡ object_at a p =
      rw (append-nil p, append-nil t) at (at_new_place a room_a p t o apart there free []) in whole ∙ there) in
      let folder : parent_of t ≡ end.folder = ap parent_of end.is ∙ parent_of_end end.folder end.name in
      let right : right_to_add (object_or_default a p).kind ≡ right_to_add o.kind =
      ap (λ f. right_to_add (kind_of f)) there in
      let given = before.adding end.folder end.name o.kind (ap (walk a caller) (sym end.is) ∙ walked_to)
      (ap (λ f. is_none (check_right a caller f (right_to_add o.kind))) (sym folder)
      ∙ ap (λ w. is_none (check_right a caller (parent_of t) w)) (sym right) ∙ ap is_none adds) in
      stay a b (renamed a p t) (renamed b p t) caller p t (record {
        before = before;
        room_a = later_a;
        room_b = later_b;
        out_a = out_a;
        out_b = out_b;
        numbers = inr (refl, refl);
        at_p = region_at a b (renamed a p t) (renamed b p t) caller p t before out_a out_b p walked fronts_p inside_p
            (handed_after a b (renamed a p t) (renamed b p t) caller p t out_a out_b p fronts_p
            (here_of (renamed a p t) (renamed b p t) p inside_p)
            (λ found is. absurd (none_is_some found (sym gone ∙ is)))) (λ rest found is folder. given.0);
        at_t = region_at a b (renamed a p t) (renamed b p t) caller p t before out_a out_b t walked_to fronts_t inside_t
            (handed_after a b (renamed a p t) (renamed b p t) caller p t out_a out_b t fronts_t
            (here_of (renamed a p t) (renamed b p t) t inside_t)
            (λ found is.
            let kind_is : found.kind ≡ o.kind =
            ap (λ (f : Object). f.kind) (some_is found o (sym is ∙ come)) in
            rw (kind_is, folder) given.2)) (λ rest found is is_folder. given.0);
        to_p = walked;
        to_t = walked_to;
      })

  -- a file written
  module _ (p : Path) (new : List ℕ → List ℕ) where
    abbrev written : Room → Room
    written room = with_object room p (λ o. record o { bytes = new o.bytes })

    out : (room : Room) (q : Path) → without_bytes (object_at (written room) q) ≡ without_bytes (object_at room q)
    out room = bytes_stay_out room p new

    way : (room : Room) (q : Path) → walk (written room) caller q ≡ walk room caller q
    way room = walk_alike (written room) room caller (out room)

    rights : (room : Room) (q : Path) (wanted : ℕ)
        → check_right (written room) caller q wanted ≡ check_right room caller q wanted
    rights room = right_alike (written room) room caller (out room)

    lists : (room : Room) (q : Path) → list_of (written room) q ≡ list_of room q
    lists room = lists_without_bytes (written room) room (out room)

    group : (room : Room) (q : Path) → (object_or_default (written room) q).group ≡ (object_or_default room q).group
    group room = group_kept (written room) room (out room)

    handed : (room : Room) (q : Path) → handed_to (written room) q ≡ handed_to room q
    handed room = handed_kept (written room) room (out room)

    after_both : (q : Path) → SameBelow a b q → SameBelow (written a) (written b) q
    after_both q same rest =
        after_change a p (λ o. record o { bytes = new o.bytes }) (q ++ rest)
        ∙ (λ i. cond (path_eq (q ++ rest) p)
        (option_map (λ (o : Object). record o { bytes = new o.bytes }) (same rest i)) (same rest i))
        ∙ sym (after_change b p (λ o. record o { bytes = new o.bytes }) (q ++ rest))

    bytes_set : LooksAlike caller (written a) (written b) → StayAlike caller (written a) (written b)
    bytes_set looks = record {
      now = looks;
      adding = λ folder name kind walked adds.
          let given = before.adding folder name kind (sym (way a (folder ++ name ∷ [])) ∙ walked)
          (sym (ap is_none (rights a folder (right_to_add kind))) ∙ adds) in (
            given.0,
            group a folder ∙ given.1 ∙ sym (group b folder),
            ap (λ entries. handed_down entries kind) (lists a folder) ∙ given.2
                ∙ ap (λ entries. handed_down entries kind) (sym (lists b folder)),
          );
      moving = λ q walked removes.
          after_both q (before.moving q (sym (way a q) ∙ walked) ((λ i. not (is_root q)
          && (is_none (sym (rights a q delete_object) i) || is_none (sym (rights a (parent_of q) delete_child) i)))
          ∙ removes));
      setting = λ q walked sets.
          let was = before.setting q (sym (way a q) ∙ walked)
          ((λ i. is_none (sym (rights a q write_acl) i) || is_none (sym (rights a q write_owner) i)) ∙ sets) in (
            after_both q was.0,
            handed a q ∙ was.1 ∙ sym (handed b q),
            λ folder. was.2 (sym (kind_kept (written a) a (out a) q Folder)
                ∙ folder),
          );
    }

  empty_of : (room : Room) (p : Path) → refuse_if (nat_lt 0 (length (children room p))) NotEmpty ≡ None
      → length (children room p) ≡ 0
  empty_of room p passed = omega (
    arith,
    ltb-false 0 (length (children room p))
        (not_refused (nat_lt 0 (length (children room p))) NotEmpty passed),
  )

  change_stays : (command : CommandModel) → first_refusal (checks a caller command) ≡ None
      → first_refusal (checks b caller command) ≡ None
      → IsRoom (changed a caller command) → IsRoom (changed b caller command)
      → StayAlike caller (changed a caller command) (changed b caller command)
  change_stays (C.Write bytes path) passed passed_b later_a later_b = bytes_set path (λ old. bytes)
      (change_alike a b caller room_a room_b before.now (C.Write bytes path) refl passed passed_b)
  change_stays (C.Append bytes path) passed passed_b later_a later_b = bytes_set path (λ old. old ++ bytes)
      (change_alike a b caller room_a room_b before.now (C.Append bytes path) refl passed passed_b)
  change_stays (C.Mkdir path) passed passed_b later_a later_b =
      let (not_root, (walked, (free, (adds, _)))) = all_none (checks a caller (C.Mkdir path)) passed in
      let (_, (_, (free_b, _))) = all_none (checks b caller (C.Mkdir path)) passed_b in
      object_made path (not_root_ends path (not_refused (is_root path) _ not_root)) Folder [] walked free free_b adds
      later_a later_b
  change_stays (C.Create bytes path) passed passed_b later_a later_b =
      let (not_root, (walked, (free, (adds, _)))) = all_none (checks a caller (C.Create bytes path)) passed in
      let (_, (_, (free_b, _))) = all_none (checks b caller (C.Create bytes path)) passed_b in
      object_made path (not_root_ends path (not_refused (is_root path) _ not_root)) File bytes walked free free_b adds
      later_a later_b
  change_stays (C.Remove path) passed passed_b later_a later_b =
      let (_, (walked, (_, (_, (empty, _))))) = all_none (checks a caller (C.Remove path)) passed in
      let (_, (_, (_, (_, (empty_b, _))))) = all_none (checks b caller (C.Remove path)) passed_b in
      object_removed path walked (empty_of a path empty) (empty_of b path empty_b) later_a later_b
  change_stays (C.Rename path to) passed passed_b later_a later_b =
      let (outside, (walked, (there, (walked_to, (free, (removal, (adds, _))))))) =
      all_none (checks a caller (C.Rename path to)) passed in
      let (_, (_, (_, (_, (free_b, _))))) = all_none (checks b caller (C.Rename path to)) passed_b in
      let apart = or_parts (is_root path || is_root to) (is_at_or_below to path) (not_refused _ _ outside) in
      let roots = or_parts (is_root path) (is_root to) apart.0 in
      let found = exists_there a path there in
      object_moved path to (not_root_ends to roots.1) found.0 found.1 apart.1 (absent_there a to free)
      (absent_there b to free_b) walked walked_to (and_from _ _ (ap not roots.0) (one_may path _ removal)) adds
      later_a later_b
  change_stays (C.SetList aclflag entries path) passed passed_b later_a later_b =
      let (walked, (there, (right, _))) = all_none (checks a caller (C.SetList aclflag entries path)) passed in
      let found = exists_there a path there in
      object_set path (λ o. record o { aclflag = aclflag; own = own_entries_of_setlist path aclflag entries })
      (λ o. refl) walked (or_left _ _ (ap is_none right)) found.0 found.1 later_a later_b
  change_stays (C.Chown group owner path) passed passed_b later_a later_b =
      let (walked, (there, (right, _))) = all_none (checks a caller (C.Chown group owner path)) passed in
      let found = exists_there a path there in
      object_set path (λ o. record o { owner = owner; group = group })
      (λ o. refl) walked (or_right _ _ (ap is_none right)) found.0 found.1 later_a later_b
  change_stays command passed passed_b later_a later_b = before

  pub command_stays : (command : CommandModel) → IsLawful command
      → StayAlike caller (effect a caller command).room (effect b caller command).room
  command_stays command lawful =
      let Rest = reply a caller command ≡ reply b caller command in
      by_outcome (λ x y. StayAlike caller (effect_by a caller command x).room (effect_by b caller command y).room)
      (first_refusal (checks a caller command)) (first_refusal (checks b caller command))
      (refused_alike Rest (checks a caller command) (checks b caller command)
      (in_turn a b caller room_a room_b before.now command lawful))
      (λ passed passed_b. change_stays command passed passed_b
      (rw (room_if_passed a caller command passed) at (effect_is_room a caller command lawful room_a))
      (rw (room_if_passed b caller command passed_b) at (effect_is_room b caller command lawful room_b)))
      (λ r. before)

-- so each of a list of commands is answered alike
pub all_replies_alike : (caller : SubjectModel) (commands : List CommandModel) (a b : Room)
    → AllByRecursion IsLawful commands → IsRoom a → IsRoom b → StayAlike caller a b
    → replies a caller commands ≡ replies b caller commands
all_replies_alike caller [] a b each room_a room_b before = refl
all_replies_alike caller (command ∷ commands) a b each room_a room_b before =
    let first = reply_alike a b caller room_a room_b before.now command each.0 in
    let others = all_replies_alike caller commands (effect a caller command).room (effect b caller command).room each.1
    (effect_is_room a caller command each.0 room_a) (effect_is_room b caller command each.0 room_b)
    (command_stays a b caller room_a room_b before command each.0) in
    (λ i. first i ∷ others i)
