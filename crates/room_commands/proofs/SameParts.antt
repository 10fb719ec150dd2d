-- Two rooms that have the same below a path: what a caller sees there is the same.
use Rattle.room_commands.proofs.Common.{◌≡◌, ℕ, ◌≤◌, refl, ap, sym, ◌∙◌, arith, Bool, not, ◌&&◌, ◌||◌, List, [], ◌∷◌}
use Rattle.room_commands.proofs.Common.{◌++◌, map, length, drop, Option, None, Some, is_some, ◌==◌, option_map}
use Rattle.room_commands.proofs.Common.{append-nil, append_assoc, is_none, if◌then◌else◌, AllByRecursion, Kind, File}
use Rattle.room_commands.proofs.Common.{Folder, execute, delete_object, delete_child, add_file, add_subdirectory}
use Rattle.room_commands.proofs.Common.{SubjectModel, EntryModel, Name, Path, Object, Room, IsRoom, object_at}
use Rattle.room_commands.proofs.Common.{children, list_of, parent_of, list_under, root_list, follows}
use Rattle.room_commands.proofs.Common.{found_stands, standing_found, ends, Ends, parent_of_end, lists_below}
use Rattle.room_commands.proofs.Common.{list_in_folder, children_rise, same_entries, kind_of_child, NoEnt, NotDir}
use Rattle.room_commands.proofs.Common.{Refusal, first_refusal, refuse_if, check_right, is_file, is_kind}
use Rattle.room_commands.proofs.Common.{is_root, proper_prefixes, prefix_refusal, walk, depth_in, view, may, SameBelow}
use Rattle.room_commands.proofs.Common.{handed_to, then_some}
use Rattle.room_commands.proofs.Rights.{all_prefixes}
use Rattle.room_commands.proofs.RoomsRenamed.{rest_below}
use Rattle.room_commands.proofs.DepthTells.{within_depth, no_deeper}
use Rattle.room_commands.proofs.Looks.{walk_end}
use Rattle.room_commands.proofs.BytesAlone.{facts_at, sight_with, view_with, view_by_facts}
use Rattle.room_commands.proofs.Shorthands.{handed_by, if_reached, right_by}

mapped_same : (f g : Path → Option Refusal) (paths : List Path) → AllByRecursion (λ path. f path ≡ g path) paths
    → map f paths ≡ map g paths
mapped_same f g [] same = refl
mapped_same f g (path ∷ paths) same = (λ i. same.0 i ∷ mapped_same f g paths same.1 i)

module _ (x y : Room) (caller : SubjectModel) where
  -- rights by the same list on the same object
  pub right_same : (path : Path) (wanted : ℕ) → list_of x path ≡ list_of y path → object_at x path ≡ object_at y path
      → check_right x caller path wanted ≡ check_right y caller path wanted
  right_same path wanted list object = (λ i. right_by caller path wanted (list i) (object i))

  pub prefix_same : (path : Path) → list_of x path ≡ list_of y path → object_at x path ≡ object_at y path
      → prefix_refusal x caller path ≡ prefix_refusal y caller path
  prefix_same path list object = (λ i. first_refusal (refuse_if (not (is_some (object i))) NoEnt
      ∷ refuse_if (is_kind File (object i)) NotDir ∷ right_same path execute list object i ∷ []))

  pub walk_same : (path : Path) → ((front : Path) (name : Name) (rest : Path) → path ≡ front ++ name ∷ rest
      → prefix_refusal x caller front ≡ prefix_refusal y caller front) → walk x caller path ≡ walk y caller path
  walk_same path each = ap first_refusal (mapped_same (prefix_refusal x caller) (prefix_refusal y caller)
      (proper_prefixes path)
      (all_prefixes (λ front. prefix_refusal x caller front ≡ prefix_refusal y caller front) path each))

  pub walk_below : (rest top : Path) → SameBelow x y top → list_of x top ≡ list_of y top
      → walk x caller top ≡ walk y caller top → walk x caller (top ++ rest) ≡ walk y caller (top ++ rest)
  walk_below [] top inside list way = rw (append-nil top) way
  walk_below (name ∷ rest) top inside list way =
      let here : object_at x top ≡ object_at y top = rw (append-nil top) at (inside []) in
      let way_in : walk x caller (top ++ name ∷ []) ≡ walk y caller (top ++ name ∷ []) =
      walk_end x caller top name ∙ (λ i. first_refusal (way i ∷ prefix_same top list here i ∷ []))
      ∙ sym (walk_end y caller top name) in
      rw (← append_assoc top (name ∷ []) rest) (walk_below rest (top ++ name ∷ [])
      (λ below. rw (append_assoc top (name ∷ []) below) (inside (name ∷ below)))
      (lists_below x y (name ∷ []) top top list inside) way_in)

  pub children_same : (path : Path) → ((name : Name)
      → option_map (λ (o : Object). o.kind) (object_at x (path ++ name ∷ []))
      ≡ option_map (λ (o : Object). o.kind) (object_at y (path ++ name ∷ []))) → children x path ≡ children y path
  children_same path kinds =
      same_entries (children x path) (children y path) (children_rise x path) (children_rise y path)
      (λ name. kind_of_child x path name ∙ kinds name ∙ sym (kind_of_child y path name))

-- the list of an object, by what is handed down to it
abbrev list_made : Option Object → List EntryModel → List EntryModel
list_made None handed = []
list_made (Some o) handed = o.own ++ (if follows o.aclflag then handed else [])

made_under : (o : Option Object) (above : List EntryModel) → list_under o above ≡ list_made o (handed_by o above)
made_under None above = refl
made_under (Some o) above = refl

pub list_by_handed : (x y : Room) (path : Path) → object_at x path ≡ object_at y path
    → handed_to x path ≡ handed_to y path → list_of x path ≡ list_of y path
list_by_handed x y [] object handed = ap root_list object
list_by_handed x y (first ∷ rest) object handed =
    let end = ends first rest in
    let folder : parent_of (first ∷ rest) ≡ end.folder = ap parent_of end.is ∙ parent_of_end end.folder end.name in
    by_end x end folder ∙ (λ i. list_made (object i) (handed i)) ∙ sym (by_end y end folder)
  where
    by_end : (room : Room) (end : Ends (first ∷ rest)) → parent_of (first ∷ rest) ≡ end.folder
        → list_of room (first ∷ rest) ≡ list_made (object_at room (first ∷ rest)) (handed_to room (first ∷ rest))
    by_end room end folder =
        ap (list_of room) end.is ∙ list_in_folder room end.folder end.name
        ∙ ap (λ p. list_under (object_at room p) (list_of room end.folder)) (sym end.is)
        ∙ made_under (object_at room (first ∷ rest)) (list_of room end.folder)
        ∙ ap (λ f. list_made (object_at room (first ∷ rest))
        (handed_by (object_at room (first ∷ rest)) (list_of room f)))
        (sym folder)

pub no_less_deep : (x y : Room) → IsRoom x → (path : Path) → SameBelow x y path
    → depth_in path x.objects ≤ depth_in path y.objects
no_less_deep x y lawful path same = no_deeper path x.objects (depth_in path y.objects) (λ k o stands below.
    let whole = rest_below path k below in
    let there : object_at y k ≡ Some o = ap (object_at y) whole ∙ sym (same (drop (length path) k))
    ∙ ap (object_at x) (sym whole) ∙ standing_found x.objects lawful.once k o stands in
    within_depth path y.objects k o (found_stands y.objects k o there) below)

pub depth_same : (x y : Room) → IsRoom x → IsRoom y → (path : Path) → SameBelow x y path
    → depth_in path x.objects ≡ depth_in path y.objects
depth_same x y room_x room_y path same =
    omega (arith, no_less_deep x y room_x path same, no_less_deep y x room_y path (λ rest. sym (same rest)))

-- what is the same of two rooms at a path, for what is below
pub record Region (x y : Room) (caller : SubjectModel) (top : Path) : Type 0 where
  pub inside : SameBelow x y top
  pub list : list_of x top ≡ list_of y top
  pub handed : handed_to x top ≡ handed_to y top
  pub way : walk x caller top ≡ walk y caller top
  pub above : (wanted : ℕ) → check_right x caller (parent_of top) wanted ≡ check_right y caller (parent_of top) wanted
  -- a folder in it shows whether a number is left
  pub made : (rest : Path) (o : Object) → object_at x (top ++ rest) ≡ Some o → o.kind ≡ Folder → x.left ≡ y.left

module _ (x y : Room) (caller : SubjectModel) (room_x : IsRoom x) (room_y : IsRoom y)
    (top : Path) (region : Region x y caller top) where
  pub list_in : (rest : Path) → list_of x (top ++ rest) ≡ list_of y (top ++ rest)
  list_in rest = lists_below x y rest top top region.list region.inside

  pub right_in : (rest : Path) (wanted : ℕ)
      → check_right x caller (top ++ rest) wanted ≡ check_right y caller (top ++ rest) wanted
  right_in rest wanted = right_same x y caller (top ++ rest) wanted (list_in rest) (region.inside rest)

  pub walk_in : (rest : Path) → walk x caller (top ++ rest) ≡ walk y caller (top ++ rest)
  walk_in rest = walk_below x y caller rest top region.inside region.list region.way

  pub same_in : (rest : Path) → SameBelow x y (top ++ rest)
  same_in rest below = rw (append_assoc top rest below) (region.inside (rest ++ below))

  above_in : (rest : Path) (wanted : ℕ) → check_right x caller (parent_of (top ++ rest)) wanted
      ≡ check_right y caller (parent_of (top ++ rest)) wanted
  above_in [] wanted = rw (append-nil top) (region.above wanted)
  above_in (name ∷ rest) wanted =
      let end = ends name rest in
      let folder : parent_of (top ++ name ∷ rest) ≡ top ++ end.folder =
      ap (λ p. parent_of (top ++ p)) end.is ∙ ap parent_of (sym (append_assoc top end.folder (end.name ∷ [])))
      ∙ parent_of_end (top ++ end.folder) end.name in
      rw folder (right_in end.folder wanted)

  pub handed_in : (rest : Path) → handed_to x (top ++ rest) ≡ handed_to y (top ++ rest)
  handed_in [] = rw (append-nil top) region.handed
  handed_in (name ∷ rest) =
      let end = ends name rest in
      let folder : parent_of (top ++ name ∷ rest) ≡ top ++ end.folder =
      ap (λ p. parent_of (top ++ p)) end.is ∙ ap parent_of (sym (append_assoc top end.folder (end.name ∷ [])))
      ∙ parent_of_end (top ++ end.folder) end.name in
      rw folder (λ i. handed_by (region.inside (name ∷ rest) i) (list_in end.folder i))

  facts_in : (rest : Path) → facts_at x caller (top ++ rest)
      ≡ record (facts_at y caller (top ++ rest)) { full = (x.left == 0) }
  facts_in rest = (λ i. record {
    list = list_in rest i;
    may = λ wanted. is_none (right_in rest wanted i);
    removes = not (is_root (top ++ rest)) && (is_none (right_in rest delete_object i)
        || is_none (above_in rest delete_child i));
    names = children_same x y caller (top ++ rest) (λ name.
        ap (option_map (λ (o : Object). o.kind)) (same_in rest (name ∷ []))) i;
    depth = depth_same x y room_x room_y (top ++ rest) (same_in rest) i;
    full = (x.left == 0);
  })

  full_in : (rest : Path) (o : Object) → object_at x (top ++ rest) ≡ Some o → (kind : Kind) → o.kind ≡ kind
      → (adds : Bool) → then_some (not (is_file o.kind) && adds) (x.left == 0)
      ≡ then_some (not (is_file o.kind) && adds) (y.left == 0)
  full_in rest o is File file adds = rw file refl
  full_in rest o is Folder folder adds =
      ap (λ n. then_some (not (is_file o.kind) && adds) (n == 0)) (region.made rest o is folder)

  numbers_in : (rest : Path) (o : Option Object) → object_at x (top ++ rest) ≡ o → (way : Option Refusal)
      → view_with caller way (record (facts_at y caller (top ++ rest)) { full = (x.left == 0) }) o
      ≡ view_with caller way (facts_at y caller (top ++ rest)) o
  numbers_in rest None is way = refl
  numbers_in rest (Some o) is way =
      let full = full_in rest o is o.kind refl
      (may y caller (top ++ rest) add_file || may y caller (top ++ rest) add_subdirectory) in
      ap (λ (f : Option Bool). if_reached way
      (Some (record (sight_with caller (facts_at y caller (top ++ rest)) o) { full = f }))) full

  -- below, both look the same
  pub view_in : (rest : Path) → view x caller (top ++ rest) ≡ view y caller (top ++ rest)
  view_in rest = view_by_facts x caller (top ++ rest)
      ∙ (λ i. view_with caller (walk_in rest i) (facts_in rest i) (object_at x (top ++ rest)))
      ∙ numbers_in rest (object_at x (top ++ rest)) refl (walk y caller (top ++ rest))
      ∙ ap (view_with caller (walk y caller (top ++ rest)) (facts_at y caller (top ++ rest))) (region.inside rest)
      ∙ sym (view_by_facts y caller (top ++ rest))
