-- A room's list of objects as a finite map: what stands at a path, and in the list.
use Rattle.room_records.proofs.Common.{◌≡◌, ◌-◌, refl, ap, sym, ◌∙◌, arith, true, false, ◌⊎◌, inl, inr, List, [], ◌∷◌}
use Rattle.room_records.proofs.Common.{◌++◌, length, append-nil, append_assoc, None, Some, lookup, take_at, length_push}
use Rattle.room_records.proofs.Common.{false_from_ne_true, pointwise_decides, bytes_decides, Name, Path, IsPath}
use Rattle.room_records.proofs.Common.{name_eq, path_eq, Object, Room, IsRoom, IsObject, AreObjects, object_at}
use Rattle.room_records.proofs.Common.{parent_of}
use Rattle.room_acl.specs.declared.subject.Kind.TheVariants.{Folder}
use Rattle.room_records.proofs.Options.{none_if}

pub some_is : {X : Type 0} (a b : X) → Some a ≡ Some b → a ≡ b
some_is a b e = cc

pub none_is_some : {X : Type 0} (a : X) → None ≡ Some a → ⊥
none_is_some a e = cc

-- the test of two paths decides whether they are one
pub same_path : (a b : Path) → path_eq a b ≡ true → a ≡ b
same_path a b = (pointwise_decides {E = name_eq} bytes_decides a b).0

pub path_itself : (a : Path) → path_eq a a ≡ true
path_itself a = (pointwise_decides {E = name_eq} bytes_decides a a).1 refl

pub other_path : (a b : Path) → (a ≡ b → ⊥) → path_eq a b ≡ false
other_path a b apart = false_from_ne_true (path_eq a b) (λ e. apart (same_path a b e))

pub parent_of_end : (path : Path) (name : Name) → parent_of (path ++ name ∷ []) ≡ path
parent_of_end path name =
    let n : length (path ++ name ∷ []) - 1 ≡ length path = omega (arith, length_push path name) in
    rw n (take_at path (name ∷ []) (length path) refl)

-- a path other than the root is a folder's path and a name
pub record Ends (path : Path) : Type 0 where
  pub folder : Path
  pub name : Name
  pub is : path ≡ folder ++ name ∷ []

pub ends : (first : Name) (rest : Path) → Ends (first ∷ rest)
ends first [] = record { folder = []; name = first; is = refl }
ends first (second ∷ rest) =
    let below = ends second rest in
    record { folder = first ∷ below.folder; name = below.name; is = ap (λ path. first ∷ path) below.is }

-- an object stands in the list at a path
abbrev pub StandsIn : List (Path × Object) → Path → Object → Type 0
StandsIn [] path o = ⊥
StandsIn (e ∷ es) path o = ((e.0 ≡ path) × (e.1 ≡ o)) ⊎ StandsIn es path o

-- what is found stands there
pub found_stands : (es : List (Path × Object)) (path : Path) (o : Object)
    → lookup (path_eq path) es ≡ Some o → StandsIn es path o
found_stands [] path o h = none_is_some o h
found_stands (e ∷ es) path o h = grind (arith, same_path path e.0, found_stands es path o)

-- and what stands there is found, since each path stands once
pub standing_found : (es : List (Path × Object)) → AreObjects es
    → (path : Path) (o : Object) → StandsIn es path o → lookup (path_eq path) es ≡ Some o
standing_found [] once path o stands = absurd stands
standing_found (e ∷ es) once path o (inl here) = rw (here.0, path_itself path) (ap Some here.1)
standing_found (e ∷ es) once path o (inr there) =
    let found = standing_found es once.3 path o there in
    rw (other_path path e.0 (λ same. none_is_some o (sym once.2 ∙ rw same at found))) found

-- each object of the list is lawful, and has a lawful path
pub object_is_lawful : (es : List (Path × Object)) → AreObjects es
    → (path : Path) (o : Object) → StandsIn es path o → IsPath path × IsObject o
object_is_lawful [] once path o stands = absurd stands
object_is_lawful (e ∷ es) once path o (inl here) = (rw here.0 at once.0, rw here.1 at once.1)
object_is_lawful (e ∷ es) once path o (inr there) = object_is_lawful es once.3 path o there

module _ (room : Room) (lawful : IsRoom room) where
  pub path_of_object : (path : Path) (o : Object) → object_at room path ≡ Some o → IsPath path
  path_of_object path o e = (object_is_lawful room.objects lawful.once path o (found_stands room.objects path o e)).0

  pub object_there_is_lawful : (path : Path) (o : Object) → object_at room path ≡ Some o → IsObject o
  object_there_is_lawful path o e =
      (object_is_lawful room.objects lawful.once path o (found_stands room.objects path o e)).1

  -- nothing stands below what is not there
  pub nothing_below : (rest front : Path) → object_at room front ≡ None → object_at room (front ++ rest) ≡ None
  nothing_below [] front none = rw (append-nil front) none
  nothing_below (name ∷ rest) front none =
      rw (← append_assoc front (name ∷ []) rest) (nothing_below rest (front ++ name ∷ []) (none_if _ (λ o e.
      let above = lawful.parents front name o e in none_is_some above.0 (sym none ∙ above.1))))

  -- nor below a file
  pub nothing_in_a_file : (path : Path) (o : Object) → object_at room path ≡ Some o
      → (o.kind ≡ Folder → ⊥) → (name : Name) → object_at room (path ++ name ∷ []) ≡ None
  nothing_in_a_file path o is file name = none_if _ (λ child e.
      let above = lawful.parents path name child e in
      let same : above.0 ≡ o = some_is above.0 o (sym above.1 ∙ is) in
      file (rw same at above.2))
