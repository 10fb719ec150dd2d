-- A path's text, cut at its slashes.
use Rattle.room_records.proofs.Common.{◌≡◌, ℕ, refl, ap, sym, ◌∙◌, false, Bool, List, [], ◌∷◌, ◌++◌, length, arith}
use Rattle.room_records.proofs.Common.{IsTrue, nat_le, ◌==◌, AllByRecursion, flat_map, slice_split, join_with_byte}
use Rattle.room_records.proofs.Common.{list_all, and_parts, not-true, append-nil, Name, Path, IsFileName, IsPath}
use Rattle.room_records.proofs.Common.{path_text, is_name_byte}
use Rattle.std.proofs.lemmas.List.Splits.{join_with_byte-slice_split}
use Rattle.room_records.proofs.PathParts.{name_parts, path_parts}

abbrev is_slash : ℕ → Bool
is_slash b = b == 47

name_byte_is_no_slash : (b : ℕ) → IsTrue (is_name_byte b) → is_slash b ≡ false
name_byte_is_no_slash b lawful = not-true (b == 47) (and_parts _ _ (and_parts (nat_le 32 b) _ lawful).1).0

-- the parts of names with a slash before each
part_before : (name rest : List ℕ) (more : List (List ℕ)) → IsTrue (list_all is_name_byte name)
    → slice_split is_slash rest ≡ [] ∷ more → slice_split is_slash (name ++ rest) ≡ name ∷ more
part_before [] rest more lawful parts = parts
part_before (b ∷ name) rest more lawful parts =
    let two = and_parts (is_name_byte b) (list_all is_name_byte name) lawful in
    rw (name_byte_is_no_slash b two.0, part_before name rest more two.1 parts) refl

pub parts_of_path : (path : Path) → AllByRecursion IsFileName path
    → slice_split is_slash (flat_map (λ n. 47 ∷ n) path) ≡ [] ∷ path
parts_of_path [] names = refl
parts_of_path (name ∷ path) names =
    ap (λ parts. [] ∷ parts)
    (part_before name (flat_map (λ n. 47 ∷ n) path) path (name_parts name names.0).bytes (parts_of_path path names.1))

joined : (name : Name) (path : Path) → join_with_byte 47 (name ∷ path) ≡ name ++ flat_map (λ n. 47 ∷ n) path
joined name [] = sym (append-nil name)
joined name (next ∷ path) = ap (λ rest. name ++ 47 ∷ rest) (joined next path)

-- what the parts say of the text
pub text_of_parts : (text : List ℕ) (name : Name) (path : Path)
    → slice_split is_slash text ≡ [] ∷ name ∷ path → path_text (name ∷ path) ≡ text
text_of_parts text name path parts =
    sym (joined [] (name ∷ path)) ∙ ap (join_with_byte 47) (sym parts) ∙ join_with_byte-slice_split 47 text

pub path_of_parts : (text : List ℕ) (name : Name) (path : Path) → IsPath (name ∷ path)
    → path_text (name ∷ path) ≡ text → slice_split is_slash text ≡ [] ∷ name ∷ path
path_of_parts text name path lawful is =
    ap (slice_split is_slash) (sym is) ∙ parts_of_path (name ∷ path) (path_parts (name ∷ path) lawful).names

-- no other path has the root's text
pub only_root : (path : Path) → IsPath path → path_text path ≡ 47 ∷ [] → path ≡ []
only_root [] lawful is = refl
only_root ([] ∷ path) lawful is =
    let some = (name_parts [] (path_parts ([] ∷ path) lawful).names.0).some in absurd (omega arith)
only_root ((b ∷ name) ∷ path) lawful is = absurd cc

-- the parts of a text that is a path's, other than the root's
pub record ArePathParts (front : Name) (rest : List Name) (path : Path) : Type 0 where
  pub no_front : front ≡ []
  pub are : rest ≡ path
  pub some : length rest ≡ 0 → ⊥

pub parts_are_path : (text front : Name) (rest : List Name) → slice_split is_slash text ≡ front ∷ rest
    → (text ≡ 47 ∷ [] → ⊥) → (path : Path) → IsPath path → path_text path ≡ text → ArePathParts front rest path
parts_are_path text front rest parts other [] lawful is = absurd (other (sym is))
parts_are_path text front rest parts other (name ∷ path) lawful is =
    let e : front ∷ rest ≡ [] ∷ name ∷ path = sym parts ∙ path_of_parts text name path lawful is in
    let same : rest ≡ name ∷ path = cc in
    record { no_front = cc; are = same; some = λ none. omega (arith, ap length same, none) }

pub text_of_names : (text front : Name) (rest : List Name) → slice_split is_slash text ≡ front ∷ rest
    → length front ≡ 0 → (length rest ≡ 0 → ⊥) → path_text rest ≡ text
text_of_names text front [] parts none some = absurd (some refl)
text_of_names text [] (name ∷ path) parts none some = text_of_parts text name path parts
text_of_names text (b ∷ front) (name ∷ path) parts none some = absurd (omega (arith, none))
