-- The path of a text: the one lawful path with that text, where there is one.
use Rattle.room_wire.proofs.Common.{◌≡◌, ℕ, true, ◌&&◌, List, [], ◌∷◌, drop, cond, refl, sym, ap, subst, ◌∙◌, arith}
use Rattle.room_wire.proofs.Common.{Option, None, Some, Result, Ok, Err, bytes_eq, IfSome, IfOk, and_parts, and_from}
use Rattle.room_wire.proofs.Common.{cond_some, bytes_eq-Decides, Path, IsPath, is_path, path_text, names_in, path_from}
use Rattle.room_records.proofs.PathParts.{name_parts, path_parts}
use Rattle.room_records.proofs.PathTexts.{path_of_parts}

-- the names that stand in a path's text are the path's
names_of_text : (path : Path) → IsPath path → names_in (path_text path) ≡ path
names_of_text [] lawful = refl
names_of_text ([] ∷ path) lawful =
    let some = (name_parts [] (path_parts ([] ∷ path) lawful).names.0).some in absurd (omega arith)
names_of_text ((b ∷ name) ∷ path) lawful =
    ap (drop 1) (path_of_parts (path_text ((b ∷ name) ∷ path)) (b ∷ name) path lawful refl)

pub path_of_text : (text : List ℕ) (path : Path) → IsPath path → path_text path ≡ text → path_from text ≡ Some path
path_of_text text path lawful is =
    let names : names_in text ≡ path = ap names_in (sym is) ∙ names_of_text path lawful in
    let same : bytes_eq (path_text (names_in text)) text ≡ true = (bytes_eq-Decides _ _).1 (ap path_text names ∙ is) in
    let test : is_path (names_in text) ≡ true = ap is_path names ∙ lawful in
    ap (λ b. cond b (Some (names_in text)) None) (and_from _ _ test same) ∙ ap Some names

pub text_of_path : (text : List ℕ) (path : Path) → path_from text ≡ Some path → IsPath path × (path_text path ≡ text)
text_of_path text path e =
    let parts =
    cond_some (is_path (names_in text) && bytes_eq (path_text (names_in text)) text) (names_in text) path e in
    let tests = and_parts (is_path (names_in text)) (bytes_eq (path_text (names_in text)) text) parts.0 in (
      subst IsPath parts.1 tests.0,
      subst (λ p. path_text p ≡ text) parts.1 ((bytes_eq-Decides _ _).0 tests.1),
    )

found_path : (text : List ℕ) (found : Option Path) → IfSome found (λ path. IsPath path × (path_text path ≡ text))
    → ((path : Path) → IsPath path → path_text path ≡ text → found ≡ Some path) → found ≡ path_from text
found_path text (Some path) some every = sym (path_of_text text path some.0 some.1)
found_path text None some every = by (path_from text) refl
  where
    by : (there : Option Path) → path_from text ≡ there → None ≡ path_from text
    by None e = sym e
    by (Some path) e = let is = text_of_path text path e in every path is.0 is.1 ∙ sym e

-- what a reader answers that keeps both promises
pub read_path : {E : Type 0} (text : List ℕ) (read : Result (Option Path) E)
    → IfOk read (λ found. IfSome found (λ path. IsPath path × (path_text path ≡ text)))
    → IfOk read (λ found. (path : Path) → IsPath path → path_text path ≡ text → found ≡ Some path)
    → IfOk read (λ found. found ≡ path_from text)
read_path text (Ok found) some every = found_path text found some every
read_path text (Err e) some every = tt
