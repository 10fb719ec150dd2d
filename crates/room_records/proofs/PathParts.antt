-- What a file name and a path are, part by part.
use Rattle.room_records.proofs.Common.{◌≡◌, ◌≤◌, ℕ, suc, zero, true, [], ◌∷◌, length, take, refl, arith, IsTrue, nat_le}
use Rattle.room_records.proofs.Common.{list_all, AllByRecursion, is_utf8, IsUtf8, and_parts, and_from, leb-true, le-leb}
use Rattle.room_records.proofs.Common.{length-take, max_names, max_name_bytes, Name, Path, is_file_name, IsFileName}
use Rattle.room_records.proofs.Common.{is_path, IsPath, is_name_byte}
use Rattle.std.proofs.lemmas.Str.{IsUtf8-from_is_utf8}

pub record NameParts (name : Name) : Type 0 where
  pub text : IsUtf8 name
  pub some : 1 ≤ length name
  pub bytes : IsTrue (list_all is_name_byte name)

pub name_parts : (name : Name) → IsFileName name → NameParts name
unfolding is_file_name
name_parts name lawful =
    let a = and_parts (is_utf8 name) _ lawful in
    let b = and_parts (nat_le 1 (length name)) _ a.1 in
    let c = and_parts (nat_le (length name) max_name_bytes) _ b.1 in
    let d = and_parts (list_all is_name_byte name) _ c.1 in
    record { text = IsUtf8-from_is_utf8 name a.0; some = leb-true _ _ b.0; bytes = d.0 }

pub record PathParts (path : Path) : Type 0 where
  pub short : length path ≤ max_names
  pub names : AllByRecursion IsFileName path

names_of_test : (path : Path) → list_all is_file_name path ≡ true → AllByRecursion IsFileName path
names_of_test [] h = tt
names_of_test (name ∷ path) h = let p = and_parts (is_file_name name) _ h in (p.0, names_of_test path p.1)

test_of_names : (path : Path) → AllByRecursion IsFileName path → list_all is_file_name path ≡ true
test_of_names [] h = refl
test_of_names (name ∷ path) h = and_from _ _ h.0 (test_of_names path h.1)

pub path_parts : (path : Path) → IsPath path → PathParts path
unfolding is_path
path_parts path lawful =
    let both = and_parts (nat_le (length path) max_names) _ lawful in
    record { short = leb-true _ _ both.0; names = names_of_test path both.1 }

pub path_of_names : (path : Path) → length path ≤ max_names → AllByRecursion IsFileName path → IsPath path
unfolding is_path
path_of_names path short names = and_from _ _ (le-leb _ _ short) (test_of_names path names)

all_taken : (n : ℕ) (path : Path) → AllByRecursion IsFileName path → AllByRecursion IsFileName (take n path)
all_taken zero path all = tt
all_taken (suc n) [] all = tt
all_taken (suc n) (name ∷ path) all = (all.0, all_taken n path all.1)

pub front_is_path : (n : ℕ) (path : Path) → IsPath path → IsPath (take n path)
front_is_path n path lawful =
    let parts = path_parts path lawful in
    path_of_names (take n path) (omega (arith, parts.short, length-take n path)) (all_taken n path parts.names)

pub root_is_path : IsPath []
unfolding is_path
root_is_path = refl
