-- File names, paths and session names.
use Rattle.std.specs.Prelude.{ℕ, Bool, not, ◌&&◌, ◌||◌, ◌==◌, List, [], ◌∷◌, length, IsTrue, nat_le, codes}
use Rattle.std.specs.List.{list_all, flat_map}
use Rattle.std.specs.declared.cmp.Ordering.{Ordering}
use Rattle.std.specs.Ordering.{nat_cmp}
use Rattle.std.specs.Cmp.Lexicographic.{slice_cmp, pointwise}
use Rattle.std.specs.Str.{bytes_eq, is_utf8}
use Rattle.room_records.specs.Limits.{max_names, max_name_bytes, sid_bytes}

abbrev pub Name : Type 0
Name = List ℕ

abbrev pub Path : Type 0
Path = List Name

-- names by their bytes, and paths as lists of names: a folder stands before what is in it
abbrev pub name_cmp : Name → Name → Ordering
name_cmp = slice_cmp nat_cmp

abbrev pub path_cmp : Path → Path → Ordering
path_cmp = slice_cmp name_cmp

abbrev pub name_eq : Name → Name → Bool
name_eq = bytes_eq

abbrev pub path_eq : Path → Path → Bool
path_eq = pointwise name_eq

abbrev pub is_name_byte : ℕ → Bool
is_name_byte b = nat_le 32 b && (not (b == 47) && not (b == 127))

-- 1 to 64 bytes of UTF-8 without / and controls, and neither . nor ..
unfoldable pub is_file_name : Name → Bool
is_file_name name =
    is_utf8 name && (nat_le 1 (length name) && (nat_le (length name) max_name_bytes && (list_all is_name_byte name
    && (not (bytes_eq name (codes ".")) && not (bytes_eq name (codes ".."))))))

abbrev pub IsFileName : Name → Type 0
IsFileName name = IsTrue (is_file_name name)

unfoldable pub is_path : Path → Bool
is_path path = nat_le (length path) max_names && list_all is_file_name path

abbrev pub IsPath : Path → Type 0
IsPath path = IsTrue (is_path path)

abbrev pub path_text : Path → List ℕ
path_text [] = 47 ∷ []
path_text (name ∷ path) = flat_map (λ n. 47 ∷ n) (name ∷ path)

abbrev pub is_hex_digit : ℕ → Bool
is_hex_digit b = (nat_le 48 b && nat_le b 57) || (nat_le 97 b && nat_le b 102)

-- 32 lower-case hexadecimal digits
abbrev pub is_sid : List ℕ → Bool
is_sid text = (length text == sid_bytes) && list_all is_hex_digit text
