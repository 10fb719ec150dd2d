-- The lines of the reports. Their forms are our own.
use Rattle.std.specs.Prelude.{ℕ, zero, suc, ◌+◌, ◌-◌, ◌/◌, ◌%◌, false, List, [], ◌∷◌, ◌++◌, length}
use Rattle.std.specs.Prelude.{codes, if◌then◌else◌, replicate}
use Rattle.std.specs.Fmt.{digit_glyph}
use Rattle.std.specs.List.{flat_map}
use Rattle.room_acl.specs.declared.subject.Kind.{Kind}
use Rattle.room_acl.specs.declared.subject.Kind.TheVariants.{File, Folder}
use Rattle.room_acl.specs.Principals.{max_principal_bytes}
use Rattle.room_acl.specs.SubjectModel.{SubjectModel}
use Rattle.room_acl.specs.Entries.{EntryModel, who_text}
use Rattle.room_acl.specs.Access.{allowed_mask}
use Rattle.room_records.specs.Names.{Path, path_cmp, path_text}
use Rattle.room_records.specs.Room.{Object, Room, list_of, standing_of, in_order}

-- the objects in path order: a folder before what is in it, names by their bytes
abbrev pub in_path_order : List (Path × Object) → List (Path × Object)
in_path_order es = in_order path_cmp es

-- so many lower-case hexadecimal digits, with zeros at the front
unfoldable pub hex : ℕ → ℕ → List ℕ
hex zero n = []
hex (suc places) n = hex places (n / 16) ++ digit_glyph false (n % 16) ∷ []

-- a text left in as many places as the longest name takes
abbrev pub in_places : List ℕ → List ℕ
in_places text = text ++ replicate (max_principal_bytes - length text) 32

abbrev pub mask_line : ℕ → List ℕ → List ℕ → List ℕ
mask_line mask name path = hex 8 mask ++ 32 ∷ in_places name ++ 32 ∷ path ++ 10 ∷ []

-- what the object's own list allows a user; the folders above are not looked at
abbrev pub access_line : Room → Path × Object → SubjectModel → List ℕ
access_line room e user = mask_line (allowed_mask (list_of room e.0) user (standing_of e.1)) user.name (path_text e.0)

-- a line for each object in path order and each user in name order
abbrev pub access_text : Room → List SubjectModel → List ℕ
access_text room roster =
    flat_map (λ (e : Path × Object). flat_map (access_line room e) roster) (in_path_order room.objects)

abbrev pub kind_letter : Kind → ℕ
kind_letter File = 102
kind_letter Folder = 100

abbrev pub entry_line : EntryModel → List ℕ
entry_line e = codes "  " ++ (if e.allow then 65 else 68) ∷ 32 ∷ hex 2 e.flags
    ++ 32 ∷ hex 8 e.mask ++ 32 ∷ who_text e.who ++ 10 ∷ []

abbrev pub head_line : Kind → ℕ → List ℕ → List ℕ → List ℕ → List ℕ
head_line kind aclflag owner group path =
    kind_letter kind ∷ 32 ∷ (48 + aclflag) ∷ 32 ∷ in_places owner ++ 32 ∷ in_places group ++ 32 ∷ path ++ 10 ∷ []

abbrev pub object_line : Path × Object → List ℕ
object_line e = head_line e.1.kind e.1.aclflag e.1.owner e.1.group (path_text e.0)

-- each object in path order, with its whole list: its own entries and the inherited ones, in their order
abbrev pub list_text : Room → List ℕ
list_text room =
    flat_map (λ (e : Path × Object). object_line e ++ flat_map entry_line (list_of room e.0))
    (in_path_order room.objects)
