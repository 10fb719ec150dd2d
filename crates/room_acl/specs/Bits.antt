-- The rights of a mask, the flags of an entry, and the flags of a list.
use Rattle.std.specs.Prelude.{ℕ, ◌+◌, ◌-◌, ◌^◌, Bool, IsTrue, not, ◌&&◌, cond, List, [], ◌∷◌, ◌==◌}
use Rattle.std.specs.Prelude.{nat_le, bit_and, bit_or}
use Rattle.std.specs.Int.{bit_at}

-- the sixteen rights, as masks (RFC 8881, section 6.2.1.3). Three have one name for a file and one for a folder
abbrev pub read_data : ℕ
read_data = 0x1

abbrev pub list_directory : ℕ
list_directory = 0x1

abbrev pub write_data : ℕ
write_data = 0x2

abbrev pub add_file : ℕ
add_file = 0x2

abbrev pub append_data : ℕ
append_data = 0x4

abbrev pub add_subdirectory : ℕ
add_subdirectory = 0x4

abbrev pub read_named_attrs : ℕ
read_named_attrs = 0x8

abbrev pub write_named_attrs : ℕ
write_named_attrs = 0x10

abbrev pub execute : ℕ
execute = 0x20

abbrev pub delete_child : ℕ
delete_child = 0x40

abbrev pub read_attributes : ℕ
read_attributes = 0x80

abbrev pub write_attributes : ℕ
write_attributes = 0x100

abbrev pub write_retention : ℕ
write_retention = 0x200

abbrev pub write_retention_hold : ℕ
write_retention_hold = 0x400

abbrev pub delete_object : ℕ
delete_object = 0x10000

abbrev pub read_acl : ℕ
read_acl = 0x20000

abbrev pub write_acl : ℕ
write_acl = 0x40000

abbrev pub write_owner : ℕ
write_owner = 0x80000

abbrev pub synchronize : ℕ
synchronize = 0x100000

-- all of them, 0x1F07FF
abbrev pub all_rights : ℕ
all_rights =
    read_data + write_data + append_data + read_named_attrs
    + write_named_attrs + execute + delete_child + read_attributes
    + write_attributes + write_retention + write_retention_hold
    + delete_object + read_acl + write_acl + write_owner + synchronize

-- a reader's, 0x1200A9: a file's bytes, a folder's names, what is below it, attributes and the list
abbrev pub reading_rights : ℕ
reading_rights = read_data + read_named_attrs + execute + read_attributes + read_acl + synchronize

-- those that an object's owner always has, 0x60000 (our own rule)
abbrev pub owner_rights : ℕ
owner_rights = read_acl + write_acl

-- the sixteen rights as places of bits, the lowest first (`places_of_rights` of proofs/Names compares them)
abbrev pub named_bits : List ℕ
named_bits = 0 ∷ 1 ∷ 2 ∷ 3 ∷ 4 ∷ 5 ∷ 6 ∷ 7 ∷ 8 ∷ 9 ∷ 10 ∷ 16 ∷ 17 ∷ 18 ∷ 19 ∷ 20 ∷ []

abbrev pub is_mask : ℕ → Bool
is_mask bits = bit_and bits all_rights == bits

abbrev pub IsMask : ℕ → Type 0
IsMask bits = IsTrue (is_mask bits)

-- the flags of an entry (RFC 8881, section 6.2.1.4), but for the two that are for auditing
abbrev pub file_inherit_flag : ℕ
file_inherit_flag = 0x01

abbrev pub directory_inherit_flag : ℕ
directory_inherit_flag = 0x02

abbrev pub no_propagate_flag : ℕ
no_propagate_flag = 0x04

abbrev pub inherit_only_flag : ℕ
inherit_only_flag = 0x08

abbrev pub identifier_group_flag : ℕ
identifier_group_flag = 0x40

-- the mark of a handed down entry
abbrev pub inherited_flag : ℕ
inherited_flag = 0x80

-- an entry that files and folders get, at every depth, 0x03
abbrev pub inherit_flags : ℕ
inherit_flags = file_inherit_flag + directory_inherit_flag

-- the four flags that say what is handed down, 0x0F
abbrev pub inheritance_flags : ℕ
inheritance_flags = file_inherit_flag + directory_inherit_flag + no_propagate_flag + inherit_only_flag

-- all flags, 0xCF
abbrev pub all_flags : ℕ
all_flags = inheritance_flags + identifier_group_flag + inherited_flag

abbrev pub is_flags : ℕ → Bool
is_flags bits = bit_and bits all_flags == bits

abbrev pub IsFlags : ℕ → Type 0
IsFlags bits = IsTrue (is_flags bits)

-- the flags of a whole list (RFC 8881, section 6.4.3.2)
abbrev pub no_list_flags : ℕ
no_list_flags = 0

abbrev pub auto_inherit_flag : ℕ
auto_inherit_flag = 1

abbrev pub protected_flag : ℕ
protected_flag = 2

abbrev pub defaulted_flag : ℕ
defaulted_flag = 4

-- all three, 0x07
abbrev pub all_list_flags : ℕ
all_list_flags = auto_inherit_flag + protected_flag + defaulted_flag

abbrev pub is_list_flags : ℕ → Bool
is_list_flags bits = nat_le bits all_list_flags

abbrev pub IsListFlags : ℕ → Type 0
IsListFlags bits = IsTrue (is_list_flags bits)

-- whether a set of bits has the bit at this place
abbrev pub has_bit : ℕ → ℕ → Bool
has_bit bits place = bit_at bits place == 1

abbrev pub has_flag : ℕ → ℕ → Bool
has_flag flags flag = bit_and flags flag == flag

abbrev pub file_inherit : ℕ → Bool
file_inherit flags = has_flag flags file_inherit_flag

abbrev pub directory_inherit : ℕ → Bool
directory_inherit flags = has_flag flags directory_inherit_flag

abbrev pub no_propagate : ℕ → Bool
no_propagate flags = has_flag flags no_propagate_flag

abbrev pub inherit_only : ℕ → Bool
inherit_only flags = has_flag flags inherit_only_flag

abbrev pub identifier_group : ℕ → Bool
identifier_group flags = has_flag flags identifier_group_flag

abbrev pub is_inherited : ℕ → Bool
is_inherited flags = has_flag flags inherited_flag

-- the same flags without the mark
abbrev pub without_inherited : ℕ → ℕ
without_inherited flags = flags - bit_and flags inherited_flag

-- whether an object with these list flags follows its folder: AUTO_INHERIT set and PROTECTED clear, whatever its
-- folder's flags are (our own rule)
abbrev pub follows : ℕ → Bool
follows aclflag = has_flag aclflag auto_inherit_flag && not (has_flag aclflag protected_flag)

-- the rights that pass a test, as a mask
abbrev pub mask_of_places : (ℕ → Bool) → List ℕ → ℕ
mask_of_places test [] = 0
mask_of_places test (place ∷ places) = bit_or (cond (test place) (2 ^ place) 0) (mask_of_places test places)

abbrev pub mask_of : (ℕ → Bool) → ℕ
mask_of test = mask_of_places test named_bits
