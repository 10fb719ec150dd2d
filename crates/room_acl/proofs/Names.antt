-- The names of rights and flags agree with their numbers and their places.
use Rattle.room_acl.proofs.Common.{◌≡◌, ◌-◌, ◌^◌, ℕ, refl, true, false, List, [], ◌∷◌, map, read_data, list_directory}
use Rattle.room_acl.proofs.Common.{write_data, add_file, append_data, add_subdirectory, read_named_attrs}
use Rattle.room_acl.proofs.Common.{write_named_attrs, execute, delete_child, read_attributes, write_attributes}
use Rattle.room_acl.proofs.Common.{write_retention, write_retention_hold, delete_object, read_acl, write_acl}
use Rattle.room_acl.proofs.Common.{write_owner, synchronize, all_rights, named_bits, file_inherit_flag}
use Rattle.room_acl.proofs.Common.{directory_inherit_flag, no_propagate_flag, inherit_only_flag, identifier_group_flag}
use Rattle.room_acl.proofs.Common.{inherited_flag, inheritance_flags, all_flags, all_list_flags, file_inherit}
use Rattle.room_acl.proofs.Common.{directory_inherit, no_propagate, inherit_only, identifier_group, is_inherited}
use Rattle.room_acl.proofs.Common.{mark_alone, mark_for_folders, mark_for_files, mark_for_both}

rights : List ℕ
rights =
    read_data ∷ write_data ∷ append_data ∷ read_named_attrs
    ∷ write_named_attrs ∷ execute ∷ delete_child ∷ read_attributes
    ∷ write_attributes ∷ write_retention ∷ write_retention_hold
    ∷ delete_object ∷ read_acl ∷ write_acl ∷ write_owner ∷ synchronize ∷ []

places_of_rights : map (λ place. 2 ^ place) named_bits ≡ rights
unfolding rights
places_of_rights = refl

all_rights_number : all_rights ≡ 0x1F07FF
all_rights_number = refl

names_for_folders : (list_directory ≡ read_data) × (add_file ≡ write_data) × (add_subdirectory ≡ append_data)
names_for_folders = (refl, refl, refl)

all_flags_number : (inheritance_flags ≡ 0x0F) × (all_flags ≡ 0xCF)
all_flags_number = (refl, refl)

all_list_flags_number : all_list_flags ≡ 0x07
all_list_flags_number = refl

-- each test looks at its own flag and at no other
tests_of_flags :
    (file_inherit file_inherit_flag ≡ true) × (file_inherit (all_flags - file_inherit_flag) ≡ false)
    × (directory_inherit directory_inherit_flag ≡ true)
    × (directory_inherit (all_flags - directory_inherit_flag) ≡ false)
    × (no_propagate no_propagate_flag ≡ true) × (no_propagate (all_flags - no_propagate_flag) ≡ false)
    × (inherit_only inherit_only_flag ≡ true) × (inherit_only (all_flags - inherit_only_flag) ≡ false)
    × (identifier_group identifier_group_flag ≡ true) × (identifier_group (all_flags - identifier_group_flag) ≡ false)
    × (is_inherited inherited_flag ≡ true) × (is_inherited (all_flags - inherited_flag) ≡ false)
tests_of_flags = (refl, refl, refl, refl, refl, refl, refl, refl, refl, refl, refl, refl)

-- the numbers of the table
table_numbers : (mark_alone ≡ 0x80) × (mark_for_folders ≡ 0x82) × (mark_for_both ≡ 0x83) × (mark_for_files ≡ 0x89)
table_numbers = (refl, refl, refl, refl)
