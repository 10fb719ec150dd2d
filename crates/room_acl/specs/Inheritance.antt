-- What a folder's list hands down, and which entries an object may have of its own. All of it is our own rule.
use Rattle.std.specs.Prelude.{◌≡◌, ℕ, ◌+◌, Bool, true, false, not, ◌||◌, List, [], ◌++◌, length, nat_lt, Option, None}
use Rattle.std.specs.Prelude.{Some, bit_and, bit_or, ◌==◌, if◌then◌else◌, IsTrue}
use Rattle.std.specs.List.{filter, filter_map, list_all, AllByRecursion}
use Rattle.std.specs.Option.{option_map}
use Rattle.room_acl.specs.declared.subject.Kind.{Kind}
use Rattle.room_acl.specs.declared.subject.Kind.TheVariants.{File, Folder}
use Rattle.room_acl.specs.declared.inheritance.ListFault.{ListFault}
use Rattle.room_acl.specs.declared.inheritance.ListFault.TheVariants.{Inval, AttrNotSupp}
use Rattle.room_acl.specs.Bits.{file_inherit_flag, directory_inherit_flag, inherit_only_flag, identifier_group_flag}
use Rattle.room_acl.specs.Bits.{inherited_flag, inheritance_flags, file_inherit, directory_inherit, no_propagate}
use Rattle.room_acl.specs.Bits.{inherit_only, is_inherited, follows}
use Rattle.room_acl.specs.Entries.{EntryModel, IsEntry}

-- the flags that an entry given may have: the mark, and what it hands on in its turn
abbrev pub mark_alone : ℕ
mark_alone = inherited_flag

-- 0x82
abbrev pub mark_for_folders : ℕ
mark_for_folders = inherited_flag + directory_inherit_flag

-- 0x83
abbrev pub mark_for_both : ℕ
mark_for_both = inherited_flag + directory_inherit_flag + file_inherit_flag

-- 0x89: to a folder it counts only for the files below
abbrev pub mark_for_files : ℕ
mark_for_files = inherited_flag + inherit_only_flag + file_inherit_flag

-- a row: the flags of the entry given to a file, and of the entry given to a folder
pub record TableRow : Type 0 where
  pub to_file : Option ℕ
  pub to_folder : Option ℕ

abbrev pub gives : Option ℕ → Option ℕ → TableRow
gives to_file to_folder = record { to_file = to_file; to_folder = to_folder }

-- the table, by FILE_INHERIT, DIRECTORY_INHERIT and NO_PROPAGATE_INHERIT of an entry
abbrev pub table_row : Bool → Bool → Bool → TableRow
table_row false false false = gives None None
table_row false false true = gives None None
table_row false true false = gives None (Some mark_for_folders)
table_row false true true = gives None (Some mark_alone)
table_row true false false = gives (Some mark_alone) (Some mark_for_files)
table_row true false true = gives (Some mark_alone) None
table_row true true false = gives (Some mark_alone) (Some mark_for_both)
table_row true true true = gives (Some mark_alone) (Some mark_alone)

abbrev pub row_of : ℕ → TableRow
row_of flags = table_row (file_inherit flags) (directory_inherit flags) (no_propagate flags)

abbrev pub in_column : Kind → TableRow → Option ℕ
in_column File row = row.to_file
in_column Folder row = row.to_folder

abbrev pub flags_handed_down : Kind → ℕ → Option ℕ
flags_handed_down kind flags = in_column kind (row_of flags)

-- and IDENTIFIER_GROUP where the source has it
abbrev pub flags_with_group : Kind → ℕ → Option ℕ
flags_with_group kind flags =
    option_map (λ given. bit_or given (bit_and flags identifier_group_flag)) (flags_handed_down kind flags)

-- type, mask and who stay
abbrev pub entry_handed_down : Kind → EntryModel → Option EntryModel
entry_handed_down kind entry = option_map (λ flags. record entry { flags = flags }) (flags_with_group kind entry.flags)

-- what a list hands down to a child, in its order
abbrev pub handed_down : List EntryModel → Kind → List EntryModel
handed_down entries kind = filter_map (entry_handed_down kind) entries

-- a list with these own entries: they stand first, and then, where
-- the object follows, what the list of its folder hands down
abbrev pub with_inherited : List EntryModel → ℕ → Kind → List EntryModel → List EntryModel
with_inherited own aclflag kind above = own ++ (if follows aclflag then handed_down above kind else [])

-- the own entries of a whole list: those without the mark
abbrev pub own_part : List EntryModel → List EntryModel
own_part entries = filter (λ entry. not (is_inherited entry.flags)) entries

-- the entries that are meant to travel further than to the children
abbrev pub travelling : List EntryModel → List EntryModel
travelling entries = filter (λ entry. not (no_propagate entry.flags)) entries

-- handing down twice is handing down once what is meant to travel
abbrev pub HandsDownTwice : Type 0
HandsDownTwice = (entries : List EntryModel) (kind : Kind)
    → handed_down (handed_down entries Folder) kind ≡ handed_down (travelling entries) kind

-- what is handed down has the mark
abbrev pub HandsDownMarked : Type 0
HandsDownMarked = (entries : List EntryModel) (kind : Kind)
    → IsTrue (list_all (λ entry. is_inherited entry.flags) (handed_down entries kind))

-- on a folder INHERIT_ONLY needs something to hand down, and on a file nothing is handed down
abbrev pub may_be_own : Kind → EntryModel → Bool
may_be_own Folder entry = not (inherit_only entry.flags) || (file_inherit entry.flags || directory_inherit entry.flags)
may_be_own File entry = bit_and entry.flags inheritance_flags == 0

-- what lawful entries hand down is lawful entries
abbrev pub HandsDownEntries : Type 0
HandsDownEntries = (entries : List EntryModel) (kind : Kind)
    → AllByRecursion IsEntry entries → AllByRecursion IsEntry (handed_down entries kind)

-- and where they arrive they may be own entries
abbrev pub HandsDownToOwn : Type 0
HandsDownToOwn = (entries : List EntryModel) (kind : Kind)
    → IsTrue (list_all (may_be_own kind) (handed_down entries kind))

-- own entries in one list
abbrev pub max_own_entries : ℕ
max_own_entries = 32

-- what is wrong with own entries, the count first
abbrev pub own_entries_fault : List EntryModel → Kind → Option ListFault
own_entries_fault entries kind =
    if nat_lt max_own_entries (length entries) then Some Inval
    else (if list_all (may_be_own kind) entries then None else Some AttrNotSupp)
