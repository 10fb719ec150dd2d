-- The rows of the tables, as records. A value of another type
-- than its column's has a meaning too, so that each row has one.
use Rattle.std.specs.Prelude.{◌≡◌, ℕ, pos, Bool, true, ◌&&◌, ◌==◌, List, [], ◌∷◌, map, filter, Option, Some, None}
use Rattle.std.specs.Prelude.{◌-◌, option_map, unwrap_or, if◌then◌else◌, codes}
use Rattle.std.specs.List.{find}
use Rattle.std.specs.Option.{option_or}
use Rattle.std.specs.Ordering.{is_eq}
use Rattle.sqlite_value.specs.declared.keys.Collation.TheVariants.{Binary}
use Rattle.sqlite_value.specs.declared.keys.Key.{Key}
use Rattle.sqlite_value.specs.declared.value.Value.{Value}
use Rattle.sqlite_value.specs.declared.value.Value.TheVariants.{Int, Text, Blob}
use Rattle.sqlite_value.specs.Keys.{ascending}
use Rattle.sqlite_value.specs.Order.{Row, column, value_cmp}
use Rattle.sqlite_trees.specs.Tree.{Trees, rowid}
use Rattle.sqlite_trees.specs.Objects.{catalog_tree}
use Rattle.sqlite_catalog.specs.Listing.{is_table_row}
use Rattle.sqlite_sql.specs.Query.{key_cmp}
use Rattle.sqlite_sql.specs.Text.{length_of}
use Rattle.sqlite_schema.specs.Rules.{equal}
use Rattle.sqlite_keyed.specs.Lists.{sort_by}
use Rattle.room_acl.specs.declared.subject.Kind.{Kind}
use Rattle.room_acl.specs.declared.subject.Kind.TheVariants.{File, Folder}
use Rattle.room_acl.specs.Entries.{EntryModel}
use Rattle.room_acl.specs.Entries.{type_of}
pub use Rattle.room_acl.specs.Entries.{who_of}
use Rattle.room_slots.specs.KeptModel.{KeptModel}
use Rattle.room_records.specs.declared.node.Node.{Node}
use Rattle.room_records.specs.declared.session.SessionRow.{SessionRow}
use Rattle.room_records.specs.Records.{Records}

-- ---- values

-- the number in a value, and 0 in one that has none
abbrev pub number_in : Value → ℕ
number_in (Int (pos n)) = n
number_in _ = 0

abbrev pub text_in : Value → List ℕ
text_in (Text t) = t
text_in _ = []

abbrev pub blob_in : Value → List ℕ
blob_in (Blob b) = b
blob_in _ = []

-- NULL is a reply that is not kept
abbrev pub reply_in : Value → Option (List ℕ)
reply_in (Blob b) = Some b
reply_in _ = None

-- NULL is no parent
abbrev pub parent_in : Value → Option ℕ
parent_in (Int (pos n)) = Some n
parent_in _ = None

-- the empty text is no name
abbrev pub name_of_text : List ℕ → Option (List ℕ)
name_of_text [] = None
name_of_text (b ∷ bytes) = Some (b ∷ bytes)

abbrev pub name_stored : Value → Option (List ℕ)
name_stored v = name_of_text (text_in v)

abbrev pub kind_stored : ℕ → Kind
kind_stored n = if n == 1 then Folder else File

-- the one element of a list that has one
abbrev pub only : {X : Type 0} → List X → Option X
only [] = None
only (x ∷ []) = Some x
only (x ∷ y ∷ more) = None

-- the column has this number, as SQL's = says
abbrev pub has : ℕ → ℕ → Row → Bool
has place number row = equal Binary (column row place) (Int (pos number))

abbrev pub has_text : ℕ → List ℕ → Row → Bool
has_text place text row = equal Binary (column row place) (Text text)

-- the value at this place alone
abbrev pub one_column : ℕ → Row → Row
one_column place row = column row place ∷ []

-- A row of a table is its rowid and then its columns, so column i has place i + 1. An INTEGER PRIMARY KEY is the rowid,
-- and its own column holds NULL.

-- ---- node: tree 1, whose rowid is the number

abbrev pub shown_node : Row → Row
shown_node row = column row 0 ∷ column row 2 ∷ column row 3
    ∷ column row 4 ∷ column row 5 ∷ column row 6 ∷ column row 7 ∷ []

abbrev pub node_of : Row → Node
node_of row = record {
  id = number_in (column row 0);
  parent = parent_in (column row 1);
  name = name_stored (column row 2);
  kind = kind_stored (number_in (column row 3));
  owner = text_in (column row 4);
  group = text_in (column row 5);
  aclflag = number_in (column row 6);
}

abbrev pub node_rows : Trees → ℕ → List Row
node_rows db id = map shown_node (filter (has 0 id) (db 1))

-- the row is in this folder, and has this name
abbrev pub is_child_named : ℕ → List ℕ → Row → Bool
is_child_named parent name row = has 2 parent row && has_text 3 name row

abbrev pub named_rows : Trees → ℕ → List ℕ → List Row
named_rows db parent name = map shown_node (filter (is_child_named parent name) (db 1))

abbrev pub child_rows : Trees → ℕ → List Row
child_rows db parent = map shown_node (filter (has 2 parent) (db 1))

abbrev pub name_and_kind : Row → Row
name_and_kind shown = column shown 2 ∷ column shown 3 ∷ []

-- what such a row lists: none where it has no name
abbrev pub listed_of : Row → Option (List ℕ × Kind)
listed_of row =
    option_map (λ (name : List ℕ). (name, kind_stored (number_in (column row 1)))) (name_stored (column row 0))

abbrev pub nodes_in : List Row → ℕ → Option Node
nodes_in rows id = option_map node_of (only (map shown_node (filter (has 0 id) rows)))

-- ---- entry: tree 3

abbrev pub shown_entry : Row → Row
shown_entry row = column row 2 ∷ column row 3 ∷ column row 4 ∷ column row 5 ∷ column row 6 ∷ []

abbrev pub entry_of : Row → EntryModel
entry_of row = record {
  allow = number_in (column row 1) == type_of true;
  flags = number_in (column row 2);
  mask = number_in (column row 3);
  who = who_of (number_in (column row 2)) (text_in (column row 4));
}

-- what ORDER BY goes by: each column that is shown, so that it leaves no choice
abbrev pub entry_keys : List Key
entry_keys = ascending Binary ∷ ascending Binary ∷ ascending Binary ∷ ascending Binary ∷ ascending Binary ∷ []

abbrev pub entries_shown : List Row → List Row
entries_shown rows = sort_by (key_cmp 0 entry_keys) (map shown_entry rows)

abbrev pub entry_rows : Trees → ℕ → List Row
entry_rows db id = entries_shown (filter (has 1 id) (db 3))

abbrev pub entries_in : List Row → ℕ → List EntryModel
entries_in rows id = map entry_of (entries_shown (filter (has 1 id) rows))

-- ---- doc: tree 5, whose rowid is the node's number

abbrev pub doc_rows : Trees → ℕ → List Row
doc_rows db id = map (one_column 2) (filter (has 0 id) (db 5))

abbrev pub documents_in : List Row → ℕ → Option (List ℕ)
documents_in rows id = option_map (λ row. blob_in (column row 0)) (only (map (one_column 2) (filter (has 0 id) rows)))

-- how long the bytes are, as SQL's length() tells
abbrev pub shown_size : Row → Row
shown_size row = length_of (column row 2) ∷ []

abbrev pub size_rows : Trees → ℕ → List Row
size_rows db id = map shown_size (filter (has 0 id) (db 5))

-- 0 where there is no row
abbrev pub size_in : List Row → ℕ
size_in rows = unwrap_or (option_map (λ row. number_in (column row 0)) (only rows)) 0

-- ---- session: tree 6

abbrev pub shown_session : Row → Row
shown_session row = column row 2 ∷ column row 3 ∷ column row 4 ∷ []

abbrev pub session_stored : List ℕ → Row → SessionRow
session_stored sid row = record {
  sid = sid;
  owner = text_in (column row 0);
  slots = number_in (column row 1);
  is_open = number_in (column row 2) == 1;
}

abbrev pub session_rows : Trees → List ℕ → List Row
session_rows db sid = map shown_session (filter (has_text 1 sid) (db 6))

abbrev pub sessions_in : List Row → List ℕ → Option SessionRow
sessions_in rows sid = option_map (session_stored sid) (only (map shown_session (filter (has_text 1 sid) rows)))

-- ---- slot: its tree is found by its name in the list of objects, which is one of the trees

-- the tree that the row of this name tells, whose rowid is one above it
abbrev pub tree_named : Trees → List ℕ → Option ℕ
tree_named db name = option_map (λ row. number_in (rowid row) - 1)
    (find (λ row. is_eq (value_cmp (column row 2) (Text name))) (filter is_table_row (db catalog_tree)))

-- the rows of what slots keep: in `kept`, and where there is none in `slot`
abbrev pub kept_rows : Trees → List Row
kept_rows db = unwrap_or (option_map db (option_or (tree_named db (codes "kept")) (tree_named db (codes "slot")))) []

abbrev pub shown_slot : Row → Row
shown_slot row = column row 3 ∷ column row 4 ∷ column row 5 ∷ []

abbrev pub kept_of : Row → KeptModel
kept_of row =
    record { seq = number_in (column row 0); request = blob_in (column row 1); reply = reply_in (column row 2) }

abbrev pub is_slot : List ℕ → ℕ → Row → Bool
is_slot sid slot row = has_text 1 sid row && has 2 slot row

abbrev pub slot_rows : Trees → List ℕ → ℕ → List Row
slot_rows db sid slot = map shown_slot (filter (is_slot sid slot) (kept_rows db))

abbrev pub seq_stored : Row → ℕ
seq_stored row = number_in (column row 0)

abbrev pub seq_rows : Trees → List ℕ → ℕ → List Row
seq_rows db sid slot = map (one_column 3) (filter (is_slot sid slot) (kept_rows db))

abbrev pub slots_in : List Row → List ℕ → ℕ → Option KeptModel
slots_in rows sid slot = option_map kept_of (only (map shown_slot (filter (is_slot sid slot) rows)))

-- ---- room: tree 0, with one row

abbrev pub next_rows : Trees → List Row
next_rows db = map (one_column 3) (filter (has 0 1) (db 0))

abbrev pub next_in : List Row → ℕ
next_in rows =
    unwrap_or (option_map (λ row. number_in (column row 0)) (only (map (one_column 3) (filter (has 0 1) rows)))) 0

abbrev pub versions_in : List Row → List Row
versions_in rows = map (one_column 2) (filter (has 0 1) rows)

abbrev pub version_rows : Trees → List Row
version_rows db = versions_in (db 0)

-- there is one row, and its version is this
abbrev pub IsVersion : ℕ → List Row → Type 0
IsVersion n rows = option_map (λ row. column row 0) (only rows) ≡ Some (Int (pos n))

-- ---- all of them

abbrev pub records_of : Trees → Records
records_of db = record {
  objects = record {
    node = nodes_in (db 1);
    entries = entries_in (db 3);
    document = documents_in (db 5);
    next = next_in (db 0);
  };
  session = sessions_in (db 6);
  slot = slots_in (kept_rows db);
}

-- the five columns of a row of entries as it is shown
abbrev pub five_columns : Row → Row
five_columns row = column row 0 ∷ column row 1 ∷ column row 2 ∷ column row 3 ∷ column row 4 ∷ []

-- a row of entries as it is shown: its place, type, flags, mask and text
pub record IsEntryRow (row : Row) : Type 0 where
  pub place : ℕ
  pub kind : ℕ
  pub flags : ℕ
  pub mask : ℕ
  pub who : List ℕ
  pub is : row ≡ Int (pos place) ∷ Int (pos kind) ∷ Int (pos flags) ∷ Int (pos mask) ∷ Text who ∷ []

-- the same of its columns alone
pub record HasEntryColumns (row : Row) : Type 0 where
  pub place : ℕ
  pub has_place : column row 0 ≡ Int (pos place)
  pub kind : ℕ
  pub has_kind : column row 1 ≡ Int (pos kind)
  pub flags : ℕ
  pub has_flags : column row 2 ≡ Int (pos flags)
  pub mask : ℕ
  pub has_mask : column row 3 ≡ Int (pos mask)
  pub who : List ℕ
  pub has_who : column row 4 ≡ Text who
