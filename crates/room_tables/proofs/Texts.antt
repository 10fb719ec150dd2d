-- The texts of the statements on the tables, and the queries of those that proofs name by their parts.
use Rattle.std.specs.Prelude.{ℕ, List, [], ◌∷◌, false, pos, negsuc, codes, Some, None}
use Rattle.room_tables.proofs.Common.{Null, Int, Binary, Key, ascending, Term, lit, col, op1, op2, Query, inner, end}
use Rattle.room_tables.proofs.Common.{Compare, Eq, Ge}
use Rattle.sqlite_sql.specs.declared.ops.UnaryOp.TheVariants.{Length}
use Rattle.sqlite_schema.specs.declared.command.Upsert.{Upsert}
use Rattle.sqlite_sql.specs.Group.{Aggregate, Grouping}
use Rattle.sqlite_sql.specs.declared.aggregate.AggregateOp.TheVariants.{CountRows}

abbrev pub equals : Term → Term → Term
equals a b = op2 (Compare Eq Binary) a b

-- the rows of one table that pass the terms
abbrev pub over_table : ℕ → List Term → List Term → List (Term × Key) → Query
over_table tree filter project order = record {
  from = inner tree end;
  filter = filter;
  group = None;
  project = project;
  distinct = false;
  collations = [];
  order = order;
  limit = lit (Int (negsuc 0));
  offset = lit (Int (pos 0));
}

abbrev pub by : Term → Term × Key
by t = (t, ascending Binary)

abbrev pub find_next_text : List ℕ
find_next_text = codes "SELECT next FROM room WHERE one = 1"

abbrev pub find_node_text : List ℕ
find_node_text = codes "SELECT id, parent, name, kind, owner, grp, aclflag FROM node WHERE id = ?1"

abbrev pub find_child_text : List ℕ
find_child_text = codes "SELECT id, parent, name, kind, owner, grp, aclflag FROM node WHERE parent = ?1 AND name = ?2"

abbrev pub list_children_text : List ℕ
list_children_text =
    codes "SELECT id, parent, name, kind, owner, grp, aclflag FROM node WHERE parent = ?1 ORDER BY name"

abbrev pub list_children_query : Query
list_children_query = over_table 1 (equals (col 1 2) (col 0 0) ∷ [])
    (col 1 0 ∷ col 1 2 ∷ col 1 3 ∷ col 1 4 ∷ col 1 5 ∷ col 1 6 ∷ col 1 7 ∷ []) (by (col 1 3) ∷ [])

abbrev pub list_names_text : List ℕ
list_names_text = codes "SELECT name, kind FROM node WHERE parent = ?1 ORDER BY name"

abbrev pub list_names_query : Query
list_names_query = over_table 1 (equals (col 1 2) (col 0 0) ∷ []) (col 1 3 ∷ col 1 4 ∷ []) (by (col 1 3) ∷ [])

abbrev pub list_entries_text : List ℕ
list_entries_text =
    codes "SELECT place, type, flag, mask, who FROM entry WHERE node = ?1 ORDER BY place, type, flag, mask, who"

abbrev pub list_entries_query : Query
list_entries_query = over_table 3 (equals (col 1 1) (col 0 0) ∷ []) (col 1 2 ∷ col 1 3 ∷ col 1 4 ∷ col 1 5
    ∷ col 1 6 ∷ []) (by (col 1 2) ∷ by (col 1 3) ∷ by (col 1 4) ∷ by (col 1 5) ∷ by (col 1 6) ∷ [])

-- ORDER BY names the place alone, so that the index of the primary key gives the order and no row is read for sorting
abbrev pub read_entries_text : List ℕ
read_entries_text = codes "SELECT place, type, flag, mask, who FROM entry WHERE node = ?1 ORDER BY place"

abbrev pub read_entries_query : Query
read_entries_query = over_table 3 (equals (col 1 1) (col 0 0) ∷ [])
    (col 1 2 ∷ col 1 3 ∷ col 1 4 ∷ col 1 5 ∷ col 1 6 ∷ []) (by (col 1 2) ∷ [])

abbrev pub find_doc_text : List ℕ
find_doc_text = codes "SELECT bytes FROM doc WHERE node = ?1"

-- how long the bytes are, which are not read
abbrev pub find_size_text : List ℕ
find_size_text = codes "SELECT length(bytes) FROM doc WHERE node = ?1"

abbrev pub find_size_query : Query
find_size_query = over_table 5 (equals (col 1 0) (col 0 0) ∷ []) (op1 Length (col 1 2) ∷ []) ([])

abbrev pub find_session_text : List ℕ
find_session_text = codes "SELECT owner, slots, open FROM session WHERE sid = ?1"

abbrev pub find_slot_text : List ℕ
find_slot_text = codes "SELECT seq, request, reply FROM kept WHERE sid = ?1 AND slot = ?2"

abbrev pub find_slot_query : ℕ → Query
find_slot_query tree =
    over_table tree (equals (col 1 1) (col 0 0) ∷ equals (col 1 2) (col 0 1) ∷ [])
    (col 1 3 ∷ col 1 4 ∷ col 1 5 ∷ []) ([])

abbrev pub find_seq_text : List ℕ
find_seq_text = codes "SELECT seq FROM kept WHERE sid = ?1 AND slot = ?2"

abbrev pub find_seq_query : ℕ → Query
find_seq_query tree =
    over_table tree (equals (col 1 1) (col 0 0) ∷ equals (col 1 2) (col 0 1) ∷ []) (col 1 3 ∷ []) ([])

abbrev pub drop_node_text : List ℕ
drop_node_text = codes "DELETE FROM node WHERE id = ?1"

abbrev pub drop_node_query : Query
drop_node_query = over_table 1 (equals (col 1 0) (col 0 0) ∷ []) (col 1 0 ∷ []) []

abbrev pub drop_entries_text : List ℕ
drop_entries_text = codes "DELETE FROM entry WHERE node = ?1"

abbrev pub drop_slots_text : List ℕ
drop_slots_text = codes "DELETE FROM kept WHERE sid = ?1"

abbrev pub drop_slots_query : ℕ → Query
drop_slots_query tree = over_table tree (equals (col 1 1) (col 0 0) ∷ []) (col 1 0 ∷ []) []

abbrev pub add_entry_text : List ℕ
add_entry_text = codes "INSERT INTO entry (node, place, type, flag, mask, who) VALUES (?1, ?2, ?3, ?4, ?5, ?6)"

abbrev pub add_two_text : List ℕ
add_two_text = codes
    "INSERT INTO entry (node, place, type, flag, mask, who) VALUES (?1, ?2, ?3, ?4, ?5, ?6), (?1, ?7, ?8, ?9, ?10, ?11)"

abbrev pub add_three_text : List ℕ
add_three_text = codes
    "INSERT INTO entry (node, place, type, flag, mask, who) VALUES (?1, ?2, ?3, ?4, ?5, ?6), (?1, ?7, ?8, ?9, ?10, ?11), (?1, ?12, ?13, ?14, ?15, ?16)"

abbrev pub add_four_text : List ℕ
add_four_text = codes
    "INSERT INTO entry (node, place, type, flag, mask, who) VALUES (?1, ?2, ?3, ?4, ?5, ?6), (?1, ?7, ?8, ?9, ?10, ?11), (?1, ?12, ?13, ?14, ?15, ?16), (?1, ?17, ?18, ?19, ?20, ?21)"

-- an entry is written over the one that is there, whose node and place stay
abbrev pub change_entry_text : List ℕ
change_entry_text =
    codes "UPDATE entry SET type = ?3, flag = ?4, mask = ?5, who = ?6 WHERE node = ?1 AND place = ?2"

-- the rowid of each row that passes, and its values with those that are set
abbrev pub change_entry_query : Query
change_entry_query = over_table 3 (equals (col 1 1) (col 0 0) ∷ equals (col 1 2) (col 0 1) ∷ [])
    (col 1 0 ∷ col 1 0 ∷ col 1 1 ∷ col 1 2 ∷ col 0 2 ∷ col 0 3 ∷ col 0 4 ∷ col 0 5 ∷ []) []

-- the entries at a place and behind it
abbrev pub drop_behind_text : List ℕ
drop_behind_text = codes "DELETE FROM entry WHERE node = ?1 AND place >= ?2"

abbrev pub drop_behind_query : Query
drop_behind_query = over_table 3
    (equals (col 1 1) (col 0 0) ∷ op2 (Compare Ge Binary) (col 1 2) (col 0 1) ∷ []) (col 1 0 ∷ []) []

-- The row of version 2 is written over the one that is there; it is added only where none was changed. An upsert would
-- cost more than what it comes to
abbrev pub change_next_text : List ℕ
change_next_text = codes "UPDATE room SET version = 2, next = ?1 WHERE one = 1"

-- the rowid of each row that passes, and its values with those that are set
abbrev pub change_next_query : Query
change_next_query = over_table 0 (equals (col 1 0) (lit (Int (pos 1))) ∷ [])
    (col 1 0 ∷ col 1 0 ∷ lit Null ∷ lit (Int (pos 2)) ∷ col 0 0 ∷ []) []

abbrev pub add_next_text : List ℕ
add_next_text = codes "INSERT INTO room (one, version, next) VALUES (1, 2, ?1)"

-- the row of a node is written over the one that is there, and is added only where none was changed
abbrev pub change_node_text : List ℕ
change_node_text = codes
    "UPDATE node SET parent = ?2, name = ?3, kind = ?4, owner = ?5, grp = ?6, aclflag = ?7 WHERE id = ?1"

abbrev pub change_node_query : Query
change_node_query = over_table 1 (equals (col 1 0) (col 0 0) ∷ [])
    (col 1 0 ∷ col 1 0 ∷ lit Null ∷ col 0 1 ∷ col 0 2 ∷ col 0 3 ∷ col 0 4 ∷ col 0 5 ∷ col 0 6 ∷ []) []

abbrev pub add_node_text : List ℕ
add_node_text =
    codes "INSERT INTO node (id, parent, name, kind, owner, grp, aclflag) VALUES (?1, ?2, ?3, ?4, ?5, ?6, ?7)"

-- a document is written over the one that is there, and is added only where none was changed
abbrev pub change_doc_text : List ℕ
change_doc_text = codes "UPDATE doc SET bytes = ?2 WHERE node = ?1"

abbrev pub change_doc_query : Query
change_doc_query = over_table 5 (equals (col 1 0) (col 0 0) ∷ []) (col 1 0 ∷ col 1 0 ∷ lit Null ∷ col 0 1 ∷ []) []

abbrev pub add_doc_text : List ℕ
add_doc_text = codes "INSERT INTO doc (node, bytes) VALUES (?1, ?2)"

abbrev pub put_session_text : List ℕ
put_session_text = codes
    "INSERT INTO session (sid, owner, slots, open) VALUES (?1, ?2, ?3, ?4) ON CONFLICT (sid) DO UPDATE SET owner = excluded.owner, slots = excluded.slots, open = excluded.open"

abbrev pub put_session_terms : List Term
put_session_terms = lit Null ∷ col 0 0 ∷ col 0 1 ∷ col 0 2 ∷ col 0 3 ∷ []

-- the update reads the parameters, then the rowid that is there in column 4, and the new row from column 5 on
abbrev pub put_session_query : Query
put_session_query = over_table 6 (equals (col 1 0) (col 0 4) ∷ [])
    (col 1 0 ∷ col 1 0 ∷ col 1 1 ∷ col 0 7 ∷ col 0 8 ∷ col 0 9 ∷ []) []

abbrev pub put_session_clause : Upsert
put_session_clause = record { target = Some (1 ∷ []); update = Some (record { lets = []; body = put_session_query }) }

-- what a slot keeps is written into the row that is there; a row is added only where none was changed
abbrev pub change_slot_text : List ℕ
change_slot_text = codes "UPDATE kept SET seq = ?3, request = ?4, reply = ?5 WHERE sid = ?1 AND slot = ?2"

-- the rowid of each row that passes, and its values with those that are set
abbrev pub change_slot_query : ℕ → Query
change_slot_query tree = over_table tree (equals (col 1 1) (col 0 0) ∷ equals (col 1 2) (col 0 1) ∷ [])
    (col 1 0 ∷ col 1 0 ∷ col 1 1 ∷ col 1 2 ∷ col 0 2 ∷ col 0 3 ∷ col 0 4 ∷ []) []

abbrev pub add_slot_text : List ℕ
add_slot_text = codes "INSERT INTO kept (sid, slot, seq, request, reply) VALUES (?1, ?2, ?3, ?4, ?5)"

abbrev pub add_slot_terms : List Term
add_slot_terms = lit Null ∷ col 0 0 ∷ col 0 1 ∷ col 0 2 ∷ col 0 3 ∷ col 0 4 ∷ []

-- ---- the upgrade of a room of version 1

-- a row keeps its rowid, so that the connection tells which one was copied
abbrev pub copy_row_text : List ℕ
copy_row_text = codes
    "INSERT INTO kept (rowid, sid, slot, seq, request, reply) SELECT rowid, sid, slot, seq, request, reply FROM slot LIMIT 1"

-- all of one row, of whichever
abbrev pub copy_row_query : Query
copy_row_query = record (over_table 8 [] (col 1 0 ∷ col 1 1 ∷ col 1 2 ∷ col 1 3 ∷ col 1 4 ∷ col 1 5 ∷ []) [])
    { collations = Binary ∷ Binary ∷ Binary ∷ Binary ∷ Binary ∷ Binary ∷ []; limit = lit (Int (pos 1)) }

abbrev pub take_row_text : List ℕ
take_row_text = codes "DELETE FROM slot WHERE rowid = ?1"

-- ---- a count

abbrev pub count_children_text : List ℕ
count_children_text = codes "SELECT count(*) FROM node WHERE parent = ?1"

abbrev pub all_rows : Aggregate
all_rows = record { op = CountRows; distinct = false; collation = Binary; argument = lit Null }

-- one group of all rows that pass
abbrev pub counted : Grouping
counted = record { keys = []; collations = []; aggregates = all_rows ∷ []; having = [] }

abbrev pub count_children_query : Query
count_children_query =
    record (over_table 1 (equals (col 1 2) (col 0 0) ∷ []) (col 1 0 ∷ []) []) { group = Some counted }
