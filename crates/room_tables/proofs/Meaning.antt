-- What statements mean under the schema of a room, by running the resolver on their texts: those whose command a
-- proof names, or that goes by the layout. Of the others `refl` finds it where they are used. What is said of the first
-- five tables needs no layout, but for the upsert, which counts the tables.
use Rattle.room_tables.proofs.Common.{◌≡◌, List, ℕ, [], ◌∷◌, true, false, codes, refl, everything, Query, Values, From}
use Rattle.room_tables.proofs.Common.{Command, InsertOr, Insert, Select, Update, Delete, understood, reads_listing}
use Rattle.room_tables.proofs.Common.{IsPlain, command_of, Schema, same_name, Layout, Fresh, Upgraded, room_schema}
use Rattle.room_tables.proofs.Common.{first_schema, slots_tree, slots_place, has_room, has_first_room}
use Rattle.sqlite_schema.specs.declared.command.Conflict.TheVariants.{Abort}
use Rattle.room_tables.proofs.Texts as T

-- under the schema the text is this command, and nothing else
abbrev pub Means : Schema → List ℕ → Command → Type 0
Means schema text command = (command_of (understood schema text) ≡ command) × IsPlain (understood schema text)

-- and this query, whose columns have these names, and which does not read the list of objects
abbrev pub IsQuery : Schema → List ℕ → Query → List (List ℕ) → Type 0
IsQuery schema text query names = Means schema text (Select (record { lets = []; body = query }) names)
    × (reads_listing schema text ≡ false)

abbrev node_columns : List (List ℕ)
node_columns = codes "id" ∷ codes "parent" ∷ codes "name" ∷ codes "kind" ∷ codes "owner" ∷ codes "grp" ∷ codes
    "aclflag" ∷ []

abbrev entry_columns : List (List ℕ)
entry_columns = codes "place" ∷ codes "type" ∷ codes "flag" ∷ codes "mask" ∷ codes "who" ∷ []

pub list_children_means : (l : Layout) → IsQuery (room_schema l) T.list_children_text T.list_children_query node_columns
unfolding understood everything
list_children_means l = ((refl, (refl, refl)), refl)

pub list_names_means : (l : Layout)
    → IsQuery (room_schema l) T.list_names_text T.list_names_query (codes "name" ∷ codes "kind" ∷ [])
unfolding understood everything
list_names_means l = ((refl, (refl, refl)), refl)

pub list_entries_means : (l : Layout) → IsQuery (room_schema l) T.list_entries_text T.list_entries_query entry_columns
unfolding understood everything
list_entries_means l = ((refl, (refl, refl)), refl)

pub read_entries_means : (l : Layout) → IsQuery (room_schema l) T.read_entries_text T.read_entries_query entry_columns
unfolding understood everything
read_entries_means l = ((refl, (refl, refl)), refl)

pub find_size_means : (l : Layout)
    → IsQuery (room_schema l) T.find_size_text T.find_size_query (codes "length(bytes)" ∷ [])
unfolding understood everything
find_size_means l = ((refl, (refl, refl)), refl)

pub find_slot_means : (l : Layout)
    → IsQuery (room_schema l) T.find_slot_text (T.find_slot_query (slots_tree l))
    (codes "seq" ∷ codes "request" ∷ codes "reply" ∷ [])
unfolding understood everything
find_slot_means Fresh = ((refl, (refl, refl)), refl)
find_slot_means Upgraded = ((refl, (refl, refl)), refl)

pub find_seq_means : (l : Layout)
    → IsQuery (room_schema l) T.find_seq_text (T.find_seq_query (slots_tree l)) (codes "seq" ∷ [])
unfolding understood everything
find_seq_means Fresh = ((refl, (refl, refl)), refl)
find_seq_means Upgraded = ((refl, (refl, refl)), refl)

pub drop_node_means : (l : Layout)
    → Means (room_schema l) T.drop_node_text (Delete 1 (record { lets = []; body = T.drop_node_query }))
unfolding understood everything
drop_node_means l = (refl, (refl, refl))

pub drop_slots_means : (l : Layout)
    → Means (room_schema l) T.drop_slots_text (Delete (slots_place l) (record {
      lets = [];
      body = T.drop_slots_query
          (slots_tree l);
    }))
unfolding understood everything
drop_slots_means Fresh = (refl, (refl, refl))
drop_slots_means Upgraded = (refl, (refl, refl))

pub change_next_means : (l : Layout)
    → Means (room_schema l) T.change_next_text (Update 0 (record { lets = []; body = T.change_next_query }))
unfolding understood everything
change_next_means l = (refl, (refl, refl))

pub change_node_means : (l : Layout)
    → Means (room_schema l) T.change_node_text (Update 1 (record { lets = []; body = T.change_node_query }))
unfolding understood everything
change_node_means l = (refl, (refl, refl))

pub change_entry_means : (l : Layout)
    → Means (room_schema l) T.change_entry_text (Update 2 (record { lets = []; body = T.change_entry_query }))
unfolding understood everything
change_entry_means l = (refl, (refl, refl))

pub drop_behind_means : (l : Layout)
    → Means (room_schema l) T.drop_behind_text (Delete 2 (record { lets = []; body = T.drop_behind_query }))
unfolding understood everything
drop_behind_means l = (refl, (refl, refl))

pub change_doc_means : (l : Layout)
    → Means (room_schema l) T.change_doc_text (Update 3 (record { lets = []; body = T.change_doc_query }))
unfolding understood everything
change_doc_means l = (refl, (refl, refl))

pub put_session_means : (l : Layout)
    → Means (room_schema l) T.put_session_text (InsertOr 4 Abort (Values T.put_session_terms 5)
    (T.put_session_clause ∷ []))
unfolding understood everything
put_session_means Fresh = (refl, (refl, refl))
put_session_means Upgraded = (refl, (refl, refl))

pub change_slot_means : (l : Layout)
    → Means (room_schema l) T.change_slot_text (Update (slots_place l)
    (record { lets = []; body = T.change_slot_query (slots_tree l) }))
unfolding understood everything
change_slot_means Fresh = (refl, (refl, refl))
change_slot_means Upgraded = (refl, (refl, refl))

pub add_slot_means : (l : Layout)
    → Means (room_schema l) T.add_slot_text (Insert (slots_place l) (Values T.add_slot_terms 6))
unfolding understood everything
add_slot_means Fresh = (refl, (refl, refl))
add_slot_means Upgraded = (refl, (refl, refl))

pub count_children_means : (l : Layout)
    → IsQuery (room_schema l) T.count_children_text T.count_children_query (codes "count(*)" ∷ [])
unfolding understood everything
count_children_means l = ((refl, (refl, refl)), refl)

pub copy_row_means : Means (room_schema Upgraded) T.copy_row_text (Insert 6 (From
    (record { lets = []; body = T.copy_row_query })))
unfolding understood everything
copy_row_means = (refl, (refl, refl))

pub room_has_room : (l : Layout) → has_room (room_schema l) ≡ true
unfolding everything same_name
room_has_room Fresh = refl
room_has_room Upgraded = refl

pub first_has_first : has_first_room first_schema ≡ true
unfolding everything same_name
first_has_first = refl

-- so that a room of version 1 is none of version 2
pub first_has_no_kept : has_room first_schema ≡ false
unfolding everything same_name
first_has_no_kept = refl
