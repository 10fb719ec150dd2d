-- The queries' texts are SELECTs, whatever the schema.
use Rattle.room_tables.proofs.Common.{◌≡◌, true, refl, everything, first}
use Rattle.room_tables.specs.Versions.{find_version_text}
use Rattle.room_tables.proofs.Texts as T
use Rattle.room_tables.proofs.Queries.{is_query_text}

pub find_node_selects : is_query_text (first T.find_node_text) ≡ true
unfolding everything
find_node_selects = refl

pub find_child_selects : is_query_text (first T.find_child_text) ≡ true
unfolding everything
find_child_selects = refl

pub list_children_selects : is_query_text (first T.list_children_text) ≡ true
unfolding everything
list_children_selects = refl

pub list_names_selects : is_query_text (first T.list_names_text) ≡ true
unfolding everything
list_names_selects = refl

pub count_children_selects : is_query_text (first T.count_children_text) ≡ true
unfolding everything
count_children_selects = refl

pub list_entries_selects : is_query_text (first T.list_entries_text) ≡ true
unfolding everything
list_entries_selects = refl

pub read_entries_selects : is_query_text (first T.read_entries_text) ≡ true
unfolding everything
read_entries_selects = refl

pub find_doc_selects : is_query_text (first T.find_doc_text) ≡ true
unfolding everything
find_doc_selects = refl

pub find_size_selects : is_query_text (first T.find_size_text) ≡ true
unfolding everything
find_size_selects = refl

pub find_session_selects : is_query_text (first T.find_session_text) ≡ true
unfolding everything
find_session_selects = refl

pub find_slot_selects : is_query_text (first T.find_slot_text) ≡ true
unfolding everything
find_slot_selects = refl

pub find_seq_selects : is_query_text (first T.find_seq_text) ≡ true
unfolding everything
find_seq_selects = refl

pub find_next_selects : is_query_text (first T.find_next_text) ≡ true
unfolding everything
find_next_selects = refl

pub find_version_selects : is_query_text (first find_version_text) ≡ true
unfolding everything
find_version_selects = refl
