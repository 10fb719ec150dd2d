-- The names and kinds of a folder's nodes, as the rows show them.
use Rattle.room_tables.proofs.Common.{◌≡◌, ℕ, pos, List, [], ◌∷◌, map, refl, sym, ap, ◌∙◌, option_map, filter_map}
use Rattle.room_tables.proofs.Common.{cons_option, IsPermutation-map, Int, Row, column, ascending-map, map-map, State}
use Rattle.room_tables.proofs.Common.{Shown, Database, room_schema, IsRoomDatabase, has, shown_node, name_and_kind}
use Rattle.room_tables.proofs.Common.{listed_of, node_of, records_of, only, seq_stored, one_column, kept_of, shown_slot}
use Rattle.room_tables.proofs.Common.{ByName, AreNameRows}
use Rattle.room_slots.specs.Slots.{kept_seq}
use Rattle.room_records.specs.Shelf.{AreNames, listed}
use Rattle.room_tables.proofs.Texts.{list_names_text, list_names_query}
use Rattle.room_tables.proofs.Children.{are_children}
use Rattle.room_tables.proofs.Meaning.{list_names_means}
use Rattle.room_tables.proofs.Queries.{and_true, picked, arranged}

-- ---- the answer

pub asks_names : (old new : State) (parent : ℕ) (rows : List Row) → IsRoomDatabase old.now
    → Shown list_names_text (Int (pos parent) ∷ []) old new rows → AreNameRows old.now.trees parent rows
asks_names old new parent rows room h =
    let params = Int (pos parent) ∷ [] in
    let k = picked (room_schema room.layout) old new list_names_text params 1 _ _ list_names_query.order
    _ rows room.schema (list_names_means room.layout) refl h in
    let it = arranged list_names_query params (old.now.trees 1) rows (has 2 parent) (λ r. column r 3 ∷ [])
    (λ r. name_and_kind (shown_node r)) (λ r. and_true (has 2 parent r)) (λ r. refl) k in (
      map shown_node it.0,
      IsPermutation-map shown_node _ _ it.1,
      ascending-map ByName shown_node it.0 it.2,
      it.3 ∙ sym (map-map name_and_kind shown_node it.0),
    )

-- ---- what they list

same_listed : (nodes : List Row)
    → filter_map listed_of (map name_and_kind nodes) ≡ filter_map listed (map node_of nodes)
same_listed [] = refl
same_listed (r ∷ nodes) = ap (cons_option (listed (node_of r))) (same_listed nodes)

pub are_names : (db : Database) (p : ℕ) (rows : List Row) → IsRoomDatabase db
    → AreNameRows db.trees p rows
    → AreNames (records_of db.trees).objects p (filter_map listed_of rows)
are_names db p rows room h = (
  map node_of h.0,
  are_children db p h.0 room h.1 h.2,
  ap (filter_map listed_of) h.3 ∙ same_listed h.0,
)

-- ---- the number of a slot

pub same_seq : (rows : List Row)
    → option_map seq_stored (only (map (one_column 3) rows))
    ≡ kept_seq (option_map kept_of (only (map shown_slot rows)))
same_seq [] = refl
same_seq (r ∷ []) = refl
same_seq (r ∷ other ∷ rows) = refl
