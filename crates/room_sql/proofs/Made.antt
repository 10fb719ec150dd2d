-- What the statements of a change make of a database.
use Rattle.room_sql.proofs.Common.{Global, Vec, ◌≡◌, ℕ, suc, true, pos, IsTrue, List, [], ◌∷◌, Ok, inl, inr, refl}
use Rattle.room_sql.proofs.Common.{arith, ◌∙◌, ap, filter, Int, Text, Row, Ghosts, State, ExecutesInside, Held, state}
use Rattle.room_sql.proofs.Common.{EntryModel, PutNode, PutEntries, PutDoc, PutSession, PutSlot, DropSlots}
use Rattle.room_sql.proofs.Common.{change_node_text, add_node_text, change_doc_text, add_doc_text, put_session_text}
use Rattle.room_sql.proofs.Common.{change_slot_text, add_slot_text, drop_slots_text, change_next_text, add_next_text}
use Rattle.room_sql.proofs.Common.{has, name_of_text, entries_shown, IsRoomDatabase, Lists, flag_of, drops_slots}
use Rattle.room_sql.proofs.Common.{lists_steps, steps_change_doc, steps_add_doc, steps_new_doc, doc_change_leaves_nodes}
use Rattle.room_sql.proofs.Common.{doc_add_leaves_nodes, doc_new_leaves_nodes, SetsNext, change_sets_next}
use Rattle.room_sql.proofs.Common.{add_sets_next, row_of_node, params_of_node, node_changed, node_added}
use Rattle.room_sql.proofs.Common.{steps_change_node, steps_add_node, steps_change_or_add, left_then_added, RunsOr}
use Rattle.room_sql.proofs.Common.{MakesChange}
use Rattle.room_records.specs.declared.node.Node.{Node}
use Rattle.room_records.specs.declared.session.SessionRow.{SessionRow}
use Rattle.room_records.specs.declared.session.SlotRow.{SlotRow}
use Rattle.room_tables.proofs.Each.{above}
use Rattle.room_tables.proofs.Puts.{doc_params, puts_session}
use Rattle.room_tables.proofs.Sessions.{steps_session}
use Rattle.room_tables.proofs.Slots.{row_values, steps_change_slot, steps_add_slot, steps_drop_slots}
use Rattle.room_tables.proofs.Slots.{change_leaves_nodes, add_leaves_nodes}
use Rattle.room_sql.proofs.NodeRows.{one_more}

-- the rows of an object's entries, in order, of those of the table
abbrev listed : ℕ → List Row → List Row
listed q rows = entries_shown (filter (has 1 q) rows)

pub new_node_made : (node : Node) (name : List ℕ) (a b : State) (count : ℕ) → name_of_text name ≡ node.name
    → IsRoomDatabase a.now → ExecutesInside 0 add_node_text (params_of_node node name) a b (Ok count)
    → MakesChange (PutNode node) a b
new_node_made node name a b count named room ran = record {
  steps = steps_add_node a b node name count room named ran;
  nodes = one_more node.id node.parent (row_of_node node name) _ _ refl
      (node_added a b node name count (λ r. has 0 node.id r ≡ true) room ran).put;
  entries = λ q. ap (listed q)
      ((node_added a b node name count (λ r. has 0 node.id r ≡ true) room ran).put.others.entry (omega arith));
}

pub entries_made : (id : ℕ) (entries : Vec EntryModel Global) (es : List EntryModel) (a b : State) → es ≡ entries.items
    → (IsTrue b.is_open → IsTrue a.is_open) → Lists a.now id es b.now → MakesChange (PutEntries id entries) a b
entries_made id entries es a b is was_open it = record {
  steps = lists_steps a b id entries es is was_open it;
  nodes = it.nodes;
  entries = it.others;
}

pub new_doc_made : (id : ℕ) (bytes : Vec ℕ Global) (a b : State) (count : ℕ) → IsRoomDatabase a.now
    → ExecutesInside 0 add_doc_text (doc_params id bytes.items) a b (Ok count) → MakesChange (PutDoc id bytes) a b
new_doc_made id bytes a b count room ran = record {
  steps = steps_new_doc a b id bytes count room ran;
  nodes = doc_new_leaves_nodes a b id bytes.items count room ran;
  entries = tt;
}

-- the values of a session's row
abbrev pub session_values : SessionRow → Row
session_values row = Text row.sid ∷ Text row.owner ∷ Int (pos row.slots) ∷ Int (pos (flag_of row.is_open)) ∷ []

pub session_made : (row : SessionRow) (a b : State) (count : ℕ) → IsRoomDatabase a.now
    → ExecutesInside 0 put_session_text (session_values row) a b (Ok count) → MakesChange (PutSession row) a b
session_made row a b count room ran = record {
  steps = steps_session a b row count room ran;
  nodes = (puts_session room.layout a b row.sid row.owner row.slots (flag_of row.is_open) count room.schema
      room.keyed.1.1.1.1.0 ran.0).put.others.node (omega arith);
  entries = tt;
}

pub slots_dropped : (sid : List ℕ) (a b : State) (count : ℕ) → IsRoomDatabase a.now
    → ExecutesInside 0 drop_slots_text (Text sid ∷ []) a b (Ok count) → MakesChange (DropSlots sid) a b
slots_dropped sid a b count room ran = record {
  steps = steps_drop_slots a b sid count room ran;
  nodes = (drops_slots room.layout a b sid count room.schema room.keyed.1.1.1.1.1.0 ran.0).others.node
      (omega (arith, above room.layout));
  entries = tt;
}

-- ---- an UPDATE, and an INSERT where that changed none

module _ {S : Type 0} (store : Ghosts S) where
  pub node_made : (node : Node) (name : List ℕ) (a b : Held S) → name_of_text name ≡ node.name
      → IsRoomDatabase (state store a).now
      → RunsOr store change_node_text add_node_text (params_of_node node name) a b
      → MakesChange (PutNode node) (state store a) (state store b)
  node_made node name a b named room (inl one) = record {
    steps = steps_change_node _ _ node name one.0 room named one.1;
    nodes = one_more node.id node.parent (row_of_node node name) _ _ refl
        (node_changed _ _ node name (suc one.0) room one.1).put;
    entries = λ q. ap (listed q)
        ((node_changed _ _ node name (suc one.0) room one.1).put.others.entry (omega arith));
  }
  node_made node name a b named room (inr on) =
      let mid = state store on.0 in
      let it = left_then_added _ mid _ node name on.1 (λ r. has 0 node.id r ≡ true) room on.2 on.3 in
      record {
        steps = steps_change_or_add _ mid _ node name on.1 room named on.2 on.3;
        nodes = λ none. rw it.0 at (one_more node.id node.parent (row_of_node node name) mid.now.trees _ refl
            it.1.put (rw it.0 none));
        entries = λ q. ap (listed q) (it.1.put.others.entry (omega arith)
            ∙ (node_changed _ mid node name 0 room on.2).leaves.others.entry (omega arith));
      }

  pub doc_made : (id : ℕ) (bytes : Vec ℕ Global) (a b : Held S) → IsRoomDatabase (state store a).now
      → RunsOr store change_doc_text add_doc_text (doc_params id bytes.items) a b
      → MakesChange (PutDoc id bytes) (state store a) (state store b)
  doc_made id bytes a b room (inl one) = record {
    steps = steps_change_doc _ _ id bytes one.0 room one.1;
    nodes = doc_change_leaves_nodes _ _ id bytes.items one.0 room one.1;
    entries = tt;
  }
  doc_made id bytes a b room (inr on) = record {
    steps = steps_add_doc _ (state store on.0) _ id bytes on.1 room on.2 on.3;
    nodes = doc_add_leaves_nodes _ (state store on.0) _ id bytes.items on.1 room on.2 on.3;
    entries = tt;
  }

  pub slot_made : (row : SlotRow) (a b : Held S) → IsRoomDatabase (state store a).now
      → RunsOr store change_slot_text add_slot_text (row_values row) a b
      → MakesChange (PutSlot row) (state store a) (state store b)
  slot_made row a b room (inl one) = record {
    steps = steps_change_slot _ _ row one.0 room one.1;
    nodes = change_leaves_nodes _ _ row one.0 room one.1;
    entries = tt;
  }
  slot_made row a b room (inr on) = record {
    steps = steps_add_slot _ (state store on.0) _ row on.1 room on.2 on.3;
    nodes = add_leaves_nodes _ (state store on.0) _ row on.1 room on.2 on.3;
    entries = tt;
  }

  pub next_set : (n : ℕ) (a b : Held S) → IsRoomDatabase (state store a).now
      → RunsOr store change_next_text add_next_text (Int (pos n) ∷ []) a b
      → SetsNext (state store a) (state store b) n
  next_set n a b room (inl one) = change_sets_next _ _ n one.0 room one.1
  next_set n a b room (inr on) = add_sets_next _ (state store on.0) _ n on.1 room on.2 on.3
