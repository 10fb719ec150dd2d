-- What three or more files of these proofs take of a module elsewhere: all take it from here.
pub use Rattle.std.proofs.Common.{Bool, Bor, Err, IfErr, IfOk, IsErr, IsPermutation, IsTrue, List, None, Ok, OnErr}
pub use Rattle.std.proofs.Common.{OnOk, Option, Result, Some, Vec, [], ap, append-nil, ap₂, arith, cond, drop, eq-eqb}
pub use Rattle.std.proofs.Common.{false, filter, get_or, if◌then◌else◌, inl, inr, is_eq, length, length-append, map}
pub use Rattle.std.proofs.Common.{nat_lt, not, of_z, option_map, pos, refl, rules, slice_get, subst, subst₂, suc, sym}
pub use Rattle.std.proofs.Common.{take, to_z, to_z-of_z, true, true≢false, unwrap_or, w64, zero, ℕ, ◌&&◌, ◌++◌, ◌+◌}
pub use Rattle.std.proofs.Common.{◌-◌, ◌<◌, ◌==◌, ◌^◌, ◌∙◌, ◌∷◌, ◌≡◌, ◌≢◌, ◌≤◌, ◌⊎◌}
pub use Rattle.std.proofs.lemmas.Bool.{cases_Bool, cases_eq, ne_eqb}
pub use Rattle.std.proofs.lemmas.List.{append_assoc, at_drop_all, at_drop_more, drop_more, length-drop, length-map}
pub use Rattle.std.proofs.lemmas.List.{length-take-le, map-append, nil_from_length, take-append-drop, take_all}
pub use Rattle.std.proofs.lemmas.List.{take_more}
pub use Rattle.std.proofs.lemmas.Result.{IfOk-from_err, IfOk-weaker}
pub use Rattle.std.specs.List.{AllByRecursion, cons_option, filter_map, list_all}
pub use Rattle.std.specs.Prelude.{IsErrAnd}
pub use Rattle.std.specs.declared.alloc.Global.{Global}
pub use Rattle.sqlite.proofs.Callers.{given_begin, survives_begin, unchanged_then}
pub use Rattle.sqlite.proofs.StateLemmas.{survives_then, survives_weaker}
pub use Rattle.sqlite.specs.Effect.{Database, IsDatabase}
pub use Rattle.sqlite.specs.Held.{Held, state}
pub use Rattle.sqlite.specs.State.{Begins, CommitsShowing, ExecutesInside, FailsToQuery, HasCleanDisk, IsLive}
pub use Rattle.sqlite.specs.State.{IsRolledBack, IsTooLate, IsUnchanged, KeepsCommit, Shown, State, Survives}
pub use Rattle.sqlite.specs.Values.{bound, bound_value}
pub use Rattle.sqlite.specs.declared.error.Error.{Error}
pub use Rattle.sqlite_trees.specs.Tree.{Trees, has_rowid, without_rowid}
pub use Rattle.sqlite_trees.specs.declared.store.Store.{Ghosts}
pub use Rattle.sqlite_value.specs.Order.{Row, column, value_cmp}
pub use Rattle.sqlite_value.specs.declared.value.Value.TheVariants.{Int, Text}
pub use Rattle.room_acl.specs.Entries.{EntryModel}
pub use Rattle.room_records.specs.Shelf.{AreNames, FailureCounted, IsChildCount, ShelfCall, ShelfRead, View, fault_in}
pub use Rattle.room_records.specs.declared.change.Change.TheVariants.{DropSlots, PutDoc, PutEntries, PutNext, PutNode}
pub use Rattle.room_records.specs.declared.change.Change.TheVariants.{PutSession, PutSlot}
pub use Rattle.room_tables.proofs.Asks.{asks_child, asks_children, asks_count, asks_doc, asks_entries, asks_next}
pub use Rattle.room_tables.proofs.Asks.{asks_node, asks_seq, asks_session, asks_size, asks_slot, asks_version}
pub use Rattle.room_tables.proofs.Asks.{told_another, told_version}
pub use Rattle.room_tables.proofs.Beside.{beside_itself, doc_beside, entry_beside, kept_beside, node_beside}
pub use Rattle.room_tables.proofs.Beside.{room_beside, session_beside}
pub use Rattle.room_tables.proofs.Changes.{executes_inside, fails_back, keeps_all, on_err, was_inside}
pub use Rattle.room_tables.proofs.Children.{are_children, count_children, named_found}
pub use Rattle.room_tables.proofs.Creates.{doc_step, entry_step, filled_six, fresh_from, kept_step, made_room}
pub use Rattle.room_tables.proofs.Creates.{node_step, room_step, session_step}
pub use Rattle.room_tables.proofs.Effects.{SetsNext, add_sets_next, bound_parent, bound_reply, change_sets_next}
pub use Rattle.room_tables.proofs.Effects.{doc_add_leaves_nodes, doc_change_leaves_nodes, doc_new_leaves_nodes}
pub use Rattle.room_tables.proofs.Effects.{first_sets_next, left_then_added, node_added, node_changed, params_of_node}
pub use Rattle.room_tables.proofs.Effects.{row_of_node, steps_add_doc, steps_add_node, steps_change_doc}
pub use Rattle.room_tables.proofs.Effects.{steps_change_node, steps_change_or_add, steps_more, steps_new_doc}
pub use Rattle.room_tables.proofs.FirstEntries.{added_bare, lists_bare, lists_steps, none_before}
pub use Rattle.room_tables.proofs.InPlace.{lists_changed, lists_front, lists_shown, rows_stored}
pub use Rattle.room_tables.proofs.Moves.{all_moved, by_trees, copied, copied_one, none_moved, stays, taken, taken_out}
pub use Rattle.room_tables.proofs.Moves.{upgraded, widens}
pub use Rattle.room_tables.proofs.Names.{are_names, asks_names, same_seq}
pub use Rattle.room_tables.proofs.Placed.{lists_more, lists_none, lists_stored, placed_push}
pub use Rattle.room_tables.proofs.Queries.{fails_leaves, is_query_text, left_now, left_open, only_permuted}
pub use Rattle.room_tables.proofs.Queries.{query_answered, query_keeps, query_leaves, query_left, query_open}
pub use Rattle.room_tables.proofs.Queries.{shown_still}
pub use Rattle.room_tables.proofs.Selects.{count_children_selects, find_child_selects, find_doc_selects}
pub use Rattle.room_tables.proofs.Selects.{find_next_selects, find_node_selects, find_seq_selects, find_session_selects}
pub use Rattle.room_tables.proofs.Selects.{find_size_selects, find_slot_selects, find_version_selects}
pub use Rattle.room_tables.proofs.Selects.{list_children_selects, list_entries_selects, list_names_selects}
pub use Rattle.room_tables.proofs.Selects.{read_entries_selects}
pub use Rattle.room_tables.proofs.Stands.{fills_entries, fills_more, fills_next, fills_node, four_insert, may_stand}
pub use Rattle.room_tables.proofs.Stands.{next_sound, one_insert, stands_filled, stands_such, three_insert, two_insert}
pub use Rattle.room_tables.proofs.Takes.{adds_four, adds_one, adds_three, adds_two, bound_entries, drops_slots}
pub use Rattle.room_tables.proofs.Texts.{add_doc_text, add_entry_text, add_four_text, add_next_text, add_node_text}
pub use Rattle.room_tables.proofs.Texts.{add_slot_text, add_three_text, add_two_text, change_doc_text, change_next_text}
pub use Rattle.room_tables.proofs.Texts.{change_node_text, change_slot_text, drop_slots_text, put_session_text}
pub use Rattle.room_tables.proofs.Texts.{read_entries_text}
pub use Rattle.room_tables.specs.Fresh.{IsFilled, IsFresh, MayBeFilled, StandForEntries, StandsBeside, filled}
pub use Rattle.room_tables.specs.Layout.{AreOfRoom, IsRoomDatabase, IsRoomOfVersion1, IsRoomOfVersion2, parent_value}
pub use Rattle.room_tables.specs.Rows.{HasEntryColumns, IsVersion, entries_shown, entry_of, entry_rows, five_columns}
pub use Rattle.room_tables.specs.Rows.{has, listed_of, name_of_text, next_rows, node_of, number_in, only, records_of}
pub use Rattle.room_tables.specs.Rows.{shown_node, version_rows}
pub use Rattle.room_tables.specs.Steps.{AreEntries, IsReadBack, Lists, MayBecome, ShowsEntry, StaysRoom, Steps, flag_of}
pub use Rattle.room_tables.specs.Steps.{placed, shown_as}
pub use Rattle.room_tables.specs.Tables.{Fresh, Layout, Upgraded, first_schema, has_a_table, has_column, has_first_room}
pub use Rattle.room_tables.specs.Tables.{has_room, last_tables, room_schema, slot_table, with_last}
pub use Rattle.room_tables.specs.Upgrade.{IsMoving, IsUpgraded, MayBeMovedWith, MayBeUpgraded}
pub use Rattle.room_sql.specs.Facts.{AreTrueOf, KnowsNothing}
pub use Rattle.room_sql.specs.Frames.{CommitFrame, InsideFrame, QueryFrame, RunsOr}
pub use Rattle.room_sql.specs.NodeRows.{AfterAll, HasNone, HasOneMore, MakesChange, is_parent}
pub use Rattle.room_sql.specs.ReadLists.{AreStored, IsKeptFor, IsStored}
pub use Rattle.room_sql.specs.declared.new_object.NewObject.TheVariants.{Unknown}
