-- What three or more files of these proofs take of a module elsewhere: all take it from here.
pub use Rattle.std.proofs.Common.{Bool, Equal, Err, Greater, IfErr, IfOk, IsPermutation, IsSorted, IsTrue, Less, List}
pub use Rattle.std.proofs.Common.{MatchBool, None, Ok, OnErr, OnOk, Option, Ordering, Result, Some, Vec, [], add-one}
pub use Rattle.std.proofs.Common.{ap, ap₂, arith, bytes_eq, codes, cond, drop, eq-eqb, eqb, false, filter, flat_map}
pub use Rattle.std.proofs.Common.{inl, inr, int_cmp, is_eq, is_gt, is_lt, is_some, length, length-append, map, negsuc}
pub use Rattle.std.proofs.Common.{not, option_and_then, option_map, pos, refl, slice_get, slice_range, subst, subst₂}
pub use Rattle.std.proofs.Common.{suc, sym, take, true, true≢false, unwrap_or, zero, ℕ, ℤ, ◌&&◌, ◌++◌, ◌+◌, ◌-◌, ◌/◌}
pub use Rattle.std.proofs.Common.{◌<◌, ◌==◌, ◌||◌, ◌∙◌, ◌∷◌, ◌≡◌, ◌≢◌, ◌≤◌, ◌⊎◌}
pub use Rattle.std.proofs.lemmas.Bool.{and_from, cases_Bool, cases_eq, eqb-false, eqb-true, false_from_ne_true, ne_eqb}
pub use Rattle.std.proofs.lemmas.Bool.{not-true, or_from, or_parts, true_from_ne_false}
pub use Rattle.std.proofs.lemmas.Bool.Decides.{nat_tests}
pub use Rattle.std.proofs.lemmas.Cmp.{alike_right, tied_back, tied_itself, upto}
pub use Rattle.std.proofs.lemmas.Grind.{common_steps, flat_map-append}
pub use Rattle.std.proofs.lemmas.Int.{ints}
pub use Rattle.std.proofs.lemmas.List.{append-nil, append_assoc, length-map, length-take-le, map-append, map-set}
pub use Rattle.std.proofs.lemmas.List.{same_from_push, take-append-drop}
pub use Rattle.std.proofs.lemmas.List.Sorted.{IsPermutation-append, IsPermutation-append_comm}
pub use Rattle.std.proofs.lemmas.List.Sorted.{IsPermutation-append_left, IsPermutation-append_right, IsPermutation-cons}
pub use Rattle.std.proofs.lemmas.List.Sorted.{IsPermutation-filter_both, IsPermutation-keeps, IsPermutation-map}
pub use Rattle.std.proofs.lemmas.List.Sorted.{IsPermutation-middle, IsPermutation-refl, IsPermutation-swap}
pub use Rattle.std.proofs.lemmas.List.Sorted.{IsPermutation-sym, IsPermutation-to_front, IsPermutation-trans}
pub use Rattle.std.proofs.lemmas.List.Sorted.{length_permutation}
pub use Rattle.std.proofs.lemmas.Map.Lookups.{exact_bytes, exact_signed}
pub use Rattle.std.specs.List.{AllByRecursion, AllZip, cons_option, filter_map, find, list_all, list_any, position_from}
pub use Rattle.std.specs.List.{swap}
unfoldable pub use Rattle.std.specs.List.{IsDistinct}
pub use Rattle.std.specs.Ordering.{is_ge, is_le, is_ne, match_ordering, nat_cmp, ordering_reverse, ordering_then}
pub use Rattle.std.specs.declared.alloc.Global.{Global}
pub use Rattle.sqlite.proofs.Callers.{IsPlain, begins_as, command_of, one_permutation, one_step, reads_as, runs_as}
pub use Rattle.sqlite.proofs.Callers.{statement_of, unchanged_then}
pub use Rattle.sqlite.specs.Change.{KeepsRows, automatics, created, next_tree}
pub use Rattle.sqlite.specs.Clock.{timed}
pub use Rattle.sqlite.specs.Command.{Command}
pub use Rattle.sqlite.specs.Command.TheVariants.{CreateTable, Delete, Insert, InsertOr, Nothing, Select, Update}
pub use Rattle.sqlite.specs.Does.{Does, MakesSequence, MakesTable, OnRows, OnTable, Tally, WritesRows, lacks_sequence}
pub use Rattle.sqlite.specs.Does.{sequence_text}
pub use Rattle.sqlite.specs.Effect.{Database, IsDatabase, IsSource, RefusesToRead, is_query, value_rows}
pub use Rattle.sqlite.specs.Kind.TheVariants.{Integer, Text as TextKind}
pub use Rattle.sqlite.specs.Listing.{IsSourceOf, if_select, is_select, listing_schema, reads_listing}
unfoldable pub use Rattle.sqlite.specs.Listing.{understood}
pub use Rattle.sqlite.specs.Rowids.TheVariants.{Above, Chosen, Given}
pub use Rattle.sqlite.specs.Rows.{Clears, Counts, CountsIn, Edited, Gives, Judged, Meets, Puts, Task, Then, Tries}
pub use Rattle.sqlite.specs.Rows.{TriesEach, Updates, Upserts, Written, count_of, higher, joined, last_id, nothing}
pub use Rattle.sqlite.specs.Rows.{rowids_for, sequence, shown, stamped}
pub use Rattle.sqlite.specs.Schema.{Schema}
pub use Rattle.sqlite.specs.Source.TheVariants.{Query as From, Values}
pub use Rattle.sqlite.specs.State.{Begins, Executes, ExecutesInside, FailsToShow, IsRolledBack, IsStatement}
pub use Rattle.sqlite.specs.State.{IsUnchanged, KeepsCommit, Runs, Shows, ShowsRows, State, Survives, Writes, is_pragma}
pub use Rattle.sqlite.specs.State.{mode_of, shows_rows, text_of}
unfoldable pub use Rattle.sqlite.specs.State.{CommitsShowing, ExecutesIn, FailsToQuery, IsNotRun, Shown}
pub use Rattle.sqlite.specs.Table.{Table}
pub use Rattle.sqlite.specs.declared.error.Error.{Error}
pub use Rattle.sqlite_ast.specs.declared.Statement.{Statement}
pub use Rattle.sqlite_catalog.specs.Listing.{IsTableRow, automatic}
pub use Rattle.sqlite_keyed.proofs.ListLemmas.{IsPermutation-filter, all-append, all-filter, all_from_test, all_weaker}
pub use Rattle.sqlite_keyed.proofs.ListLemmas.{ascending-filter, ascending-map, ascending_from_map, filter-filter}
pub use Rattle.sqlite_keyed.proofs.ListLemmas.{filter-map, filter_all, filter_none, filter_same, map-map, map_same}
pub use Rattle.sqlite_keyed.proofs.RuleLemmas.{each_true, first_of_both, second_of_both}
pub use Rattle.sqlite_keyed.proofs.SortLemmas.{IsPermutation-sort_by}
pub use Rattle.sqlite_keyed.specs.Lists.{insert_sorted, sort_by}
pub use Rattle.sqlite_resolve.specs.Compile.{first, is_attached, is_reserved, new_rows, small, target, with_command}
unfoldable pub use Rattle.sqlite_resolve.specs.Compile.{command, compiled, create_table, creates, insert}
unfoldable pub use Rattle.sqlite_resolve.specs.Compile.{insert_or_abort, meaning, planned, returning, shows}
unfoldable pub use Rattle.sqlite_resolve.specs.Compile.{timed as timed_formats}
pub use Rattle.sqlite_resolve.specs.Lowering.{Checked, and_then, or_else}
pub use Rattle.sqlite_resolve.specs.declared.compiled.Compiled.{Compiled}
pub use Rattle.sqlite_resolve.specs.declared.error.CompileError.{CompileError}
pub use Rattle.sqlite_resolve.specs.declared.error.CompileError.TheVariants.{Exists, Misuse, NoSuchTable, Unsupported}
pub use Rattle.sqlite_rules.proofs.ListLemmas.{all_from, all_has, contains_had, has_either, has_filtered, has_got}
pub use Rattle.sqlite_rules.proofs.ListLemmas.{has_kept, has_left, has_right, some_from, some_has, test_has}
pub use Rattle.sqlite_rules.proofs.PlaceLemmas.{row_at_is, tied_same}
pub use Rattle.sqlite_rules.proofs.ProbeLemmas.{has_mapped, mapped_has}
pub use Rattle.sqlite_rules.proofs.TableLemmas.{has_put, int_is, none_to_drop, put_all_adds}
pub use Rattle.sqlite_rules.specs.Action.{Acts, ActsOn, AreChildren, Leads, Work, action_edit, deed_for, is_child_of}
pub use Rattle.sqlite_rules.specs.Action.{loses, pairs, work_by, works}
pub use Rattle.sqlite_rules.specs.Calls.{ids_of}
pub use Rattle.sqlite_rules.specs.Cast.{as_integer, cast, cast_row}
pub use Rattle.sqlite_rules.specs.Edit.{Applies, Edit, are_fresh, edit_of, id_in, is_taken, left_by, next_rowid}
pub use Rattle.sqlite_rules.specs.Edit.{numbered, put_all, taken_by, with_rowid, without_all}
pub use Rattle.sqlite_rules.specs.Lists.{Has}
pub use Rattle.sqlite_schema.specs.Names.{index_named, table_named, view_named}
unfoldable pub use Rattle.sqlite_schema.specs.Names.{same_name}
pub use Rattle.sqlite_schema.specs.Rules.{Keeps, agree, are_typed, clashes, differ, equal, guards, has_null, has_parent}
pub use Rattle.sqlite_schema.specs.Rules.{is_held, is_of, parent_key, passes}
pub use Rattle.sqlite_schema.specs.declared.schema.Constraint.TheVariants.{Datatype, ForeignKey, NotNull, Unique}
pub use Rattle.sqlite_schema.specs.declared.schema.Keys.TheVariants.{Enforced}
pub use Rattle.sqlite_sql.proofs.QueryLemmas.{key_cmp_total, output_cmp_total}
pub use Rattle.sqlite_sql.specs.Ops.{from_truth, is_null, is_true}
unfoldable pub use Rattle.sqlite_sql.specs.Ops.{binary, unary}
pub use Rattle.sqlite_sql.specs.Program.{overlay}
pub use Rattle.sqlite_sql.specs.Query.{IsAnswer, Output, Query, end, inner, key_cmp, output, output_cmp}
pub use Rattle.sqlite_sql.specs.Term.{Env, Term, case, col, eval_all, holds, lit, op1, op2}
pub use Rattle.sqlite_sql.specs.declared.ops.BinaryOp.TheVariants.{Compare}
pub use Rattle.sqlite_sql.specs.declared.ops.CompareOp.TheVariants.{Eq, Ge, Le}
unfoldable pub use Rattle.sqlite_tied.specs.Compute.{everything}
pub use Rattle.sqlite_trees.proofs.ListLemmas.{all-permutation}
pub use Rattle.sqlite_trees.specs.Tree.{IsAscending, IsTable, Trees, has_rowid, no_trees, put_row, rowid, with_tree}
pub use Rattle.sqlite_trees.specs.Tree.{without_rowid}
pub use Rattle.sqlite_trees.specs.View.{is_int}
pub use Rattle.sqlite_value.proofs.OrderLemmas.{value_cmp-Int, value_cmp-Null, value_cmp-Text, value_cmp-apart}
pub use Rattle.sqlite_value.proofs.OrderLemmas.{value_cmp_total}
pub use Rattle.sqlite_value.specs.Keys.{ascending, plain}
unfoldable pub use Rattle.sqlite_value.specs.Keys.{first_key}
pub use Rattle.sqlite_value.specs.Order.{Row, column}
unfoldable pub use Rattle.sqlite_value.specs.Order.{value_cmp}
pub use Rattle.sqlite_value.specs.declared.keys.Collation.TheVariants.{Binary}
pub use Rattle.sqlite_value.specs.declared.keys.Key.{Key}
pub use Rattle.sqlite_value.specs.declared.value.Value.{Value}
pub use Rattle.sqlite_value.specs.declared.value.Value.TheVariants.{Blob, Int, Null, Real, Text}
pub use Rattle.room_acl.specs.Entries.{EntryModel, who_text}
pub use Rattle.room_records.specs.Changes.{apply_change, apply_changes}
pub use Rattle.room_records.specs.Records.{IsChild, ObjectRecords, Records}
pub use Rattle.room_records.specs.declared.change.Change.TheVariants.{DropNode, DropSlots, PutDoc, PutEntries, PutNext}
pub use Rattle.room_records.specs.declared.change.Change.TheVariants.{PutNode, PutSession, PutSlot}
pub use Rattle.room_records.specs.declared.node.Node.{Node}
pub use Rattle.room_tables.specs.Beside.{AddsTables, AreOurs, Fills, HasItsSequence, IsApart, IsBeside, six, with_rows}
pub use Rattle.room_tables.specs.Layout.{HasNumbers, IsKeyed, IsRoomDatabase, IsRoomOfVersion1, IsRoomOfVersion2}
pub use Rattle.room_tables.specs.Layout.{OfEachTable, parent_value, reply_value}
pub use Rattle.room_tables.specs.Names.{AreNameRows, ByName, counted_row}
pub use Rattle.room_tables.specs.Rows.{HasEntryColumns, IsEntryRow, IsVersion, blob_in, child_rows, doc_rows}
pub use Rattle.room_tables.specs.Rows.{documents_in, entries_in, entries_shown, entry_keys, entry_of, entry_rows}
pub use Rattle.room_tables.specs.Rows.{five_columns, has, has_text, is_child_named, is_slot, kept_of, kept_rows}
pub use Rattle.room_tables.specs.Rows.{kind_stored, listed_of, name_and_kind, name_of_text, name_stored, named_rows}
pub use Rattle.room_tables.specs.Rows.{next_in, next_rows, node_of, node_rows, nodes_in, number_in, one_column, only}
pub use Rattle.room_tables.specs.Rows.{parent_in, records_of, reply_in, seq_rows, seq_stored, session_rows}
pub use Rattle.room_tables.specs.Rows.{session_stored, sessions_in, shown_entry, shown_node, shown_session, shown_size}
pub use Rattle.room_tables.specs.Rows.{shown_slot, size_in, size_rows, slot_rows, slots_in, tree_named, version_rows}
pub use Rattle.room_tables.specs.Rows.{versions_in}
pub use Rattle.room_tables.specs.Steps.{IsReadBack, Lists, SeesSound, ShowsEntry, Steps, flag_of, kind_number, placed}
pub use Rattle.room_tables.specs.Steps.{shown_as, type_of}
pub use Rattle.room_tables.specs.Tables.{Fresh, Layout, Upgraded, doc_table, doc_text, entry_table, entry_text}
pub use Rattle.room_tables.specs.Tables.{first_schema, has_a_table, has_first_room, has_room, kept_text, node_table}
pub use Rattle.room_tables.specs.Tables.{node_text, own_indexes, refers, room_schema, room_table, room_text, schema_0}
pub use Rattle.room_tables.specs.Tables.{schema_1, schema_2, schema_3, schema_4, schema_5, session_table, session_text}
pub use Rattle.room_tables.specs.Tables.{slot_table, slot_text, slots_place, slots_table, slots_tree, with_last}
