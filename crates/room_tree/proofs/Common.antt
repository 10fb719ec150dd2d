-- What three or more files of these proofs take of a module elsewhere: all take it from here.
pub use Rattle.std.proofs.Common.{Bool, Err, IfOk, IsNone, IsSome, IsTrue, List, MatchOption, None, Ok, Option, Result}
pub use Rattle.std.proofs.Common.{Some, [], ap, append-nil, append_assoc, arith, cond, drop, eq-eqb, eqb, false, get_or}
pub use Rattle.std.proofs.Common.{inl, inr, length, length-append, map, not, option_map, refl, reverse, rules, subst}
pub use Rattle.std.proofs.Common.{suc, sym, take, true, unwrap_or, zero, ℕ, ◌*◌, ◌++◌, ◌+◌, ◌-◌, ◌<◌, ◌^◌, ◌||◌, ◌∙◌}
pub use Rattle.std.proofs.Common.{◌∷◌, ◌≡◌, ◌≢◌, ◌≤◌, ◌⊎◌}
pub use Rattle.std.proofs.Math.Bool.{and-true, or-true}
pub use Rattle.std.proofs.lemmas.Bool.{and_parts, cases_Bool, cases_lt, eqb-true, false_from_ne_true, le-ltb, lt-ltb}
pub use Rattle.std.proofs.lemmas.Bool.{true_from_ne_false}
pub use Rattle.std.proofs.lemmas.Grind.{common_steps}
pub use Rattle.std.proofs.lemmas.List.{append_cancel_left, drop-append-le, drop_all, drop_more, get_or_append_left}
pub use Rattle.std.proofs.lemmas.List.{get_or_default, get_or_push, length-take, length_push, map-append}
pub use Rattle.std.proofs.lemmas.List.{reverse-append, reverse-reverse, same_from_push, take-append-drop, take_all}
pub use Rattle.std.proofs.lemmas.List.{take_more, take_more_same}
pub use Rattle.std.proofs.lemmas.List.Sums.{count_by-le-length, sum_by-append, sum_by-cons, sum_by-take-le, sum_by_push}
pub use Rattle.std.proofs.lemmas.Result.{IfOk-weaker}
pub use Rattle.std.specs.List.{AllByRecursion, cons_option, count_by, filter_map, list_all, list_any, slice_index_or}
pub use Rattle.std.specs.List.{sum_by}
pub use Rattle.std.specs.Prelude.{Vec, bit_and, codes, is_some, nat_le, nat_lt, ◌==◌}
pub use Rattle.std.specs.declared.alloc.Global.{Global}
pub use Rattle.room_acl.specs.Access.{allowed_mask, decision}
pub use Rattle.room_acl.specs.Bits.{IsMask, is_inherited}
pub use Rattle.room_acl.specs.Entries.{EntryModel}
pub use Rattle.room_acl.specs.Inheritance.{handed_down, own_entries_fault, own_part, with_inherited}
pub use Rattle.room_acl.specs.SubjectModel.{SubjectModel}
pub use Rattle.room_acl.specs.declared.subject.Kind.{Kind}
pub use Rattle.room_acl.specs.declared.subject.Kind.TheVariants.{File, Folder}
pub use Rattle.room_records.proofs.Folders.{child_count_is, child_named, nodes_are_children, object_child, pair_of}
pub use Rattle.room_records.proofs.Lists.{all_append, all_at}
pub use Rattle.room_records.proofs.PathParts.{path_parts}
pub use Rattle.room_records.proofs.Paths.{child_is_at, no_child, none_on_the_way, object_at_node, one_further, one_path}
pub use Rattle.room_records.proofs.Paths.{own_number, reads_one, root_only}
pub use Rattle.room_records.proofs.RoomsChildren.{name_itself, nothing_in_empty, same_name}
pub use Rattle.room_records.proofs.RoomsLists.{list_in_folder, list_of_child, list_of_root, lists_by_objects_above}
pub use Rattle.room_records.proofs.RoomsMap.{Ends, StandsIn, ends, found_stands, none_is_some, nothing_below}
pub use Rattle.room_records.proofs.RoomsMap.{nothing_in_a_file, object_there_is_lawful, other_path, parent_of_end}
pub use Rattle.room_records.proofs.RoomsMap.{path_itself, path_of_object, some_is, standing_found}
pub use Rattle.room_records.proofs.RulesKept.{SamePlace, SameShape, if_other, if_same, names_by_shape, rules_put}
pub use Rattle.room_records.proofs.RulesKept.{rules_put_doc, rules_put_entries, rules_put_next, same_or_other}
pub use Rattle.room_records.proofs.RulesKept.{shape_itself, shape_put, some_or_none}
pub use Rattle.room_records.proofs.Shelves.{read_then}
pub use Rattle.room_records.specs.Changes.{IsOfObjects, ObjectRulesHoldAfterEach, apply_all_to_objects}
pub use Rattle.room_records.specs.Changes.{apply_to_objects}
pub use Rattle.room_records.specs.Limits.{max_children, max_document, max_names, max_objects}
pub use Rattle.room_records.specs.Names.{IsFileName, IsPath, Name, Path, name_cmp, name_eq, path_eq}
pub use Rattle.room_records.specs.Records.{IsChild, ObjectRecords, Records}
pub use Rattle.room_records.specs.Representation.{HasPath, NamesUpwards, NodeIsObject, RepresentsRoom, RowsShowObject}
pub use Rattle.room_records.specs.Room.{IsRoom, Object, Room, children, follows, list_of, list_under, list_upwards}
pub use Rattle.room_records.specs.Room.{object_at, parent_of, root_list, standing_of}
pub use Rattle.room_records.specs.Rules.{NodeRules, ObjectRules}
pub use Rattle.room_records.specs.Shelf.{AreChildren, AreNames, InNameOrder, IsChildCount, IsChildNamed, ShelfRead}
pub use Rattle.room_records.specs.Shelf.{View, listed, name_of}
pub use Rattle.room_records.specs.declared.change.Change.{Change}
pub use Rattle.room_records.specs.declared.change.Change.TheVariants.{DropNode, DropSlots, PutDoc, PutEntries, PutNext}
pub use Rattle.room_records.specs.declared.change.Change.TheVariants.{PutNode, PutSession, PutSlot}
pub use Rattle.room_records.specs.declared.node.Node.{Node}
pub use Rattle.room_commands.proofs.ChecksTell.{absent_there, none_there, not_refused, small_enough}
pub use Rattle.room_commands.proofs.ChecksTell.{walk_ends_in_folder}
pub use Rattle.room_commands.proofs.EffectIsRoom.{appended_is_room, changed_is_room, chown_is_room, created_is_room}
pub use Rattle.room_commands.proofs.EffectIsRoom.{not_in_root, not_root_ends, setlist_is_room, written_is_room}
pub use Rattle.room_commands.proofs.Renaming.{at_behind}
pub use Rattle.room_commands.proofs.Rights.{all_none, rights_of_success}
pub use Rattle.room_commands.proofs.RoomsNew.{elsewhere_as_before, new_or_old, new_there, old_stays, same_or_other_path}
pub use Rattle.room_commands.proofs.RoomsObject.{at_changed, elsewhere_unchanged}
pub use Rattle.room_commands.proofs.RoomsRenamed.{Moved, Stands, Stayed, at_moved, at_new_place, away, not_both, off_to}
pub use Rattle.room_commands.proofs.RoomsRenamed.{rest_below, stands_after}
pub use Rattle.room_commands.proofs.Shorthands.{kind_of, or_no_object, removal_refusal, right_on}
pub use Rattle.room_commands.specs.Checks.{bytes_at, check_absent, check_depth, check_exists, check_file, check_folder}
pub use Rattle.room_commands.specs.Checks.{check_folder_full, check_lawful, check_removal, check_right, check_room_full}
pub use Rattle.room_commands.specs.Checks.{check_size, checks, denied_at, depth_in, first_refusal, is_at_or_below}
pub use Rattle.room_commands.specs.Checks.{is_kind, is_root, object_or_default, prefix_refusal, proper_prefixes}
pub use Rattle.room_commands.specs.Checks.{refusal_without_place, refuse_if, right_to_add, walk}
pub use Rattle.room_commands.specs.CommandModel.{CommandModel, command_model}
pub use Rattle.room_commands.specs.Effect.{attributes_of, changed, effect_by, moved, new_object, renamed, reply}
pub use Rattle.room_commands.specs.Effect.{size_of, with_new, with_object, without}
pub use Rattle.room_commands.specs.ReplyModel.{About, Allowed, Bytes, Done, Entries, IsNotDone, Names, NotDone, Refusal}
pub use Rattle.room_commands.specs.ReplyModel.{ReplyModel, Size, reply_model}
pub use Rattle.room_commands.specs.SetList.{kept_entry, own_entries_of_setlist}
pub use Rattle.room_commands.specs.declared.reply.RefusalCode.TheVariants.{Access, Exist, FolderFull, Inval, IsDir}
pub use Rattle.room_commands.specs.declared.reply.RefusalCode.TheVariants.{NoEnt, NotEmpty, RoomFull, TooDeep}
pub use Rattle.room_tree.specs.LoadedObjects.{IsAbove, IsLoaded, IsNewNode, OfRoom, kind_checks, node_of, use_checks}
pub use Rattle.room_tree.specs.Plans.{PlansEffect, most_rows, place_after}
pub use Rattle.room_tree.specs.Renames.{IsMove, end_checks, move_limits, move_rights}
pub use Rattle.room_tree.specs.Renewals.{AddsEntries, AddsRenewals, ChangesFewRows, IsRenewal, IsRenewed, PutsList}
pub use Rattle.room_tree.specs.Renewals.{RenewsBelow, entries_of, list_below, puts_entries, puts_entries_of, puts_new}
pub use Rattle.room_tree.specs.declared.loaded.LoadedObject.{LoadedObject}
pub use Rattle.room_tree.specs.declared.planning.Outcome.{Outcome}
