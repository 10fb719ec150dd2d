-- What three or more files of these proofs take of a module elsewhere: all take it from here.
pub use Rattle.std.proofs.Common.{Bool, IsSome, List, None, Option, Some, [], ap, append-nil, append_assoc, arith}
pub use Rattle.std.proofs.Common.{bit_and, cond, drop, false, filter, inl, inr, is_some, length, length-append, map}
pub use Rattle.std.proofs.Common.{nat_le, nat_lt, not, option_map, refl, subst, suc, sym, true, zero, ℕ, ◌%◌, ◌&&◌, ◌*◌}
pub use Rattle.std.proofs.Common.{◌++◌, ◌+◌, ◌-◌, ◌/◌, ◌<◌, ◌==◌, ◌||◌, ◌∙◌, ◌∷◌, ◌≡◌, ◌≤◌, ◌⊎◌}
pub use Rattle.std.proofs.lemmas.Bool.{and_cases, and_from, and_parts, and_right, both_ways, cases_Bool, cases_lt}
pub use Rattle.std.proofs.lemmas.Bool.{false_from_ne_true, le-ltb, leb-false, lt-ltb, ltb-false, not-false, not-true}
pub use Rattle.std.proofs.lemmas.Bool.{or_cases, or_left, or_parts, or_right}
pub use Rattle.std.proofs.lemmas.List.{length-drop, length-map, length_push, map-append, same_from_push}
pub use Rattle.std.specs.Bool.{then_some}
pub use Rattle.std.specs.List.{AllByRecursion, filter_map, find, list_all}
pub use Rattle.std.specs.Map.{lookup}
pub use Rattle.std.specs.Prelude.{Err, Ok, Result, codes, if◌then◌else◌, is_none, max}
pub use Rattle.room_acl.specs.Access.{allowed_mask, allowed_of, allows_bit, decision, decision_by, is_owner}
pub use Rattle.room_acl.specs.Bits.{IsMask, add_file, add_subdirectory, all_rights, append_data, auto_inherit_flag}
pub use Rattle.room_acl.specs.Bits.{delete_child, delete_object, execute, follows, has_bit, has_flag, inherited_flag}
pub use Rattle.room_acl.specs.Bits.{is_inherited, list_directory, named_bits, protected_flag, read_acl, read_attributes}
pub use Rattle.room_acl.specs.Bits.{read_data, without_inherited, write_acl, write_data, write_owner}
pub use Rattle.room_acl.specs.Entries.{EntryModel}
pub use Rattle.room_acl.specs.Inheritance.{handed_down, max_own_entries, own_entries_fault}
pub use Rattle.room_acl.specs.SubjectModel.{SubjectModel}
pub use Rattle.room_acl.specs.declared.access.Decision.{Decision}
pub use Rattle.room_acl.specs.declared.access.Decision.TheVariants.{Denied}
pub use Rattle.room_acl.specs.declared.subject.Kind.{Kind}
pub use Rattle.room_acl.specs.declared.subject.Kind.TheVariants.{File, Folder}
pub use Rattle.room_acl.specs.declared.who.Who.TheVariants.{Everyone, Group, Owner, User}
pub use Rattle.room_records.proofs.RoomsChildren.{children_rise, kind_of_child, listed_is_there, name_itself}
pub use Rattle.room_records.proofs.RoomsChildren.{no_more_children, nothing_in_empty, one_exchanged_child}
pub use Rattle.room_records.proofs.RoomsChildren.{one_more_child, same_entries, same_name, there_is_listed}
pub use Rattle.room_records.proofs.RoomsLists.{list_in_folder, list_of_child, list_of_root, lists_below}
pub use Rattle.room_records.proofs.RoomsLists.{lists_by_objects_above, lists_without_bytes, without_bytes}
pub use Rattle.room_records.proofs.RoomsMap.{Ends, StandsIn, ends, found_stands, none_is_some, nothing_below}
pub use Rattle.room_records.proofs.RoomsMap.{object_there_is_lawful, other_path, parent_of_end, path_itself, same_path}
pub use Rattle.room_records.proofs.RoomsMap.{some_is, standing_found}
pub use Rattle.room_records.specs.Limits.{max_children, max_document, max_names}
pub use Rattle.room_records.specs.Names.{IsFileName, IsPath, Name, Path, name_eq, path_eq}
unfoldable pub use Rattle.room_records.specs.Names.{is_file_name}
pub use Rattle.room_records.specs.Room.{AreObjects, IsObject, IsRoom, Object, Room, by_name, child_in, children}
pub use Rattle.room_records.specs.Room.{fresh_object, fresh_room, list_of, list_under, object_at, parent_of, root_list}
pub use Rattle.room_records.specs.Room.{standing_of}
pub use Rattle.room_commands.specs.Checks.{bytes_at, check_absent, check_depth, check_exists, check_file, check_folder}
pub use Rattle.room_commands.specs.Checks.{check_folder_full, check_lawful, check_removal, check_right, check_room_full}
pub use Rattle.room_commands.specs.Checks.{check_size, checks, denied_at, first_refusal, is_at_or_below, is_file}
pub use Rattle.room_commands.specs.Checks.{is_full, is_kind, is_root, may_delete, no_object, object_or_default}
pub use Rattle.room_commands.specs.Checks.{prefix_refusal, proper_prefixes, refusal_without_place, refuse_if}
pub use Rattle.room_commands.specs.Checks.{right_to_add, walk, RoomCheck, run_check, checks_of}
pub use Rattle.room_commands.specs.CommandModel.{CommandModel, Rename, paths_of}
pub use Rattle.room_commands.specs.Effect.{attributes_of, changed, effect, effect_by, moved, new_object, renamed, reply}
pub use Rattle.room_commands.specs.Effect.{size_of, with_new, with_object, without}
pub use Rattle.room_commands.specs.Elsewhere.{AddsNowhere, HoldsNeither, IsAboveNeither, IsOff, IsOutOfSight}
pub use Rattle.room_commands.specs.Elsewhere.{IsUnlisted, ListUnseen, but_depth, but_full, but_names, rights_at}
pub use Rattle.room_commands.specs.Elsewhere.{view_less}
pub use Rattle.room_commands.specs.Lawful.{IsLawful}
pub use Rattle.room_commands.specs.Needs.{HasRemoval, HasRight, HasWay, IsDenial, NeedsAllowed}
pub use Rattle.room_commands.specs.ReplyModel.{About, Allowed, Attributes, Bytes, Done, Entries, IsNotDone, Names}
pub use Rattle.room_commands.specs.ReplyModel.{NotDone, Refusal, ReplyModel, Size}
pub use Rattle.room_commands.specs.SetList.{follows_at, kept_entry, own_entries_of_setlist}
pub use Rattle.room_commands.specs.Sight.{BytesUnseen, HasNoPower, IsSightTold, LooksAlike, Other, OthersUnseen, Own}
pub use Rattle.room_commands.specs.Sight.{SameBelow, Sight, StayAlike, Turn, changes_bytes_alone, depth_in, handed_to}
pub use Rattle.room_commands.specs.Sight.{may, may_add, may_remove, may_set, own_turns, replies_among, sight_of, view}
pub use Rattle.room_commands.specs.declared.reply.RefusalCode.{RefusalCode}
pub use Rattle.room_commands.specs.declared.reply.RefusalCode.TheVariants.{Access, Exist, FBig, FolderFull, Inval}
pub use Rattle.room_commands.specs.declared.reply.RefusalCode.TheVariants.{IsDir, NoEnt, NotDir, NotEmpty, RoomFull}
pub use Rattle.room_commands.specs.declared.reply.RefusalCode.TheVariants.{TooDeep}
