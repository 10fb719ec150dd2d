-- What three or more files of these proofs take of a module elsewhere: all take it from here.
pub use Rattle.std.proofs.Common.{Bool, Bor, Contains, Err, IsSome, List, MatchOption, None, Ok, Option, Result, Some}
pub use Rattle.std.proofs.Common.{[], ap, append-nil, append_assoc, arith, cond, drop, drop-cons, eq-eqb, eqb, false}
pub use Rattle.std.proofs.Common.{get_or, inl, inr, is_some, length, length-take, lit<, map, nat_cmp, refl, reverse}
pub use Rattle.std.proofs.Common.{rules, subst, suc, sym, take, true, zero, ℕ, ◌++◌, ◌+◌, ◌-◌, ◌<◌, ◌^◌, ◌∙◌, ◌∷◌, ◌≡◌}
pub use Rattle.std.proofs.Common.{◌≢◌, ◌≤◌, ◌⊎◌}
pub use Rattle.std.proofs.lemmas.Bool.{and_from, and_parts, and_right, both_ways, cases_Bool, cases_eq, cases_lt}
pub use Rattle.std.proofs.lemmas.Bool.{cond-false, cond-true, false_from_ne_true, le-leb, leb-true, lt-ltb, ne_eqb}
pub use Rattle.std.proofs.lemmas.Bool.{not-true}
pub use Rattle.std.proofs.lemmas.Cmp.{eq_by_cmp_equiv, nat_cmp_total, nat_list_cmp_total, nat_list_eq_equiv, on_total}
pub use Rattle.std.proofs.lemmas.Cmp.{then_total, tied_itself}
pub use Rattle.std.proofs.lemmas.List.{get_or-map, length-drop, length-map, length_push, nil_from_length}
pub use Rattle.std.proofs.lemmas.List.{reverse-append, reverse-reverse, take-append-drop, take_all, take_at, take_more}
pub use Rattle.std.proofs.lemmas.List.{take_rest}
pub use Rattle.std.proofs.lemmas.Map.Lookups.{CmpEqualImpliesEq, exact_bytes, exact_pairs, exact_unsigned}
pub use Rattle.std.proofs.lemmas.Map.Views.{All-found, Contains-from_lookup, lookup-from_Contains, tells_apart}
pub use Rattle.std.proofs.lemmas.Option.{get_or_from_slice_get, option_and_then_some}
pub use Rattle.std.specs.BTreeMap.{IsOrdered, get, insert_entry, is_at}
pub use Rattle.std.specs.Cmp.Lexicographic.{bytes_decides, options_total, pointwise_decides, texts_ties}
pub use Rattle.std.specs.List.{AllByRecursion, cons_option, filter_map, flat_map, insert, join_with_byte, list_all}
pub use Rattle.std.specs.List.{slice_get, slice_split}
unfoldable pub use Rattle.std.specs.List.{IsDistinct}
unfoldable pub use Rattle.std.specs.List.Sorted.{IsStrictlySortedBy}
pub use Rattle.std.specs.Map.{keys_of, lookup}
pub use Rattle.std.specs.Option.{option_and_then, option_cmp, option_copied, option_map}
pub use Rattle.std.specs.Ordering.{eq_by_cmp, is_eq, is_le, ordering_reverse, ordering_then}
pub use Rattle.std.specs.Prelude.{IfOk, IsTrue, nat_le, nat_lt, not, string_bytes, unwrap_or, ◌&&◌, ◌==◌}
pub use Rattle.std.specs.Str.{IsUtf8, bytes_eq, is_utf8}
pub use Rattle.std.specs.declared.cmp.Ordering.{Ordering}
pub use Rattle.std.specs.declared.cmp.Ordering.TheVariants.{Equal, Greater, Less}
pub use Rattle.room_acl.specs.SubjectModel.{SubjectModel}
pub use Rattle.room_acl.specs.declared.subject.Kind.{Kind}
pub use Rattle.room_records.specs.Changes.{Leave, RulesHoldAfterEach, Untouched, apply_change, apply_changes}
pub use Rattle.room_records.specs.Changes.{apply_to_objects}
pub use Rattle.room_records.specs.Fresh.{fresh_records, fresh_root, no_records}
pub use Rattle.room_records.specs.Limits.{max_children, max_groups, max_name_bytes, max_names, max_objects, max_slots}
pub use Rattle.room_records.specs.Limits.{max_users}
pub use Rattle.room_records.specs.Mem.{AreSameChanges, HasSpaceFor, KeepsSpace, mem_records}
pub use Rattle.room_records.specs.Names.{IsFileName, IsPath, Name, Path, is_name_byte, name_cmp, name_eq, path_eq}
pub use Rattle.room_records.specs.Names.{path_text}
unfoldable pub use Rattle.room_records.specs.Names.{is_file_name, is_path}
pub use Rattle.room_records.specs.NodeIndex.{AreAtPlace, ArePlaced, IsFreeFor, IsNumbered, PlaceKey, Places, id_at}
pub use Rattle.room_records.specs.NodeIndex.{node_in, place_cmp, place_of}
pub use Rattle.room_records.specs.Records.{IsChild, ObjectRecords, Records}
pub use Rattle.room_records.specs.Representation.{HasPath, NamesUpwards, NodeIsObject, RepresentsRoom, RowsShowObject}
pub use Rattle.room_records.specs.Room.{AreObjects, IsObject, IsRoom, Object, Room, by_name, child_in, children}
pub use Rattle.room_records.specs.Room.{follows, fresh_entries, fresh_object, fresh_room, list_of, list_under}
pub use Rattle.room_records.specs.Room.{list_upwards, name_in, object_at, parent_of, root_list}
pub use Rattle.room_records.specs.Rules.{IsRoot, NodeRules, ObjectRules, RulesHold}
pub use Rattle.room_records.specs.Sessions.{AreFewSlots, HaveSlotCounts, kept_in, session_in, session_row, slot_cmp}
pub use Rattle.room_records.specs.Shelf.{AreChildren, InNameOrder, IsChildCount, IsChildNamed, ShelfCall, ShelfFrame}
pub use Rattle.room_records.specs.Shelf.{ShelfRead, View, listed, name_of}
pub use Rattle.room_records.specs.Table.{HasSpace, held, value_in}
pub use Rattle.room_records.specs.declared.change.Change.{Change}
pub use Rattle.room_records.specs.declared.node.Node.{Node}
