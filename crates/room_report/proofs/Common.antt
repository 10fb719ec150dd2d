-- What three or more files of these proofs take of a module elsewhere: all take it from here.
pub use Rattle.std.proofs.Common.{Bool, Equal, Err, Greater, Less, List, None, Ok, Option, Ordering, Result, Some, []}
pub use Rattle.std.proofs.Common.{ap, append-nil, append_assoc, arith, drop, false, get_or, inl, inr, length, refl}
pub use Rattle.std.proofs.Common.{replicate, rules, subst, suc, sym, take, true, unwrap_or, zero, ℕ, ◌%◌, ◌++◌, ◌+◌}
pub use Rattle.std.proofs.Common.{◌-◌, ◌/◌, ◌<◌, ◌∙◌, ◌∷◌, ◌≡◌, ◌≤◌, ◌⊎◌}
pub use Rattle.std.proofs.lemmas.Bool.{both_ways, cases_Bool}
pub use Rattle.std.proofs.lemmas.Grind.{flat_map-append}
pub use Rattle.std.proofs.lemmas.List.{length_push, take-append-drop, take_all, take_more}
pub use Rattle.std.specs.List.{filter, flat_map, slice_get, slice_index_or}
unfoldable pub use Rattle.std.specs.List.{IsDistinct}
pub use Rattle.room_acl.specs.SubjectModel.{SubjectModel}
pub use Rattle.room_records.specs.Names.{Name, Path, name_cmp, name_eq, path_cmp, path_eq, path_text}
pub use Rattle.room_records.specs.Records.{IsChild, ObjectRecords, Records}
pub use Rattle.room_records.specs.Representation.{HasPath, RepresentsRoom}
pub use Rattle.room_records.specs.Room.{AreObjects, IsRoom, Object, Room, fresh_room, object_at}
pub use Rattle.room_records.specs.Shelf.{AreChildren, InNameOrder, ShelfRead, View, name_of}
pub use Rattle.room_records.specs.declared.node.Node.{Node}
pub use Rattle.room_report.specs.Lines.{access_line, access_text, entry_line, head_line, in_path_order, list_text}
pub use Rattle.room_report.specs.Lines.{mask_line}
unfoldable pub use Rattle.room_report.specs.Lines.{hex}
pub use Rattle.room_report.specs.Walk.{AppendsFront, IsItem, OfIntactRoom, Writes, is_front, item_lines, lines_of}
pub use Rattle.room_report.specs.Walk.{names_text, objects_below, shown_path, text_below}
pub use Rattle.room_report.specs.declared.lines.Report.{Report}
pub use Rattle.room_report.specs.declared.lines.Report.TheVariants.{Access, Lists}
