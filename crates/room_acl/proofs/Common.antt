-- What three or more files of these proofs take of a module elsewhere: all take it from here.
pub use Rattle.std.proofs.Common.{Bool, List, None, Option, Some, [], ap, ap₂, arith, drop, false, get_or, inl, inr}
pub use Rattle.std.proofs.Common.{length, lit<, map, refl, subst, sym, take, true, ℕ, ◌%◌, ◌*◌, ◌++◌, ◌+◌, ◌-◌, ◌<◌}
pub use Rattle.std.proofs.Common.{◌^◌, ◌∙◌, ◌∷◌, ◌≡◌, ◌≢◌, ◌≤◌, ◌⊎◌}
pub use Rattle.std.proofs.lemmas.Bool.{agree_below_at, and_parts, cases_Bool, cases_eq, cases_lt, eq-eqb, eqb-true}
pub use Rattle.std.proofs.lemmas.Bool.{false_from_ne_true, leb-true, ltb-true, ne_eqb, not-true, or_cases, or_left}
pub use Rattle.std.proofs.lemmas.Bool.{or_right, true≢false}
pub use Rattle.std.proofs.lemmas.Grind.{common_steps}
pub use Rattle.std.proofs.lemmas.Nat.{and_assoc, and_le_r, one_shl}
pub use Rattle.std.specs.List.{AllByRecursion, cons_option, find, list_all, list_any}
pub use Rattle.std.specs.Prelude.{IsTrue, IsUtf8, bit_and, bit_or, bit_xor, codes, cond, nat_le, nat_lt, not, replicate}
pub use Rattle.std.specs.Prelude.{◌&&◌, ◌==◌, ◌||◌, ◌↔◌}
pub use Rattle.room_acl.specs.Access.{AllowsBit, AllowsMask, EntriesAllow, IsLowestRefused, allowed_mask, allows_bit}
pub use Rattle.room_acl.specs.Access.{applies, decides, decision, decision_by, entries_allow, is_owner, owner_may}
pub use Rattle.room_acl.specs.Access.{refused_bit}
pub use Rattle.room_acl.specs.Bits.{IsFlags, IsMask, add_file, add_subdirectory, all_flags, all_list_flags, all_rights}
pub use Rattle.room_acl.specs.Bits.{append_data, delete_child, delete_object, directory_inherit, directory_inherit_flag}
pub use Rattle.room_acl.specs.Bits.{execute, file_inherit, file_inherit_flag, has_bit, identifier_group}
pub use Rattle.room_acl.specs.Bits.{identifier_group_flag, inherit_only, inherit_only_flag, inheritance_flags}
pub use Rattle.room_acl.specs.Bits.{inherited_flag, is_inherited, list_directory, mask_of, mask_of_places, named_bits}
pub use Rattle.room_acl.specs.Bits.{no_propagate, no_propagate_flag, owner_rights, read_acl, read_attributes, read_data}
pub use Rattle.room_acl.specs.Bits.{read_named_attrs, synchronize, without_inherited, write_acl, write_attributes}
pub use Rattle.room_acl.specs.Bits.{write_data, write_named_attrs, write_owner, write_retention, write_retention_hold}
pub use Rattle.room_acl.specs.Entries.{EntryModel, IsEntry, IsWho, everyone_text, group_text, names_its_kind}
pub use Rattle.room_acl.specs.Entries.{owner_text, who_of, who_text}
pub use Rattle.room_acl.specs.Inheritance.{HandsDownEntries, HandsDownMarked, HandsDownToOwn, HandsDownTwice}
pub use Rattle.room_acl.specs.Inheritance.{entry_handed_down, flags_handed_down, flags_with_group, handed_down}
pub use Rattle.room_acl.specs.Inheritance.{in_column, mark_alone, mark_for_both, mark_for_files, mark_for_folders}
pub use Rattle.room_acl.specs.Inheritance.{may_be_own, own_entries_fault, own_part, table_row, travelling}
pub use Rattle.room_acl.specs.SubjectModel.{SubjectModel}
pub use Rattle.room_acl.specs.declared.access.Decision.TheVariants.{Allowed, Denied}
pub use Rattle.room_acl.specs.declared.subject.Standing.{Standing}
pub use Rattle.room_acl.specs.declared.who.Who.{Who}
pub use Rattle.room_acl.specs.declared.who.Who.TheVariants.{Everyone, Group, Members, Owner, User}
