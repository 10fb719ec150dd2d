-- What three or more files of these proofs take of a module elsewhere: all take it from here.
pub use borrow.Rule.Slice.PartMut.{put_mid, same_len_mid}
pub use Rattle.std.proofs.Common.{Bool, Err, Fits, List, None, Ok, Option, Some, String, [], ap, append-nil}
pub use Rattle.std.proofs.Common.{append_assoc, ap₂, arith, bit_and, codes, cond, decimal, drop, false, get_or, inl}
pub use Rattle.std.proofs.Common.{inr, leb, length, ltb, map, min, nat_eq, refl, replicate, reverse, rules, slice_index}
pub use Rattle.std.proofs.Common.{slice_range, subst, suc, sym, take, true, w8, zero, ℕ, ◌%◌, ◌&&◌, ◌*◌, ◌++◌, ◌+◌, ◌-◌}
pub use Rattle.std.proofs.Common.{◌/◌, ◌<◌, ◌==◌, ◌^◌, ◌||◌, ◌↔◌, ◌∙◌, ◌∷◌, ◌≡◌, ◌≢◌, ◌≤◌, ◌⊎◌}
pub use Rattle.std.proofs.KnownBytes.{Appends-nil, Appends-trans, Consumes-kept, Consumes-nil, Consumes-trans}
pub use Rattle.std.proofs.Math.Bool.{or-false, or-true}
pub use Rattle.std.proofs.Math.Seq.{drop-append_seam, take-add, take-append-add, take-append_seam}
pub use Rattle.std.proofs.lemmas.Bool.{and_from, and_parts, cases_eq, cases_lt, eqb-false, eqb-true, false_from_ne_true}
pub use Rattle.std.proofs.lemmas.Bool.{leb-true, lt-ltb, ltb-false, ltb-true, not-true, or_parts}
pub use Rattle.std.proofs.lemmas.Bool.Decides.{nat_tests}
pub use Rattle.std.proofs.lemmas.List.{drop-drop, drop-take, drop_more, get_or-append_right, get_or-map, get_or-take}
pub use Rattle.std.proofs.lemmas.List.{get_or_append_left, length-append, length-drop, length-map, length-take}
pub use Rattle.std.proofs.lemmas.List.{length-take-le, map-append, take-append-drop, take-append-le, take-take}
pub use Rattle.std.proofs.lemmas.List.{take_all, take_min, take_more, take_rest, with_items_is}
pub use Rattle.std.proofs.lemmas.Option.{cond_some, option_and_then_some, same_Some}
pub use Rattle.std.proofs.lemmas.Result.{IfOk-weaker, OkIff-at_err, OkIff-at_ok}
pub use Rattle.std.proofs.lemmas.Slice.Eq.{bytes_eq-Decides}
pub use Rattle.std.proofs.lemmas.Str.{IsAscii-drop, IsAscii-take, IsUtf8-append, IsUtf8-from_ascii, IsUtf8-from_is_utf8}
pub use Rattle.std.proofs.lemmas.Str.{IsUtf8-nil, is_utf8-from_IsUtf8}
pub use Rattle.std.specs.Char.{digit_value, is_ascii_digit, to_ascii_lowercase}
pub use Rattle.std.specs.Io.KnownBytes.{Appends, Consumes, IsAtEnd}
pub use Rattle.std.specs.List.{All, AllByRecursion, ends_with, list_all, list_any, onto_first, position}
pub use Rattle.std.specs.List.{position_or_len, slice_split, starts_with}
pub use Rattle.std.specs.Option.{option_map_or, option_zip}
pub use Rattle.std.specs.Prelude.{IfOk, IfSome, IsTrue, IsUtf8, OnOk, Result, bytes_eq, flat_map, is_ok, is_some}
pub use Rattle.std.specs.Prelude.{nat_le, nat_lt, not, option_and_then, option_map}
pub use Rattle.std.specs.Str.{IsAscii, is_utf8}
pub use Rattle.std.specs.Str.Parse.{ParsesUnsigned, digits_value}
pub use Rattle.base64.proofs.EngineFacts.{IsAscii-encode_of, decode_of-encode_of, decode_of_iff, encode_of-append}
pub use Rattle.base64.proofs.EngineFacts.{encode_of-nil}
pub use Rattle.base64.specs.Engines.{standard}
pub use Rattle.base64.specs.GeneralPurpose.{IsBytes, IsConsistent, IsDecodeFailure, IsStrict, decode_of, encode_of}
unfoldable pub use Rattle.base64.specs.GeneralPurpose.{decoded_of}
pub use Rattle.httparse.specs.Grammar.{Field, HasNoRequest, IsRequestHead, MayBecomeRequest, ReadsRequest, RequestHead}
pub use Rattle.httparse.specs.Grammar.{is_token_byte, is_uri_byte, lf, skip_ows}
unfoldable pub use Rattle.httparse.specs.Grammar.{print_request, trim_ows}
pub use Rattle.httparse.specs.Spans.{AreFieldsAt, RequestOverflows, header_bytes, name_and_value}
pub use Rattle.json.specs.Print.{escape, print, quoted}
unfoldable pub use Rattle.json.specs.Print.{escape_byte, print_from}
pub use Rattle.json.specs.Token.{Token, begin_array, begin_object, end_array, end_object, key}
pub use Rattle.json.specs.Tree.{HasNumbers, ItemsHaveNumbers, depth, items_depth, items_tokens, json_tokens}
unfoldable pub use Rattle.matchit.proofs.OnLiterals.{matchit_on_literals}
pub use Rattle.matchit.specs.Level.{AreSuffixes, IsText}
pub use Rattle.matchit.specs.Params.{after_token, next_at, part_of, walk, wild_from, wild_stop}
pub use Rattle.matchit.specs.Router.{RouteOf, map_key}
pub use Rattle.matchit.specs.Rows.{Rows, Seen, catch_all_token, empty_node, ends, param_token, prepend, rows_of}
pub use Rattle.matchit.specs.Seek.{after_param, cuts, first, has_slash, longest_suffix, param_step, segment, step}
unfoldable pub use Rattle.matchit.specs.Seek.{seek}
pub use Rattle.serde_json.specs.Data.{Data, Items, Members, array, boolean, item, member, no_items, no_members, null}
pub use Rattle.serde_json.specs.Data.{number, object, put, string, unsigned}
pub use Rattle.serde_json.specs.Find.{as_array, as_number, as_object, as_u64, get}
pub use Rattle.serde_json.specs.Read.{max_depth, of_items, of_json, of_members, read}
pub use Rattle.serde_json.specs.View.{items_view, members_of, members_view, view}
pub use Rattle.serde_json.specs.Written.{comma_if, compact_text, items_outline, items_text, members_outline}
pub use Rattle.serde_json.specs.Written.{members_text, number_text, outline}
pub use Rattle.room_acl.proofs.WhoTexts.{principal_utf8, who_back, who_of_kind, who_utf8}
pub use Rattle.room_acl.specs.Entries.{EntryModel, is_who, names_its_kind, type_of, who_of}
pub use Rattle.room_records.specs.Names.{IsFileName, IsPath, Name, Path, is_path, path_text}
pub use Rattle.room_records.specs.Writers.{AppendsFront, Sent}
pub use Rattle.room_commands.specs.CommandModel.{CommandModel, command_model}
pub use Rattle.room_commands.specs.Lawful.{AreBytes, IsEntry, IsLawful, IsWho}
pub use Rattle.room_wire.specs.Answers.AnswerModel.{AnswerModel, Refused, Reply, answer_bytes, answer_model}
pub use Rattle.room_wire.specs.Answers.AnswerModel.{answer_parts, bad_answer, end_text, head_text, phrase}
pub use Rattle.room_wire.specs.Asks.AskOf.{RoutesAsk, ask_for, caller_by, is_number, number_from}
pub use Rattle.room_wire.specs.Asks.Routing.{TargetModel, action_of, check_rows, first_part, is_ascii, is_mark}
pub use Rattle.room_wire.specs.Asks.Routing.{is_route, later_parts, room_rows, session_tokens, slot_tokens, target_at}
pub use Rattle.room_wire.specs.Asks.Routing.{target_by}
pub use Rattle.room_wire.specs.Asks.Targets.{IsPart, IsTargetOf, is_part, part_at, parted, room_target, route_of}
pub use Rattle.room_wire.specs.Forms.Commands.{asked_in, bytes_in, command_in, command_of_body, has_parts, keep_at}
pub use Rattle.room_wire.specs.Forms.Commands.{list_flags_from, names_in, of_bytes, of_path, path_at, path_from}
pub use Rattle.room_wire.specs.Forms.Commands.{verb_command, verb_from}
pub use Rattle.room_wire.specs.Forms.Reading.{all_among, all_at, allow_from, count, entry_from, entry_in, flags_from}
pub use Rattle.room_wire.specs.Forms.Reading.{has_count, is_principal, json_of, mask_at, mask_from, number_at}
pub use Rattle.room_wire.specs.Forms.Reading.{principal_at, principal_from, principal_in, text_at, who_from}
pub use Rattle.room_wire.specs.Forms.Texts.{at, bytes, cmd, command_data, command_text, entries, entry, members, named}
pub use Rattle.room_wire.specs.Forms.Texts.{named_child, num, obj, ok, path, refusal_data, reply_data, who_text}
pub use Rattle.room_wire.specs.Messages.Fields.{IsFound, body_length, has_name, values_named}
pub use Rattle.room_wire.specs.Messages.Limits.{max_body, max_fields, max_head, max_message}
pub use Rattle.room_wire.specs.Messages.MessageModel.{MessageModel, NeverMessage, NoMessage, Reads, body_after}
pub use Rattle.room_wire.specs.Messages.MessageModel.{print_message}
pub use Rattle.room_wire.specs.Messages.Stream.{Ended, Follows, Splits, asks_to_close, is_close, is_last, lists_close}
pub use Rattle.room_wire.specs.Questions.CheckAnswers.{allowed_data, bit_of, entries_data}
pub use Rattle.room_wire.specs.Serving.Outputs.{AnswersOne, Outputs}
pub use Rattle.room_wire.specs.declared.asks.routing.Route.{Route}
