-- What three or more files of these proofs take of a module elsewhere: all take it from here.
pub use Rattle.std.proofs.Common.{Bool, Err, IfOk, IsErr, IsErrAnd, IsSome, List, None, Ok, OnOk, Option, Result, Some}
pub use Rattle.std.proofs.Common.{[], ap, arith, cond, false, get_or, inl, inr, is_some, length, map, nat_eq, nat_lt}
pub use Rattle.std.proofs.Common.{not, option_map, refl, reverse, subst, suc, sym, take, true, vec_capacity, vec_len}
pub use Rattle.std.proofs.Common.{zero, ℕ, ◌%◌, ◌&&◌, ◌++◌, ◌+◌, ◌-◌, ◌<◌, ◌^◌, ◌↔◌, ◌∙◌, ◌∷◌, ◌≡◌, ◌≢◌, ◌≤◌, ◌⊎◌}
pub use Rattle.std.proofs.lemmas.Bool.{and_from, and_left, and_parts, and_right, both_ways, cases_Bool, cond_both}
pub use Rattle.std.proofs.lemmas.Bool.{eq-eqb, eqb-true, false_from_ne_true, false≢true, lt-ltb, ltb-true}
pub use Rattle.std.proofs.lemmas.Bool.Decides.{nat_tests}
pub use Rattle.std.proofs.lemmas.Grind.{common_steps}
pub use Rattle.std.proofs.lemmas.List.{append_assoc, length-append, length-map, length_push, map-append, same_from_push}
pub use Rattle.std.proofs.lemmas.List.{take_all, take_more}
pub use Rattle.std.proofs.lemmas.Option.{none-some, same_Some}
pub use Rattle.std.specs.Bool.{then_some}
pub use Rattle.std.specs.Cmp.Lexicographic.{bytes_decides}
pub use Rattle.std.specs.List.{AllByRecursion, Contains}
unfoldable pub use Rattle.std.specs.List.{IsDistinct}
pub use Rattle.std.specs.Option.{option_map_or, option_or, unwrap_or}
pub use Rattle.std.specs.Prelude.{IsTrue, codes, if◌then◌else◌, ⊤, ◌==◌}
pub use Rattle.std.specs.Str.{bytes_eq}
pub use Rattle.room_acl.specs.Bits.{add_file, add_subdirectory, append_data, delete_object, execute, list_directory}
pub use Rattle.room_acl.specs.Bits.{no_list_flags, read_acl, read_attributes, read_data, write_acl, write_data}
pub use Rattle.room_acl.specs.Bits.{write_owner}
pub use Rattle.room_acl.specs.SubjectModel.{SubjectModel}
pub use Rattle.room_slots.specs.KeptModel.{KeptModel}
pub use Rattle.room_slots.specs.Slots.{is_next, kept_seq, next_number, verdict}
pub use Rattle.room_records.proofs.Shelves.{call_then, calls_then, no_call, none_not_store}
pub use Rattle.room_records.specs.Changes.{IsOfObjects, ObjectRulesHoldAfterEach, RulesHoldAfterEach}
pub use Rattle.room_records.specs.Changes.{apply_all_to_objects, apply_change, apply_changes, apply_to_sessions}
pub use Rattle.room_records.specs.Names.{Name, Path, path_eq}
pub use Rattle.room_records.specs.Records.{ObjectRecords, Records, root_number}
pub use Rattle.room_records.specs.Representation.{NamesUpwards, NodeIsObject, RepresentsRoom}
pub use Rattle.room_records.specs.Room.{IsRoom, Object, Room, fresh_entries, fresh_room, list_of, object_at, parent_of}
pub use Rattle.room_records.specs.Room.{standing_of}
pub use Rattle.room_records.specs.Rules.{IsRoot, NodeRules, ObjectRules, RulesHold, SlotRules}
pub use Rattle.room_records.specs.Shelf.{LeavesNew, LeavesOldOrNew, ShelfCall, ShelfFrame, ShelfRead, View, fault_in}
pub use Rattle.room_records.specs.declared.change.Change.TheVariants.{DropSlots, PutSession, PutSlot}
pub use Rattle.room_records.specs.declared.session.SessionRow.{SessionRow}
pub use Rattle.room_records.specs.declared.shelf.ShelfFault.{ShelfFault}
pub use Rattle.room_records.specs.declared.shelf.ShelfFault.TheVariants.{Memory, Store}
pub use Rattle.room_commands.specs.CommandModel.{CommandModel, Read}
pub use Rattle.room_commands.specs.Effect.{effect, effect_by}
pub use Rattle.room_commands.specs.Lawful.{IsLawful}
pub use Rattle.room_commands.specs.Made.{IsRoomFull, with_more}
pub use Rattle.room_commands.specs.ReplyModel.{Bytes, Done, IsNotDone, NotDone, Opened, Refusal, ReplyModel}
pub use Rattle.room_commands.specs.ReplyModel.{reply_model}
pub use Rattle.room_wire.proofs.Lemmas.Serving.Rounds.{first_answered, no_output, outputs_then, with_first}
pub use Rattle.room_wire.specs.Asks.AskOf.{AskModel, Check, DecodesAsk, Event, ask_of, event_asked, request_by}
pub use Rattle.room_wire.specs.Asks.AskOf.{sent_event}
pub use Rattle.room_wire.specs.Asks.EventModel.{Close, EventModel, Open, Request, Slot, event_model}
pub use Rattle.room_wire.specs.Forms.Texts.{command_text, reply_text}
pub use Rattle.room_wire.specs.Messages.MessageModel.{IsMessage, MessageModel}
pub use Rattle.room_wire.specs.Serving.Outputs.{InTurn, Outputs, Writes}
pub use Rattle.room_wire.specs.declared.answers.answer.Answer.{Answer}
pub use Rattle.room_wire.specs.declared.answers.code.Code.TheVariants.{BadRequest, BadSession, BadSlot, Delay}
pub use Rattle.room_wire.specs.declared.answers.code.Code.TheVariants.{RetryUncached, SeqFalseRetry, SeqMisordered}
pub use Rattle.room_wire.specs.declared.answers.code.Code.TheVariants.{SessionTaken}
pub use Rattle.room_wire.specs.declared.fault.WireFault.{WireFault}
pub use Rattle.room_desk.specs.AlikePasts.{AlikePasts, Begin, Both, First, LeavesSessions, Others, Second}
pub use Rattle.room_desk.specs.AlikePasts.{asks_lawfully, asks_own, caller_of, is_own, sid_of, told}
pub use Rattle.room_desk.specs.AnswerModel.{AnswerModel, IsTurnedAway, Refused, Reply, answer_model}
pub use Rattle.room_desk.specs.Client.{Asks, AsksOn, Attempt, Client, HasDone, HasNumber, HearsLess, HoldsSlot, IsAsk}
pub use Rattle.room_desk.specs.Client.{IsTold, IsUsed, KeepsRule, Lane, Meets, Taken, answer_again, attempts_of, idle}
pub use Rattle.room_desk.specs.Client.{is_lost, is_of, is_others, ran, tells_done}
pub use Rattle.room_desk.specs.History.{Accepted, AcceptsLawful, History, Session, accepted, accepts, answer_close}
pub use Rattle.room_desk.specs.History.{answer_open, answer_to, answer_unaccepted, changes_rows, is_accepted, is_for}
pub use Rattle.room_desk.specs.History.{is_open, is_open_for, kept_of_request, leaves_no_reply, original_reply}
pub use Rattle.room_desk.specs.History.{session_of, slots_of, state_after}
pub use Rattle.room_desk.specs.Representation.{RepresentsHistory, StandsFor, StandsWith, WasAllowed, kept_after}
pub use Rattle.room_desk.specs.Representation.{session_row_of, slot_row_of}
pub use Rattle.room_desk.specs.RowAnswers.{AnswersText, EventChangesFew, HasSlot, Ran, RanTo, answer_by_verdict}
pub use Rattle.room_desk.specs.RowAnswers.{answer_kept, answer_open_again, found_by, found_for, found_in, is_usable}
pub use Rattle.room_desk.specs.RowAnswers.{ran_row}
pub use Rattle.room_desk.specs.Serving.{Answered, AnswersMessage, AnswersOrDelays, EventAnswered, IsLeftAlone, IsRun}
pub use Rattle.room_desk.specs.Serving.{MayAnswer, Run, Step, by_event, may_ask_shelf}
pub use Rattle.room_desk.specs.SessionRows.{closed_row, opened_row, with_session_ended}
pub use Rattle.room_desk.specs.Stops.{AnswersInDoubt, AreDelayed, Doubt, StandsInDoubt, doubt_after, in_doubt, is_delay}
pub use Rattle.room_desk.specs.Stops.{no_doubt}
