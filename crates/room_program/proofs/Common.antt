-- What three or more files of these proofs take of a module elsewhere: all take it from here.
pub use Rattle.std.proofs.Common.{Bool, Err, IsErr, IsErrAnd, IsTrue, List, None, Ok, OnOk, Option, Result, Some}
pub use Rattle.std.proofs.Common.{String, [], ap, arith, false, if◌then◌else◌, inl, inr, length, refl, subst, suc, sym}
pub use Rattle.std.proofs.Common.{true, true≢false, zero, ℕ, ◌%◌, ◌&&◌, ◌++◌, ◌+◌, ◌<◌, ◌==◌, ◌^◌, ◌∙◌, ◌∷◌, ◌≡◌, ◌≢◌}
pub use Rattle.std.proofs.Common.{◌≤◌, ◌⊎◌}
pub use Rattle.std.proofs.Math.Logic.{∥∥₁_elim, ∥∥₁_map}
pub use Rattle.std.specs.Prelude.{IfErr, IfOk, codes, flat_map, string_bytes}
pub use Rattle.sqlite.proofs.Theorems.{next_run, opens_again}
pub use Rattle.sqlite.specs.Effect.{Database, IsDatabase}
pub use Rattle.sqlite.specs.FileStore.{files as files_in, recovers, state, view}
pub use Rattle.sqlite.specs.Files.{HoldsDatabase, IsClosed, IsNothing, NamesSize, SaysSums, file_state, image_of}
pub use Rattle.sqlite.specs.Files.{over_files}
pub use Rattle.sqlite.specs.Held.{AreDatabases, Held}
pub use Rattle.sqlite.specs.Recovery.{Image, IsIgnored}
pub use Rattle.sqlite.specs.State.{HasCleanDisk, IsLive, State, Survives}
pub use Rattle.sqlite.specs.WalFiles.{image_at, outcomes}
pub use Rattle.sqlite.specs.declared.FileStore.{FileStore}
pub use Rattle.sqlite_disk.specs.declared.Disk.{Ghosts}
pub use Rattle.sqlite_store.specs.Laws.{settled_at, stays_at}
pub use Rattle.sqlite_trees.specs.Tree.{Trees}
pub use Rattle.room_acl.specs.SubjectModel.{SubjectModel}
pub use Rattle.room_records.specs.Records.{Records}
pub use Rattle.room_records.specs.Room.{Room, fresh_room}
pub use Rattle.room_records.specs.Shelf.{LeavesNew, View}
pub use Rattle.room_cache.specs.Cached.{cached_view}
pub use Rattle.room_cache.specs.declared.known.Known.{Known}
pub use Rattle.room_wire.specs.Asks.EventModel.{EventModel, Slot}
pub use Rattle.room_tables.specs.Layout.{AreOfRoom, IsRoomOfVersion1, IsRoomOfVersion2, under}
pub use Rattle.room_tables.specs.Rows.{IsVersion, records_of, version_rows}
pub use Rattle.room_tables.specs.Tables.{Fresh, Layout, Upgraded, first_schema, has_a_table, has_first_room, has_room}
pub use Rattle.room_tables.specs.Tables.{room_schema, schema_0}
pub use Rattle.room_sql.proofs.Frames.{was_clean}
pub use Rattle.room_sql.specs.SqlView.{sql_view}
pub use Rattle.room_sql.specs.Taken.{IsTaken, MayBeTaken}
pub use Rattle.room_sql.specs.declared.sql_shelf.SqlShelf.{SqlShelf}
pub use Rattle.room_desk.proofs.Beginnings.{stand_at_first}
pub use Rattle.room_desk.specs.AnswerModel.{AnswerModel, Refused, Reply}
pub use Rattle.room_desk.specs.Client.{Attempt, Client, HasDone, HearsLess, HoldsSlot, IsAsk, IsTold, KeepsRule, Lane}
pub use Rattle.room_desk.specs.Client.{Taken, idle, is_lost, ran}
pub use Rattle.room_desk.specs.ClientRuns.{Leads, LeadsBy, attempts_in}
pub use Rattle.room_desk.specs.History.{History, leaves_no_reply, state_after}
pub use Rattle.room_desk.specs.Representation.{RepresentsHistory, StandsFor, StandsWith}
pub use Rattle.room_desk.specs.Serving.{AnswersMessage, EventAnswered, IsRun, MayAnswer}
pub use Rattle.room_words.specs.declared.job.Job.TheVariants.{Check, Init, Replay, Report, Selftest, Serve}
pub use Rattle.room_words.specs.declared.job.ReportKind.{ReportKind}
pub use Rattle.room_program.specs.Calls.{AcceptsEach, Exchange, IsUnknown, ServesEach}
pub use Rattle.room_program.specs.Ends.{InitEnds, IsAnswered, SelftestEnds, due_answers, first_sent, second_sent}
pub use Rattle.room_program.specs.Files.{Adopted, IsUnopened, Made, MakesAt, OpensStore, Takes, TakesRoom, TakesRoster}
pub use Rattle.room_program.specs.Files.{Unmade, Untaken}
pub use Rattle.room_program.specs.Found.{ActsOn, Closes, Holds, HoldsNothing, HoldsRoom, HoldsStill, IsLeftBy}
pub use Rattle.room_program.specs.Found.{IsOpenedOver, IsRefusedIn, IsSparedIn, LetsGo, MayBeLeft, SeesSums, SparesRoom}
pub use Rattle.room_program.specs.Found.{StayUnopened}
pub use Rattle.room_program.specs.Halts.{AnsweredThenLeft, HoldsFreshOrNone, HoldsOldOrBeside, HoldsOldOrNew}
pub use Rattle.room_program.specs.Halts.{HoldsRoomWith, IsTakenOut, StandsOrWith, connection_of}
pub use Rattle.room_program.specs.Machines.{Call}
pub use Rattle.room_program.specs.Machines.Call.{asks, closes, hears, leaves, looks, opens, reads}
pub use Rattle.room_program.specs.Restarts.{ActsOnce, AnswersOrMore, GoesOnOrMore, KeepsRoom, KeepsRoomOrMore, MayAsk}
pub use Rattle.room_program.specs.Restarts.{OrMore, Rosters, Steps}
pub use Rattle.room_program.specs.Rolls.{Comes, GaveOnce, Misses, Rereads, Roll, ServedTo, TakesRoll, Visit}
pub use Rattle.room_program.specs.Rolls.{roll, rosters_over}
pub use Rattle.room_program.specs.Rooms.{Listens, Reports, ServesRoom, WritesReport, report_text, rosters_in}
pub use Rattle.room_program.specs.Runs.{Ends, Means, Runs, RunsJob, Streams, means, streams}
pub use Rattle.room_program.specs.Streams.{Carries, GoesOn, GoesOnBy, Served, ServesSome}
pub use Rattle.room_program.specs.declared.fault.Fault.{Fault}
pub use Rattle.room_program.specs.declared.left.Left.{Left}
pub use Rattle.room_program.specs.declared.left.Left.TheVariants.{Copied, Kept, Nothing, Uncopied, Unopened}
