-- A run, whatever it is asked: a room that the files held is in those that it leaves, and it takes the attempts that it
-- was sent.
use Rattle.room_program.proofs.Common.{◌≡◌, ◌∙◌, ◌⊎◌, ℕ, List, [], sym, subst, Attempt, Comes, Option, Result, Ok, Err}
use Rattle.room_program.proofs.Common.{ap, inl, inr, string_bytes, Ghosts, Image, FileStore, Held, over_files}
use Rattle.room_program.proofs.Common.{SubjectModel, View, Known, cached_view, SqlShelf, sql_view, Check, Init, Replay}
use Rattle.room_program.proofs.Common.{Serve, Report, Selftest, ReportKind, Fault, Left, Nothing, Exchange, Call}
use Rattle.room_program.proofs.Common.{closes, InitEnds, Takes, TakesRoom, TakesRoster, Made, Unmade, Reports}
use Rattle.room_program.proofs.Common.{ServesRoom, HoldsStill, IsLeftBy, ActsOn, SeesSums, KeepsRoomOrMore, Means}
use Rattle.room_program.proofs.Common.{Streams, Runs, RunsJob, means, GaveOnce, Rosters, rosters_in}
use Rattle.std.specs.List.{AllByRecursion}
use Rattle.clap.specs.Words.{Text}
use Rattle.room_words.specs.declared.job.Job.{Job}
use Rattle.room_program.specs.ClientFiles.{TakesAttempts, sent_to_run}
use Rattle.room_desk.proofs.ClientStreams.{Brings, brings_none}
use Rattle.room_program.proofs.ClientFiles.{brings_over, close_takes, still_takes}
use Rattle.room_program.proofs.Found.{closed_in, made_on, roster_left, replay_left, selftest_left}
use Rattle.room_program.proofs.Rolls.{gave_all, gave_first}
use Rattle.room_program.proofs.Restarts.{as_found, unopened_still, served_shut, reported_run, untaken_run, unmade_run}
use Rattle.room_program.proofs.Restarts.{took, settled, shelf_view}

module _ {D M : Type 0} (g : Ghosts D) (image : Image) (does : M → Call (Held (FileStore D g)) → M → Type 0)
    (left : M → Left D g) (stays : (file : D) → g.may_leave file (g.seen file))
    (tells : (old new : M) (call : Call (Held (FileStore D g))) → does old call new
    → ActsOn image call (left old) (left new))
    (accepts : M → Exchange → M → Type 0) (fails : M → M → Type 0)
    (accepts_so : (old new : M) (e : Exchange) → accepts old e new → left new ≡ left old)
    (fails_so : (old new : M) → fails old new → left new ≡ left old)
    (before later : M) (one : Image) (none : left before ≡ Nothing) (sees : SeesSums image (left later))
    (at : IsLeftBy image (left later) one) where
  abbrev File : Type 0
  File = Held (FileStore D g)

  abbrev Taken : Type 0
  Taken = SqlShelf (FileStore D g) over_files × Known

  abbrev takes : File → Result Taken (Fault × File) → Type 0
  takes opened taken = Takes over_files opened taken

  abbrev shown : Taken → View
  shown = cached_view (sql_view over_files)

  abbrev program : Means M File Taken
  program = means does accepts fails takes (λ taken. taken.0.conn) (Made over_files) (Unmade over_files) shown

  abbrev Keeps : Type 0
  Keeps = HoldsStill image one ⊎ ((roster : List ℕ) × (rosters : Rosters)
      × AllByRecursion (GaveOnce does roster) rosters × KeepsRoomOrMore rosters image one)

  as_it_was : left later ≡ left before → HoldsStill image one
  as_it_was same = as_found g image does left stays tells one
      (unopened_still g image does left stays tells before later one none same at)

  untaken_keeps : (roster db : List ℕ) (users : List SubjectModel) (read : M) (why : Fault)
      → TakesRoster does roster before read (Ok users) → TakesRoom does takes db read later (Err why)
      → HoldsStill image one
  untaken_keeps roster db users read why took untook =
      untaken_run g image does left stays tells db read later why one untook
      (roster_left g image does left stays tells roster before read (Ok users) took ∙ none) sees at

  init_keeps : (db owner group : List ℕ) (done : Result (Unit {0}) Fault)
      → InitEnds does (Made over_files owner group) (Unmade over_files owner group) db owner group before later done
      → HoldsStill image one
  init_keeps db owner group (Err why) ends =
      unmade_run g image does left stays tells db owner group before later why one ends none sees at
  init_keeps db owner group (Ok done) (inl (why, is, (names, same))) = absurd (let e = is in cc)
  init_keeps db owner group (Ok done) (inr (principals, inl (why, is, unopened))) = absurd (let e = is in cc)
  init_keeps db owner group (Ok done) (inr (principals, inr (opened, begun, is, (closed, made, did)))) =
      let clean = (closed_in g closed (left later) image one (tells begun later (closes closed) did) at).0 in
      let never = (made_on g image does left stays tells db owner group before begun later opened closed is made did
      clean).0 in
      λ start past held. absurd (never start past held)

  serve_keeps : (db roster : List ℕ) (port count : ℕ) (done : Result (Unit {0}) Fault)
      → ServesRoom does accepts fails takes (λ taken. taken.0.conn) shown db roster port count before later done → Keeps
  serve_keeps db roster port count done (inl (why, is, untook)) =
      inl (as_it_was (roster_left g image does left stays tells roster before later (Err why) untook))
  serve_keeps db roster port count done (inr (first, read, took, inl (why, is, untook))) =
      inl (untaken_keeps roster db first.users read why (first.text, took.read, took.gives) untook)
  serve_keeps db roster port count done
      (inr (first, read, took, inr (shelf, last, taken, over, room, listens, closed))) =
      inr (
        roster,
        rosters_in does accepts fails shown roster first port count taken over shelf last done listens,
        gave_all does roster shown accepts fails first port count taken over shelf last done listens
            (gave_first does roster before read first took),
        served_shut g image does left stays tells accepts fails db roster first port count read
            taken over later shelf last done one room listens closed at,
      )

  report_keeps : (db roster : List ℕ) (kind : ReportKind) (old new : Option (List ℕ)) (done : Result (Unit {0}) Fault)
      → Reports does takes (λ taken. taken.0.conn) shown db roster kind before later old new done
      → HoldsStill image one
  report_keeps db roster kind old new done (inl ((why, is, untook), same)) =
      as_it_was (roster_left g image does left stays tells roster before later (Err why) untook)
  report_keeps db roster kind old new done (inr (users, read, took, inl ((why, is, untook), same))) =
      untaken_keeps roster db users read why took untook
  report_keeps db roster kind old new done (inr (users, read, took, inr (taken, last, seen, room, writes, gone))) =
      reported_run g image does left stays tells db kind users read seen later taken last old new done one room
      writes gone at

  -- of a run of any other job than a `serve`
  abbrev Others : Job → Type 0
  Others (Serve db roster port count) = Unit {0}
  Others job = HoldsStill image one

  others_keep : (job : Job) (old new : Streams) (status : ℕ) → RunsJob program before later job old new status
      → Others job
  others_keep (Init db owner group) old new status (input, output, (done, ends, told)) =
      init_keeps (string_bytes db) (string_bytes owner) (string_bytes group) done ends
  others_keep (Serve db roster port count) old new status (input, output, (done, ends, told)) = tt
  others_keep (Report db roster kind) old new status (input, (done, ends, told)) =
      report_keeps (string_bytes db) (string_bytes roster) kind old.output new.output done ends
  others_keep Check old new status (same, ran) = as_it_was (ap left same)
  others_keep (Replay roster owner group) old new status (done, ran, told) =
      as_it_was (replay_left g image does left stays tells (string_bytes roster) (string_bytes owner)
      (string_bytes group) before later old.input new.input old.output new.output done ran)
  others_keep Selftest old new status (input, inl (ends, told)) =
      as_it_was (selftest_left g image does left stays tells accepts fails accepts_so fails_so before later (Ok tt)
      ends)
  others_keep Selftest old new status (input, inr (output, why, ends, told)) =
      as_it_was (selftest_left g image does left stays tells accepts fails accepts_so fails_so before later (Err why)
      ends)

  job_keeps : (job : Job) (old new : Streams) (status : ℕ) → RunsJob program before later job old new status → Keeps
  job_keeps (Serve db roster port count) old new status (input, output, (done, ends, told)) =
      serve_keeps (string_bytes db) (string_bytes roster) port count done ends
  job_keeps job old new status ran = inl (others_keep job old new status ran)

  pub run_keeps : (words : List Text) (old new : Streams) (status : ℕ)
      → Runs program before later words old new status → Keeps
  run_keeps words old new status (Ok job, is, ran) = job_keeps job old new status ran
  run_keeps words old new status (Err why, is, (same, unread, told)) = inl (as_it_was (ap left same))

  -- so it takes the attempts that it was sent
  still : HoldsStill image one → TakesAttempts [] image one
  still = still_takes image one

  closed_takes : (db : List ℕ) (read taken over : M) (shelf last : Taken)
      (sent : List Attempt) → TakesRoom does takes db read taken (Ok shelf)
      → Brings (shelf_view g stays) shelf last sent → does over (closes last.0.conn) later
      → TakesAttempts sent image one
  closed_takes db read taken over shelf last sent room brings closed =
      let (opened, is, adopted) = took g image does left stays tells db read taken shelf room in
      close_takes g stays image opened shelf last is adopted sent brings (left later)
      (tells over later (closes last.0.conn) closed) one at

  -- nothing was served
  brings_same : (shelf last : Taken) → last ≡ shelf → Brings (shelf_view g stays) shelf last []
  brings_same shelf last same =
      subst (λ s. Brings (shelf_view g stays) shelf s []) (sym same) (brings_none (shelf_view g stays) shelf)

  pub run_takes : (words : List Text) (old new : Streams) (status : ℕ)
      (ran : Runs program before later words old new status)
      → TakesAttempts (sent_to_run program before later words old new status ran) image one
  run_takes words old new status (
    Ok (Serve db roster port count),
    reads,
    (
      input,
      output,
      (
        Ok done,
        inr (first, read, took_roll, inr (shelf, last, taken, over, room, inr (bound, did, all), closed)),
        told,
      ),
    ),
  ) =
      closed_takes (string_bytes db) read taken over shelf last _ room
      (brings_over (shelf_view g stays) (settled g stays) (Comes does accepts (string_bytes roster)) count
      (bound, first) (over, all.served.0) shelf last all.served.1) closed
  run_takes words old new status (
    Ok (Serve db roster port count),
    reads,
    (
      input,
      output,
      (
        Err fault,
        inr (first, read, took_roll, inr (shelf, last, taken, over, room, inr (bound, did, all), closed)),
        told,
      ),
    ),
  ) =
      closed_takes (string_bytes db) read taken over shelf last _ room
      (brings_over (shelf_view g stays) (settled g stays) (Comes does accepts (string_bytes roster)) all.fewer.1.0
      (bound, first) all.fewer.1.2 shelf last all.fewer.1.3) closed
  run_takes words old new status (
    Ok (Serve db roster port count),
    reads,
    (
      input,
      output,
      (
        done,
        inr (first, read, took_roll, inr (shelf, last, taken, over, room, inl (is, same, unbound), closed)),
        told,
      ),
    ),
  ) =
      closed_takes (string_bytes db) read taken over shelf last [] room (brings_same shelf last same) closed
  run_takes words old new status (
    Ok (Serve db roster port count),
    reads,
    (input, output, (done, inr (first, read, took_roll, inl (why, is, untook)), told)),
  ) =
      still (untaken_keeps (string_bytes roster) (string_bytes db) first.users read why
      (first.text, took_roll.read, took_roll.gives) untook)
  run_takes words old new status
      (Ok (Serve db roster port count), reads, (input, output, (done, inl (why, is, untook), told))) =
      still (as_it_was (roster_left g image does left stays tells (string_bytes roster) before later (Err why) untook))
  run_takes words old new status (Ok job, reads, ran) =
      still (others_keep job old new status ran)
  run_takes words old new status (Err why, reads, (same, unread, told)) =
      still (as_it_was (ap left same))
