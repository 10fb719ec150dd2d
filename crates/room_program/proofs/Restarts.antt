-- From one run to the next, over the files that the one before it left.
use Rattle.room_program.proofs.Common.{◌≡◌, ℕ, List, IsTrue, refl, sym, subst, inl, inr, false, ◌∷◌, ◌⊎◌, Option}
use Rattle.room_program.proofs.Common.{Result, Ok, Err, [], ap, ◌∙◌, ∥∥₁_map, ∥∥₁_elim, Ghosts, Trees, recovers, view}
use Rattle.room_program.proofs.Common.{next_run, opens_again, settled_at, stays_at, Database, Image, FileStore}
use Rattle.room_program.proofs.Common.{HasCleanDisk, Held, AreDatabases, file_state, over_files, HoldsDatabase}
use Rattle.room_program.proofs.Common.{SubjectModel, Records, Room, View, Known, cached_view, IsRoomOfVersion2}
use Rattle.room_program.proofs.Common.{AreOfRoom, records_of, version_rows, IsVersion, SqlShelf, sql_view, was_clean}
use Rattle.room_program.proofs.Common.{EventModel, AnswerModel, History, leaves_no_reply, RepresentsHistory, StandsFor}
use Rattle.room_program.proofs.Common.{EventAnswered, Fault, Left, Nothing, Call, Exchange, ServesEach, looks, opens}
use Rattle.room_program.proofs.Common.{closes, leaves, Listens, WritesReport, ReportKind, InitEnds, Adopted, Takes}
use Rattle.room_program.proofs.Common.{TakesRoom, OpensStore, Untaken, Made, Unmade, GoesOnBy, IsOpenedOver}
use Rattle.room_program.proofs.Common.{Holds, HoldsRoom, HoldsStill, IsLeftBy, ActsOn, MayBeLeft, SeesSums, SparesRoom}
use Rattle.room_program.proofs.Common.{ActsOnce, Steps, KeepsRoom, KeepsRoomOrMore, GoesOnOrMore, AnswersOrMore}
use Rattle.room_program.proofs.Common.{Rosters, Comes, Roll, ServedTo, rosters_in, rosters_over}
use Rattle.room_sql.specs.Resting.{leaves_rest, leaves_a_room}
use Rattle.room_desk.proofs.Stops.{sent_again}
use Rattle.room_program.specs.declared.fault.Fault.TheVariants as fault
use Rattle.room_program.proofs.Found.{stands, closed_holds, closed_in, kept_in, unopened, served}
use Rattle.room_program.proofs.Streams.{all_stay, each_answered}
use Rattle.room_program.proofs.Found.{spares, not_made, one_database, found_database}
use Rattle.room_program.proofs.Unopened.{may_hold}

module _ {D : Type 0} (g : Ghosts D) where
  -- what a crash left of a store is found by the next run
  pub found_left : (it : FileStore D g) {E : Type 0} {h : Ghosts E} (left : Image) (opened : Held (FileStore E h))
      → MayBeLeft it left → IsTrue (view it).is_numbered → AreDatabases (recovers it) → IsOpenedOver left opened
      → HasCleanDisk (file_state opened) → ∥ recovers it (file_state opened).now.trees ∥₁
  found_left it left opened may numbered sound is clean =
      let (shown, finds, plain) = is clean in
      ∥∥₁_map (next_run it numbered sound left may (file_state opened) finds)
      (λ found. subst (λ (d : Database). recovers it d.trees) (sym shown.0.clean) found)

  -- trees of rooms are databases
  pub databases : (it : FileStore D g) → ((trees : Trees) → recovers it trees → AreOfRoom trees)
      → AreDatabases (recovers it)
  databases it laid trees may = let (schema, room) = laid trees may in (schema, room.sound)

-- ---- so many steps

pub keeps_or_more : (rosters : Rosters) (found left : Image) → KeepsRoom rosters found left
    → KeepsRoomOrMore rosters found left
keeps_or_more rosters found left keeps start past held =
    let (next, goes, there) = keeps start past held in
    ∣ (next, (next, goes, inl refl), there) ∣₁

pub still_keeps : (rosters : Rosters) (found left : Image) → HoldsStill found left
    → KeepsRoomOrMore rosters found left
still_keeps rosters found left still start past held =
    ∥∥₁_map (still start past held) (λ there. (past, (past, all_stay rosters start past, inl refl), there))

abbrev GoOn : Room → List Rosters → (past next : History) → Type 0
GoOn start runs past next = Steps (λ rosters past next. GoesOnBy rosters start past next) runs past next

pub room_after : (runs : List Rosters) (found left : Image) (start : Room) (past : History)
    → Steps KeepsRoom runs found left → HoldsRoom found start past
    → (next : History) × GoOn start runs past next × HoldsRoom left start next
room_after [] found left start past same held = (past, refl, subst (λ i. HoldsRoom i start past) (sym same) held)
room_after (rosters ∷ more) found left start past (mid, keeps, later) held =
    let (then, goes, there) = keeps start past held in
    let (next, on, last) = room_after more mid left start then later there in
    (next, (then, goes, on), last)

abbrev GoOnOrMore : Room → List Rosters → (past next : History) → Type 0
GoOnOrMore start runs past next = Steps (λ rosters past next. GoesOnOrMore rosters start past next) runs past next

pub room_after_or_more : (runs : List Rosters) (found left : Image) (start : Room) (past : History)
    → Steps KeepsRoomOrMore runs found left → HoldsRoom found start past
    → ∥ ((next : History) × GoOnOrMore start runs past next × HoldsRoom left start next) ∥₁
room_after_or_more [] found left start past same held =
    ∣ (past, refl, subst (λ i. HoldsRoom i start past) (sym same) held) ∣₁
room_after_or_more (rosters ∷ more) found left start past (mid, keeps, later) held =
    ∥∥₁_elim (keeps start past held) squash₁ (λ one.
    let (then, goes, there) = one in
    ∥∥₁_map (room_after_or_more more mid left start then later there) (λ all. (all.0, (then, goes, all.1), all.2)))

-- ---- one run over files that held a room

-- its shelf went from one history to the next
abbrev RunsOn : {S : Type 0} (view : S → View) → Rosters → S → S → Type 0
RunsOn view rosters taken last = (start : Room) (past : History) → StandsFor start past (view taken)
    → (next : History) × GoesOnBy rosters start past next × StandsFor start next (view last)

module _ {D : Type 0} (g : Ghosts D) (found left : Image) (opened : Held (FileStore D g))
    (taken last : SqlShelf (FileStore D g) over_files × Known) (rosters : Rosters)
    (is : IsOpenedOver found opened) (adopted : Adopted over_files opened taken)
    (clean : HasCleanDisk (file_state last.0.conn)) where
  -- the files hold then what the store showed last
  pub keeps_room : RunsOn (cached_view (sql_view over_files)) rosters taken last
      → IsTrue (file_state last.0.conn).is_open → Holds left (file_state last.0.conn).now
      → KeepsRoom rosters found left
  keeps_room on is_open holds start past held =
      let (next, goes, stand) = on start past (stands g found start past held opened taken is adopted) in
      let (laid_out, rows) = stand (clean, is_open) in (
        next,
        goes,
        record { db = (file_state last.0.conn).now; held = holds; room = inl laid_out.0.0; rows = rows },
      )

  -- or that with one event more, where they hold what a crash may leave of it
  room_or_more : AnswersOrMore (cached_view (sql_view over_files)) rosters taken last → (start : Room) (past : History)
      → HoldsRoom found start past → (trees : Trees) → recovers last.0.conn.store trees → HoldsDatabase left trees
      → (next : History) × GoesOnOrMore rosters start past next × HoldsRoom left start next
  room_or_more answers start past held trees may holds =
      let (next, goes, left_so, laid) =
      answers start past (stands g found start past held opened taken is adopted) in
      let (schema, of_room) = laid trees may in
      let room : (past : History) → RepresentsHistory start (records_of trees) past → HoldsRoom left start past
      = λ past rows. record {
        db = record { schema = schema; trees = trees };
        held = record { trees = ∣ holds ∣₁; sound = of_room.sound };
        room = inl of_room;
        rows = rows;
      } in elim (left_so (records_of trees) (clean, (trees, may, refl))) [
        | inl rows ↦ (next, (next, goes, inl refl), room next rows)
        | inr (event, asked, (changes, rows)) ↦ (
          event ∷ next,
          (next, goes, inr (event, asked, (changes, refl))),
          room (event ∷ next) rows,
        )
      ]

  -- so they do while it is there
  pub open_or_more : AnswersOrMore (cached_view (sql_view over_files)) rosters taken last
      → ((file : D) → g.may_leave file (g.seen file)) → IsTrue (file_state last.0.conn).is_open
      → Holds left (file_state last.0.conn).now → KeepsRoomOrMore rosters found left
  open_or_more answers stays is_open holds start past held =
      let may = subst (recovers last.0.conn.store) (sym (last.0.rests is_open))
      (stays_at last.0.conn.store stays is_open) in
      ∥∥₁_map holds.trees (λ there.
      room_or_more answers start past held (file_state last.0.conn).now.trees may there)

  -- and once a fault has shut it, where they were left by a store that leaves no more than its own
  pub keeps_room_or_more : AnswersOrMore (cached_view (sql_view over_files)) rosters taken last
      → (it : FileStore D g) → ((trees : Trees) → recovers it trees → recovers last.0.conn.store trees)
      → IsTrue (view it).is_numbered → MayBeLeft it left → KeepsRoomOrMore rosters found left
  keeps_room_or_more answers it only numbered at start past held =
      let (next, goes, left_so, laid) =
      answers start past (stands g found start past held opened taken is adopted) in
      let sound : AreDatabases (recovers it) = λ trees may. databases g last.0.conn.store laid trees (only trees may) in
      ∥∥₁_map (opens_again it numbered sound left at) (λ one.
      room_or_more answers start past held one.0 (only one.0 one.1) one.2)

-- a report over a shelf of a room that the files held: it is in what a crash leaves of a store that leaves no more than
-- its own
module _ {D : Type 0} (g : Ghosts D) (image one : Image) (opened : Held (FileStore D g))
    (taken last : SqlShelf (FileStore D g) over_files × Known) (is : IsOpenedOver image opened)
    (adopted : Adopted over_files opened taken) (stays : (file : D) → g.may_leave file (g.seen file)) where
  pub report_still : (kind : ReportKind) (users : List SubjectModel) (old new : Option (List ℕ))
      (done : Result (Unit {0}) Fault)
      → WritesReport (cached_view (sql_view over_files)) kind users taken last old new done
      → HasCleanDisk (file_state last.0.conn) → (it : FileStore D g)
      → ((trees : Trees) → recovers it trees → recovers last.0.conn.store trees) → IsTrue (view it).is_numbered
      → MayBeLeft it one → HoldsStill image one
  report_still kind users old new done writes clean it only numbered may start past held =
      let was = writes.read.call.frame.was_intact clean in
      let there = (adopted.1 was).0 in
      let (laid_out, rows) = stands g image start past held opened taken is adopted (was, there) in
      let settled : (trees : Trees) → recovers taken.0.conn.store trees → trees ≡ (file_state taken.0.conn).now.trees
      = λ trees left. settled_at taken.0.conn.store stays trees there left ∙ sym (taken.0.rests there) in
      let laid : (trees : Trees) → recovers last.0.conn.store trees → AreOfRoom trees =
      writes.read.stays_laid_out clean (λ trees left. (
        (file_state taken.0.conn).now.schema,
        subst (λ t. IsRoomOfVersion2 (record { schema = (file_state taken.0.conn).now.schema; trees = t }))
            (sym (settled trees left)) laid_out.0.0,
      )) in
      let sound : AreDatabases (recovers it)
      = λ trees left. databases g last.0.conn.store laid trees (only trees left) in
      ∥∥₁_map (opens_again it numbered sound one may) (λ one_of.
      let (trees, here, holds) = one_of in
      let left = only trees here in
      let (schema, of_room) = laid trees left in
      let (intact, (before, was_left, as_before)) = writes.read.crash (records_of trees) (clean, (trees, left, refl)) in
      record {
        db = record { schema = schema; trees = trees };
        held = record { trees = ∣ holds ∣₁; sound = of_room.sound };
        room = inl of_room;
        rows = subst (λ r. RepresentsHistory start r past)
            (sym (as_before ∙ ap records_of (settled before was_left))) rows;
      })

-- the laws of a shelf, of the program's
module _ {D : Type 0} (g : Ghosts D) (stays : (file : D) → g.may_leave file (g.seen file)) where
  abbrev pub shelf_view : SqlShelf (FileStore D g) over_files × Known → View
  shelf_view = cached_view (sql_view over_files)

  pub settled : (s : SqlShelf (FileStore D g) over_files × Known) (left : Records) → (shelf_view s).is_available
      → (shelf_view s).crash_may_leave left → left ≡ (shelf_view s).records
  settled s left there may =
      leaves_rest (s.0.rests there.1) (λ trees. settled_at s.0.conn.store stays trees there.1) left may.1

  pub leaves_laid_out : (s : SqlShelf (FileStore D g) over_files × Known) → (shelf_view s).is_available
      → (shelf_view s).is_laid_out → (shelf_view s).leaves_laid_out
  leaves_laid_out s there laid =
      leaves_a_room (s.0.rests there.1) laid.0.0 (λ trees. settled_at s.0.conn.store stays trees there.1)

-- a `serve` that took its room and closed it
module _ {D M : Type 0} (g : Ghosts D) (image : Image) (does : M → Call (Held (FileStore D g)) → M → Type 0)
    (left : M → Left D g) (stays : (file : D) → g.may_leave file (g.seen file))
    (tells : (old new : M) (call : Call (Held (FileStore D g))) → does old call new
    → ActsOn image call (left old) (left new)) where
  abbrev Taken : Type 0
  Taken = SqlShelf (FileStore D g) over_files × Known

  pub took : (db : List ℕ) (old new : M) (shelf : Taken)
      → TakesRoom does (λ opened taken. Takes over_files opened taken) db old new (Ok shelf)
      → (opened : Held (FileStore D g)) × IsOpenedOver image opened × Adopted over_files opened shelf
  took db old new shelf (inl (begun, looked, none)) = absurd (unopened begun shelf none)
  took db old new shelf (inr (seen, looked, inl (fault, bad, opened))) = absurd (let e = bad in cc)
  took db old new shelf (inr (seen, looked, inr (opened, begun, is, (adopted, same)))) =
      (opened, (tells seen begun (opens db (Ok opened)) is).0, adopted)

  abbrev shown : Taken → View
  shown = cached_view (sql_view over_files)

  pub served_run : (accepts : M → Exchange → M → Type 0) (fails : M → M → Type 0) (db roster : List ℕ)
      (first : Roll) (port count : ℕ) (read taken over later : M) (shelf last : Taken)
      (done : Result (Unit {0}) Fault) (one : Image)
      → TakesRoom does (λ opened taken. Takes over_files opened taken) db read taken (Ok shelf)
      → (listens : Listens does accepts fails shown roster first port count taken over shelf last done)
      → does over (closes last.0.conn) later → IsTrue (file_state last.0.conn).is_open → IsLeftBy image (left later) one
      → KeepsRoom (rosters_in does accepts fails shown roster first port count taken over shelf last done listens) image
      one
  served_run accepts fails db roster first port count read taken over later shelf last done one room listens closed
      is_open at =
      let (opened, is, adopted) = took db read taken shelf room in
      let some = served does shown accepts fails roster first port count taken over shelf last done listens in
      let told = tells over later (closes last.0.conn) closed in
      let clean = (closed_in g last.0.conn (left later) image one told at).0 in
      keeps_room g image one opened shelf last
      (rosters_in does accepts fails shown roster first port count taken over shelf last done listens) is adopted clean
      (some.run clean) is_open
      (closed_holds g stays last.0.conn (left later) image one told is_open (last.0.rests is_open) at)

  -- and where a fault had shut its store
  module _ (accepts : M → Exchange → M → Type 0) (fails : M → M → Type 0) where
    leave_answered : (roster : List ℕ) (n : ℕ) (old last : M × Roll) (before after : Taken)
        (each : ServesEach (Comes does accepts roster) (ServedTo shown) n old last before after)
        → (shown before).is_available → (shown after).is_intact
        → AnswersOrMore shown (rosters_over (Comes does accepts roster) shown n old last before after each) before after
    leave_answered roster n old last before after each there intact =
        each_answered shown (settled g stays) (leaves_laid_out g stays) (Comes does accepts roster) n old last before
        after each there intact

    answered : (roster : List ℕ) (first : Roll) (port count : ℕ) (taken over : M) (shelf last : Taken)
        (done : Result (Unit {0}) Fault)
        (listens : Listens does accepts fails shown roster first port count taken over shelf last done)
        → (shown shelf).is_available → (shown last).is_intact → AnswersOrMore shown
        (rosters_in does accepts fails shown roster first port count taken over shelf last done listens) shelf last
    answered roster first port count taken over shelf last done (inl (is, same, bound)) there intact =
        leave_answered roster 0 (taken, first) (taken, first) shelf last (refl, same) there intact
    answered roster first port count taken over shelf last (Ok done) (inr (bound, did, all)) there intact =
        leave_answered roster count (bound, first) (over, all.served.0) shelf last all.served.1 there intact
    answered roster first port count taken over shelf last (Err why) (inr (bound, did, all)) there intact =
        leave_answered roster all.fewer.1.0 (bound, first) all.fewer.1.2 shelf last all.fewer.1.3 there intact

    pub served_shut : (db roster : List ℕ) (first : Roll) (port count : ℕ) (read taken over later : M)
        (shelf last : Taken) (done : Result (Unit {0}) Fault) (one : Image)
        → TakesRoom does (λ opened taken. Takes over_files opened taken) db read taken (Ok shelf)
        → (listens : Listens does accepts fails shown roster first port count taken over shelf last done)
        → does over (closes last.0.conn) later → IsLeftBy image (left later) one → KeepsRoomOrMore
        (rosters_in does accepts fails shown roster first port count taken over shelf last done listens) image one
    served_shut db roster first port count read taken over later shelf last done one room listens closed at =
        let rosters = rosters_in does accepts fails shown roster first port count taken over shelf last done listens in
        let (opened, is, adopted) = took db read taken shelf room in
        let some = served does shown accepts fails roster first port count taken over shelf last done listens in
        let (clean, either) =
        closed_in g last.0.conn (left later) image one (tells over later (closes last.0.conn) closed)
        at in
        let was = some.frame.was_intact clean in
        elim either [
          | inl is_open ↦ keeps_or_more rosters image one (served_run accepts fails db roster first port count read
              taken over later shelf last done one room listens closed is_open at)
          | inr (it, (kept, sure), numbered, may) ↦ keeps_room_or_more g image one opened shelf last rosters is adopted
              clean (answered roster first port count taken over shelf last done listens (was, (adopted.1 was).0) clean)
              it kept.quiet.outcomes numbered may
        ]

  -- a report over it, which lets it go
  pub reported_run : (db : List ℕ) (kind : ReportKind) (users : List SubjectModel) (read seen later : M)
      (taken last : Taken) (old new : Option (List ℕ)) (done : Result (Unit {0}) Fault) (one : Image)
      → TakesRoom does (λ opened taken. Takes over_files opened taken) db read seen (Ok taken)
      → WritesReport shown kind users taken last old new done
      → does seen (leaves last.0.conn) later → IsLeftBy image (left later) one → HoldsStill image one
  reported_run db kind users read seen later taken last old new done one room writes gone at =
      let (opened, is, adopted) = took db read seen taken room in
      let (clean, (it, (kept, sure), numbered, may)) =
      kept_in g last.0.conn (left later) image one (tells seen later (leaves last.0.conn) gone) at in
      report_still g image one opened taken last is adopted stays kind users old new done writes clean it
      kept.quiet.outcomes numbered may

  -- no file was opened, so they are as they were found
  pub unopened_still : (from to : M) (one : Image) → left from ≡ Nothing → left to ≡ left from
      → IsLeftBy image (left to) one → one ≡ image
  unopened_still from to one none same at = subst (λ (l : Left D g). IsLeftBy image l one) (same ∙ none) at

  pub as_found : (one : Image) → one ≡ image → HoldsStill image one
  as_found one same start past held = ∣ subst (λ i. HoldsRoom i start past) (sym same) held ∣₁

  spared_run : (read later : M) (one : Image) → left read ≡ Nothing → SeesSums image (left later)
      → IsLeftBy image (left later) one → SparesRoom does left image read later → HoldsStill image one
  spared_run read later one none sees at (inl same) = as_found one (unopened_still read later one none same at)
  spared_run read later one none sees at (inr (inl stay)) = λ start past held. ∣ record {
    db = held.db;
    held = stay sees held.db held.held one at;
    room = held.room;
    rows = held.rows;
  } ∣₁
  spared_run read later one none sees at (inr (inr (begun, (let_go, gone, is)))) = is.room one at

  -- a room that was not taken
  pub untaken_run : (db : List ℕ) (read later : M) (why : Fault) (one : Image)
      → TakesRoom does (λ opened taken. Takes over_files opened taken) db read later (Err why)
      → left read ≡ Nothing → SeesSums image (left later) → IsLeftBy image (left later) one → HoldsStill image one
  untaken_run db read later why one untook none sees at =
      spared_run read later one none sees at (spares g image does left stays tells db read later why untook)

  -- what was none stays
  pub no_room_run : (db : List ℕ) (read later : M) (one : Image) (held : Database)
      → TakesRoom does (λ opened taken. Takes over_files opened taken) db read later (Err fault.NotARoom)
      → left read ≡ Nothing → IsLeftBy image (left later) one → Holds image held → Holds one held
  no_room_run db read later one held (inl (begun, looked, none)) clear at holds =
      subst (λ i. Holds i held)
      (sym (unopened_still read later one clear (tells read later (looks db begun) looked) at)) holds
  no_room_run db read later one held (inr (seen, looked, inl (why, is, opened))) clear at holds =
      let same : why ≡ fault.NotARoom = (let e = is in cc) in
      absurd (subst (λ f. OpensStore does db seen later (Err f)) same opened)
  no_room_run db read later one held (inr (seen, looked, inr (opened, begun, is, (let_go, none, gone)))) clear at
      holds =
      let over = (tells seen begun (opens db (Ok opened)) is).0 in
      let (clean, (it, (kept, sure), numbered, may)) =
      kept_in g let_go (left later) image one (tells begun later (leaves let_go) gone) at in
      let before = (none.no_room refl).0 in
      let was = was_clean before clean in
      let same = found_database g image held holds opened over was in
      may_hold g it one held may numbered holds.sound (λ trees found.
      elim (before.crash clean trees (kept.quiet.outcomes trees found)) [
        | inl old ↦ settled_at opened.store stays trees (over was).0.0.is_open old
            ∙ sym (ap (λ (d : Database). d.trees) (over was).0.0.clean) ∙ ap (λ (d : Database). d.trees) same
        | inr none ↦ absurd none
      ])

  -- a room that was there as one was to be made
  pub unmade_run : (db owner group : List ℕ) (before later : M) (why : Fault) (one : Image)
      → InitEnds does (Made over_files owner group) (Unmade over_files owner group) db owner group before later
      (Err why)
      → left before ≡ Nothing → SeesSums image (left later) → IsLeftBy image (left later) one → HoldsStill image one
  unmade_run db owner group before later why one ends none sees at =
      spared_run before later one none sees at
      (not_made g image does left stays tells db owner group before later why ends)

-- the next run finds a room with records that the crash may leave of a store that a fault had shut
pub found_records : {D E : Type 0} (g : Ghosts D) (h : Ghosts E) (was : SqlShelf (FileStore D g) over_files)
    (left : Image) (opened : Held (FileStore E h)) → HasCleanDisk (file_state was.conn)
    → (sql_view over_files was).leaves_laid_out → IsTrue (view was.conn.store).is_numbered
    → MayBeLeft was.conn.store left → IsOpenedOver left opened
    → HasCleanDisk (file_state opened) → ∥ (IsRoomOfVersion2 (file_state opened).now
    × (sql_view over_files was).crash_may_leave (records_of (file_state opened).now.trees)) ∥₁
found_records g h was left opened clean laid numbered may is there =
    let (shown, finds, plain) = is there in
    ∥∥₁_map (found_left g was.conn.store left opened may numbered (databases g was.conn.store laid) is there) (λ found.
    let (schema, room) = laid _ found in (
      subst IsRoomOfVersion2 (one_database _ _ room.sound (shown.1 shown.0.is_open).0 refl) room,
      (clean, (_, found, refl)),
    ))

-- what holds a room is not refused as none
pub known : {D : Type 0} (g : Ghosts D) (image : Image) (start : Room) (past : History) → HoldsRoom image start past
    → (opened let_go : Held (FileStore D g)) → IsOpenedOver image opened
    → Untaken over_files opened let_go fault.NotARoom → HasCleanDisk (file_state let_go) → ⊥
known g image start past held opened let_go is none clean =
    let was = was_clean none.spared.2 clean in
    let same = found_database g image held.db held.held opened is was in
    let schema = ap (λ (d : Database). d.schema) same in
    let rows = ap (λ (d : Database). version_rows d.trees) same in
    let other = (none.no_room refl).1 clean in
    elim held.room [
      | inl two ↦ other.second two.room.layout (schema ∙ two.room.schema) (subst (IsVersion 2) (sym rows) two.version)
      | inr one ↦ other.first (schema ∙ one.schema) (subst (IsVersion 1) (sym rows) one.version)
    ]

-- and an event that is sent again acts once
pub again : {D : Type 0} (g : Ghosts D) (image : Image) (opened : Held (FileStore D g))
    (taken after : SqlShelf (FileStore D g) over_files × Known) (event : EventModel) (answered : AnswerModel)
    (start : Room) (past : History) → HoldsRoom image start past ⊎ HoldsRoom image start (event ∷ past)
    → IsOpenedOver image opened → Adopted over_files opened taken
    → EventAnswered (cached_view (sql_view over_files)) taken event answered after
    → (cached_view (sql_view over_files) after).is_intact → leaves_no_reply past event ≡ false
    → ActsOnce start past event answered (cached_view (sql_view over_files) after)
again g image opened taken after event answered start past held is adopted call intact none =
    let either : StandsFor start past (cached_view (sql_view over_files) taken)
    ⊎ StandsFor start (event ∷ past) (cached_view (sql_view over_files) taken) = elim held [
      | inl without ↦ inl (stands g image start past without opened taken is adopted)
      | inr with_it ↦ inr (stands g image start (event ∷ past) with_it opened taken is adopted)
    ] in
    sent_again (cached_view (sql_view over_files)) taken after event answered start past call intact none either
