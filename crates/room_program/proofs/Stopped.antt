-- What a stop in the middle of an event leaves.
use Rattle.room_program.proofs.Common.{◌≡◌, ◌∙◌, ◌⊎◌, ℕ, List, [], false, refl, sym, ap, subst, inl, inr, ◌∷◌, Option}
use Rattle.room_program.proofs.Common.{Result, Ok, Err, ∥∥₁_map, Ghosts, Trees, outcomes, recovers, view, files_in}
use Rattle.room_program.proofs.Common.{settled_at, Database, opens_again, Image, FileStore, HasCleanDisk, Survives}
use Rattle.room_program.proofs.Common.{Held, file_state, over_files, HoldsDatabase, SubjectModel, Room, fresh_room}
use Rattle.room_program.proofs.Common.{View, LeavesNew, Known, cached_view, Fresh, has_a_table, under, records_of}
use Rattle.room_program.proofs.Common.{SqlShelf, sql_view, MayBeTaken, was_clean, EventModel, History}
use Rattle.room_program.proofs.Common.{RepresentsHistory, StandsFor, stand_at_first, Fault, Left, Adopted, Made, Takes}
use Rattle.room_program.proofs.Common.{Unmade, Closes, Holds, HoldsNothing, HoldsRoom, HoldsStill, IsLeftBy}
use Rattle.room_program.proofs.Common.{IsOpenedOver, MayBeLeft, StandsOrWith, HoldsOldOrNew, HoldsFreshOrNone}
use Rattle.room_program.proofs.Common.{HoldsRoomWith, IsTakenOut, HoldsOldOrBeside, connection_of, AnswersOrMore}
use Rattle.room_program.proofs.Common.{KeepsRoomOrMore, ReportKind, Rosters, WritesReport}
use Rattle.sqlite_disk.specs.declared.Files.{Files}
use Rattle.sqlite_pool.proofs.StateLemmas.{clean_is, may_leave_is}
use Rattle.sqlite_trees.specs.View.{IsClean}
use Rattle.sqlite_trees.proofs.Doubt.{no_doubt}
use Rattle.sqlite.specs.WalReads.{AreClean}
use Rattle.room_tables.specs.Fresh.{IsFresh, MayBeMade, StandsBeside}
use Rattle.room_program.specs.declared.fault.Fault.TheVariants as fault
use Rattle.room_program.proofs.Found.{may_room, was_sound, has_none, found_nothing, closed_holds, closed_in}
use Rattle.room_program.proofs.Found.{found_database}
use Rattle.room_program.proofs.Restarts.{open_or_more, keeps_room_or_more, report_still}

-- A store was taken out of its connection and closed, and its files have returned what was written
module _ {D : Type 0} (g : Ghosts D) (shut : Held (FileStore D g)) (it : FileStore D g)
    (out : IsTakenOut over_files shut it) (files : Files D) (closed : (files.log, files.db) ≡ files_in it)
    (honest : AreClean g files.log files.db) where
  sure_in : AreClean g (files_in it).0 (files_in it).1
  sure_in = subst (λ (p : D × D). AreClean g p.0 p.1) closed honest

  none_in : IsClean (view it)
  none_in = no_doubt _ (clean_is it.pool ∙ sure_in)

  -- so had they before
  pub was_in : HasCleanDisk (file_state shut)
  was_in = was_sound g shut it out none_in

  left_in : (image : Image) → outcomes g files.log files.db image → MayBeLeft it image
  left_in image may = may_leave_is it.pool image sure_in (subst (λ (p : D × D). outcomes g p.0 p.1 image) closed may)

  -- in the middle of a call
  module _ (stays : (file : D) → g.may_leave file (g.seen file)) (found : Image) (opened : Held (FileStore D g))
      (is : IsOpenedOver found opened) (image : Image) (may : outcomes g files.log files.db image) where
    abbrev Spares : Held (FileStore D g) → Type 0
    Spares c = Survives (file_state opened) (file_state c) (MayBeTaken (file_state opened))

    spared_by : (taken : Result (SqlShelf (FileStore D g) over_files × Known) (Fault × Held (FileStore D g)))
        → Takes over_files opened taken → connection_of taken ≡ shut → Spares shut
    spared_by (Ok taken) adopted same = subst Spares same adopted.2
    spared_by (Err (why, let_go)) none same = subst Spares same none.spared.2

    -- which took a room
    pub take_spared : (taken : Result (SqlShelf (FileStore D g) over_files × Known) (Fault × Held (FileStore D g)))
        → Takes over_files opened taken → connection_of taken ≡ shut → HoldsStill found image
    take_spared taken takes same start past held =
        let survives = spared_by taken takes same in
        may_room g found start past held stays opened is (was_clean survives was_in) it
        (λ trees left. survives.crash was_in trees (out.quiet.outcomes trees left)) (out.sound none_in)
        (out.numbered none_in) image (left_in image may)

    -- which made one, or did not
    module _ (owner group : List ℕ) (why : Fault)
        (ended : Made over_files owner group opened shut ⊎ Unmade over_files owner group opened shut why) where
      -- there was a table, and the store is as it was; or none, and a crash leaves what it left, or what is made
      abbrev Tried : Type 0
      Tried = (shut ≡ opened) ⊎ ((has_a_table opened.schema ≡ false)
          × Survives (file_state opened) (file_state shut) (MayBeMade owner group (file_state opened).now))

      not_made : (why : Fault) → Unmade over_files owner group opened shut why → Tried
      not_made fault.RoomExists (some, same, rests) = inl same
      not_made fault.StoreFailed (none, (rests, same, survives)) = inr (none, survives)
      not_made fault.Memory (none, (rests, same, survives)) = inr (none, survives)
      not_made why none = absurd none

      tried : Tried
      tried = elim ended [ inl made ↦ inr (made.0, made.3) | inr unmade ↦ not_made why unmade ]

      was_opened : HasCleanDisk (file_state opened)
      was_opened = elim tried [
        | inl same ↦ subst (λ c. HasCleanDisk (file_state c)) same was_in
        | inr (none, survives) ↦ was_clean survives was_in
      ]

      -- what is found in it was there, or is what is made
      left_or_made : (trees : Trees) → recovers it trees → (file_state opened).may_leave trees
          ⊎ ((has_a_table opened.schema ≡ false) × MayBeMade owner group (file_state opened).now trees)
      left_or_made trees here = elim tried [
        | inl same ↦ inl (subst (λ c. (file_state c).may_leave trees) same (out.quiet.outcomes trees here))
        | inr (none, survives) ↦ elim (survives.crash was_in trees (out.quiet.outcomes trees here)) [
          | inl old ↦ inl old
          | inr made ↦ inr (none, made)
        ]
      ]

      -- and what was there was shown
      as_opened : (trees : Trees) → (file_state opened).may_leave trees → trees ≡ (file_state opened).now.trees
      as_opened trees old =
          let shown = (is was_opened).0.0 in
          settled_at opened.store stays trees shown.is_open old ∙ sym (ap (λ (d : Database). d.trees) shown.clean)

      pub init_still : HoldsStill found image
      init_still start past held = elim tried [
        | inl same ↦ may_room g found start past held stays opened is was_opened it
            (λ trees left. inl (subst (λ c. (file_state c).may_leave trees) same (out.quiet.outcomes trees left)))
            (out.sound none_in) (out.numbered none_in) image (left_in image may)
        | inr (none, survives) ↦ absurd (has_none g found start past held opened is none was_opened)
      ]

      pub init_fresh : HoldsNothing found → HoldsFreshOrNone image owner group
      init_fresh empty =
          let shown = (is was_opened).0 in
          let schema = found_nothing g found empty opened is was_opened in
          ∥∥₁_map (opens_again it (out.numbered none_in) (out.sound none_in) image (left_in image may)) (λ one.
          let (trees, here, holds) = one in
          elim (left_or_made trees here) [
            | inl old ↦ inr (
              (file_state opened).now,
              record {
                trees = ∣ subst (HoldsDatabase image) (as_opened trees old) holds ∣₁;
                sound = (shown.1 shown.0.is_open).0;
              },
              schema,
            )
            | inr (none, made) ↦
                let fresh = made.0 schema in
                inl (record {
                  db = under Fresh trees;
                  held = record { trees = ∣ holds ∣₁; sound = fresh.0.room.sound };
                  room = inl fresh.0.room;
                  rows = stand_at_first (fresh_room owner group) _ fresh.1.room fresh.1.sessions fresh.1.slots;
                })
          ])

      pub init_beside : (db : Database) → Holds found db → HoldsOldOrBeside image db owner group
      init_beside db held =
          let now = found_database g found db held opened is was_opened in
          ∥∥₁_map (opens_again it (out.numbered none_in) (out.sound none_in) image (left_in image may)) (λ one.
          let (trees, here, holds) = one in
          elim (left_or_made trees here) [
            | inl old ↦
                let there = as_opened trees old ∙ ap (λ (d : Database). d.trees) now in
                inl (record { trees = ∣ subst (HoldsDatabase image) there holds ∣₁; sound = held.sound })
            | inr (none, made) ↦
                let (schema, beside) = made.1 none in
                let after : Database = record { schema = schema; trees = trees } in
                let of_db = subst (λ (d : Database). StandsBeside (IsFresh owner group) d after) now beside in
                inr (after, record { trees = ∣ holds ∣₁; sound = beside.sound }, of_db)
          ])

-- what a crash may leave of the files of a shelf is what it might leave of the shelf
pub left_in_files : {D : Type 0} (g : Ghosts D) (was : SqlShelf (FileStore D g) over_files) (it : FileStore D g)
    (out : IsTakenOut over_files was.conn it) (files : Files D) (closed : (files.log, files.db) ≡ files_in it)
    (honest : AreClean g files.log files.db) → (sql_view over_files was).leaves_laid_out → (image : Image)
    → outcomes g files.log files.db image → HoldsRoomWith image (sql_view over_files was).crash_may_leave
left_in_files g was it out files closed honest laid image may =
    let none = none_in g was.conn it out files closed honest in
    let there = left_in g was.conn it out files closed honest image may in
    ∥∥₁_map (opens_again it (out.numbered none) (out.sound none) image there) (λ found.
    let before = out.quiet.outcomes found.0 found.1 in
    let (schema, room) = laid found.0 before in (
      record { schema = schema; trees = found.0 },
      record { trees = ∣ found.2 ∣₁; sound = room.sound },
      room,
      (was_in g was.conn it out files closed honest, (found.0, before, refl)),
    ))

-- what a crash may leave of the shelf of a desk stands for one of two histories
module _ {D : Type 0} {g : Ghosts D} (shelf : SqlShelf (FileStore D g) over_files × Known) where
  abbrev shows : SqlShelf (FileStore D g) over_files × Known → View
  shows = cached_view (sql_view over_files)

  pub old_or_new : (start : Room) (past : History) (event : EventModel)
      → ((shows shelf).is_intact → LeavesNew (shows shelf) (StandsOrWith start past event))
      → ((shows shelf).is_intact → (shows shelf).leaves_laid_out) → (shows shelf).is_intact → (image : Image)
      → ((shows shelf).leaves_laid_out → HoldsRoomWith image (shows shelf).crash_may_leave)
      → HoldsOldOrNew image start past event
  old_or_new start past event leaves laid intact image held =
      ∥∥₁_map (held (laid intact)) (λ found.
      let (db, holds, room, may) = found in
      let here : (past : History) → RepresentsHistory start (records_of db.trees) past → HoldsRoom image start past
      = λ past rows. record { db = db; held = holds; room = inl room; rows = rows } in
      elim (leaves intact (records_of db.trees) may) [
        | inl without ↦ inl (here past without)
        | inr with_it ↦ inr (with_it.0, here (event ∷ past) with_it.1)
      ])

-- A report that is cut off
pub report_cut_off : {D : Type 0} (g : Ghosts D) (last : SqlShelf (FileStore D g) over_files × Known)
    (it : FileStore D g) (out : IsTakenOut over_files last.0.conn it) (files : Files D)
    (closed : (files.log, files.db) ≡ files_in it) (honest : AreClean g files.log files.db)
    (stays : (file : D) → g.may_leave file (g.seen file)) (found : Image) (opened : Held (FileStore D g))
    (taken : SqlShelf (FileStore D g) over_files × Known) → IsOpenedOver found opened
    → Adopted over_files opened taken → (kind : ReportKind) (users : List SubjectModel) (old new : Option (List ℕ))
    (done : Result (Unit {0}) Fault)
    → WritesReport (cached_view (sql_view over_files)) kind users taken last old new done
    → (image : Image) → outcomes g files.log files.db image → HoldsStill found image
report_cut_off g last it out files closed honest stays found opened taken is adopted kind users old new done writes
    image may =
    report_still g found image opened taken last is adopted stays kind users old new done writes
    (was_in g last.0.conn it out files closed honest) it out.quiet.outcomes
    (out.numbered (none_in g last.0.conn it out files closed honest))
    (left_in g last.0.conn it out files closed honest image may)

-- A close that is cut off
module _ {D : Type 0} (g : Ghosts D) (stays : (file : D) → g.may_leave file (g.seen file))
    (closed : Held (FileStore D g)) (left : Left D g) (is : Closes closed left) (found image : Image)
    (at : IsLeftBy found left image) where
  pub close_served : (last : SqlShelf (FileStore D g) over_files × Known) (start : Room) (past : History)
      → last.0.conn ≡ closed → StandsFor start past (cached_view (sql_view over_files) last)
      → (cached_view (sql_view over_files) last).is_available → HoldsRoom image start past
  close_served last start past same stands there =
      let (laid_out, rows) = stands there in record {
        db = (file_state last.0.conn).now;
        held = closed_holds g stays last.0.conn left found image (subst (λ c. Closes c left) (sym same) is) there.1
            (last.0.rests there.1) at;
        room = inl laid_out.0.0;
        rows = rows;
      }

  pub close_shut : (opened : Held (FileStore D g)) (taken last : SqlShelf (FileStore D g) over_files × Known)
      (rosters : Rosters) → last.0.conn ≡ closed → IsOpenedOver found opened
      → Adopted over_files opened taken → AnswersOrMore (cached_view (sql_view over_files)) rosters taken last
      → KeepsRoomOrMore rosters found image
  close_shut opened taken last rosters same over adopted answers =
      let of_last = subst (λ c. Closes c left) (sym same) is in
      let (clean, either) = closed_in g last.0.conn left found image of_last at in
      elim either [
        | inl is_open ↦ open_or_more g found image opened taken last rosters over adopted clean answers stays is_open
            (closed_holds g stays last.0.conn left found image of_last is_open (last.0.rests is_open) at)
        | inr (it, (kept, sure), numbered, may) ↦ keeps_room_or_more g found image opened taken last rosters over
            adopted clean answers it kept.quiet.outcomes numbered may
      ]

  pub close_made : (opened : Held (FileStore D g)) (owner group : List ℕ) → IsOpenedOver found opened
      → Made over_files owner group opened closed → HoldsNothing found → HoldsRoom image (fresh_room owner group) []
  close_made opened owner group over made empty =
      let clean = (closed_in g closed left found image is at).0 in
      let was = was_clean made.3 clean in
      let (is_open, made_fresh) = made.2 clean in
      let fresh = made_fresh (found_nothing g found empty opened over was) in record {
        db = (file_state closed).now;
        held = closed_holds g stays closed left found image is is_open (made.1 is_open) at;
        room = inl fresh.0.room;
        rows = stand_at_first (fresh_room owner group) _ fresh.1.room fresh.1.sessions fresh.1.slots;
      }
