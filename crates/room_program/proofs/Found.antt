-- A room that is served over the files that held it, and what the files hold then.
use Rattle.room_program.proofs.Common.{◌≡◌, ◌∙◌, ℕ, zero, suc, List, [], ◌∷◌, Bool, true, false, Option, Some, Result}
use Rattle.room_program.proofs.Common.{Ok, Err, IsTrue, OnOk, inl, inr, refl, sym, ap, subst, true≢false, ◌⊎◌, arith}
use Rattle.room_program.proofs.Common.{∥∥₁_map, ∥∥₁_elim, Ghosts, Trees, Database, IsDatabase, Image, recovers, view}
use Rattle.room_program.proofs.Common.{opens_again, settled_at, FileStore, HasCleanDisk, IsLive, State, Survives, Held}
use Rattle.room_program.proofs.Common.{AreDatabases, file_state, over_files, HoldsDatabase, IsClosed, SubjectModel}
use Rattle.room_program.proofs.Common.{Room, fresh_room, View, Known, cached_view, Layout, Fresh, Upgraded, has_room}
use Rattle.room_program.proofs.Common.{has_a_table, schema_0, room_schema, first_schema, IsRoomOfVersion1}
use Rattle.room_program.proofs.Common.{IsRoomOfVersion2, under, records_of, SqlShelf, sql_view, MayBeTaken, was_clean}
use Rattle.room_program.proofs.Common.{History, state_after, RepresentsHistory, StandsFor, stand_at_first, ReportKind}
use Rattle.room_program.proofs.Common.{Fault, Left, Copied, Uncopied, Kept, Call, opens, closes, leaves, reads, looks}
use Rattle.room_program.proofs.Common.{asks, hears, Exchange, AcceptsEach, Adopted, Takes, Untaken, Made, Unmade}
use Rattle.room_program.proofs.Common.{TakesRoster, OpensStore, TakesRoom, IsUnopened, InitEnds, IsAnswered}
use Rattle.room_program.proofs.Common.{SelftestEnds, first_sent, second_sent, due_answers, Listens, WritesReport}
use Rattle.room_program.proofs.Common.{report_text, IsOpenedOver, Holds, HoldsRoom, HoldsNothing, MayBeLeft, IsLeftBy}
use Rattle.room_program.proofs.Common.{Closes, LetsGo, ActsOn, StayUnopened, IsSparedIn, SparesRoom, IsTakenOut}
use Rattle.room_program.proofs.Common.{GoesOnBy, ServesSome, Comes, Roll, rosters_in}
use Rattle.std.specs.List.{AllZip}
use Rattle.sqlite_trees.specs.Objects.{catalog_tree}
use Rattle.sqlite_trees.specs.Props.{Trees-set}
use Rattle.sqlite_tied.specs.Compute.{everything}
use Rattle.sqlite_schema.specs.Names.{same_name}
use Rattle.sqlite_catalog.specs.Listing.{Lists, IsTableRow, IsIndexRow, IsViewRow}
use Rattle.sqlite_catalog.proofs.ReadLemmas.{lists_once}
use Rattle.sqlite.specs.Schema.{Schema}
use Rattle.sqlite.specs.Closing.{HoldsAlone}
use Rattle.sqlite.specs.declared.error.Error.{Error}
use Rattle.sqlite.specs.View.{IsClean}
use Rattle.room_tables.proofs.Meaning.{room_has_room, first_has_no_kept}
use Rattle.room_tables.specs.Upgrade.{IsUpgraded}
use Rattle.room_report.specs.declared.reports.ReportFault.{ReportFault}
use Rattle.room_report.specs.declared.reports.ReportFault.TheVariants as report
use Rattle.std.specs.Io.KnownBytes.{Appends}
use Rattle.room_program.specs.declared.fault.Fault.TheVariants as fault
use Rattle.room_program.specs.Faults.{done_of_report}
use Rattle.room_program.specs.Replays.{Replays}
use Rattle.room_program.proofs.Streams.{serves_none, serves_each}
use Rattle.room_program.proofs.Unopened.{may_hold, stay_unopened}

-- a room of version 2 is not taken for one of version 1
not_first : (db : Database) → IsRoomOfVersion2 db → has_room db.schema ≡ false → ⊥
not_first db is none = true≢false (sym (room_has_room is.room.layout) ∙ sym (ap has_room is.room.schema) ∙ none)

-- nor the other way round
not_second : (db : Database) → IsRoomOfVersion1 db → IsTrue (has_room db.schema) → ⊥
not_second db is some = true≢false (sym some ∙ ap has_room is.schema ∙ first_has_no_kept)

-- the tables of either are seen
room_has_a_table : (l : Layout) → has_a_table (room_schema l) ≡ true
unfolding everything same_name
room_has_a_table Fresh = refl
room_has_a_table Upgraded = refl

first_has_a_table : has_a_table first_schema ≡ true
unfolding everything same_name
first_has_a_table = refl

has_tables : (db : Database) → IsRoomOfVersion2 db ⊎ IsRoomOfVersion1 db → has_a_table db.schema ≡ true
has_tables db (inl two) = ap has_a_table two.room.schema ∙ room_has_a_table two.room.layout
has_tables db (inr one) = ap has_a_table one.schema ∙ first_has_a_table

-- trees list one schema
pub one_database : (a b : Database) → IsDatabase a → IsDatabase b → a.trees ≡ b.trees → a ≡ b
one_database a b sound other same =
    let there = subst (λ t. Lists (t catalog_tree) a.schema) same sound.lists in
    let schema = lists_once (b.trees catalog_tree) a.schema b.schema there other.lists in
    λ i. record { schema = schema i; trees = same i }

none_of : {A B : Type 0} (P : A → B → Type 0) (bs : List B) → AllZip P [] bs → bs ≡ []
none_of P [] all = refl
none_of P (b ∷ bs) all = absurd all

-- and none where nothing is listed
empty_schema : (schema : Schema) → Lists [] schema → schema ≡ schema_0
empty_schema schema lists =
    let tables = none_of IsTableRow schema.tables lists.listed.tables in
    let indexes = none_of (IsIndexRow schema.tables) schema.indexes lists.listed.indexes in
    let views = none_of IsViewRow schema.views lists.listed.views in
    λ i. record { tables = tables i; indexes = indexes i; views = views i }

done_of_written : (written : Result (Unit {0}) ReportFault) (P : Type 0) → OnOk written P
    → OnOk (done_of_report written) P
done_of_written (Ok done) P h = h
done_of_written (Err report.Memory) P h = tt
done_of_written (Err report.Store) P h = tt
done_of_written (Err report.WriteFailed) P h = tt

pub unopened : {Shelf : Type 0} (begun : Option Bool) (taken : Shelf) → IsUnopened begun (Ok taken) → ⊥
unopened (Some true) taken is = is
unopened begun taken is = is

-- connections were served, or none where the port could not be listened on
pub served : {M C Shelf : Type 0} (does : M → Call C → M → Type 0) (view : Shelf → View)
    (accepts : M → Exchange → M → Type 0) (fails : M → M → Type 0) (roster : List ℕ) (first : Roll)
    (port count : ℕ) (taken over : M) (before after : Shelf) (done : Result (Unit {0}) Fault)
    (listens : Listens does accepts fails view roster first port count taken over before after done)
    → ServesSome view (rosters_in does accepts fails view roster first port count taken over before after done listens)
    before after
served does view accepts fails roster first port count taken over before after done (inl (is, same, bound)) =
    subst (ServesSome view [] before) (sym same) (serves_none view before)
served does view accepts fails roster first port count taken over before after (Ok done) (inr (bound, did, all)) =
    serves_each view (Comes does accepts roster) (bound, first) before count (over, all.served.0) after all.served.1
served does view accepts fails roster first port count taken over before after (Err why) (inr (bound, did, all)) =
    serves_each view (Comes does accepts roster) (bound, first) before all.fewer.1.0 all.fewer.1.2 after all.fewer.1.3

-- a report leaves the history that the rows stand for
pub read_stands : {S : Type 0} (view : S → View) (kind : ReportKind) (users : List SubjectModel) (taken last : S)
    (old new : Option (List ℕ)) (done : Result (Unit {0}) Fault) → WritesReport view kind users taken last old new done
    → (start : Room) (past : History) → StandsFor start past (view taken) → StandsFor start past (view last)
read_stands view kind users taken last old new done writes start past stand there =
    let (laid_out, rows) = stand (writes.read.call.frame.was_available there) in (
      writes.read.call.frame.laid_out there laid_out,
      subst (λ r. RepresentsHistory start r past) (sym (writes.read.same there laid_out)) rows,
    )

no_change : (s : State) → Survives s s (λ _. ⊥)
no_change s = record {
  clean = omega arith;
  shield = λ it. it;
  counts = omega arith;
  limit = refl;
  closes = λ clean is_open. inl is_open;
  crash = λ clean db may. inl may;
}

module _ {D : Type 0} (g : Ghosts D) where
  -- a room that is found in a store, and is taken, is on the shelf
  pub on_shelf : (opened : Held (FileStore D g)) (taken : SqlShelf (FileStore D g) over_files × Known)
      (start : Room) (past : History) → Adopted over_files opened taken
      → (HasCleanDisk (file_state opened)
      → (IsRoomOfVersion2 (file_state opened).now ⊎ IsRoomOfVersion1 (file_state opened).now)
      × RepresentsHistory start (records_of (file_state opened).now.trees) past)
      → StandsFor start past (cached_view (sql_view over_files) taken)
  on_shelf opened taken start past adopted found there =
      let (room, rows) = found (was_clean adopted.2 there.0) in
      let old : Database = (file_state opened).now in
      let new : Database = (file_state taken.0.conn).now in
      let shown : IsRoomOfVersion2 new × (records_of new.trees ≡ records_of old.trees) = elim (adopted.1 there.0).1 [
        | inl second ↦ elim room [
          | inl two ↦ (
            subst IsRoomOfVersion2 (sym second.same) two,
            ap (λ (d : Database). records_of d.trees) second.same,
          )
          | inr one ↦ absurd (not_second old one second.tables)
        ]
        | inr first ↦ elim room [
          | inl two ↦ absurd (not_first old two first.0.no_second)
          | inr one ↦ (let is = first.1 one in (is.room, is.records))
        ]
      ] in (
        ((shown.0, adopted.3 _), adopted.4 _),
        subst (λ r. RepresentsHistory start r past) (sym shown.1) rows,
      )

  -- what the files held is found
  pub found_database : (image : Image) (db : Database) → Holds image db → (opened : Held (FileStore D g))
      → IsOpenedOver image opened → HasCleanDisk (file_state opened) → (file_state opened).now ≡ db
  found_database image db held opened is clean =
      let (shown, finds, plain) = is clean in
      let same = ap (λ (d : Database). d.trees) shown.0.clean
      ∙ ∥∥₁_elim held.trees (Trees-set _ _) (finds.holds db.trees) in
      one_database _ _ (shown.1 shown.0.is_open).0 held.sound same

  -- where they held nothing, there is no table
  pub found_nothing : (image : Image) → HoldsNothing image → (opened : Held (FileStore D g))
      → IsOpenedOver image opened → HasCleanDisk (file_state opened) → opened.schema ≡ schema_0
  found_nothing image empty opened is clean =
      let (shown, finds, plain) = is clean in
      let none : (file_state opened).committed.trees catalog_tree ≡ [] = elim finds.reads [
        | inl (size, pages, wanted, adopts, ours, trees) ↦
            absurd (let some = rw empty at adopts.found.present in omega (arith, some))
        | inr (nothing, none) ↦ none.1
      ] in
      let unlisted : (file_state opened).now.trees catalog_tree ≡ []
      = ap (λ (d : Database). d.trees catalog_tree) shown.0.clean ∙ none in
      empty_schema opened.schema
      (subst (λ objects. Lists objects opened.schema) unlisted (shown.1 shown.0.is_open).0.lists)

  -- a store that was taken out of its connection, and has returned what was written, had done so before
  pub was_sound : (was : Held (FileStore D g)) (it : FileStore D g) → IsTakenOut over_files was it
      → IsClean (view it) → HasCleanDisk (file_state was)
  was_sound was it out clean = omega (arith, out.quiet.clean, clean)

  -- a crash leaves of a store, while it is there, what it showed
  pub stopped_holds : ((file : D) → g.may_leave file (g.seen file)) → (was : SqlShelf (FileStore D g) over_files)
      (image : Image) → IsLive (file_state was.conn) → IsTrue (file_state was.conn).is_open
      → IsTrue (view was.conn.store).is_numbered → MayBeLeft was.conn.store image
      → Holds image (file_state was.conn).now
  stopped_holds stays was image live is_open numbered left =
      may_hold g was.conn.store image (file_state was.conn).now left numbered (live is_open).0
      (λ trees may. settled_at was.conn.store stays trees is_open may ∙ sym (was.rests is_open))

  -- and a store that is given up, with its log as it is, what it showed
  kept_holds : ((file : D) → g.may_leave file (g.seen file)) → (gone : Held (FileStore D g)) (it : FileStore D g)
      (image : Image) → IsLive (file_state gone) → IsClosed gone it → IsTrue (file_state gone).is_open
      → (file_state gone).now.trees ≡ (file_state gone).committed.trees → IsTrue (view it).is_numbered
      → MayBeLeft it image → Holds image (file_state gone).now
  kept_holds stays gone it image live kept is_open rests numbered left =
      may_hold g it image (file_state gone).now left numbered (live is_open).0
      (λ trees may. settled_at gone.store stays trees is_open (kept.quiet.outcomes trees may) ∙ sym rests)

  -- also where it was closed
  pub closed_holds : ((file : D) → g.may_leave file (g.seen file)) → (closed : Held (FileStore D g))
      (new : Left D g) (found image : Image) → Closes closed new → IsTrue (file_state closed).is_open
      → (file_state closed).now.trees ≡ (file_state closed).committed.trees → IsLeftBy found new image
      → Holds image (file_state closed).now
  closed_holds stays closed (Copied files) found image (live, copied) is_open rests (clean, at) =
      let alone : HoldsAlone image (file_state closed).committed.trees = elim at [
        | inl is ↦ subst (λ i. HoldsAlone i (file_state closed).committed.trees) (sym is) (copied clean).seen
        | inr out ↦ (copied clean).left image out
      ] in record {
        trees = subst (λ t. ∥ HoldsDatabase image t ∥₁) (sym rests) alone.both;
        sound = (live is_open).0;
      }
  closed_holds stays closed (Uncopied why it) found image (live, kept, fails) is_open rests (clean, left) =
      kept_holds stays closed it image live kept is_open rests left.numbered left.left
  closed_holds stays closed new found image none is_open rests at = absurd none

  -- what is kept of one that was given up
  abbrev pub KeptIn : Held (FileStore D g) → Image → Type 0
  KeptIn gone image = (it : FileStore D g) × (IsClosed gone it × IsClean (view it))
      × IsTrue (view it).is_numbered × MayBeLeft it image

  was_sure : (gone : Held (FileStore D g)) (image : Image) → KeptIn gone image → HasCleanDisk (file_state gone)
  was_sure gone image (it, (closed, clean), numbered, may) = omega (arith, closed.quiet.clean, clean)

  -- where its log was copied, it was there
  pub closed_in : (closed : Held (FileStore D g)) (new : Left D g) (found image : Image) → Closes closed new
      → IsLeftBy found new image
      → HasCleanDisk (file_state closed) × (IsTrue (file_state closed).is_open ⊎ KeptIn closed image)
  closed_in closed (Copied files) found image (live, copied) (clean, at) =
      ((copied clean).was_clean, inl (copied clean).was_open)
  closed_in closed (Uncopied why it) found image (live, kept, fails) (clean, left) =
      let all : KeptIn closed image = (it, (kept, clean), left.numbered, left.left) in
      (was_sure closed image all, inr all)
  closed_in closed new found image none at = absurd none

  -- and where it was let go
  pub left_holds : ((file : D) → g.may_leave file (g.seen file)) → (gone : Held (FileStore D g))
      (new : Left D g) (found image : Image) → LetsGo gone new → IsTrue (file_state gone).is_open
      → (file_state gone).now.trees ≡ (file_state gone).committed.trees → IsLeftBy found new image
      → Holds image (file_state gone).now
  left_holds stays gone (Kept it) found image (live, kept) is_open rests (clean, left) =
      kept_holds stays gone it image live kept.closed is_open rests (kept.numbered clean) left
  left_holds stays gone new found image none is_open rests at = absurd none

  pub kept_in : (gone : Held (FileStore D g)) (new : Left D g) (found image : Image) → LetsGo gone new
      → IsLeftBy found new image
      → HasCleanDisk (file_state gone) × KeptIn gone image
  kept_in gone (Kept it) found image (live, kept) (clean, left) =
      let all : KeptIn gone image = (it, (kept.closed, clean), kept.numbered clean, left) in
      (was_sure gone image all, all)
  kept_in gone new found image none at = absurd none

-- a room that the files held
module _ {D : Type 0} (g : Ghosts D) (image : Image) (start : Room) (past : History)
    (held : HoldsRoom image start past) where
  -- the shelf over it stands for the history
  pub stands : (opened : Held (FileStore D g)) (taken : SqlShelf (FileStore D g) over_files × Known)
      → IsOpenedOver image opened → Adopted over_files opened taken
      → StandsFor start past (cached_view (sql_view over_files) taken)
  stands opened taken is adopted = on_shelf g opened taken start past adopted (λ clean.
      let same = sym (found_database g image held.db held.held opened is clean) in (
        subst (λ (d : Database). IsRoomOfVersion2 d ⊎ IsRoomOfVersion1 d) same held.room,
        subst (λ (d : Database). RepresentsHistory start (records_of d.trees) past) same held.rows,
      ))

  -- whose store has a table
  pub has_none : (opened : Held (FileStore D g)) → IsOpenedOver image opened → has_a_table opened.schema ≡ false
      → HasCleanDisk (file_state opened) → ⊥
  has_none opened over none was =
      let same = found_database g image held.db held.held opened over was in
      true≢false (sym (has_tables held.db held.room) ∙ ap (λ (d : Database). has_a_table d.schema) (sym same) ∙ none)

  -- and it is in what a crash leaves of a store in which it was only taken
  pub may_room : ((file : D) → g.may_leave file (g.seen file)) → (opened : Held (FileStore D g))
      → IsOpenedOver image opened → HasCleanDisk (file_state opened) → (it : FileStore D g)
      → ((trees : Trees) → recovers it trees
      → (file_state opened).may_leave trees ⊎ MayBeTaken (file_state opened) trees)
      → AreDatabases (recovers it) → IsTrue (view it).is_numbered → (after : Image) → MayBeLeft it after
      → ∥ HoldsRoom after start past ∥₁
  may_room stays opened is clean it only sound numbered after left =
      let same = found_database g image held.db held.held opened is clean in
      ∥∥₁_map (opens_again it numbered sound after left) (λ found. elim (only found.0 found.1) [
        | inl old ↦
            let there = settled_at opened.store stays found.0 (is clean).0.0.is_open old
            ∙ sym (ap (λ (d : Database). d.trees) (is clean).0.0.clean)
            ∙ ap (λ (d : Database). d.trees) same in
            record {
              db = held.db;
              held = record { trees = ∣ subst (HoldsDatabase after) there found.2 ∣₁; sound = held.held.sound };
              room = held.room;
              rows = held.rows;
            }
        | inr (first, upgraded) ↦ elim held.room [
          | inl two ↦ absurd (not_first held.db two (ap (λ (d : Database). has_room d.schema) (sym same)
              ∙ first.no_second))
          | inr one ↦
              let made = subst (λ (d : Database). IsRoomOfVersion1 d → IsUpgraded d (under Upgraded found.0)) same
              upgraded one in
              record {
                db = under Upgraded found.0;
                held = record { trees = ∣ found.2 ∣₁; sound = made.room.sound };
                room = inl made.room;
                rows = subst (λ r. RepresentsHistory start r past) (sym made.records) held.rows;
              }
        ]
      ])

module _ {D M : Type 0} (g : Ghosts D) (image : Image) (does : M → Call (Held (FileStore D g)) → M → Type 0)
    (left : M → Left D g) (stays : (file : D) → g.may_leave file (g.seen file))
    (tells : (old new : M) (call : Call (Held (FileStore D g))) → does old call new
    → ActsOn image call (left old) (left new)) where
  abbrev File : Type 0
  File = Held (FileStore D g)

  abbrev Taken : Type 0
  Taken = SqlShelf (FileStore D g) over_files × Known

  abbrev takes : File → Result Taken (Fault × File) → Type 0
  takes opened taken = Takes over_files opened taken

  abbrev shown : Taken → View
  shown = cached_view (sql_view over_files)

  -- one was let go so
  abbrev pub SparesFound : (begun later : M) → Type 0
  SparesFound begun later =
      (let_go : File) × does begun (leaves let_go) later × IsSparedIn image let_go (left later)

  -- a store that was let go holds what the files held
  spared : (opened let_go : File) (begun later : M) → IsOpenedOver image opened → does begun (leaves let_go) later
      → (HasCleanDisk (file_state let_go) → IsTrue (file_state let_go).is_open
      → (file_state let_go).now.trees ≡ (file_state let_go).committed.trees)
      → (HasCleanDisk (file_state let_go) → IsTrue (file_state let_go).is_open
      → (file_state let_go).now ≡ (file_state opened).now)
      → (commits : Trees → Type 0) → Survives (file_state opened) (file_state let_go) commits
      → ((start : Room) (past : History) → HoldsRoom image start past → HasCleanDisk (file_state opened)
      → (trees : Trees) → commits trees → MayBeTaken (file_state opened) trees)
      → IsSparedIn image let_go (left later)
  spared opened let_go begun later is gone rests same commits survives may_take = record {
    shown = λ clean is_open db holds.
        let shows = same clean is_open ∙ found_database g image db holds opened is (was_clean survives clean) in (
          shows,
          λ one at. subst (Holds one) shows (left_holds g stays let_go (left later) image one
              (tells begun later (leaves let_go) gone) is_open (rests clean is_open) at),
        );
    room = λ one at start past held.
        let (clean, (it, (closed, at_it), numbered, may)) =
        kept_in g let_go (left later) image one (tells begun later (leaves let_go) gone) at in
        let was = was_clean survives clean in
        may_room g image start past held stays opened is was it (λ trees found.
        elim (survives.crash clean trees (closed.quiet.outcomes trees found)) [
          | inl old ↦ inl old
          | inr made ↦ inr (may_take start past held was trees made)
        ]) (closed.sound at_it) numbered one may;
  }

  -- as it was opened
  spared_at_once : (path : List ℕ) (old begun later : M) (opened : File) → does old (opens path (Ok opened)) begun
      → does begun (leaves opened) later → SparesFound begun later
  spared_at_once path old begun later opened did gone =
      let is = (tells old begun (opens path (Ok opened)) did).0 in (
        opened,
        gone,
        spared opened opened begun later is gone
            (λ clean is_open. ap (λ (d : Database). d.trees) (is clean).0.0.clean) (λ clean is_open. refl)
            (λ _. ⊥) (no_change (file_state opened)) (λ start past held was trees none. absurd none),
      )

  -- and where no room was taken of it
  untaken : (opened let_go : File) (begun later : M) (why : Fault) → IsOpenedOver image opened
      → does begun (leaves let_go) later → Untaken over_files opened let_go why → IsSparedIn image let_go (left later)
  untaken opened let_go begun later why is gone none =
      let (rests, same, survives) = none.spared in
      spared opened let_go begun later is gone (λ clean. rests) same _ survives (λ start past held was trees may. may)

  -- a store that could not be opened is spared, if its files were
  refused : (path : List ℕ) (old new : M) (why : Error) → does old (opens path (Err why)) new
      → SparesRoom does left image old new
  refused path old new why did = elim (tells old new (opens path (Err why)) did) [
    | inl (is, same) ↦ inl same
    | inr (rest, is, now) ↦ inr (inl (subst (StayUnopened image) (sym now) (stay_unopened g image why rest stays is)))
  ]

  unopened_left : (path : List ℕ) (old new : M) (why : Fault) → OpensStore does path old new (Err why)
      → SparesRoom does left image old new
  unopened_left path old new fault.StoreFailed (inl (why, did)) = refused path old new why did
  unopened_left path old new fault.StoreFailed (inr (opened, begun, did, gone)) =
      inr (inr (begun, spared_at_once path old begun new opened did gone))
  unopened_left path old new fault.Memory did = refused path old new _ did
  unopened_left path old new why none = absurd none

  -- a room that was not taken is spared
  pub spares : (path : List ℕ) (old new : M) (why : Fault) → TakesRoom does takes path old new (Err why)
      → SparesRoom does left image old new
  spares path old new why (inl (begun, looked, none)) = inl (tells old new (looks path begun) looked)
  spares path old new why (inr (seen, looked, inl (same, is, opened))) =
      subst (λ l. (left new ≡ l) ⊎ (StayUnopened image (left new)
      ⊎ ((begun : M) × SparesFound begun new)))
      (tells old seen (looks path (Some true)) looked) (unopened_left path seen new same opened)
  spares path old new why (inr (seen, looked, inr (opened, begun, is, (let_go, none, gone)))) =
      let found = (tells seen begun (opens path (Ok opened)) is).0 in
      inr (inr (begun, (let_go, gone, untaken opened let_go begun new why found gone none)))

  -- a roster's file is only read
  pub roster_left : (path : List ℕ) (old new : M) (taken : Result (List SubjectModel) Fault)
      → TakesRoster does path old new taken → left new ≡ left old
  roster_left path old new taken (text, read, gives) = tells old new (reads path text) read

  module _ (start : Room) (past : History) (held : HoldsRoom image start past) where
    taken_stands : (path : List ℕ) (old new : M) (taken : Taken) → TakesRoom does takes path old new (Ok taken)
        → StandsFor start past (shown taken)
    taken_stands path old new taken (inl (begun, looked, none)) = absurd (unopened begun taken none)
    taken_stands path old new taken (inr (seen, looked, inl (fault, bad, opened))) = absurd (let e = bad in cc)
    taken_stands path old new taken (inr (seen, looked, inr (opened, begun, is, (adopted, same)))) =
        stands g image start past held opened taken (tells seen begun (opens path (Ok opened)) is).0 adopted

    -- a `serve` over it goes on with its history
    pub served_on : (accepts : M → Exchange → M → Type 0) (fails : M → M → Type 0) (db roster : List ℕ)
        (first : Roll) (port count : ℕ) (read taken over later : M) (shelf last : Taken)
        (done : Result (Unit {0}) Fault) → TakesRoom does takes db read taken (Ok shelf)
        → (listens : Listens does accepts fails shown roster first port count taken over shelf last done)
        → does over (closes last.0.conn) later → HasCleanDisk (file_state last.0.conn)
        → (next : History) × GoesOnBy (rosters_in does accepts fails shown roster first port count taken over shelf last
        done listens) start past next × (IsTrue (file_state last.0.conn).is_open
        → RepresentsHistory start (records_of (file_state last.0.conn).now.trees) next
        × ((one : Image) → IsLeftBy image (left later) one → HoldsRoom one start next))
    served_on accepts fails db roster first port count read taken over later shelf last done room listens closed clean =
        let some = served does shown accepts fails roster first port count taken over shelf last done listens in
        let gone = some.run clean start past (taken_stands db read taken shelf room) in (
          gone.0,
          gone.1,
          λ is_open.
              let (laid_out, rows) = gone.2 (clean, is_open) in (
                rows,
                λ one at. record {
                  db = (file_state last.0.conn).now;
                  held = closed_holds g stays last.0.conn (left later) image one
                      (tells over later (closes last.0.conn) closed) is_open (last.0.rests is_open) at;
                  room = inl laid_out.0.0;
                  rows = rows;
                },
              ),
        )

    -- and its store is there, where its disk has returned what was written
    taken_open : (path : List ℕ) (old new : M) (taken : Taken) → TakesRoom does takes path old new (Ok taken)
        → HasCleanDisk (file_state taken.0.conn) → IsTrue (file_state taken.0.conn).is_open
    taken_open path old new taken (inl (begun, looked, none)) clean = absurd (unopened begun taken none)
    taken_open path old new taken (inr (seen, looked, inl (fault, bad, opened))) clean = absurd (let e = bad in cc)
    taken_open path old new taken (inr (seen, looked, inr (opened, begun, is, (adopted, same)))) clean =
        (adopted.1 clean).0

    -- a report of it is that of its room, and leaves it
    pub reported_on : (db : List ℕ) (kind : ReportKind) (users : List SubjectModel) (read seen later : M)
        (taken last : Taken) (old new : Option (List ℕ)) (done : Result (Unit {0}) Fault)
        → TakesRoom does takes db read seen (Ok taken) → WritesReport shown kind users taken last old new done
        → does seen (leaves last.0.conn) later → HasCleanDisk (file_state last.0.conn)
        → OnOk done (Appends old new (report_text kind (state_after start past) users))
        × (IsTrue (file_state last.0.conn).is_open → (one : Image) → IsLeftBy image (left later) one
        → HoldsRoom one start past)
    reported_on db kind users read seen later taken last old new done room writes gone clean =
        let was = writes.read.call.frame.was_intact clean in
        let stood = taken_stands db read seen taken room in
        let stand = stood (was, taken_open db read seen taken room was) in (
          subst (λ d. OnOk d (Appends old new (report_text kind (state_after start past) users)))
              (sym writes.ends) (done_of_written writes.written _
              (writes.reported.ok clean stand.0 (state_after start past) stand.1.room)),
          λ is_open one at.
              let (laid_out, rows) = read_stands shown kind users taken last old new done writes start past
              stood (clean, is_open) in
              record {
                db = (file_state last.0.conn).now;
                held = left_holds g stays last.0.conn (left later) image one
                    (tells seen later (leaves last.0.conn) gone) is_open (last.0.rests is_open) at;
                room = inl laid_out.0.0;
                rows = rows;
              },
        )

  -- and where no room was made in it
  unmade : (owner group : List ℕ) (opened let_go : File) (begun later : M) (why : Fault) → IsOpenedOver image opened
      → does begun (leaves let_go) later → Unmade over_files owner group opened let_go why
      → IsSparedIn image let_go (left later)
  unmade owner group opened let_go begun later fault.RoomExists is gone (some, same, rests) =
      spared let_go let_go begun later (subst (IsOpenedOver image) (sym same) is) gone (λ clean. rests)
      (λ clean is_open. refl) (λ _. ⊥) (no_change (file_state let_go)) (λ start past held was trees none. absurd none)
  unmade owner group opened let_go begun later fault.StoreFailed is gone (none, (rests, same, survives)) =
      spared opened let_go begun later is gone (λ clean. rests) same _ survives
      (λ start past held was. absurd (has_none g image start past held opened is none was))
  unmade owner group opened let_go begun later fault.Memory is gone (none, (rests, same, survives)) =
      spared opened let_go begun later is gone (λ clean. rests) same _ survives
      (λ start past held was. absurd (has_none g image start past held opened is none was))
  unmade owner group opened let_go begun later why is gone none = absurd none

  -- then the files are spared
  pub not_made : (db owner group : List ℕ) (before later : M) (why : Fault)
      → InitEnds does (Made over_files owner group) (Unmade over_files owner group) db owner group before later
      (Err why) → SparesRoom does left image before later
  not_made db owner group before later why (inl (fault, is, (names, same))) = inl (ap left same)
  not_made db owner group before later why (inr (principals, inl (fault, is, none))) =
      unopened_left db before later fault none
  not_made db owner group before later why (inr (principals, inr (opened, begun, is, (let_go, none, gone)))) =
      inr (inr (
        begun,
        (
          let_go,
          gone,
          unmade owner group opened let_go begun later why (tells before begun (opens db (Ok opened)) is).0 gone none,
        ),
      ))

  -- a room is made only where none was, and where there was nothing, the files hold the fresh one
  pub made_on : (db owner group : List ℕ) (before begun later : M) (opened closed : File)
      → does before (opens db (Ok opened)) begun → Made over_files owner group opened closed
      → does begun (closes closed) later → HasCleanDisk (file_state closed)
      → ((start : Room) (past : History) → ¬ HoldsRoom image start past)
      × (HoldsNothing image → (one : Image) → IsLeftBy image (left later) one
      → HoldsRoom one (fresh_room owner group) [])
  made_on db owner group before begun later opened closed is made did clean =
      let was = was_clean made.3 clean in
      let over = (tells before begun (opens db (Ok opened)) is).0 in (
        λ start past held. has_none g image start past held opened over made.0 was,
        λ empty.
            let (is_open, made_fresh) = made.2 clean in
            let fresh = made_fresh (found_nothing g image empty opened over was) in
            λ one at. record {
              db = (file_state closed).now;
              held = closed_holds g stays closed (left later) image one
                  (tells begun later (closes closed) did) is_open (made.1 is_open) at;
              room = inl fresh.0.room;
              rows = stand_at_first (fresh_room owner group) _ fresh.1.room fresh.1.sessions fresh.1.slots;
            },
      )

  -- runs of other jobs leave them as they are
  pub replay_left : (roster owner group : List ℕ) (before later : M) (input rest output written : Option (List ℕ))
      (done : Result (Unit {0}) Fault)
      → Replays does roster owner group before later input rest output written done → left later ≡ left before
  replay_left roster owner group before later input rest output written done
      (inl (inl (why, is, (names, same)), unread, unwritten)) = ap left same
  replay_left roster owner group before later input rest output written done
      (inl (inr (names, inl (why, is, none)), unread, unwritten)) = roster_left roster before later (Err why) none
  replay_left roster owner group before later input rest output written done
      (inl (inr (names, inr (is, users, took)), unread, unwritten)) = roster_left roster before later (Ok users) took
  replay_left roster owner group before later input rest output written done
      (inr (names, users, took, why, count, next, is, all)) = roster_left roster before later (Ok users) took

  module _ (accepts : M → Exchange → M → Type 0) (fails : M → M → Type 0)
      (accepts_so : (old new : M) (e : Exchange) → accepts old e new → left new ≡ left old)
      (fails_so : (old new : M) → fails old new → left new ≡ left old) where
    accepted_left : (n : ℕ) (from to : M) → AcceptsEach accepts n from to → left to ≡ left from
    accepted_left zero from to (same, none) = ap left same
    accepted_left (suc n) from to (last, between, each, (e, took, one)) =
        accepts_so last to e took ∙ accepted_left n from last each

    heard_left : (served later : M) (done : Result (Unit {0}) Fault) → IsAnswered does served later done
        → left later ≡ left served
    heard_left served later (Ok done) heard = tells served later (hears (Some due_answers)) heard
    heard_left served later (Err why) (is, answers, other, heard) = tells served later (hears answers) heard

    pub selftest_left : (before later : M) (done : Result (Unit {0}) Fault)
        → SelftestEnds does accepts fails before later done → left later ≡ left before
    selftest_left before later done (inl (why, is, (fault, same))) = ap left same
    selftest_left before later done (inr (inl (is, asked))) = tells before later (asks first_sent false) asked
    selftest_left before later done (inr (inr (first, asked, inl (is, again)))) =
        tells first later (asks second_sent false) again ∙ tells before first (asks first_sent true) asked
    selftest_left before later done (inr (inr (first, asked, inr (second, again, inl (is, fewer))))) =
        fails_so fewer.2 later fewer.4 ∙ accepted_left fewer.0 second fewer.2 fewer.3
        ∙ tells first second (asks second_sent true) again ∙ tells before first (asks first_sent true) asked
    selftest_left before later done (inr (inr (first, asked, inr (second, again, inr (served, took, heard))))) =
        heard_left served later done heard ∙ accepted_left 2 second served took
        ∙ tells first second (asks second_sent true) again ∙ tells before first (asks first_sent true) asked
