-- One room from run to run over files of any disk.
use Rattle.room_program.proofs.Common.{◌≡◌, ◌⊎◌, ℕ, List, [], Bool, true, false, ◌&&◌, IsTrue, refl, sym, subst, inl}
use Rattle.room_program.proofs.Common.{inr, true≢false, ∥∥₁_map, Ghosts, FileStore, HasCleanDisk, IsLive, Survives}
use Rattle.room_program.proofs.Common.{Held, file_state, over_files, image_of, Records, Room, fresh_room, View, Known}
use Rattle.room_program.proofs.Common.{cached_view, has_room, has_first_room, SqlShelf, IsTaken, MayBeTaken, sql_view}
use Rattle.room_program.proofs.Common.{was_clean, EventModel, AnswerModel, History, leaves_no_reply, Adopted, Made}
use Rattle.room_program.proofs.Common.{stand_at_first, Copied, IsOpenedOver, HoldsNothing, HoldsRoom, AnsweredThenLeft}
use Rattle.room_program.proofs.Common.{HoldsRoomWith, ActsOnce}
use Rattle.sqlite_disk.specs.declared.Files.{Files}
use Rattle.sqlite.specs.WalReads.{AreClean}
use Rattle.sqlite.specs.Closing.{IsCopied}
use Rattle.sqlite_trees.specs.declared.store.Store as trees
use Rattle.sqlite.specs.Held.{state}
use Rattle.room_cache.specs.Known.{IsTrueOf}
use Rattle.room_sql.specs.Facts.{KnowsNothing}
use Rattle.room_program.proofs.Found.{stands, found_nothing, closed_holds}
use Rattle.room_program.proofs.Restarts.{again}
use Rattle.room_program.proofs.Stopped.{old_or_new}

-- a shelf that remembers nothing was put around the one that was adopted
pub adopted_as : {S : Type 0} (g : trees.Ghosts S) (opened : Held S) (shelf : SqlShelf S g)
    (taken : SqlShelf S g × Known) → taken.0 ≡ shelf
    → IsTrue (has_room opened.schema) ⊎ IsTrue (has_first_room opened.schema)
    → (HasCleanDisk (state g shelf.conn) → IsTrue (state g shelf.conn).is_open
    × IsTaken (state g opened) (state g shelf.conn))
    → Survives (state g opened) (state g shelf.conn) (MayBeTaken (state g opened))
    → KnowsNothing shelf.known → ((r : Records) → IsTrueOf taken.1 r) → Adopted g opened taken
adopted_as g opened shelf taken same tables so survives nothing true_of =
    subst (λ s. Adopted g opened (s, taken.1)) (sym same) (tables, so, survives, nothing, true_of)

-- a desk was made of a shelf
pub asked_so : {S : Type 0} (view : S → View) (shelf desk after : S) (event : EventModel) (answered : AnswerModel)
    → desk ≡ shelf → AnsweredThenLeft view desk event answered after → AnsweredThenLeft view shelf event answered after
asked_so view shelf desk after event answered same = subst (λ s. AnsweredThenLeft view s event answered after) same

module _ {D : Type 0} (g : Ghosts D) where
  abbrev Taken : Type 0
  Taken = SqlShelf (FileStore D g) over_files × Known

  abbrev shows : Taken → View
  shows = cached_view (sql_view over_files)

  -- a room was taken in these files
  abbrev pub TakenIn : Files D → Taken → Type 0
  TakenIn files taken = (opened : Held (FileStore D g)) × IsOpenedOver (image_of g files) opened
      × (HasCleanDisk (file_state opened) → AreClean g files.log files.db) × Adopted over_files opened taken

  -- a fresh room was made in files that held nothing, and its store was closed
  pub made_holds : ((file : D) → g.may_leave file (g.seen file)) → (files left : Files D)
      (opened closed : Held (FileStore D g)) (owner group : List ℕ) → IsOpenedOver (image_of g files) opened
      → IsLive (file_state closed) → (AreClean g left.log left.db → IsCopied closed left)
      → Made over_files owner group opened closed → HoldsNothing (image_of g files) → AreClean g left.log left.db
      → HoldsRoom (image_of g left) (fresh_room owner group) []
  made_holds stays files left opened closed owner group is live copied made empty clean =
      let was = (copied clean).was_clean in
      let (is_open, fresh_in) = made.2 was in
      let room = fresh_in (found_nothing g (image_of g files) empty opened is (was_clean made.3 was)) in
      record {
        db = (file_state closed).now;
        held = closed_holds g stays closed (Copied left) (image_of g files) (image_of g left) (live, copied) is_open
            (made.1 is_open) (clean, inl refl);
        room = inl room.0.room;
        rows = stand_at_first (fresh_room owner group) _ room.1.room room.1.sessions room.1.slots;
      }

  pub acted_once : (files left : Files D) (before after next last : Taken) (event : EventModel)
      (lost answered : AnswerModel) (start : Room) (past : History)
      → TakenIn files before → AnsweredThenLeft shows before event lost after
      → (AreClean g left.log left.db → (shows after).is_intact)
      → (AreClean g left.log left.db → (shows after).leaves_laid_out
      → HoldsRoomWith (image_of g left) (shows after).crash_may_leave)
      → TakenIn left next → AnsweredThenLeft shows next event answered last
      → HoldsRoom (image_of g files) start past → (shows last).is_intact
      → leaves_no_reply past event ≡ false → ∥ ActsOnce start past event answered (shows last) ∥₁
  acted_once files left before after next last event lost answered start past (opened, is, honest, adopted) called
      intact_so held_so (opened_next, is_next, honest_next, adopted_next) once held intact none =
      let sure = honest_next (was_clean adopted_next.2 (once.call.frame.was_intact intact)) in
      let stopped = intact_so sure in
      let was = called.call.frame.was_intact stopped in
      let there : (shows before).is_available = (was, (adopted.1 was).0) in
      let stand = stands g (image_of g files) start past held opened before is adopted in
      let either = old_or_new after start past event (called.rows start past stand there)
      (called.laid_out start past stand there) stopped (image_of g left) (held_so sure) in
      ∥∥₁_map either (λ one. again g (image_of g left) opened_next next last event answered start past
      (elim one [ inl without ↦ inl without | inr with_it ↦ inr with_it.1 ]) is_next adopted_next once.call intact
      none)

-- a crash leaves two disks that have returned what was written
pub were_clean : (a b old_a old_b : Bool) → (IsTrue a → IsTrue old_a) → (IsTrue b → IsTrue old_b) → IsTrue (a && b)
    → IsTrue (old_a && old_b)
were_clean true true true true f g h = refl
were_clean true true true false f g h = g refl
were_clean true true false old_b f g h = f refl
were_clean true false old_a old_b f g h = absurd (true≢false (sym h))
were_clean false b old_a old_b f g h = absurd (true≢false (sym h))
