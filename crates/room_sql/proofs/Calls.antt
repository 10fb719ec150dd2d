-- The frames of calls of the shelf.
use Rattle.room_sql.proofs.Common.{◌≡◌, ◌≢◌, ◌≤◌, ℕ, None, Some, Result, Ok, Err, IfOk, OnOk, OnErr, inl, inr, refl}
use Rattle.room_sql.proofs.Common.{sym, ap, subst, arith, IsTrue, Ghosts, Trees, Database, HasCleanDisk, Survives, Held}
use Rattle.room_sql.proofs.Common.{state, Error, View, ShelfCall, ShelfRead, FailureCounted, fault_in, records_of}
use Rattle.room_sql.proofs.Common.{IsRoomOfVersion2, AreOfRoom, StaysRoom, AreTrueOf, KnowsNothing, AreStored}
use Rattle.room_sql.proofs.Common.{QueryFrame}
use Rattle.room_records.specs.declared.shelf.ShelfFault.{ShelfFault}
use Rattle.room_records.specs.declared.shelf.ShelfFault.TheVariants.{Store}
use Rattle.room_sql.specs.declared.facts.Facts.{Facts}
use Rattle.room_sql.proofs.Frames.{was_clean}

module _ {S : Type 0} (store : Ghosts S) where
  -- what contracts see of the shelf with this connection, count of failures and knowledge
  abbrev pub view_of : Held S → ℕ → Facts → View
  view_of conn failures known = record {
    records = records_of (state store conn).now.trees;
    failures = failures;
    is_intact = HasCleanDisk (state store conn);
    is_available = HasCleanDisk (state store conn) × IsTrue (state store conn).is_open;
    is_laid_out = IsRoomOfVersion2 (state store conn).now × AreTrueOf known (state store conn).now.trees;
    crash_may_leave = λ left. HasCleanDisk (state store conn)
        × ((trees : Trees) × (state store conn).may_leave trees × (left ≡ records_of trees));
    leaves_laid_out = (trees : Trees) → (state store conn).may_leave trees → AreOfRoom trees;
  }

  -- a crash leaves what it could leave before
  left : (old new : Held S) → Survives (state store old) (state store new) (λ _. ⊥) → HasCleanDisk (state store new)
      → ((trees : Trees) → (state store old).may_leave trees → AreOfRoom trees)
      → (trees : Trees) → (state store new).may_leave trees → AreOfRoom trees
  left old new survives clean laid trees may = elim (survives.crash clean trees may) [
    | inl was ↦ laid trees was
    | inr none ↦ absurd none
  ]

  -- a query that answered, after which the shelf knows something that is true
  pub read_ok : {T : Type 0} {failures : ℕ} {known after : Facts} {x : T} (old new : Held S)
      → QueryFrame {T = T} (state store old) (state store new) (Ok x)
      → (HasCleanDisk (state store new) → IsRoomOfVersion2 (state store old).now
      → AreTrueOf known (state store old).now.trees → AreTrueOf after (state store old).now.trees)
      → ShelfRead (view_of old failures known) (view_of new failures after) None
  read_ok {after = after} old new frame true_of = record {
    call = record {
      frame = record {
        was_intact = frame.clean;
        was_available = λ there. (frame.clean there.0, frame.was_open there.0 there.1);
        laid_out = λ there laid. (
          rw (frame.answered there.0).1 laid.0,
          subst (λ (d : Database). AreTrueOf after d.trees) (sym (frame.answered there.0).1)
              (true_of there.0 laid.0 laid.1),
        );
        never_falls = omega arith;
      };
      left_laid_out = λ clean there laid. left old new frame.crash clean;
      alive = λ clean was. (clean, (frame.answered clean).0);
      quiet = λ _. refl;
      store = λ bad. absurd (let e = bad in cc);
      undone = λ there laid. tt;
    };
    same = λ there laid. ap (λ (d : Database). records_of d.trees) (frame.answered there.0).1;
    crash = λ left may. elim (frame.crash.crash may.0 may.1.0 may.1.1) [
      | inl was ↦ (frame.clean may.0, (may.1.0, was, may.1.2))
      | inr none ↦ absurd none
    ];
    stays_laid_out = left old new frame.crash;
  }

  -- a query that failed, or whose rows cannot be read, after which the shelf knows nothing
  pub read_err : {T : Type 0} {failures more : ℕ} {known after : Facts} {r : Result T Error} {fault : ShelfFault}
      (old new : Held S) → QueryFrame (state store old) (state store new) r
      → (IsTrue (state store old).is_open → (state store old).now ≡ (state store old).committed)
      → KnowsNothing after → failures ≤ more → (fault ≢ Store → more ≡ failures)
      → (fault ≡ Store → FailureCounted failures more)
      → ShelfRead (view_of old failures known) (view_of new more after) (Some fault)
  read_err old new frame settled nothing never quiet counted = record {
    call = record {
      frame = record {
        was_intact = frame.clean;
        was_available = λ there. (frame.clean there.0, frame.was_open there.0 there.1);
        laid_out = λ there laid. (
          rw (kept there) laid.0,
          nothing (state store new).now.trees,
        );
        never_falls = never;
      };
      left_laid_out = λ clean there laid. left old new frame.crash clean;
      alive = λ clean was. tt;
      quiet = λ other. quiet (λ is. other (ap Some is));
      store = λ is. counted (let e = is in cc);
      undone = λ there laid. ap (λ (d : Database). records_of d.trees) (kept there);
    };
    same = λ there laid. ap (λ (d : Database). records_of d.trees) (kept there);
    crash = λ left may. elim (frame.crash.crash may.0 may.1.0 may.1.1) [
      | inl was ↦ (frame.clean may.0, (may.1.0, was, may.1.2))
      | inr none ↦ absurd none
    ];
    stays_laid_out = left old new frame.crash;
  }
    where
      kept : HasCleanDisk (state store new) × IsTrue (state store new).is_open
          → (state store new).now ≡ (state store old).now
      kept there = frame.same there.0 there.1 (settled (frame.was_open there.0 there.1))

  -- a commit that failed, after which the shelf knows nothing
  pub commit_err : {failures more : ℕ} {known after : Facts} {fault : ShelfFault} (old new : Held S)
      → Survives (state store old) (state store new)
      (λ trees. AreStored known.lists (state store old).now.trees → StaysRoom (state store old).now trees)
      → (HasCleanDisk (state store new) → IsTrue (state store new).is_open → IsTrue (state store old).is_open)
      → (HasCleanDisk (state store new) → IsTrue (state store new).is_open
      → (state store new).now ≡ (state store old).now)
      → KnowsNothing after → failures ≤ more → (fault ≢ Store → more ≡ failures)
      → (fault ≡ Store → FailureCounted failures more)
      → ShelfCall (view_of old failures known) (view_of new more after) (Some fault)
  commit_err old new survives was_open kept nothing never quiet counted = record {
    frame = record {
      was_intact = was_clean survives;
      was_available = λ there. (was_clean survives there.0, was_open there.0 there.1);
      laid_out = λ there laid. (
        rw (kept there.0 there.1) laid.0,
        nothing (state store new).now.trees,
      );
      never_falls = never;
    };
    left_laid_out = λ clean there laid leaves trees may. elim (survives.crash clean trees may) [
      | inl was ↦ leaves trees was
      | inr made ↦ ((state store old).now.schema, made laid.1.lists laid.0)
    ];
    alive = λ clean was. tt;
    quiet = λ other. quiet (λ is. other (ap Some is));
    store = λ is. counted (let e = is in cc);
    undone = λ there laid. ap (λ (d : Database). records_of d.trees) (kept there.0 there.1);
  }

-- a query whose answer is handed on
module _ {S : Type 0} (store : Ghosts S) where
  pub read_asked : {T : Type 0} {failures more : ℕ} {known after : Facts} (result : Result T ShelfFault)
      (old new : Held S) (query : Result T Error) → IfOk result (λ value. query ≡ Ok value)
      → QueryFrame (state store old) (state store new) query
      → (IsTrue (state store old).is_open → (state store old).now ≡ (state store old).committed)
      → OnOk result (after ≡ known) → OnErr result (KnowsNothing after) → failures ≤ more
      → (result ≢ Err Store → more ≡ failures) → (result ≡ Err Store → FailureCounted failures more)
      → ShelfRead (view_of store old failures known) (view_of store new more after) (fault_in result)
  read_asked (Ok value) old new query ok frame settled kept nothing never quiet counted =
      rw (kept, quiet (λ is. absurd (let bad = is in cc)))
      (read_ok store old new (rw ok at frame) (λ clean room true_of. true_of))
  read_asked (Err fault) old new query ok frame settled kept nothing never quiet counted =
      read_err store old new frame settled nothing never (λ other. quiet (λ is. other (let e = is in cc)))
      (λ is. counted (ap Err is))

-- what was read is handed on
pub read : {T : Type 0} {Q : T → Type 0} {answer : Result T Error} (result : Result T ShelfFault)
    → IfOk result (λ value. answer ≡ Ok value) → ((value : T) → answer ≡ Ok value → Q value) → IfOk result Q
read (Ok value) same each = each value same
read (Err told) same each = tt
