-- What calls of the connection leave, whatever they do: the frames of functions that are not public.
use Rattle.std.specs.Prelude.{◌≡◌, ◌⊎◌, ℕ, suc, true, false, List, Result, Ok, IfOk, OnOk, IsTrue}
use Rattle.sqlite_value.specs.Order.{Row}
use Rattle.sqlite_trees.specs.declared.store.Store.{Ghosts}
use Rattle.sqlite_trees.specs.Tree.{Trees}
use Rattle.sqlite.specs.State.{State, HasCleanDisk, KeepsCommit, Survives, ExecutesInside}
use Rattle.sqlite.specs.Effect.{Database}
use Rattle.sqlite.specs.Held.{Held, state}
use Rattle.sqlite.specs.declared.error.Error.{Error}
use Rattle.sqlite.specs.declared.transaction.Transaction.{Transaction}
use Rattle.room_tables.specs.Layout.{IsRoomDatabase}

-- the frame of a query outside a transaction
pub record QueryFrame {T : Type 0} (old new : State) (result : Result T Error) : Type 0 where
  -- a disk that has returned what was written had done so before
  pub clean : HasCleanDisk new → HasCleanDisk old
  -- a connection that is open was open
  pub was_open : HasCleanDisk new → IsTrue new.is_open → IsTrue old.is_open
  -- no transaction is left open
  pub mode : old.in_transaction ≡ false → new.in_transaction ≡ false
  -- after Ok the connection is open, and sees the database as it was
  pub answered : HasCleanDisk new → OnOk result (IsTrue new.is_open × (new.now ≡ old.now))
  -- and so it does after an error, if it is open and saw what was committed
  pub same : HasCleanDisk new → IsTrue new.is_open → old.now ≡ old.committed → new.now ≡ old.now
  -- nothing is committed, and a crash leaves no more than before
  pub crash : Survives old new (λ _. ⊥)

-- what a query tells of the trees, where they are a room's
abbrev pub TellsRoom : {T : Type 0} → State → State → Result T Error → (Trees → T → Type 0) → Type 0
TellsRoom old new result Tells = HasCleanDisk new → IsRoomDatabase old.now → IfOk result (Tells old.now.trees)

module _ {S : Type 0} (store : Ghosts S) where
  -- the first text changed rows, or it changed none, and the other ran behind it with the same parameters
  abbrev pub RunsOr : List ℕ → List ℕ → Row → Held S → Held S → Type 0
  RunsOr text other args old new =
      ((count : ℕ) × ExecutesInside 0 text args (state store old) (state store new) (Ok (suc count)))
      ⊎ ((mid : Held S) × (count : ℕ) × ExecutesInside 0 text args (state store old) (state store mid) (Ok 0)
      × ExecutesInside 0 other args (state store mid) (state store new) (Ok count))

  -- the frame of a call inside a transaction
  pub record InsideFrame {T : Type 0} (old new : Transaction S) (result : Result T Error) : Type 0 where
    -- it is the transaction of the same connection
    pub same_reference : new.conn.ghost_name ≡ old.conn.ghost_name
    -- after Ok the transaction goes on
    pub inside : HasCleanDisk (state store new.conn.now) → OnOk result (new.conn.now.in_transaction ≡ true)
    -- nothing is committed
    pub kept : HasCleanDisk (state store new.conn.now)
        → KeepsCommit (state store old.conn.now) (state store new.conn.now)
    -- and a crash leaves no more than before
    pub crash : Survives (state store old.conn.now) (state store new.conn.now) (λ _. ⊥)

  -- the frame of a call that makes a transaction and ends it: what it may commit goes by the database before it
  pub record CommitFrame {T : Type 0} (Commits : Database → Trees → Type 0) (old new : Held S)
      (result : Result T Error) : Type 0 where
    -- no transaction is left open
    pub mode : new.in_transaction ≡ false
    -- a connection that is open was open
    pub was_open : HasCleanDisk (state store new) → IsTrue (state store new).is_open → IsTrue (state store old).is_open
    -- a crash leaves what could be left before, or what is committed
    pub crash : Survives (state store old) (state store new) (Commits (state store old).now)
