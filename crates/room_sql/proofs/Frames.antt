-- The frames of calls.
use Rattle.room_sql.proofs.Common.{◌≡◌, ◌∙◌, true, false, Vec, Result, Ok, Err, IfOk, IfErr, IsErr, OnOk, ◌≢◌, refl}
use Rattle.room_sql.proofs.Common.{sym, ap, subst, arith, ◌⊎◌, inl, inr, Global, List, ℕ, IsErrAnd, IfOk-from_err, Row}
use Rattle.room_sql.proofs.Common.{Ghosts, State, HasCleanDisk, Survives, Shown, FailsToQuery, CommitsShowing}
use Rattle.room_sql.proofs.Common.{ExecutesInside, KeepsCommit, IsTooLate, Held, state, Error, Trees, Database}
use Rattle.room_sql.proofs.Common.{survives_then, keeps_all, was_inside, is_query_text, query_keeps, query_left}
use Rattle.room_sql.proofs.Common.{query_answered, query_open, query_leaves, fails_leaves, QueryFrame, InsideFrame}
use Rattle.room_sql.proofs.Common.{CommitFrame}
use Rattle.sqlite_resolve.specs.Compile.{first}
use Rattle.sqlite.specs.declared.error.Error.TheVariants.{SqliteFailure}
use Rattle.sqlite.specs.declared.error.ErrorCode.TheVariants.{OutOfMemory}
use Rattle.sqlite.specs.declared.rows.Row.{Row as Answer}
use Rattle.sqlite.specs.declared.transaction.Transaction.{Transaction}
use Rattle.sqlite.proofs.InsideLemmas.{keeps_then, unchanged_keeps}
use Rattle.room_sql.specs.Faults.{ErrMeans}

-- what holds of the value of each Ok
pub each : {T E : Type 0} {Q : T → Type 0} (r : Result T E) → ((value : T) → r ≡ Ok value → Q value) → IfOk r Q
each (Ok value) holds = holds value refl
each (Err e) holds = tt

pub on_ok : {X E P : Type 0} (r : Result X E) → P → OnOk r P
on_ok (Ok x) holds = holds
on_ok (Err e) holds = tt

-- what holds after an Ok
pub ok_then : {X E P Q : Type 0} (r : Result X E) → OnOk r P → (P → Q) → OnOk r Q
ok_then (Ok x) h f = f h
ok_then (Err e) h f = h

pub both : {X E : Type 0} (r : Result X E) (P Q : Type 0) → OnOk r P → OnOk r Q → OnOk r (P × Q)
both (Ok x) P Q p q = (p, q)
both (Err e) P Q p q = tt

-- an error that is handed on means what it meant
pub handed_on : {T : Type 0} (Means : Error → Type 0) (r : Result T Error) (error : Error)
    → IsErrAnd r (λ e. e ≡ error) → (error ≢ SqliteFailure OutOfMemory → Means error) → ErrMeans r Means
handed_on Means (Ok x) error is means = tt
handed_on Means (Err e) error is means =
    subst (λ f. f ≢ SqliteFailure OutOfMemory → Means f) (sym is) means

-- a disk that has returned what was written had done so before
pub was_clean : {a b : State} {P : Trees → Type 0} → Survives a b P → HasCleanDisk b → HasCleanDisk a
was_clean survives clean = omega (arith, survives.clean)

-- what a text that only asks leaves
pub asked : (text : List ℕ) (args : Row) {old new : State} {r : Result (Vec Answer Global) Error}
    → is_query_text (first text) ≡ true
    → (HasCleanDisk new → IfOk r (λ rows. Shown text args old new rows.items))
    → (HasCleanDisk new → IfErr r (FailsToQuery text args old new))
    → (old.in_transaction ≡ false → new.in_transaction ≡ false)
    → Survives old new (CommitsShowing text args old) → QueryFrame old new r
asked text args {old = old} {new = new} {r = r} selects ok err mode survives =
    let items = λ (v : Vec Answer Global). v.items in
    record {
      clean = was_clean survives;
      was_open = λ clean is. query_open items text args old new r (ok clean) (err clean) is;
      mode = mode;
      answered = λ clean. query_answered items text args old new r selects (ok clean);
      same = λ clean is settled. query_left items text args old new r selects (ok clean) (err clean) is settled;
      crash = query_keeps text args old new selects survives;
    }

-- whatever is made of an answer
pub made : {T U : Type 0} {old new : State} {q : Result T Error} {x : T} {r : Result U Error} → q ≡ Ok x
    → QueryFrame old new q → QueryFrame old new r
made {r = r} is frame = record {
  clean = frame.clean;
  was_open = frame.was_open;
  mode = frame.mode;
  answered = λ clean. on_ok r (rw is at (frame.answered clean));
  same = frame.same;
  crash = frame.crash;
}

-- an error that is handed on
pub failed : {T U : Type 0} {old new : State} {q : Result T Error} {r : Result U Error} → IsErr r
    → QueryFrame old new q → QueryFrame old new r
failed {r = r} err frame = record {
  clean = frame.clean;
  was_open = frame.was_open;
  mode = frame.mode;
  answered = λ clean. IfOk-from_err r _ err;
  same = frame.same;
  crash = frame.crash;
}

-- a text that only asks, inside a transaction: the database is as it was after an answer
pub asked_now : (text : List ℕ) (args : Row) (a b : State) (r : Result (Vec Answer Global) Error)
    → is_query_text (first text) ≡ true → IfOk r (λ rows. Shown text args a b rows.items) → OnOk r (b.now ≡ a.now)
asked_now text args a b (Ok rows) selects ok = (query_leaves text args a b rows.items selects ok).0.now_is
asked_now text args a b (Err e) selects ok = tt

asked_mode : (text : List ℕ) (args : Row) (a b : State) (r : Result (Vec Answer Global) Error)
    → is_query_text (first text) ≡ true → a.in_transaction ≡ true → IfOk r (λ rows. Shown text args a b rows.items)
    → OnOk r (b.in_transaction ≡ true)
asked_mode text args a b (Ok rows) selects inside ok =
    (query_leaves text args a b rows.items selects ok).0.mode ∙ inside
asked_mode text args a b (Err e) selects inside ok = tt

asked_kept : (text : List ℕ) (args : Row) (a b : State) (r : Result (Vec Answer Global) Error)
    → is_query_text (first text) ≡ true → IfOk r (λ rows. Shown text args a b rows.items)
    → IfErr r (λ e. FailsToQuery text args a b e ⊎ IsTooLate text args a b e) → KeepsCommit a b
asked_kept text args a b (Ok rows) selects ok err =
    unchanged_keeps a b (inl (query_leaves text args a b rows.items selects ok))
asked_kept text args a b (Err e) selects ok (inl fails) = unchanged_keeps a b (fails_leaves text args a b e fails)
asked_kept text args a b (Err e) selects ok (inr late) = unchanged_keeps a b (inl late.5)

-- a statement that answered Ok ran inside a transaction
pub statement_done : (text : List ℕ) (args : Row) (a b : State) (r : Result ℕ Error) (e : Error) (Y : Type 0)
    → (a.in_transaction ≡ false → (r ≡ Err e) × Y)
    → (a.in_transaction ≡ true → ExecutesInside 0 text args a b r)
    → IfOk r (λ count. ExecutesInside 0 text args a b (Ok count))
statement_done text args a b (Ok count) e Y ended runs =
    runs (was_inside a.in_transaction (Ok count) count Y e ended refl)
statement_done text args a b (Err f) e Y ended runs = tt

goes_on : (text : List ℕ) (args : Row) (a b : State) (r : Result ℕ Error) (e : Error) (Y : Type 0)
    → (a.in_transaction ≡ false → (r ≡ Err e) × Y)
    → (a.in_transaction ≡ true → ExecutesInside 0 text args a b r) → OnOk r (b.in_transaction ≡ true)
goes_on text args a b (Ok count) e Y ended runs =
    (runs (was_inside a.in_transaction (Ok count) count Y e ended refl)).1.mode
goes_on text args a b (Err f) e Y ended runs = tt

module _ {S : Type 0} {store : Ghosts S} where
  -- one statement, as it was answered
  pub statement_ran : (text : List ℕ) (args : Row) {a b : Transaction S} {r : Result ℕ Error} {e : Error}
      → b.conn.ghost_name ≡ a.conn.ghost_name
      → (a.conn.now.in_transaction ≡ false → (r ≡ Err e) × (b.conn.now ≡ a.conn.now))
      → (HasCleanDisk (state store b.conn.now) → a.conn.now.in_transaction ≡ true
      → ExecutesInside 0 text args (state store a.conn.now) (state store b.conn.now) r)
      → Survives (state store a.conn.now) (state store b.conn.now) (λ _. ⊥) → InsideFrame store a b r
  statement_ran text args {a = a} {b = b} {r = r} same ended runs survives = record {
    same_reference = same;
    inside = λ clean. goes_on text args _ _ r _ _ ended (runs clean);
    kept = λ clean. keeps_all text args (state store a.conn.now) (state store b.conn.now) r _
        (λ out. let it = ended out in (it.0, ap (state store) it.1)) (runs clean);
    crash = survives;
  }

  -- one query, as it was answered
  pub asked_inside : (text : List ℕ) (args : Row) {a b : Transaction S} {r : Result (Vec Answer Global) Error}
      → is_query_text (first text) ≡ true → b.conn.ghost_name ≡ a.conn.ghost_name
      → (HasCleanDisk (state store a.conn.now) → a.conn.now.in_transaction ≡ true)
      → (HasCleanDisk (state store b.conn.now)
      → IfOk r (λ rows. Shown text args (state store a.conn.now) (state store b.conn.now) rows.items))
      → (HasCleanDisk (state store b.conn.now) → IfErr r (λ e.
      FailsToQuery text args (state store a.conn.now) (state store b.conn.now) e
      ⊎ IsTooLate text args (state store a.conn.now) (state store b.conn.now) e))
      → Survives (state store a.conn.now) (state store b.conn.now) (λ _. ⊥) → InsideFrame store a b r
  asked_inside text args {r = r} selects same inside ok err survives = record {
    same_reference = same;
    inside = λ clean. asked_mode text args _ _ r selects (inside (was_clean survives clean)) (ok clean);
    kept = λ clean. asked_kept text args _ _ r selects (ok clean) (err clean);
    crash = survives;
  }

  -- one call after another that answered Ok
  pub inside_then : {T U : Type 0} {a b d : Transaction S} {x : T} {r : Result U Error}
      → InsideFrame store a b (Ok x) → InsideFrame store b d r → InsideFrame store a d r
  inside_then early late = record {
    same_reference = late.same_reference ∙ early.same_reference;
    inside = late.inside;
    kept = λ clean. keeps_then _ _ _ (early.kept (was_clean late.crash clean)) (late.kept clean);
    crash = survives_then _ _ _ _ _ (λ _. ⊥) (λ _ db none. none) (λ _ db none. none) early.crash late.crash;
  }

  -- whatever the call answered
  pub inside_ok : {T U : Type 0} {a b : Transaction S} {q : Result T Error} {x : T} {y : U}
      → q ≡ Ok x → InsideFrame store a b q → InsideFrame store a b (Ok y)
  inside_ok is frame = record {
    same_reference = frame.same_reference;
    inside = λ clean. rw is at (frame.inside clean);
    kept = frame.kept;
    crash = frame.crash;
  }

  -- an error that was passed on
  pub inside_err : {T U : Type 0} {a b : Transaction S} {q : Result T Error} {r : Result U Error}
      → IsErr r → InsideFrame store a b q → InsideFrame store a b r
  inside_err {r = r} err frame = record {
    same_reference = frame.same_reference;
    inside = λ clean. IfOk-from_err r _ err;
    kept = frame.kept;
    crash = frame.crash;
  }

module _ {S : Type 0} {store : Ghosts S} {Commits : Database → Trees → Type 0} where
  -- a query, and then a call that makes a transaction and ends it
  pub committed_then : {T U : Type 0} {a mid d : Held S} {q : Result T Error} {r : Result U Error}
      {Later : Database → Trees → Type 0} → QueryFrame (state store a) (state store mid) q
      → CommitFrame store Later mid d r
      → (HasCleanDisk (state store d) → (db : Trees) → Later (state store mid).now db → Commits (state store a).now db)
      → CommitFrame store Commits a d r
  committed_then early late may = record {
    mode = late.mode;
    was_open = λ clean is. early.was_open (was_clean late.crash clean) (late.was_open clean is);
    crash = survives_then _ _ _ _ _ _ (λ clean db none. absurd none) may early.crash late.crash;
  }
