use Rattle.room_sql.proofs.Common.{◌≡◌, ℕ, zero, suc, List, Ok, inl, inr, refl, Row, Ghosts, ExecutesInside, Held}
use Rattle.room_sql.proofs.Common.{state, RunsOr}
use Rattle.room_sql.proofs.Frames.{was_clean, ok_then}
use Rattle.room_sql.proofs.writes.run_or.Goals as goal

-- it changed rows, so that the other does not run
some_changed : {S : Type 0} (store : Ghosts S) (text other : List ℕ) (args : Row) (a b : Held S) (count : ℕ)
    → ¬ (count ≡ 0) → ExecutesInside 0 text args (state store a) (state store b) (Ok count)
    → RunsOr store text other args a b
some_changed store text other args a b zero some ran = absurd (some refl)
some_changed store text other args a b (suc count) some ran = inl (count, ran)

pub returns-then-branch-eq0-clause-done : goal.returns-then-branch-eq0-clause-done
returns-then-branch-eq0-clause-done g c clean =
    let early = was_clean c.run.ensures.frame.crash clean in
    ok_then c.run.result (c.run.ensures.done clean) (λ ran.
    inr (c.changed.new.tx.conn.now, ran.0, rw c.if-branch-eq0.true at (c.in_ok-changed.ensures.done early), ran.1))

pub returns-else-branch-eq0-clause-done : goal.returns-else-branch-eq0-clause-done
returns-else-branch-eq0-clause-done g c clean =
    some_changed g.S.Store _ _ _ c.args.tx.now.conn.now c.changed.new.tx.conn.now _ c.if-branch-eq0.false
    (c.in_ok-changed.ensures.done clean)
