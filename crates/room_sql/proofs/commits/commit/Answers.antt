use Rattle.room_sql.proofs.Common.{◌≡◌, refl, ◌∙◌, rules, true, sym, ap, subst, HasCleanDisk, state, survives_then}
use Rattle.room_sql.proofs.Common.{survives_begin, Database, records_of, version_rows, IsVersion, IsRoomDatabase}
use Rattle.room_sql.proofs.Common.{MayBecome, StaysRoom, fails_back, on_err, stays, AreStored, AfterAll, Unknown}
use Rattle.room_sql.proofs.Frames.{was_clean, ok_then}
use Rattle.room_sql.proofs.commits.commit.Goals as goal

pub returns-clause-err : goal.returns-clause-err
returns-clause-err g c clean is =
    let same : c.commit.new.self.0 ≡ c.conn-2-1.given.0 = search rules in
    let late = rw (← same) at clean in
    let early = was_clean c.commit.ensures.survives late in
    let begun = c.transaction-tx.ensures.begun in
    rw (← same) (on_err c.commit.result _ _ (λ e h. fails_back (state g.S.Store c.transaction-tx.result.conn.now)
    _ _ e (rw begun refl) (c.in_ok-apply_all.ensures.frame.inside early) (c.apply_all.ensures.frame.kept early) h
    (rw same is) ∙ rw begun refl) (c.commit.ensures.err late))

pub returns-clause-stays : goal.returns-clause-stays
returns-clause-stays g c =
    let old = c.args.conn.now in
    let last = c.apply_all.new.tx.conn.now in
    let begins = c.transaction-tx.ensures.begun in
    let ran = λ (clean : HasCleanDisk (state g.S.Store last)). rw begins at (c.in_ok-apply_all.ensures.ok clean) in
    let same : c.commit.new.self.0 ≡ c.conn-2-1.given.0 = search rules in
    rw (← same) (survives_then (state g.S.Store old) (state g.S.Store last) (state g.S.Store c.commit.new.self.0) _ _
    (λ trees. AreStored c.args.lists.now (state g.S.Store old).now.trees → StaysRoom (state g.S.Store old).now trees)
    (λ _ db none. absurd none)
    (λ clean db is stored room.
    let early = was_clean c.commit.ensures.survives clean in
    stays (state g.S.Store (record old { in_transaction = true })) (state g.S.Store last) _ db
    (ran early room.room stored) is room)
    (survives_begin g.S.Store old (state g.S.Store last) _ (rw begins at c.apply_all.ensures.frame.crash))
    c.commit.ensures.survives)

pub returns-clause-frame : goal.returns-clause-frame
returns-clause-frame g c =
    let old = c.args.conn.now in
    let last = c.apply_all.new.tx.conn.now in
    let begun = c.transaction-tx.ensures.begun in
    let ran = λ (clean : HasCleanDisk (state g.S.Store last)). rw begun at (c.in_ok-apply_all.ensures.ok clean) in
    let same : c.commit.new.self.0 ≡ c.conn-2-1.given.0 = search rules in
    record {
      mode = search rules;
      was_open = search rules;
      crash = rw (← same) (survives_then (state g.S.Store old) (state g.S.Store last)
          (state g.S.Store c.commit.new.self.0) _ _
          (λ trees. AreStored c.args.lists.now (state g.S.Store old).now.trees
          → MayBecome c.args.changes.now (state g.S.Store old).now trees)
          (λ _ db none. absurd none)
          (λ clean db is stored room.
          ap records_of is ∙ (ran (was_clean c.commit.ensures.survives clean) room stored).records)
          (survives_begin g.S.Store old (state g.S.Store last) _ (rw begun at c.apply_all.ensures.frame.crash))
          c.commit.ensures.survives);
    }

pub returns-clause-ok : goal.returns-clause-ok
returns-clause-ok g c clean =
    let same : c.commit.new.self.0 ≡ c.conn-2-1.given.0 = search rules in
    let late = rw (← same) at clean in
    let early = was_clean c.commit.ensures.survives late in
    let begun = c.transaction-tx.ensures.begun in
    let ran = rw begun at (c.in_ok-apply_all.ensures.ok early) in
    rw (← same) (ok_then c.commit.result (c.commit.ensures.ok late) (λ it. (
      it.1.is_open,
      λ room stored. (
        subst IsRoomDatabase (sym it.1.now_is) (ran room stored).room,
        λ _. ap (λ (d : Database). records_of d.trees) it.1.now_is ∙ (ran room stored).records,
      ),
    )))

pub returns-clause-nodes : goal.returns-clause-nodes
returns-clause-nodes g c clean =
    let same : c.commit.new.self.0 ≡ c.conn-2-1.given.0 = search rules in
    let late = rw (← same) at clean in
    let early = was_clean c.commit.ensures.survives late in
    let begun = c.transaction-tx.ensures.begun in
    let ran = rw begun at (c.in_ok-apply_all.ensures.nodes early) in
    rw (← same) (ok_then c.commit.result (c.commit.ensures.ok late) (λ it room stored.
    subst (λ (d : Database). AfterAll Unknown c.args.changes.now
    ((state g.S.Store c.args.conn.now).now.trees 1) (d.trees 1)) (sym it.1.now_is) (ran room stored)))

pub returns-clause-version : goal.returns-clause-version
returns-clause-version g c clean =
    let same : c.commit.new.self.0 ≡ c.conn-2-1.given.0 = search rules in
    let late = rw (← same) at clean in
    let early = was_clean c.commit.ensures.survives late in
    let begun = c.transaction-tx.ensures.begun in
    let ran = rw begun at (c.in_ok-apply_all.ensures.ok early) in
    rw (← same) (ok_then c.commit.result (c.commit.ensures.ok late) (λ it room stored was.
    subst (λ (d : Database). IsVersion 2 (version_rows d.trees)) (sym it.1.now_is) ((ran room stored).version was)))

pub returns-clause-schema : goal.returns-clause-schema
returns-clause-schema g c clean =
    let same : c.commit.new.self.0 ≡ c.conn-2-1.given.0 = search rules in
    let late = rw (← same) at clean in
    let early = was_clean c.commit.ensures.survives late in
    let begun = c.transaction-tx.ensures.begun in
    let ran = rw begun at (c.in_ok-apply_all.ensures.ok early) in
    rw (← same) (ok_then c.commit.result (c.commit.ensures.ok late) (λ it room stored.
    ap (λ (d : Database). d.schema) it.1.now_is ∙ (ran room stored).schema))
