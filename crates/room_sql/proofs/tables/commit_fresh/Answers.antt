use Rattle.room_sql.proofs.Common.{◌≡◌, refl, sym, subst, rules, ◌∙◌, HasCleanDisk, survives_then, survives_begin}
use Rattle.room_sql.proofs.Common.{Fresh, room_schema, IsFilled, MayBeFilled, StandsBeside, filled, by_trees, state}
use Rattle.room_sql.proofs.Common.{fails_back, on_err}
use Rattle.room_records.specs.Records.{Records}
use Rattle.room_sql.proofs.Frames.{was_clean, ok_then}
use Rattle.room_sql.proofs.tables.commit_fresh.Goals as goal

pub returns-clause-err : goal.returns-clause-err
returns-clause-err g c clean is =
    let same : c.commit.new.self.0 ≡ c.conn-2-1.given.0 = search rules in
    let late = rw (← same) at clean in
    let early = was_clean c.commit.ensures.survives late in
    let begun = c.transaction-tx.ensures.begun in
    rw (← same) (on_err c.commit.result _ _ (λ e h. fails_back (state g.S.Store c.transaction-tx.result.conn.now)
    _ _ e (rw begun refl) (c.in_ok-make_fresh.ensures.frame.inside early) (c.make_fresh.ensures.frame.kept early) h
    (rw same is) ∙ rw begun refl) (c.commit.ensures.err late))

pub returns-clause-frame : goal.returns-clause-frame
returns-clause-frame g c =
    let old = c.args.conn.now in
    let last = c.make_fresh.new.tx.conn.now in
    let root = c.args.root.now in
    let entries = c.args.entries.now in
    let begun = c.transaction-tx.ensures.begun in
    let Such = λ (r : Records). r ≡ filled root entries in
    let fills = λ (clean : HasCleanDisk (state g.S.Store last)). rw begun at (c.in_ok-make_fresh.ensures.ok clean) in
    let spares = λ (clean : HasCleanDisk (state g.S.Store last)).
    rw begun at (c.in_ok-make_fresh.ensures.spares clean) in
    let same : c.commit.new.self.0 ≡ c.conn-2-1.given.0 = search rules in
    record {
      mode = search rules;
      was_open = search rules;
      crash = rw (← same) (survives_then (state g.S.Store old) (state g.S.Store last)
          (state g.S.Store c.commit.new.self.0) _ _ (MayBeFilled root entries (state g.S.Store old).now)
          (λ _ db none. absurd none)
          (λ clean db is.
          let early = was_clean c.commit.ensures.survives clean in (
            λ none.
                let it = fills early none in
                by_trees (room_schema Fresh) (IsFilled root entries) (state g.S.Store last).now db it.0.schema is it,
            λ none. (
              (state g.S.Store last).now.schema,
              subst (λ trees. StandsBeside Such (state g.S.Store old).now
                  (record { schema = (state g.S.Store last).now.schema; trees = trees })) (sym is) (spares early none),
            ),
          ))
          (survives_begin g.S.Store old (state g.S.Store last) _ (rw begun at c.make_fresh.ensures.frame.crash))
          c.commit.ensures.survives);
    }

pub returns-clause-spares : goal.returns-clause-spares
returns-clause-spares g c clean =
    let same : c.commit.new.self.0 ≡ c.conn-2-1.given.0 = search rules in
    let late = rw (← same) at clean in
    let early = was_clean c.commit.ensures.survives late in
    let begun = c.transaction-tx.ensures.begun in
    let spares = rw begun at (c.in_ok-make_fresh.ensures.spares early) in
    rw (← same) (ok_then c.commit.result (c.commit.ensures.ok late) (λ it none.
    subst (StandsBeside (λ r. r ≡ filled c.args.root.now c.args.entries.now) (state g.S.Store c.args.conn.now).now)
    (sym it.1.now_is) (spares none)))
