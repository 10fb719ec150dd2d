use Rattle.room_sql.proofs.Common.{◌≡◌, ◌∙◌, ap₂, IfOk-weaker, survives_weaker, IsFresh, filled, fresh_from}
use Rattle.room_sql.proofs.Common.{stands_such, may_stand}
use Rattle.room_records.specs.Fresh.{fresh_root}
use Rattle.room_records.specs.Records.{Records}
use Rattle.room_sql.proofs.tables.make.Given.{Over}
use Rattle.room_sql.proofs.tables.make.Goals as goal

fresh : (g : Over) (c : goal.After-drop-root-4 g) (r : Records)
    → r ≡ filled c.fresh_root-root.result c.in_ok-entries.entries → IsFresh c.args.owner.now c.args.group.now r
fresh g c r = fresh_from c.args.owner.now c.args.group.now _ c.in_ok-entries.entries r
    (c.fresh_root-root.ensures ∙ ap₂ fresh_root c.in_ok-clone.ensures c.in_ok-clone-2.ensures) c.in_ok-entries.ensures

pub returns-clause-ok : goal.returns-clause-ok
returns-clause-ok g c clean =
    IfOk-weaker c.commit_fresh.result _ _
    (λ _ h. (h.0, λ none. ((h.1 none).0, fresh g c _ (h.1 none).1))) (c.commit_fresh.ensures.ok clean)

pub returns-clause-frame : goal.returns-clause-frame
returns-clause-frame g c = record {
  mode = c.commit_fresh.ensures.frame.mode;
  was_open = c.commit_fresh.ensures.frame.was_open;
  crash = survives_weaker _ _ _ _ (λ _ db h. (
    λ none. ((h.0 none).0, fresh g c _ (h.0 none).1),
    may_stand _ _ _ db (fresh g c) h.1,
  ))
      c.commit_fresh.ensures.frame.crash;
}

pub returns-clause-spares : goal.returns-clause-spares
returns-clause-spares g c clean =
    IfOk-weaker c.commit_fresh.result _ _ (λ _ h none. stands_such _ _ _ _ (fresh g c) (h none))
    (c.commit_fresh.ensures.spares clean)
