use Rattle.room_records.proofs.Common.{◌≡◌, List, ◌∙◌, inr, Records, Change, apply_changes, RulesHoldAfterEach}
use Rattle.room_records.proofs.Common.{AreSameChanges}
use Rattle.room_records.proofs.MemRecords.{same_rules, same_after}
use Rattle.room_records.proofs.Untouched.{untouched_by_same}
use Rattle.room_records.proofs.mem.MemShelfShelf.commit.Goals as goal

-- the records after the copies are those after the changes
after_copies : (old prepared new : Records) (steps changes : List Change)
    → prepared ≡ old → AreSameChanges steps changes
    → (RulesHoldAfterEach steps prepared → new ≡ apply_changes steps prepared)
    → RulesHoldAfterEach changes old → new ≡ apply_changes changes old
after_copies old prepared new steps changes same copies applied hold =
    (rw same at applied) (same_rules steps changes old copies hold) ∙ same_after steps changes old copies

pub returns-clause-ok : goal.returns-clause-ok
returns-clause-ok c = λ _ _ hold.
    after_copies _ _ _ c.in_ok-steps.steps.items c.args.changes.now c.prepare.ensures.same
    c.in_ok-steps.ensures.steps c.apply_all.ensures.records hold

pub returns-clause-crash : goal.returns-clause-crash
returns-clause-crash c = λ _ hold left is.
    inr (is ∙ after_copies _ _ _ c.in_ok-steps.steps.items c.args.changes.now c.prepare.ensures.same
    c.in_ok-steps.ensures.steps c.apply_all.ensures.records hold)

pub returns-clause-untouched : goal.returns-clause-untouched
returns-clause-untouched c = λ _ _. rw c.prepare.ensures.same at (untouched_by_same c.in_ok-steps.steps.items
    c.args.changes.now _ _ c.in_ok-steps.ensures.steps c.apply_all.ensures.untouched)
