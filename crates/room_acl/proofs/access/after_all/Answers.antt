use Rattle.room_acl.proofs.Steps.{walked_on, walked_all, same_decision}
use Rattle.room_acl.proofs.access.after_all.Goals as goal

pub loop-entry-init : goal.loop-entry-init
loop-entry-init c = record { at = c.new-pending.ensures.bits c.args.entries.now }

pub loop-entry-preserved : goal.loop-entry-preserved
loop-entry-preserved c =
    walked_on c.args.entries.now c.loop-entry.entry-index c.entry-item.result c.args.subject.now
    c.args.standing.now c.args.wanted c.loop-entry.pending _
    c.loop-entry-test.true c.entry-item.is c.take.ensures.bits c.loop-entry.invariant

pub returns-clause-bits : goal.returns-clause-bits
returns-clause-bits c = walked_all c.args.entries.now c.loop-entry.entry-index c.args.subject.now
    c.args.standing.now c.args.wanted c.loop-entry.pending c.loop-entry-test.false c.loop-entry.invariant

pub returns-clause-answers : goal.returns-clause-answers
returns-clause-answers c = same_decision _ _ (returns-clause-bits c)
