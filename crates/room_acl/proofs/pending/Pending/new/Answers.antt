use Rattle.room_acl.proofs.Steps.{refused_at_start, same_decision}
use Rattle.room_acl.proofs.pending.Pending.new.Goals as goal

pub returns-clause-answers : goal.returns-clause-answers
returns-clause-answers c = λ entries. same_decision _ _ (λ bit.
    refused_at_start entries c.args.subject.now c.args.standing.now c.args.wanted
    c.left_to_entries.result bit (c.left_to_entries.ensures bit))
