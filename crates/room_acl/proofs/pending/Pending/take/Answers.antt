use Rattle.room_acl.proofs.Common.{sym, ◌∙◌}
use Rattle.room_acl.proofs.Steps.{bit_allowed, bit_denied, left_taken, same_decision, IsMask-without}
use Rattle.room_acl.proofs.pending.Pending.take.Goals as goal
use Rattle.room_acl.proofs.pending.Pending.take.Goals.{then-not-allow, else-not-allow}

pub of_named-self-inside-requires : goal.of_named-self-inside-requires
of_named-self-inside-requires c =
    rw c.bits-left.ensures.value (IsMask-without c.self.inside.left _ c.bits-left.ensures.named)

pub returns-after-not-allow-clause-bits : goal.returns-after-not-allow-clause-bits
returns-after-not-allow-clause-bits c = λ entries bit.
    let on = sym c.applies-counts.ensures ∙ c.if-counts.true in
    elim c.if-not-allow.branch [
      | then-not-allow w ↦ rw (w.self-inside-is, c.of_named-self-inside.ensures, ← c.self.view_is)
          (rw (c.bits.ensures.value, c.mask.ensures, c.bits-left.ensures.value)
          (bit_denied c.args.entry.now entries c.args.subject.now c.args.standing.now c.self.inside.left
          c.self.inside.denied bit on (sym c.allow.ensures ∙ w.if-not-allow.true)))
      | else-not-allow w ↦ rw (w.self-inside-is, c.of_named-self-inside.ensures, ← c.self.view_is)
          (rw (c.bits.ensures.value, c.mask.ensures, c.bits-left.ensures.value)
          (bit_allowed c.args.entry.now entries c.args.subject.now c.args.standing.now c.self.inside.left
          c.self.inside.denied bit on (sym c.allow.ensures ∙ w.if-not-allow.false)))
    ]

pub returns-after-not-allow-clause-answers : goal.returns-after-not-allow-clause-answers
returns-after-not-allow-clause-answers c = λ entries. same_decision _ _ (returns-after-not-allow-clause-bits c entries)

pub returns-after-not-allow-clause-left : goal.returns-after-not-allow-clause-left
returns-after-not-allow-clause-left c = λ bit.
    let on = sym c.applies-counts.ensures ∙ c.if-counts.true in
    rw (c.of_named-self-inside.ensures, ← c.self.view_is)
    (rw (c.bits.ensures.value, c.mask.ensures, c.bits-left.ensures.value)
    (left_taken c.args.entry.now c.args.subject.now c.args.standing.now c.self.inside.left bit on))
