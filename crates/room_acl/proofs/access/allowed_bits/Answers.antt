use Rattle.room_acl.proofs.Common.{subst, sym, ◌∙◌, IsMask, allows_bit}
use Rattle.room_acl.proofs.BitTests.{rights_but_refused, IsMask-mask_of}
use Rattle.room_acl.proofs.Decisions.{rights_in_words}
use Rattle.room_acl.proofs.access.allowed_bits.Goals as goal

pub of_named-requires : goal.of_named-requires
of_named-requires c =
    let allowed = allows_bit c.args.entries.now c.args.subject.now c.args.standing.now in
    subst IsMask (sym (rights_but_refused allowed c.refused-refused.result (λ bit. c.refused-refused.ensures
    c.args.subject.now c.args.standing.now bit ∙ c.after_all.ensures.bits bit))) (IsMask-mask_of allowed)

pub returns-clause-value : goal.returns-clause-value
returns-clause-value c =
    c.of_named.ensures ∙ rights_but_refused (allows_bit c.args.entries.now c.args.subject.now c.args.standing.now)
    c.refused-refused.result
    (λ bit. c.refused-refused.ensures c.args.subject.now c.args.standing.now bit ∙ c.after_all.ensures.bits bit)

pub returns-clause-allowed : goal.returns-clause-allowed
returns-clause-allowed c = rights_in_words _ _ _ _ (returns-clause-value c)
