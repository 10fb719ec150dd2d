use Rattle.room_acl.proofs.Common.{ap, sym, ◌∙◌, ◌&&◌, not, has_bit, owner_rights}
use Rattle.room_acl.proofs.BitTests.{has_bit-without}
use Rattle.room_acl.proofs.Steps.{IsMask-without}
use Rattle.room_acl.proofs.access.left_to_entries.Goals as goal

pub of_named-requires : goal.of_named-requires
of_named-requires c = IsMask-without c.bits-bits.result owner_rights
    (rw c.bits-bits.ensures.value c.bits-bits.ensures.named)

pub returns-then-is_owner : goal.returns-then-is_owner
returns-then-is_owner c = λ bit.
    ap (λ n. has_bit n bit) c.of_named.ensures
    ∙ has_bit-without c.bits-bits.result owner_rights bit
    ∙ ap (λ n. has_bit n bit && not (has_bit owner_rights bit)) c.bits-bits.ensures.value
    ∙ ap (λ o. has_bit c.args.wanted bit && not (o && has_bit owner_rights bit))
    (sym c.if-is_owner.true ∙ c.is_owner.ensures)
