use Rattle.room_acl.proofs.Common.{ℕ, ap, ◌∙◌, bit_or, [], has_bit}
use Rattle.room_acl.specs.Pending.{refuses_with}
use Rattle.room_acl.proofs.Steps.{refused_at_end}
use Rattle.room_acl.proofs.pending.Pending.refused.Goals as goal

pub returns : goal.returns
returns c = λ caller standing bit.
    ap (λ (left : ℕ). has_bit (bit_or c.self.inside.denied left) bit) c.bits.ensures.value
    ∙ refused_at_end c.self.inside.left c.self.inside.denied caller standing bit
    ∙ ap (λ pending. refuses_with [] caller standing pending bit) c.self.view_is
