use Rattle.room_acl.proofs.Common.{◌<◌, ap, sym, ◌∙◌, arith, bit_and, eqb-true, and_le_r, identifier_group}
use Rattle.room_acl.proofs.Common.{without_inherited}
use Rattle.room_acl.proofs.Marks.{cleared_flags, cleared_are_flags, cleared_group}
use Rattle.room_acl.proofs.flags.Flags.without_inherited.Goals as goal

pub of_named-requires : goal.of_named-requires
of_named-requires c = cleared_are_flags c.self.inside.bits c.self.invariant

pub returns-clause-value : goal.returns-clause-value
returns-clause-value c =
    let f = c.self.inside.bits in
    let same = eqb-true (bit_and f 0xCF) f c.self.invariant in
    let most = and_le_r f 0xCF in
    let small : f < 256 = omega (arith, same, most) in
    c.of_named.ensures ∙ sym (cleared_flags f small) ∙ ap without_inherited c.self.view_is

pub returns-clause-group : goal.returns-clause-group
returns-clause-group c =
    ap identifier_group c.of_named.ensures ∙ cleared_group c.self.inside.bits ∙ ap identifier_group c.self.view_is
