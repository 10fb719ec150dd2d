use Rattle.room_acl.proofs.Common.{ap, sym, ◌∙◌, identifier_group}
use Rattle.room_acl.proofs.Travelling.{row_is_given}
use Rattle.room_acl.proofs.inheritance.given_flags.Goals as goal

pub of_named-requires : goal.of_named-requires
of_named-requires c = (row_is_given c.args.kind c.args.flags c.in_ok-given.given _
    (sym c.given_bits.ensures ∙ c.in_ok-given.was) c.bits.ensures.value).are_flags

pub returns-clause-group : goal.returns-clause-group
returns-clause-group c =
    ap identifier_group c.of_named.ensures
    ∙ (row_is_given c.args.kind c.args.flags c.in_ok-given.given _
    (sym c.given_bits.ensures ∙ c.in_ok-given.was) c.bits.ensures.value).group
