use Rattle.room_cache.proofs.Common.{ap, sym, ◌∙◌, rules}
use Rattle.std.specs.Option.{option_copied}
use Rattle.room_cache.proofs.known.Known.slot.Goals as goal

pub returns-in-Some-Whole-clause-true_of : goal.returns-in-Some-Whole-clause-true_of
returns-in-Some-Whole-clause-true_of c = λ r true_of.
    ap (λ name. r.slot name c.args.slot) (sym c.in-Ok.ensures)
    ∙ (true_of.slots c.in-Ok.sid c.args.slot c.in-Some-Whole.field-0.now
    (sym c.get.ensures ∙ ap option_copied c.in-Some-Whole.is)).1.1 c.in-Some-Whole.kept (search rules)
