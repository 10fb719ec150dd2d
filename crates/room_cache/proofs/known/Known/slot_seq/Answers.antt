use Rattle.room_cache.proofs.Common.{ap, sym, ◌∙◌, Some}
use Rattle.std.specs.Option.{option_copied}
use Rattle.room_slots.specs.Slots.{kept_seq}
use Rattle.room_cache.proofs.known.Known.slot_seq.Goals as goal

pub returns-in-Some-clause-true_of : goal.returns-in-Some-clause-true_of
returns-in-Some-clause-true_of c = λ r true_of.
    ap (λ name. kept_seq (r.slot name c.args.slot)) (sym c.in-Ok.ensures)
    ∙ (true_of.slots c.in-Ok.sid c.args.slot c.in-Some.fact.now (sym c.get.ensures ∙ ap option_copied c.in-Some.is)).1.0
    ∙ ap Some (sym c.seq.ensures)
