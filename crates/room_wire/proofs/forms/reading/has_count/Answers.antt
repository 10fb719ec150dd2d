use Rattle.room_wire.proofs.Common.{◌==◌, sym, ap, ◌∙◌}
use Rattle.room_wire.proofs.Lemmas.Forms.Objects.{count_view, object_is}
use Rattle.room_wire.proofs.forms.reading.has_count.Goals as goal

pub returns-in-Some : goal.returns-in-Some
returns-in-Some c = ap (λ n. n == c.args.count) (c.len.ensures.len ∙ sym (count_view c.in-Some.members.now.entries))
    ∙ sym (object_is c.args.count _ _ c.in-Some.ensures)
