use Rattle.room_wire.proofs.Common.{sym, ap, ◌∙◌, ◌+◌, ◌||◌, drop, take_rest, lists_close}
use Rattle.room_wire.proofs.Lemmas.Messages.Parts.{close_at, close_none}
use Rattle.room_wire.proofs.messages.last.lists_close.Goals as goal

pub returns-then-is_close : goal.returns-then-is_close
returns-then-is_close c =
    let rest = drop (c.in-Some.comma + 1) c.parts.rest.now in
    ap (λ b. b || lists_close rest) c.if-is_close.ensures
    ∙ sym (close_at c.parts.rest.now c.in-Some.comma (sym c.in-Some.ensures.value)) ∙ c.parts.invariant

pub parts-preserved : goal.parts-preserved
parts-preserved c =
    let rest = drop (c.in-Some.comma + 1) c.parts.rest.now in
    ap lists_close (take_rest c.parts.rest.now (c.in-Some.comma + 1))
    ∙ ap (λ b. b || lists_close rest) c.if-is_close.ensures
    ∙ sym (close_at c.parts.rest.now c.in-Some.comma (sym c.in-Some.ensures.value)) ∙ c.parts.invariant

pub returns : goal.returns
returns c = c.is_close-2.ensures
    ∙ sym (close_none c.parts.rest.now (sym c.in_default.ensures.value)) ∙ c.parts.invariant
