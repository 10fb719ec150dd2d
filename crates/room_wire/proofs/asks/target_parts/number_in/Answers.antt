use Rattle.room_wire.proofs.Common.{◌≡◌, true, ap, sym, ◌∙◌, is_number}
use Rattle.room_wire.proofs.Lemmas.Asks.Numerals.{number_read, number_none}
use Rattle.room_wire.proofs.asks.target_parts.number_in.Goals as goal

pub returns-in-Ok : goal.returns-in-Ok
returns-in-Ok c =
    let plain : is_number c.args.text.now ≡ true =
    ap is_number (sym c.as_bytes.ensures.value) ∙ sym c.is_number.ensures ∙ c.if-not-is_number.false in
    number_read _ c.args.text.now c.parse.result c.in-Ok.number plain c.parse.ensures.value.0 c.in-Ok.is

pub returns-in-Err : goal.returns-in-Err
returns-in-Err c =
    let plain : is_number c.args.text.now ≡ true =
    ap is_number (sym c.as_bytes.ensures.value) ∙ sym c.is_number.ensures ∙ c.if-not-is_number.false in
    number_none _ c.args.text.now c.parse.result c.in-Err.field-0 plain c.parse.ensures.value.0 c.in-Err.is
