use Rattle.room_wire.proofs.Lemmas.Forms.CommandBytes.{decoded_some, decoded_none}
use Rattle.room_wire.proofs.forms.commands.bytes_from.Goals as goal

pub returns-in-Ok : goal.returns-in-Ok
returns-in-Ok c = decoded_some c.as_bytes.result.now c.args.text.now
    c.in-Ok.bytes.items c.as_bytes.ensures.value c.in-Ok.ensures.ok

pub returns-in-Err-DecodeError : goal.returns-in-Err-DecodeError
returns-in-Err-DecodeError c =
    decoded_none c.as_bytes.result.now c.args.text.now c.in-Err-DecodeError.field-0
    c.in-Err-DecodeError.field-0-0 c.as_bytes.ensures.value
    c.in-Err-DecodeError.ensures.err c.in-Err-DecodeError.field-0-is
