use Rattle.room_wire.proofs.Common.{sym}
use Rattle.room_wire.proofs.Lemmas.Asks.Numerals.{no_principal}
use Rattle.room_wire.proofs.asks.caller.principal_of.Goals as goal

pub returns-in-Err : goal.returns-in-Err
returns-in-Err c = sym (no_principal c.args.text.now c.in-Err.ensures.cases.0)
