use Rattle.room_wire.proofs.Common.{subst}
use Rattle.room_wire.specs.Asks.CheckAsk.{Decodes, check_of}
use Rattle.room_wire.proofs.asks.check_ask.decode_check.Goals as goal

-- what was lent of the message is the message's
pub returns : goal.returns
returns c = λ m s.
    subst (λ ask. Decodes ask c.read_check.result)
    (λ i. check_of (s.method i) (s.target i) (s.body i)) c.read_check.ensures
