use Rattle.room_wire.proofs.Common.{rules, trim_ows}
use Rattle.room_wire.proofs.messages.last.trim_ows.Goals as goal

pub returns : goal.returns
unfolding trim_ows
returns c = search rules
