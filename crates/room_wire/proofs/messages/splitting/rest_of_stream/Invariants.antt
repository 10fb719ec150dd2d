use Rattle.room_wire.proofs.Common.{List, length, MessageModel, Follows}
use Rattle.room_wire.proofs.messages.splitting.rest_of_stream.Given as goal

abbrev pub invariant-messages : goal.invariant-messages
invariant-messages l = (ms : List MessageModel) × Follows l.bytes ms l.rest

abbrev pub decreases-messages : goal.decreases-messages
decreases-messages l = length l.rest
