use Rattle.room_wire.proofs.Lemmas.Messages.Fronts.{message_prefix_free}
use Rattle.room_wire.proofs.messages.laws.message_is_one.Goals as goal

pub returns : goal.returns
returns c = message_prefix_free
