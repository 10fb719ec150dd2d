use Rattle.room_wire.proofs.Lemmas.Messages.Streams.{split_one}
use Rattle.room_wire.proofs.messages.laws.split_is_one.Goals as goal

pub returns : goal.returns
returns c = split_one
