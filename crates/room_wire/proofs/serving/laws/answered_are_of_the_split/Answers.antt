use Rattle.room_wire.proofs.Lemmas.Serving.Joins.{answered_front}
use Rattle.room_wire.proofs.serving.laws.answered_are_of_the_split.Goals as goal

pub returns : goal.returns
returns c = λ bytes rest out q ms ks after old new why. answered_front bytes rest ms ks out q after old new why
