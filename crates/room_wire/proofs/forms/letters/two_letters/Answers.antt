use Rattle.room_wire.proofs.Lemmas.Forms.Letters.{pair_at}
use Rattle.room_wire.proofs.forms.letters.two_letters.Goals as goal

pub returns : goal.returns
returns c = pair_at c.args.number _ c.requires
