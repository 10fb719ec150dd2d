use Rattle.room_wire.proofs.Lemmas.Forms.CommandLawful.{fitting}
use Rattle.room_wire.proofs.forms.commands.bytes_fit.Goals as goal

pub returns : goal.returns
returns c = fitting c.args.bytes.now c.type_inv.bytes
