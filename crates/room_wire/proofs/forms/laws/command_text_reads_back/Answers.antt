use Rattle.room_wire.proofs.Lemmas.Forms.CommandBack.{text_back}
use Rattle.room_wire.proofs.forms.laws.command_text_reads_back.Goals as goal

pub returns : goal.returns
returns c = text_back
