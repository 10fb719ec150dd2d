use Rattle.room_wire.proofs.Lemmas.Forms.CommandBack.{one_command}
use Rattle.room_wire.proofs.forms.laws.command_of_text_is_one.Goals as goal

pub returns : goal.returns
returns c = one_command
