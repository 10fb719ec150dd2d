use Rattle.room_wire.proofs.Lemmas.Forms.CommandPaths.{read_path}
use Rattle.room_wire.proofs.forms.commands.path_from.Goals as goal

pub returns : goal.returns
returns c = read_path _ _ c.read.ensures.some c.read.ensures.every
