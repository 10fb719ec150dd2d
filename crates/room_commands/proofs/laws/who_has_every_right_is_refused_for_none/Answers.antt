use Rattle.room_commands.proofs.RightsSuffice.{never_denied}
use Rattle.room_commands.proofs.laws.who_has_every_right_is_refused_for_none.Goals as goal

pub returns : goal.returns
returns c = never_denied
