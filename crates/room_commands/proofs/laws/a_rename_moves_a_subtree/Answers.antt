use Rattle.room_commands.proofs.RoomLaws.{rename_moves, rename_leaves_nothing, rename_spares}
use Rattle.room_commands.proofs.laws.a_rename_moves_a_subtree.Goals as goal

pub returns-clause-moved : goal.returns-clause-moved
returns-clause-moved c = rename_moves

pub returns-clause-gone : goal.returns-clause-gone
returns-clause-gone c = rename_leaves_nothing

pub returns-clause-elsewhere : goal.returns-clause-elsewhere
returns-clause-elsewhere c = rename_spares
