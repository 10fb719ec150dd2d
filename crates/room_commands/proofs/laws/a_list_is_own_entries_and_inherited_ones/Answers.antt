use Rattle.room_commands.proofs.Common.{list_of_root, list_of_child, lists_by_objects_above}
use Rattle.room_commands.proofs.laws.a_list_is_own_entries_and_inherited_ones.Goals as goal

pub returns-clause-root : goal.returns-clause-root
returns-clause-root c = list_of_root

pub returns-clause-below : goal.returns-clause-below
returns-clause-below c = list_of_child

pub returns-clause-above : goal.returns-clause-above
returns-clause-above c = lists_by_objects_above
