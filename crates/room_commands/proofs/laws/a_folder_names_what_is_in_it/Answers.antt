use Rattle.room_commands.proofs.Common.{listed_is_there, there_is_listed, children_rise}
use Rattle.room_commands.proofs.laws.a_folder_names_what_is_in_it.Goals as goal

pub returns-clause-names : goal.returns-clause-names
returns-clause-names c =
    λ room folder name kind. (listed_is_there room folder name kind, there_is_listed room folder name kind)

pub returns-clause-order : goal.returns-clause-order
returns-clause-order c = children_rise
