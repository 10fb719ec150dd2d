use Rattle.room_commands.proofs.Protected.{protected_list, protected_anywhere, protected_moved}
use Rattle.room_commands.proofs.laws.a_protected_list_stays_its_own.Goals as goal

pub returns-clause-own : goal.returns-clause-own
returns-clause-own c = protected_list

pub returns-clause-anywhere : goal.returns-clause-anywhere
returns-clause-anywhere c = protected_anywhere

pub returns-clause-moved : goal.returns-clause-moved
returns-clause-moved c = protected_moved
