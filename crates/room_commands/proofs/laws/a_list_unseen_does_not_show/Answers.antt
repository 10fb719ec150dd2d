use Rattle.room_commands.proofs.Common.{first_refusal, checks}
use Rattle.room_commands.specs.CommandModel as C
use Rattle.room_commands.proofs.ListsUnseen.{unseen_setlist, unseen_chown}
use Rattle.room_commands.proofs.laws.a_list_unseen_does_not_show.Goals as goal

pub returns-clause-listed : goal.returns-clause-listed
returns-clause-listed c = λ room caller other aclflag entries path.
    unseen_setlist room caller other path aclflag entries
    (first_refusal (checks room other (C.SetList aclflag entries path)))

pub returns-clause-given : goal.returns-clause-given
returns-clause-given c = λ room caller other group owner path.
    unseen_chown room caller other path group owner (first_refusal (checks room other (C.Chown group owner path)))
