use Rattle.room_commands.proofs.Others.{others_do_not_show, stay_itself, unseen_write, unseen_append}
use Rattle.room_commands.proofs.Unseen.{done_unseen}
use Rattle.room_commands.proofs.laws.what_others_do_unseen_does_not_show.Goals as goal

pub returns-clause-answers : goal.returns-clause-answers
returns-clause-answers c = λ room caller turns lawful unseen.
    others_do_not_show caller turns room room lawful lawful (stay_itself room caller) unseen

pub returns-clause-written : goal.returns-clause-written
returns-clause-written c = unseen_write

pub returns-clause-appended : goal.returns-clause-appended
returns-clause-appended c = unseen_append

pub returns-clause-done : goal.returns-clause-done
returns-clause-done c = done_unseen
