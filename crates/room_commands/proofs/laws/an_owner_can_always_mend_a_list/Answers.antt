use Rattle.room_commands.proofs.OwnersLists.{owner_gets, owner_sets}
use Rattle.room_commands.proofs.laws.an_owner_can_always_mend_a_list.Goals as goal

pub returns-clause-reads : goal.returns-clause-reads
returns-clause-reads c = λ room caller path o there owns way. owner_gets room caller path o there way owns

pub returns-clause-writes : goal.returns-clause-writes
returns-clause-writes c = λ room caller path o aclflag entries there owns way lawful.
    owner_sets room caller path o there way aclflag entries owns lawful
