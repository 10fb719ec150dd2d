use Rattle.room_desk.proofs.Numbers.{accepted_differ, accepted_are_for}
use Rattle.room_desk.proofs.laws.no_number_is_accepted_twice.Goals as goal

pub returns-clause-numbers : goal.returns-clause-numbers
returns-clause-numbers c = accepted_differ

pub returns-clause-of_the_slot : goal.returns-clause-of_the_slot
returns-clause-of_the_slot c = accepted_are_for
