use Rattle.room_commands.proofs.SeenShows.{fault_told, absence_told, all_told}
use Rattle.room_commands.proofs.laws.what_is_seen_is_told.Goals as goal

pub returns-clause-fault : goal.returns-clause-fault
returns-clause-fault c = fault_told

pub returns-clause-absence : goal.returns-clause-absence
returns-clause-absence c = absence_told

pub returns-clause-there : goal.returns-clause-there
returns-clause-there c = all_told
