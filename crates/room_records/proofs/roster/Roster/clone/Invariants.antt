use Rattle.room_records.proofs.Common.{◌≡◌, take}
use Rattle.room_records.proofs.roster.Roster.clone.Given as goal

abbrev pub invariant-loop-user : goal.invariant-loop-user
invariant-loop-user l = l.users.items ≡ take l.user-index l.self
