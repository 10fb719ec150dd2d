use Rattle.room_records.proofs.Common.{take}
use Rattle.room_records.specs.Roster.{AreBefore}
use Rattle.room_records.proofs.roster.index_of.Given as goal

abbrev pub invariant-loop-place : goal.invariant-loop-place
invariant-loop-place l = AreBefore l.name (take l.place l.users)
