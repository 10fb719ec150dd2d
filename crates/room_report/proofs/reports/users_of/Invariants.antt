use Rattle.room_report.proofs.Common.{◌≡◌, take}
use Rattle.room_report.proofs.reports.users_of.Given as goal

abbrev pub invariant-loop-place : goal.invariant-loop-place
invariant-loop-place l = l.users.items ≡ take l.place l.roster
