use Rattle.toml.specs.View.{table_view}
use Rattle.room_roster.proofs.UserTables.{SoFar}
use Rattle.room_roster.proofs.users.users.Given as goal

abbrev pub invariant-loop-name : goal.invariant-loop-name
invariant-loop-name l = SoFar (table_view l.table) l.name-iterator l.roster
