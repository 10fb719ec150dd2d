use Rattle.room_sql.proofs.renewing.count_differing.Given as goal

abbrev pub invariant-loop-next : goal.invariant-loop-next
invariant-loop-next l = Unit {0}
