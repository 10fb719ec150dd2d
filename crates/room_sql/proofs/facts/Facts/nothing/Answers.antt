use Rattle.room_sql.proofs.facts.Facts.nothing.Goals as goal

pub returns-clause-true_of : goal.returns-clause-true_of
returns-clause-true_of c = λ trees. record { nodes = c.nothing.ensures.true_of (trees 1); lists = c.none.ensures trees }
