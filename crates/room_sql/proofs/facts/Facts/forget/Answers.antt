use Rattle.room_sql.proofs.facts.Facts.forget.Goals as goal

pub returns-clause-true_of : goal.returns-clause-true_of
returns-clause-true_of c = λ trees. record {
  nodes = c.forget.ensures.true_of (trees 1);
  lists = c.forget-2.ensures trees;
}
