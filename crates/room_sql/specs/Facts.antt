-- What a shelf remembers is true of its rows.
use Rattle.sqlite_trees.specs.Tree.{Trees}
use Rattle.room_sql.specs.declared.facts.Facts.{Facts}
use Rattle.room_sql.specs.NodeFacts.{KnowsRows}
use Rattle.room_sql.specs.ReadLists.{AreStored}

pub record AreTrueOf (facts : Facts) (trees : Trees) : Type 0 where
  pub nodes : KnowsRows facts.nodes (trees 1)
  pub lists : AreStored facts.lists trees

-- they are true of any rows
abbrev pub KnowsNothing : Facts → Type 0
KnowsNothing facts = (trees : Trees) → AreTrueOf facts trees
