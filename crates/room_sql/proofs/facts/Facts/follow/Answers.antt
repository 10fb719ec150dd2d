use Rattle.room_sql.proofs.facts.Facts.follow.Goals as goal

pub returns : goal.returns
returns c = λ old new nodes all. record {
  nodes = c.follow.ensures (old 1) (new 1) nodes all;
  lists = c.forget.ensures new;
}
