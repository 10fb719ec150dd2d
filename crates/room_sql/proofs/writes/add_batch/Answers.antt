use Rattle.room_sql.proofs.Bound.{one_is, two_is, three_is, four_is}
use Rattle.room_sql.proofs.writes.add_batch.Goals as goal

pub returns-in-len1-clause-ok : goal.returns-in-len1-clause-ok
returns-in-len1-clause-ok g c clean =
    rw (one_is c.in-len1.len_at_least c.in-len1.len_below c.a-item.is) (c.add_one.ensures.ok clean)

pub returns-in-len2-clause-ok : goal.returns-in-len2-clause-ok
returns-in-len2-clause-ok g c clean =
    rw (two_is c.in-len2.len_at_least c.in-len2.len_below c.a-item-then-batch-lt3.is c.b-item.is)
    (c.add_two.ensures.ok clean)

pub returns-in-len3-clause-ok : goal.returns-in-len3-clause-ok
returns-in-len3-clause-ok g c clean =
    rw (three_is c.in-len3.len_at_least c.in-len3.len_below c.a-item-then-batch-lt4.is c.b-item-then-batch-lt4.is
    c.c-item.is) (c.add_three.ensures.ok clean)

pub returns-in-len4-clause-ok : goal.returns-in-len4-clause-ok
returns-in-len4-clause-ok g c clean =
    rw (four_is c.in-len4.len_at_least c.in-len4.len_below c.a-item-then-batch-lt5.is c.b-item-then-batch-lt5.is
    c.c-item-then-batch-lt5.is c.d-item.is) (c.add_four.ensures.ok clean)

pub returns-in-len1-clause-spares : goal.returns-in-len1-clause-spares
returns-in-len1-clause-spares g c clean =
    rw (one_is c.in-len1.len_at_least c.in-len1.len_below c.a-item.is) (c.add_one.ensures.spares clean)

pub returns-in-len2-clause-spares : goal.returns-in-len2-clause-spares
returns-in-len2-clause-spares g c clean =
    rw (two_is c.in-len2.len_at_least c.in-len2.len_below c.a-item-then-batch-lt3.is c.b-item.is)
    (c.add_two.ensures.spares clean)

pub returns-in-len3-clause-spares : goal.returns-in-len3-clause-spares
returns-in-len3-clause-spares g c clean =
    rw (three_is c.in-len3.len_at_least c.in-len3.len_below c.a-item-then-batch-lt4.is c.b-item-then-batch-lt4.is
    c.c-item.is) (c.add_three.ensures.spares clean)

pub returns-in-len4-clause-spares : goal.returns-in-len4-clause-spares
returns-in-len4-clause-spares g c clean =
    rw (four_is c.in-len4.len_at_least c.in-len4.len_below c.a-item-then-batch-lt5.is c.b-item-then-batch-lt5.is
    c.c-item-then-batch-lt5.is c.d-item.is) (c.add_four.ensures.spares clean)
