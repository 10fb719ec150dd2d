use Rattle.room_sql.proofs.Bound.{single, one_is, two_is, three_is, four_is}
use Rattle.room_sql.proofs.Frames.{ok_then}
use Rattle.room_sql.proofs.renewing.change_batch.Goals as goal

pub returns-in-len1-clause-ok : goal.returns-in-len1-clause-ok
returns-in-len1-clause-ok g c clean =
    rw (one_is c.in-len1.len_at_least c.in-len1.len_below c.a-item.is)
    (ok_then c.change_entry.result (c.change_entry.ensures.ok clean) (λ done was before stored behind place same lists.
    let one = single stored same in done was before behind one.0 place (rw one.1 at lists)))

pub returns-in-len2-clause-ok : goal.returns-in-len2-clause-ok
returns-in-len2-clause-ok g c clean =
    rw (two_is c.in-len2.len_at_least c.in-len2.len_below c.a-item-then-batch-lt3.is c.b-item.is)
    (c.change_four.ensures.ok clean)

pub returns-in-len3-clause-ok : goal.returns-in-len3-clause-ok
returns-in-len3-clause-ok g c clean =
    rw (three_is c.in-len3.len_at_least c.in-len3.len_below c.a-item-then-batch-lt4.is c.b-item-then-batch-lt4.is
    c.c-item.is) (c.change_four-in-len3.ensures.ok clean)

pub returns-in-len4-clause-ok : goal.returns-in-len4-clause-ok
returns-in-len4-clause-ok g c clean =
    rw (four_is c.in-len4.len_at_least c.in-len4.len_below c.a-item-then-batch-lt5.is c.b-item-then-batch-lt5.is
    c.c-item-then-batch-lt5.is c.d-item.is) (c.change_four-in-len4.ensures.ok clean)
