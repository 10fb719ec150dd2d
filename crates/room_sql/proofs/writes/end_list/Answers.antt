use Rattle.room_sql.proofs.Common.{◌≤◌, length, take, drop, arith, take_all, length-take-le}
use Rattle.room_sql.proofs.Frames.{ok_then}
use Rattle.room_sql.proofs.writes.end_list.Goals as goal

pub returns-then-stored-entries-clause-ok : goal.returns-then-stored-entries-clause-ok
returns-then-stored-entries-clause-ok g c clean =
    let both = c.args.both in
    let es = c.args.entries.now in
    let low : both ≤ length es = omega (arith, c.requires.both) in
    let all : length es ≤ both = omega (arith, c.requires.both, c.if-stored-entries.true) in
    ok_then c.drop_behind.result (c.drop_behind.ensures.ok clean) (λ done was lists.
    rw take_all at (done was (take both es) (drop both c.args.stored.now) (length-take-le both es low) lists))
