use Rattle.room_sql.proofs.Common.{◌≡◌, ◌≤◌, ◌+◌, ◌-◌, length, take, drop, arith, length-take-le, length-drop}
use Rattle.room_sql.proofs.Bound.{next_few}
use Rattle.room_sql.proofs.renewing.renew_from.Goals as goal

pub returns-clause-ok : goal.returns-clause-ok
returns-clause-ok g c clean was lists =
    let k = c.args.place in
    let n = c.count_differing-count.result in
    let es = c.args.entries.now in
    let st = c.args.stored.now in
    let part : length (take (c.args.both - k) (drop k es)) ≡ c.args.both - k =
    length-take-le (c.args.both - k) (drop k es) (omega (arith, length-drop k es, c.requires.wanted)) in
    let low : k + n ≤ length es =
    omega (arith, c.count_differing-count.ensures.within, part, c.requires.wanted, c.requires.here) in
    let high : k + n ≤ length st =
    omega (arith, c.count_differing-count.ensures.within, part, c.requires.stored, c.requires.here) in
    let few = next_few k n (k + n - k) es st (omega arith) low high in
    rw few.2 at (c.in_ok-change_batch.ensures.ok clean was (take k es) (take n (drop k st)) (drop (k + n) st)
    (length-take-le k es (omega (arith, low))) few.0 (rw few.1 at lists))
