use Rattle.room_sql.proofs.Common.{◌≡◌, rules, w64, to_z, of_z, to_z-of_z, taken, taken_out}
use Rattle.room_sql.proofs.Frames.{ok_then}
use Rattle.room_sql.proofs.upgrade.take_row.Goals as goal

pub returns-clause-ok : goal.returns-clause-ok
returns-clause-ok g c clean =
    let same : to_z w64 (of_z w64 c.args.id) ≡ c.args.id = search (rules, to_z-of_z) in
    ok_then c.run.result (c.run.ensures.done clean)
    (λ done before. taken before c.args.id _ _ done.0 (rw (c.params-to_sql.ensures, same) at done.1))

pub returns-clause-left : goal.returns-clause-left
returns-clause-left g c clean =
    let same : to_z w64 (of_z w64 c.args.id) ≡ c.args.id = search (rules, to_z-of_z) in
    ok_then c.run.result (c.run.ensures.done clean)
    (λ done before. taken_out before c.args.id _ _ done.0 (rw (c.params-to_sql.ensures, same) at done.1))
