use Rattle.room_sql.proofs.Common.{◌≡◌, [], ◌∷◌, refl, bound}
use Rattle.room_sql.proofs.Made.{session_values, session_made}
use Rattle.room_sql.proofs.Frames.{ok_then}
use Rattle.room_sql.proofs.writes.put_session.Given.{Over}
use Rattle.room_sql.proofs.writes.put_session.Goals as goal

params : (g : Over) (c : goal.After-run g) → bound (c.params-to_sql.result ∷ c.params-to_sql-2.result
    ∷ c.params-to_sql-3.result ∷ c.params-to_sql-4.result ∷ []) ≡ session_values c.args.row.now
params g c = rw (
  c.params-to_sql.ensures,
  c.params-to_sql-2.ensures,
  c.params-to_sql-3.ensures,
  c.params-to_sql-4.ensures,
  c.text-sid.ensures.value,
  c.text-owner.ensures.value,
  c.get-slots.ensures.value,
  c.flag_number-is_open.ensures,
) refl

pub returns-clause-ok : goal.returns-clause-ok
returns-clause-ok g c clean = ok_then c.run.result (c.run.ensures.done clean)
    (λ ran room. session_made c.args.row.now _ _ ran.0 room (rw (params g c) at ran.1))
