use Rattle.room_sql.proofs.Common.{◌≡◌, [], ◌∷◌, refl, bound, bound_reply}
use Rattle.room_tables.proofs.Slots.{row_values}
use Rattle.room_sql.proofs.Made.{slot_made}
use Rattle.room_sql.proofs.Frames.{ok_then}
use Rattle.room_sql.proofs.writes.put_slot.Given.{Over}
use Rattle.room_sql.proofs.writes.put_slot.Goals as goal

params : (g : Over) (c : goal.After-run_or g) → bound (c.params-to_sql.result ∷ c.params-to_sql-2.result
    ∷ c.params-to_sql-3.result ∷ c.params-to_sql-4.result ∷ c.params-to_sql-5.result ∷ []) ≡ row_values c.args.row.now
params g c = rw (
  c.params-to_sql.ensures,
  c.params-to_sql-2.ensures,
  c.params-to_sql-3.ensures,
  c.params-to_sql-4.ensures,
  c.params-to_sql-5.ensures,
  c.text-sid.ensures.value,
  c.kept_number-seq.ensures,
  c.kept_request-request.ensures,
  c.kept_reply-reply.ensures,
  bound_reply c.args.row.now.kept.reply,
) refl

pub returns-clause-ok : goal.returns-clause-ok
returns-clause-ok g c clean =
    ok_then c.run_or.result (c.run_or.ensures.done clean)
    (λ ran room. slot_made g.S.Store c.args.row.now c.args.tx.now.conn.now c.run_or.new.tx.conn.now room
    (rw (params g c) at ran))
