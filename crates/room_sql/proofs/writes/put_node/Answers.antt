use Rattle.room_sql.proofs.Common.{◌≡◌, [], ◌∷◌, refl, bound, params_of_node, bound_parent}
use Rattle.room_sql.proofs.Made.{node_made}
use Rattle.room_sql.proofs.Frames.{ok_then}
use Rattle.room_sql.proofs.writes.put_node.Given.{Over}
use Rattle.room_sql.proofs.writes.put_node.Goals as goal

params : (g : Over) (c : goal.Joined-parent g) → bound (c.params-to_sql.result ∷ c.params-to_sql-2.result
    ∷ c.params-to_sql-3.result ∷ c.params-to_sql-4.result ∷ c.params-to_sql-5.result ∷ c.params-to_sql-6.result
    ∷ c.params-to_sql-7.result ∷ []) ≡ params_of_node c.args.node.now c.name_text-name.result.now
params g c = rw (
  c.params-to_sql.ensures,
  c.params-to_sql-2.ensures,
  c.params-to_sql-3.ensures,
  c.params-to_sql-4.ensures,
  c.params-to_sql-5.ensures,
  c.params-to_sql-6.ensures,
  c.params-to_sql-7.ensures,
  c.node_number-id.ensures,
  c.parent_value-parent.ensures,
  bound_parent c.args.node.now.parent,
  c.kind_number-kind.ensures,
  c.owner_text-owner.ensures,
  c.group_text-group.ensures,
  c.list_flags-aclflag.ensures,
) refl

pub returns-clause-ok : goal.returns-clause-ok
returns-clause-ok g c clean = ok_then c.run_or.result (c.run_or.ensures.done clean) (λ ran room.
    node_made g.S.Store c.args.node.now _ c.args.tx.now.conn.now c.run_or.new.tx.conn.now c.name_text-name.ensures room
    (rw (params g c) at ran))
