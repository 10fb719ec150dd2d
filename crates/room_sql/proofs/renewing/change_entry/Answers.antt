use Rattle.room_sql.proofs.Common.{◌≡◌, pos, [], ◌∷◌, sym, ap₂, Int, bound, bound_value, shown_as, lists_changed}
use Rattle.room_sql.proofs.Bound.{columns}
use Rattle.room_sql.proofs.Frames.{ok_then}
use Rattle.room_sql.proofs.renewing.change_entry.Given.{Over}
use Rattle.room_sql.proofs.renewing.change_entry.Goals as goal

params : (g : Over) (c : goal.After-run g) → bound (c.to_sql.result ∷ columns (c.entry_row-row.result ∷ []))
    ≡ Int (pos c.args.id) ∷ shown_as c.args.place c.args.entry.now
params g c = ap₂ (λ x l. bound_value x ∷ l) c.to_sql.ensures c.entry_row-row.ensures.row

pub returns-clause-ok : goal.returns-clause-ok
returns-clause-ok g c clean =
    ok_then c.run.result (c.run.ensures.done clean) (λ done records before behind stored len was.
    lists_changed _ _ c.args.id c.args.place done.0 before behind stored c.args.entry.now records (sym len)
    c.entry_row-row.ensures.back was (rw (params g c) at done.1))
