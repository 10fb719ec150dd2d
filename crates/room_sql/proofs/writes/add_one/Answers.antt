use Rattle.room_sql.proofs.Common.{◌≡◌, pos, [], ◌∷◌, refl, sym, ap₂, Int, bound, bound_value, add_entry_text}
use Rattle.room_sql.proofs.Common.{bound_entries, adds_one, lists_more, fills_entries, one_insert}
use Rattle.room_sql.proofs.Bound.{columns, entry_then}
use Rattle.room_sql.proofs.Frames.{ok_then}
use Rattle.room_sql.proofs.writes.add_one.Given.{Over}
use Rattle.room_sql.proofs.writes.add_one.Goals as goal

params : (g : Over) (c : goal.After-run g) → bound (c.to_sql.result ∷ columns (c.entry_row-a.result ∷ []))
    ≡ Int (pos c.args.id) ∷ bound_entries c.args.place (c.args.a.now ∷ [])
params g c = ap₂ (λ x l. bound_value x ∷ l) c.to_sql.ensures
    (entry_then c.entry_row-a.result [] c.args.a.now refl c.entry_row-a.ensures.row refl)

pub returns-clause-ok : goal.returns-clause-ok
returns-clause-ok g c clean = ok_then c.run.result (c.run.ensures.done clean) (λ done records before len was.
    lists_more add_entry_text _ _ c.args.id c.args.place done.0 before (c.args.a.now ∷ []) records
    (λ l. adds_one l c.args.id c.args.place c.args.a.now) (sym len)
    (c.entry_row-a.ensures.back, tt) was (rw (params g c) at done.1))

pub returns-clause-spares : goal.returns-clause-spares
returns-clause-spares g c clean = ok_then c.run.result (c.run.ensures.done clean) (λ done before len.
    fills_entries add_entry_text c.args.id c.args.place before (c.args.a.now ∷ [])
    (one_insert c.args.id c.args.place c.args.a.now) (sym len)
    (c.entry_row-a.ensures.back, tt) _ _ done.0 (rw (params g c) at done.1))
