use Rattle.room_sql.proofs.Common.{◌≡◌, pos, [], ◌∷◌, refl, sym, ap₂, arith, Int, bound, bound_value, add_two_text}
use Rattle.room_sql.proofs.Common.{bound_entries, adds_two, lists_more, fills_entries, two_insert}
use Rattle.room_sql.proofs.Bound.{columns, entry_then}
use Rattle.room_sql.proofs.Frames.{ok_then}
use Rattle.room_sql.proofs.writes.add_two.Given.{Over}
use Rattle.room_sql.proofs.writes.add_two.Goals as goal

params : (g : Over) (c : goal.After-run g)
    → bound (c.to_sql.result ∷ columns (c.entry_row-a.result ∷ c.entry_row-b.result ∷ []))
    ≡ Int (pos c.args.id) ∷ bound_entries c.args.place (c.args.a.now ∷ c.args.b.now ∷ [])
params g c = ap₂ (λ x l. bound_value x ∷ l) c.to_sql.ensures
    (entry_then c.entry_row-a.result (c.entry_row-b.result ∷ []) c.args.a.now refl c.entry_row-a.ensures.row
    (entry_then c.entry_row-b.result [] c.args.b.now (omega arith) c.entry_row-b.ensures.row refl))

pub returns-clause-ok : goal.returns-clause-ok
returns-clause-ok g c clean = ok_then c.run.result (c.run.ensures.done clean) (λ done records before len was.
    lists_more add_two_text _ _ c.args.id c.args.place done.0 before (c.args.a.now ∷ c.args.b.now ∷ []) records
    (λ l. adds_two l c.args.id c.args.place c.args.a.now c.args.b.now) (sym len)
    (c.entry_row-a.ensures.back, (c.entry_row-b.ensures.back, tt)) was (rw (params g c) at done.1))

pub returns-clause-spares : goal.returns-clause-spares
returns-clause-spares g c clean = ok_then c.run.result (c.run.ensures.done clean) (λ done before len.
    fills_entries add_two_text c.args.id c.args.place before (c.args.a.now ∷ c.args.b.now ∷ [])
    (two_insert c.args.id c.args.place c.args.a.now c.args.b.now) (sym len)
    (c.entry_row-a.ensures.back, (c.entry_row-b.ensures.back, tt)) _ _ done.0 (rw (params g c) at done.1))
