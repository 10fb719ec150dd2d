use Rattle.room_sql.proofs.Common.{◌≡◌, ◌+◌, ◌-◌, [], ◌∷◌, refl, sym, ap₂, arith, bound, bound_value}
use Rattle.room_tables.proofs.Neighbours.{four_params, lists_renewed}
use Rattle.room_sql.proofs.Bound.{columns, entry_then}
use Rattle.room_sql.proofs.Frames.{ok_then}
use Rattle.room_sql.proofs.renewing.change_four.Given.{Over}
use Rattle.room_sql.proofs.renewing.change_four.Goals as goal

params : (g : Over) (c : goal.After-run g) → bound (c.to_sql.result ∷ columns
    (c.entry_row-a.result ∷ c.entry_row-b.result ∷ c.entry_row-c.result ∷ c.entry_row-d.result ∷ []))
    ≡ four_params c.args.id c.args.place (c.args.place + (c.args.count - 1)) c.args.a.now c.args.b.now c.args.c.now
    c.args.d.now
params g c = ap₂ (λ x l. bound_value x ∷ l) c.to_sql.ensures
    (entry_then c.entry_row-a.result (c.entry_row-b.result ∷ c.entry_row-c.result ∷ c.entry_row-d.result ∷ [])
    c.args.a.now refl c.entry_row-a.ensures.row
    (entry_then c.entry_row-b.result (c.entry_row-c.result ∷ c.entry_row-d.result ∷ [])
    c.args.b.now (omega arith) c.entry_row-b.ensures.row
    (entry_then c.entry_row-c.result (c.entry_row-d.result ∷ []) c.args.c.now (omega arith) c.entry_row-c.ensures.row
    (entry_then c.entry_row-d.result [] c.args.d.now refl c.entry_row-d.ensures.row refl))))

pub returns-clause-ok : goal.returns-clause-ok
returns-clause-ok g c clean =
    ok_then c.run.result (c.run.ensures.done clean) (λ done was before stored behind len same lists.
    rw same at (lists_renewed _ _ c.args.id c.args.place (c.args.place + (c.args.count - 1)) done.0 before stored behind
    c.args.a.now c.args.b.now c.args.c.now c.args.d.now was (sym len) (omega (arith, same, c.requires.some))
    (omega (arith, same, c.requires.few)) (
      c.entry_row-a.ensures.back,
      (
        c.entry_row-b.ensures.back,
        (
          c.entry_row-c.ensures.back,
          (c.entry_row-d.ensures.back, tt),
        ),
      ),
    ) lists (rw (params g c) at done.1)))
