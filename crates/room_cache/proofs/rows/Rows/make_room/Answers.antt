use Rattle.room_cache.proofs.Common.{◌≤◌, sym, subst, weight}
use Rattle.room_cache.proofs.Weights.{removed}
use Rattle.room_cache.proofs.rows.Rows.make_room.Goals as goal

pub returns-then-is_some-clause-weight : goal.returns-then-is_some-clause-weight
returns-then-is_some-clause-weight g c = λ w.
    subst (λ rows. weight w c.remove.new.self.entries ≤ weight w rows) c.self.view_is
    (subst (λ rows. weight w rows ≤ weight w c.self.inside.rows.entries) (sym c.remove.ensures.entries)
    (removed w _ c.self.inside.rows.entries))
