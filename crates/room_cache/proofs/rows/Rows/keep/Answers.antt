use Rattle.room_cache.proofs.Common.{◌≤◌, ◌+◌, subst, arith, weight}
use Rattle.room_cache.proofs.Weights.{put}
use Rattle.room_cache.proofs.rows.Rows.keep.Goals as goal

pub returns-clause-weight : goal.returns-clause-weight
returns-clause-weight g c = λ w.
    let more = subst (λ rows. weight w c.insert.new.self.entries ≤ weight w rows + w c.args.value) c.self.view_is
    (put w _ c.self.inside.rows.entries c.insert.new.self.entries c.args.key c.args.value c.insert.result
    c.insert.ensures.entries c.insert.ensures.err) in
    omega (arith, more, c.make_room.ensures.weight w)
