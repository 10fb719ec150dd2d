use Rattle.room_program.proofs.Common.{ℕ, List, subst, inr, Made, MakesAt, Unmade}
use Rattle.room_program.proofs.making.init.Goals as goal

pub returns : goal.returns
returns g c =
    let (owner_is, group_is, names) = c.in_ok-standing.ensures.ok in
    let At : List ℕ → List ℕ → Type 0 = λ owner group.
    MakesAt g.M.Machine.does (Made g.S.Store owner group) (Unmade g.S.Store owner group)
    c.args.db.now c.args.machine.now c.make_at.new.machine c.make_at.result in
    inr (
      names,
      subst (At c.args.owner.now) group_is
          (subst (λ owner. At owner c.in_ok-standing.standing.group) owner_is c.make_at.ensures),
    )
