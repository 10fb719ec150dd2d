use Rattle.room_program.proofs.Common.{inl, inr, ∥∥₁_map, image_at}
use Rattle.room_program.proofs.Restarts.{again}
use Rattle.room_program.proofs.halts.an_event_cut_off_acts_once.Goals as goal

pub returns : goal.returns
returns g c opened taken after event answered start past held is adopted call intact none = ∥∥₁_map held (λ either.
    again _ (image_at g.T.Start) opened taken after event answered start past
    (elim either [ inl without ↦ inl without | inr with_it ↦ inr with_it.1 ]) is adopted call intact none)
