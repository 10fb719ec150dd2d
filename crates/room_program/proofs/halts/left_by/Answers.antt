use Rattle.room_program.proofs.Common.{subst, sym, inl, inr, RepresentsHistory, AnsweredThenLeft}
use Rattle.room_program.proofs.halts.left_by.Goals as goal

pub returns : goal.returns
returns g c before event answered call =
    subst (λ s. AnsweredThenLeft g.S.Shelf.view before event answered s) (sym c.into_shelf.ensures) (record {
      call = call;
      rows = λ start past stands there intact left may. elim (call.crash intact start past stands left may) [
        | inl old ↦ inl (subst (λ r. RepresentsHistory start r past)
            (sym (g.met.S.Shelf.settled before left there old)) (stands there).1)
        | inr made ↦ inr made.1
      ];
      laid_out = λ start past stands there intact.
          call.stays_laid_out intact start past stands (g.met.S.Shelf.leaves_laid_out before there (stands there).0);
    })
