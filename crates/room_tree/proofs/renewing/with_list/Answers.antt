use Rattle.room_tree.proofs.Common.{ap, ◌∙◌, arith, List, [], ◌∷◌, ◌++◌, Change, PutEntries, PutNode}
use Rattle.room_tree.proofs.renewing.with_list.Goals as goal

pub returns-in_default-clause-value : goal.returns-in_default-clause-value
returns-in_default-clause-value g c = λ available laid_out t e room stand path stored at stands kind.
    rw c.in_default.is (c.in_ok-add_change.ensures.added
    ∙ ap (λ (l : List Change). l ++ PutNode c.args.node ∷ []) c.new-changes.ensures.items)

pub returns-clause-value : goal.returns-clause-value
returns-clause-value g c = λ available laid_out t e room stand path stored at stands kind.
    let below = c.in_ok-renew_below.ensures.value available laid_out t e room stand path stored at stands kind in
    let put : List Change = PutEntries c.args.node.id c.in-Some.list ∷ [] in
    rw c.in-Some.is (
      below.added,
      rw (← c.as_slice.ensures.value) below.renews,
      c.in_ok-add_change-2.ensures.added
          ∙ ap (λ (l : List Change). l ++ put) (below.goes_on ∙ ap (λ (l : List Change). l ++ below.added)
          (c.in_ok-add_change.ensures.added
          ∙ ap (λ (l : List Change). l ++ PutNode c.args.node ∷ []) c.new-changes.ensures.items)),
    )

pub returns-in_err-renew_below-clause-asks : goal.returns-in_err-renew_below-clause-asks
returns-in_err-renew_below-clause-asks g c = λ available laid_out t e room stand path at.
    omega (arith, c.renew_below.ensures.asks available laid_out t e room stand path at)

pub returns-in_err-add_change-2-clause-asks : goal.returns-in_err-add_change-2-clause-asks
returns-in_err-add_change-2-clause-asks g c = λ available laid_out t e room stand path at.
    omega (arith, c.renew_below.ensures.asks available laid_out t e room stand path at)

pub returns-clause-asks : goal.returns-clause-asks
returns-clause-asks g c = λ available laid_out t e room stand path at.
    omega (arith, c.renew_below.ensures.asks available laid_out t e room stand path at)
