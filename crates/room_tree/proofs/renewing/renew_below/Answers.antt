use Rattle.room_tree.proofs.Common.{ap, sym, ◌∙◌, [], append-nil, arith, Node, some_is}
use Rattle.room_tree.proofs.Below.{itself_counts}
use Rattle.room_tree.proofs.RenewingChildren.{renews_file}
use Rattle.room_tree.proofs.renewing.renew_below.Goals as goal

pub returns-in-File-clause-value : goal.returns-in-File-clause-value
returns-in-File-clause-value g c = λ available laid_out t e room stand path node at stands kind. record {
  added = [];
  goes_on = sym (append-nil c.args.out.now.items);
  renews = renews_file stand path c.args.list.now c.args.id at
      (λ found is. ap (λ (n : Node). n.kind) (some_is found node (sym is ∙ stands)) ∙ kind ∙ c.in-File.is);
}

pub returns-clause-value : goal.returns-clause-value
returns-clause-value g c = λ available laid_out t e room stand path node at stands kind.
    rw (← e) (c.renew.ensures.value available laid_out room (rw e stand) path (rw e (at)))

pub returns-in-File-clause-asks : goal.returns-in-File-clause-asks
returns-in-File-clause-asks g c = λ available laid_out t e room stand path at.
    omega (arith, itself_counts stand path c.args.id at)
