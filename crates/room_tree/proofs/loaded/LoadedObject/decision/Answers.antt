use Rattle.room_tree.proofs.Common.{◌≡◌, sym, ap, ◌∙◌, IfOk-weaker, decision, ObjectRecords, check_right, denied_at}
use Rattle.room_acl.specs.declared.access.Decision.{Decision}
use Rattle.room_tree.proofs.Checking.{right_check}
use Rattle.room_tree.proofs.loaded.LoadedObject.decision.Goals as goal

pub returns-clause-value : goal.returns-clause-value
returns-clause-value g c = λ available laid_out t e room stand at found.
    let caller = c.args.subject.now in
    let loaded = c.args.self.now in
    let by : ObjectRecords → Decision = λ r. decision (r.entries loaded.id) caller loaded.standing c.args.wanted in
    IfOk-weaker c.decide_at.result (λ d. d ≡ by (g.S.Shelf.view c.args.shelf.now).records.objects)
    (λ d. check_right room caller at c.args.wanted ≡ denied_at at d)
    (λ d is. right_check found caller c.args.wanted
    ∙ ap (λ (r : ObjectRecords). denied_at at (by r)) (sym e) ∙ ap (denied_at at) (sym is))
    (c.decide_at.ensures.value available laid_out)
