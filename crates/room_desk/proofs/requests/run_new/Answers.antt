use Rattle.room_desk.proofs.Common.{◌∙◌}
use Rattle.room_desk.proofs.Crashes.{leaves_either}
use Rattle.room_desk.proofs.Faults.{memory_after, passed_on}
use Rattle.room_desk.proofs.Running.{commits}
use Rattle.room_desk.proofs.requests.run_new.Goals as goal

pub returns-in_err-commit-clause-frame : goal.returns-in_err-commit-clause-frame
returns-in_err-commit-clause-frame g c =
    passed_on _ _ _ _ c.from_residual-in_err-commit.result
    c.from_residual-in_err-commit.ensures.0 c.from_residual-in_err-commit.ensures.1
    c.in_err-commit.ensures.frame c.in_ok-outcome.ensures.frame

pub returns-clause-ok : goal.returns-clause-ok
returns-clause-ok g c = λ h d room stand slots has.
    let read = c.commit.ensures.frame.frame.was_available h in
    let made = commits c.asked.view_is (c.plan.ensures.frame.same read d) stand slots has
    (c.in_ok-outcome.ensures.effect read d room stand) c.in_ok-row.ensures.lawful c.in_ok-reply.ensures
    c.in_ok-row.ensures.row (c.deref.ensures.value ∙ c.in-Ok.ensures.items) in
    rw made.says (made.ran (g.S.Shelf.view c.commit.new.self).records (c.in_ok-commit.ensures.ok
    (g.met.S.Shelf.available_is_intact c.commit.new.self h) (c.plan.ensures.frame.call.frame.laid_out read d)
    made.rules))

pub returns-in_err-commit-clause-crash : goal.returns-in_err-commit-clause-crash
returns-in_err-commit-clause-crash g c = λ intact available d room stand slots has left may.
    let read = c.in_ok-outcome.ensures.frame.call.alive (c.commit.ensures.frame.frame.was_intact intact) available in
    let made = commits c.asked.view_is (c.plan.ensures.frame.same read d) stand slots has
    (c.in_ok-outcome.ensures.effect read d room stand) c.in_ok-row.ensures.lawful c.in_ok-reply.ensures
    c.in_ok-row.ensures.row (c.deref.ensures.value ∙ c.in-Ok.ensures.items) in
    leaves_either (c.commit.ensures.crash (c.plan.ensures.frame.call.frame.laid_out read d) made.rules left may)
    (c.plan.ensures.frame.crash left) (made.ran left)

pub returns-clause-crash : goal.returns-clause-crash
returns-clause-crash g c = λ intact available d room stand slots has left may.
    let read = c.in_ok-outcome.ensures.frame.call.alive (c.commit.ensures.frame.frame.was_intact intact) available in
    let made = commits c.asked.view_is (c.plan.ensures.frame.same read d) stand slots has
    (c.in_ok-outcome.ensures.effect read d room stand) c.in_ok-row.ensures.lawful c.in_ok-reply.ensures
    c.in_ok-row.ensures.row (c.deref.ensures.value ∙ c.in-Ok.ensures.items) in
    leaves_either (c.commit.ensures.crash (c.plan.ensures.frame.call.frame.laid_out read d) made.rules left may)
    (c.plan.ensures.frame.crash left) (made.ran left)

pub returns-in_err-row-clause-frame : goal.returns-in_err-row-clause-frame
returns-in_err-row-clause-frame g c =
    memory_after _ _ c.from_residual-in_err-row.result
    c.from_residual-in_err-row.ensures.0 c.from_residual-in_err-row.ensures.1 c.in_ok-outcome.ensures.frame
