use Rattle.room_desk.proofs.Common.{◌∙◌, sym, subst, Slot, state_after}
use Rattle.room_desk.proofs.Acceptance.{stand_after_run}
use Rattle.room_desk.proofs.Found.{Says, said}
use Rattle.room_desk.proofs.Idle.{refused_is_idle}
use Rattle.room_desk.proofs.Results.{if_ok_then}
use Rattle.room_desk.proofs.SlotRows.{slot_rules}
use Rattle.room_desk.proofs.Trying.{joins_at_once, joins_by_commit}
use Rattle.room_desk.proofs.requests.answer_found.Goals as goal

pub returns-in-New-clause-joins : goal.returns-in-New-clause-joins
returns-in-New-clause-joins g c = λ there d start past stand found.
    let q = c.args.asked.now in
    let room = state_after start past in
    let (has, new, says) = subst (Says start (g.S.Shelf.view c.args.shelf.now).records past q)
    (sym found ∙ c.in-New.is) (said stand q) in
    joins_by_commit there new (λ left ran. stand_after_run start past q new stand ran) (λ left ran new. ran.made)
    (λ h. if_ok_then c.run_new.result (c.run_new.ensures.ok h d room stand.room (slot_rules stand) has)
    (λ answer ran. (ran.says ∙ sym says, rw ran.says at ran)))
    (λ k. c.run_new.ensures.crash k there d room stand.room (slot_rules stand) has)
    (λ k. c.run_new.ensures.frame.left_laid_out k there d)

pub returns-in-Refused-clause-joins : goal.returns-in-Refused-clause-joins
returns-in-Refused-clause-joins g c = λ there d start past stand found.
    let q = c.args.asked.now in
    let says = subst (Says start (g.S.Shelf.view c.args.shelf.now).records past q)
    (sym found ∙ c.in-Refused.is) (said stand q) in
    joins_at_once stand (sym says) (refused_is_idle start past (Slot q) (rw says tt))

pub returns-in_ok-answer_old-in-Again-clause-joins : goal.returns-in_ok-answer_old-in-Again-clause-joins
returns-in_ok-answer_old-in-Again-clause-joins g c = λ there d start past stand found.
    let q = c.args.asked.now in
    let says = subst (Says start (g.S.Shelf.view c.args.shelf.now).records past q)
    (sym found ∙ c.in-Again.is) (said stand q) in
    joins_at_once stand (c.in_ok-answer_old-in-Again.ensures ∙ sym says.1) says.0
