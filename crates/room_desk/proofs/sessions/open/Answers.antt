use Rattle.room_desk.proofs.Common.{◌≡◌, ◌∙◌, refl, sym, None}
use Rattle.room_desk.proofs.Opening.{open_answer, open_rules, open_stands}
use Rattle.room_desk.proofs.Results.{if_ok_then, if_ok_both}
use Rattle.room_desk.proofs.Trying.{tried_after_read, joins_by_commit}
use Rattle.room_desk.proofs.sessions.open.Goals as goal

pub returns-in-None : goal.returns-in-None
returns-in-None g c =
    let made = c.open_first.ensures in
    let first = c.in_ok-row.ensures.frame in
    tried_after_read first c.in_ok-row.ensures.there made.frame
    (λ h d. if_ok_then c.open_first.result made.reply (λ answer reply away. absurd (rw reply at away)))
    (λ start past read d stand.
    let none : (g.S.Shelf.view c.session.new.self).records.session c.args.sid.now ≡ None =
    rw (first.same read d) (sym (c.in_ok-row.ensures.value read d) ∙ c.in-None.is) in
    let rules = open_rules stand c.args.subject.now c.args.slots none in
    let laid_out = first.call.frame.laid_out read d in
    let opens = open_stands stand c.args.subject.now c.args.slots none in
    joins_by_commit read opens.0 (λ left is. rw is opens.1) (λ left is. rw is refl)
    (λ h. if_ok_both c.open_first.result made.reply (made.ok h laid_out rules)
    (λ answer reply after. (reply ∙ sym (open_answer stand c.args.subject.now c.args.slots none), after)))
    (λ k. made.crash laid_out rules) (λ k. made.frame.left_laid_out k read laid_out))
