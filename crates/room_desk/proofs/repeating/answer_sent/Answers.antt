use Rattle.room_desk.proofs.Common.{Some, sym, subst, event_asked, sent_event, Refused, Answered}
use Rattle.room_wire.specs.declared.answers.code.Code.{Code}
use Rattle.room_desk.proofs.Sent.{answered_by_kept, delayed_by_read, refused_after_read, tried_by_found}
use Rattle.room_desk.proofs.Trying.{answered_ok}
use Rattle.room_desk.proofs.repeating.answer_sent.Goals as goal

pub returns-in_default : goal.returns-in_default
returns-in_default g c =
    delayed_by_read (sent_event c.args.sent.now) (g.S.Shelf.view c.args.shelf.now)
    (g.S.Shelf.view c.look_up.new.shelf) (Some c.in_default.field-0) c.in_default.ensures.frame

pub returns-in-Ok-answer_at_once : goal.returns-in-Ok-answer_at_once
returns-in-Ok-answer_at_once g c =
    answered_by_kept c.args.sent.now c.in-Ok.ensures.frame c.in-Ok.ensures.there c.in-Ok.ensures.value
    c.in-Ok-answer_at_once.ensures

pub returns-in-Ok-answer_found : goal.returns-in-Ok-answer_found
returns-in-Ok-answer_found g c = rw c.in-Ok-read_command.ensures.value
    (answered_ok (tried_by_found c.in-Ok.ensures.frame c.in-Ok.ensures.there
    (λ h d. rw c.in-Err.ensures (c.in-Ok.ensures.value h d))
    c.in-Ok-answer_found.ensures.frame c.in-Ok-answer_found.ensures.refused c.in-Ok-answer_found.ensures.joins))

pub returns : goal.returns
returns g c =
    let Says : Code → Type 0 = λ code. Answered (event_asked (sent_event c.args.sent.now))
    (g.S.Shelf.view c.args.shelf.now) (Refused code) (g.S.Shelf.view c.look_up.new.shelf) in
    subst Says (sym c.fault_code.ensures) (refused_after_read c.args.sent.now c.in-Err-read_command.fault
    c.in-Err-read_command.ensures.value c.in-Ok.ensures.frame c.in-Ok.ensures.there)
