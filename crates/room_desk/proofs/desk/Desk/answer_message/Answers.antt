use Rattle.room_desk.proofs.Common.{sym, subst, ask_of, Refused, Answered}
use Rattle.room_wire.specs.declared.answers.code.Code.{Code}
use Rattle.room_desk.proofs.Messages.{refusal_stays}
use Rattle.room_desk.proofs.desk.Desk.answer_message.Goals as goal

pub returns-in-Err : goal.returns-in-Err
returns-in-Err g c = λ m s.
    let ask = ask_of c.args.lookup.now.roster.now m in
    let shelf = g.S.Shelf.view c.args.self.now in
    let Says : Code → Type 0 = λ code. Answered ask shelf (Refused code) shelf in
    subst Says (sym c.fault_code.ensures) (refusal_stays c.in-Err.fault ask shelf (c.in-Err.ensures m s))

pub returns-in-Ok-Ask-Event : goal.returns-in-Ok-Ask-Event
returns-in-Ok-Ask-Event g c = λ m s.
    rw (c.in-Ok-Ask-Event.ensures m s, c.in-Ok-Ask-Event.field-0-is, c.in-Ok-Ask-Event.field-0-0-is)
    c.handle.ensures.answered

pub returns-in-Ok-Request : goal.returns-in-Ok-Request
returns-in-Ok-Request g c = λ m s.
    rw (c.in-Ok-Request.ensures m s, c.in-Ok-Request.field-0-is) (rw (← c.self.view_is) c.answer_sent.ensures)
