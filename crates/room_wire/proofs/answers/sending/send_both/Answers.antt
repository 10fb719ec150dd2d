use Rattle.room_wire.proofs.Common.{sym, subst, Sent}
use Rattle.room_records.proofs.Writers.{front_of_more}
use Rattle.room_wire.proofs.Lemmas.Answers.Sends.{sent_then}
use Rattle.room_wire.proofs.answers.sending.send_both.Goals as goal

pub returns-then-write_whole : goal.returns-then-write_whole
returns-then-write_whole g c =
    let sent = c.write_whole-then-write_whole in
    sent_then _ _ _ c.args.head.now c.args.body.now sent.result c.if-write_whole.ensures sent.ensures

pub returns-else-write_whole : goal.returns-else-write_whole
returns-else-write_whole g c =
    let front = front_of_more _ _ c.args.head.now c.args.body.now c.if-write_whole.ensures in
    subst (Sent _ _ _) (sym c.if-write_whole.false) front
