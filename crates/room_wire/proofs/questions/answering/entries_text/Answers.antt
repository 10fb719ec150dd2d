use Rattle.room_wire.proofs.Common.{refl, entries_data}
use Rattle.room_wire.proofs.Lemmas.Forms.Written.{text_of, ◌then◌}
use Rattle.room_wire.proofs.questions.answering.entries_text.Goals as goal

pub returns : goal.returns
returns c =
    text_of (entries_data c.args.entries.now) c.ended.result _
    (c.in_ok-out.ensures then c.in_ok-number_member.ensures then c.in_ok-entries_member.ensures.written)
    refl c.ended.ensures
