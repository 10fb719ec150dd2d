use Rattle.room_wire.proofs.Common.{None, refl, refusal_data}
use Rattle.room_wire.proofs.Lemmas.Forms.Written.{text_of, ◌then◌}
use Rattle.room_wire.proofs.forms.replies.refused_text.Goals as goal

pub returns : goal.returns
returns c =
    text_of (refusal_data c.args.code None) c.ended.result _
    (c.in_ok-out.ensures then c.in_ok-number_member.ensures then c.in_ok-text_member.ensures)
    (rw (c.refusal_number.ensures, c.refusal_name.ensures) refl) c.ended.ensures
