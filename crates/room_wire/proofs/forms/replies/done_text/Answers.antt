use Rattle.room_wire.proofs.Common.{refl, reply_data}
use Rattle.room_commands.specs.ReplyModel as R
use Rattle.room_wire.proofs.Lemmas.Forms.Written.{text_of, ◌then◌}
use Rattle.room_wire.proofs.forms.replies.done_text.Goals as goal

pub returns : goal.returns
returns c =
    text_of (reply_data R.Done) c.ended.result _
    (c.in_ok-out.ensures then c.in_ok-number_member.ensures)
    refl c.ended.ensures
