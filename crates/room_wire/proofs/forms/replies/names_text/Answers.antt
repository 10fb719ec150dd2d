use Rattle.room_wire.proofs.Common.{refl, reply_data}
use Rattle.room_commands.specs.ReplyModel as R
use Rattle.room_wire.proofs.Lemmas.Forms.Written.{text_of, ◌then◌}
use Rattle.room_wire.proofs.forms.replies.names_text.Goals as goal

pub returns : goal.returns
returns c =
    text_of (reply_data (R.Names c.args.names.now)) c.ended.result _
    (c.in_ok-out.ensures then c.in_ok-number_member.ensures then c.in_ok-names_member.ensures)
    refl c.ended.ensures
