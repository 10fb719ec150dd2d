use Rattle.room_wire.proofs.Common.{◌≡◌, refl, rules, reply_data}
use Rattle.room_commands.specs.ReplyModel as R
use Rattle.room_wire.proofs.Lemmas.Forms.Written.{text_of, ◌then◌}
use Rattle.room_wire.proofs.forms.replies.opened_text.Goals as goal

pub returns : goal.returns
returns c =
    let is : c.from.result ≡ c.args.slots = search rules in
    text_of (reply_data (R.Opened c.args.slots)) c.ended.result _
    (c.in_ok-out.ensures then c.in_ok-number_member.ensures then c.in_ok-number_member-2.ensures)
    (rw is refl) c.ended.ensures
