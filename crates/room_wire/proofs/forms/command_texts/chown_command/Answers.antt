use Rattle.room_wire.proofs.Common.{◌∙◌, refl, command_data}
use Rattle.room_commands.specs.CommandModel as C
use Rattle.room_wire.proofs.Lemmas.Forms.Written.{text_of, ◌then◌}
use Rattle.room_wire.proofs.forms.command_texts.chown_command.Goals as goal

pub returns-clause-value : goal.returns-clause-value
returns-clause-value c =
    text_of (command_data (C.Chown c.args.group.now c.args.owner.now c.args.path.now)) c.ended.result _
    (c.in_ok-out.ensures then c.in_ok-text_member.ensures then c.in_ok-text_member-2.ensures
    then c.in_ok-text_member-3.ensures then c.in_ok-text_member-4.ensures)
    (rw (c.text-2.ensures.value, c.text-3.ensures.value, c.as_str.ensures.value ∙ c.in_ok-text.ensures.value) refl)
    c.ended.ensures
