use Rattle.room_wire.proofs.Common.{◌∙◌, refl, command_data}
use Rattle.room_commands.specs.CommandModel as C
use Rattle.room_wire.proofs.Lemmas.Forms.Written.{text_of, ◌then◌}
use Rattle.room_wire.proofs.forms.command_texts.rename_command.Goals as goal

pub returns-clause-value : goal.returns-clause-value
returns-clause-value c =
    text_of (command_data (C.Rename c.args.path.now c.args.to.now)) c.ended.result _
    (c.in_ok-out.ensures then c.in_ok-text_member.ensures then c.in_ok-text_member-2.ensures
    then c.in_ok-text_member-3.ensures)
    (rw (
      c.as_str.ensures.value ∙ c.in_ok-from_text.ensures.value,
      c.as_str-2.ensures.value ∙ c.in_ok-to_text.ensures.value,
    ) refl) c.ended.ensures
