use Rattle.room_wire.proofs.Common.{[], ◌∷◌, ◌∙◌, refl, obj, cmd, at}
use Rattle.room_wire.proofs.Lemmas.Forms.Written.{text_of, ◌then◌}
use Rattle.room_wire.proofs.forms.command_texts.path_command.Goals as goal

pub returns-clause-value : goal.returns-clause-value
returns-clause-value c =
    text_of (obj (cmd c.args.name.now ∷ at c.args.path.now ∷ [])) c.ended.result _
    (c.in_ok-out.ensures then c.in_ok-text_member.ensures then c.in_ok-text_member-2.ensures)
    (rw (c.as_str.ensures.value ∙ c.in_ok-text.ensures.value) refl) c.ended.ensures
