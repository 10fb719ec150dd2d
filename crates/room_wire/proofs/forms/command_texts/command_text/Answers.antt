use Rattle.room_wire.proofs.Common.{ap, ◌∙◌, command_model, command_of_body}
use Rattle.room_wire.proofs.Lemmas.Forms.CommandBack.{text_back}
use Rattle.room_wire.proofs.Lemmas.Forms.Written.{both_ok}
use Rattle.room_wire.proofs.forms.command_texts.command_text.Goals as goal

pub returns-clause-reads_back : goal.returns-clause-reads_back
returns-clause-reads_back c =
    both_ok c.lawful_text.result _ _ _
    (λ _ is lawful. ap command_of_body is ∙ text_back (command_model c.args.command.now) lawful)
    c.lawful_text.ensures.value c.lawful_text.ensures.lawful
