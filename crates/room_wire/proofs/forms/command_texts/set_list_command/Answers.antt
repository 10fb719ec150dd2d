use Rattle.room_wire.proofs.Common.{◌≡◌, ◌∙◌, rules, command_data}
use Rattle.room_commands.specs.CommandModel as C
use Rattle.room_wire.proofs.Lemmas.Forms.Written.{set_list_tokens, text_of, ◌then◌}
use Rattle.room_wire.proofs.forms.command_texts.set_list_command.Goals as goal

pub returns-clause-value : goal.returns-clause-value
returns-clause-value c =
    let is : c.from.result ≡ c.args.aclflag = search rules in
    text_of (command_data (C.SetList c.args.aclflag c.args.entries.now c.args.path.now)) c.ended.result _
    (c.in_ok-out.ensures then c.in_ok-number_member.ensures then c.in_ok-text_member.ensures
    then c.in_ok-entries_member.ensures.written then c.in_ok-text_member-2.ensures)
    (rw (is, c.as_str.ensures.value ∙ c.in_ok-text.ensures.value)
    (set_list_tokens c.args.aclflag c.args.entries.now c.args.path.now)) c.ended.ensures
