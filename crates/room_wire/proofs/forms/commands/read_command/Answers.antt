use Rattle.room_wire.proofs.Common.{rules, ◌≡◌, Some, command_model, command_of_body}
use Rattle.room_wire.proofs.Lemmas.Forms.CommandLawful.{asked_is_lawful}
use Rattle.room_wire.proofs.forms.commands.read_command.Goals as goal

pub returns-in-Some-clause-lawful : goal.returns-in-Some-clause-lawful
returns-in-Some-clause-lawful c =
    let asked : command_of_body c.args.body.now ≡ Some (command_model c.in-Some.command, c.in-Some.keep)
    = search rules in
    asked_is_lawful c.args.body.now _ c.bytes_of_fit.ensures asked
