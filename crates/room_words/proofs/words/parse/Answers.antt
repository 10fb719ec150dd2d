use Rattle.std.proofs.Common.{◌≡◌, ◌∙◌, ap, subst, refl, true}
use Rattle.std.proofs.lemmas.Result.{IfOk-weaker}
use Rattle.clap.specs.Words.{App, FailsBy, fault_of, is_simple, is_simple_and_free, subcommand_of}
use Rattle.clap.specs.declared.builder.value_parser.ValueParser.{ValueParser}
use Rattle.room_words.specs.CommandLine.{program_command, texts_of}
use Rattle.room_words.proofs.words.parse.Goals as goal

simple : (p : ValueParser) → is_simple (program_command p) ≡ true
unfolding program_command
simple p = refl

free : (p : ValueParser) → is_simple_and_free (program_command p) ≡ true
unfolding program_command
free p = refl

pub returns-clause-found : goal.returns-clause-found
returns-clause-found c =
    let e = c.in_ok-command_table.ensures in
    IfOk-weaker c.try_get_matches_from.result _ _ (λ m h. (h (ap is_simple e ∙ simple c.args.kind)).1
    ∙ ap (λ (a : App). subcommand_of a (texts_of c.args.words.now)) e) c.try_get_matches_from.ensures.matches

pub returns-clause-fails : goal.returns-clause-fails
returns-clause-fails c =
    let e = c.in_ok-command_table.ensures in
    subst (λ (a : App). FailsBy (fault_of a (texts_of c.args.words.now)) c.try_get_matches_from.result)
    e (c.try_get_matches_from.ensures.kinds (ap is_simple_and_free e ∙ free c.args.kind))
