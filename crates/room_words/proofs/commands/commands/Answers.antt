use Rattle.std.proofs.Common.{◌≡◌, ◌∙◌}
use Rattle.std.proofs.lemmas.Result.{IfOk-weaker}
use Rattle.clap.specs.Words.{App, with_subcommand}
use Rattle.room_words.specs.CommandLine.{program_command}
use Rattle.room_words.proofs.commands.commands.Goals as goal

then_command : {made before table sub command : App} → made ≡ with_subcommand before sub.top → before ≡ table
    → sub ≡ command → made ≡ with_subcommand table command.top
then_command made before sub = made ∙ (λ i. with_subcommand (before i) (sub i).top)

pub returns : goal.returns
unfolding program_command
returns c =
    let s1 =
    then_command (c.in_ok-subcommand.ensures.shape c.check.ensures.1) c.program.ensures.0 c.check.ensures.0 in
    let s2 = then_command (c.in_ok-subcommand-2.ensures.shape c.in_ok-init.ensures.1) s1 c.in_ok-init.ensures.0 in
    let s3 = then_command (c.in_ok-subcommand-3.ensures.shape c.in_ok-replay.ensures.1) s2 c.in_ok-replay.ensures.0 in
    let s4 = then_command (c.in_ok-subcommand-4.ensures.shape c.in_ok-serve.ensures.1) s3 c.in_ok-serve.ensures.0 in
    let s5 = then_command (c.in_ok-subcommand-5.ensures.shape c.in_ok-report.ensures.1) s4 c.in_ok-report.ensures.0 in
    IfOk-weaker c.subcommand-6.result _ _
    (λ r h. then_command (h.shape c.selftest.ensures.1) s5 c.selftest.ensures.0) c.subcommand-6.ensures
