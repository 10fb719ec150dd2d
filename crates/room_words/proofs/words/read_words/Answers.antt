use Rattle.std.proofs.Common.{◌≡◌, ◌∙◌, sym, None}
use Rattle.clap.specs.Words.{subcommand_rows_of}
use Rattle.room_words.specs.CommandLine.{texts_of}
use Rattle.room_words.proofs.Table.{told, check_word, selftest_word, word_refused, word_taken, row_name}
use Rattle.room_words.proofs.Table.{none_refused, met_row, no_pair}
use Rattle.clap.specs.declared.parser.matches.ArgMatches.TheViews.{out-ArgMatches}
use Rattle.room_words.proofs.words.read_words.Goals as goal

pub job-requires : goal.job-requires
job-requires c =
    let row = met_row (out-ArgMatches c.in-Ok.matches).subcommand _ _ c.in-Some.ensures.name c.in-Some.ensures.rows in
    row_name c.kind_parser.result (texts_of c.args.words.now) _ (sym c.in-Ok.ensures.found ∙ row)

pub unreachable-requires : goal.unreachable-requires
unreachable-requires c =
    let none : subcommand_rows_of c.in-Ok.matches ≡ None =
    no_pair (subcommand_rows_of c.in-Ok.matches) c.in-None.ensures.rows in
    none_refused c.kind_parser.result (texts_of c.args.words.now)
    (sym c.in-Ok.ensures.found ∙ none) c.in-Ok.ensures.fails

pub returns-in-Some-clause-check : goal.returns-in-Some-clause-check
returns-in-Some-clause-check c =
    let row = met_row (out-ArgMatches c.in-Ok.matches).subcommand _ _ c.in-Some.ensures.name c.in-Some.ensures.rows in
    word_taken (check_word c.kind_parser.result) (texts_of c.args.words.now) _ c.job.result
    (sym c.in-Ok.ensures.found ∙ row) c.job.ensures.row c.job.ensures.err

pub returns-in-Some-clause-selftest : goal.returns-in-Some-clause-selftest
returns-in-Some-clause-selftest c =
    let row = met_row (out-ArgMatches c.in-Ok.matches).subcommand _ _ c.in-Some.ensures.name c.in-Some.ensures.rows in
    word_taken (selftest_word c.kind_parser.result) (texts_of c.args.words.now) _ c.job.result
    (sym c.in-Ok.ensures.found ∙ row) c.job.ensures.row c.job.ensures.err

pub returns-in-Err-clause-reads : goal.returns-in-Err-clause-reads
returns-in-Err-clause-reads c = (
  c.kind_parser.result,
  c.kind_parser.ensures,
  told c.kind_parser.result _ c.in-Err.error c.words_fault.result c.in-Err.ensures.fails c.words_fault.ensures,
)

pub returns-in-Err-clause-check : goal.returns-in-Err-clause-check
returns-in-Err-clause-check c = word_refused (check_word c.kind_parser.result) _ c.words_fault.result
    (told c.kind_parser.result _ c.in-Err.error c.words_fault.result c.in-Err.ensures.fails c.words_fault.ensures)

pub returns-in-Err-clause-selftest : goal.returns-in-Err-clause-selftest
returns-in-Err-clause-selftest c = word_refused (selftest_word c.kind_parser.result) _ c.words_fault.result
    (told c.kind_parser.result _ c.in-Err.error c.words_fault.result c.in-Err.ensures.fails c.words_fault.ensures)
