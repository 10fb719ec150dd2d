-- The command line: which words stand for which job.
use Rattle.std.specs.Prelude.{◌≡◌, ◌⊎◌, ℕ, true, false, List, String, [], ◌∷◌, map, fold, codes, string_bytes}
use Rattle.std.specs.Prelude.{pos, Some, Result, Ok, Err}
use Rattle.std.specs.Str.Parse.{digits_value, without_leading_plus}
use Rattle.std.specs.declared.alloc.Global.{Global}
use Rattle.clap.specs.Words.{App, app_of, Shape, Row, Rule, Text, first_of, one_of, new_app, new_rule, with_rule}
use Rattle.clap.specs.Words.{with_subcommand, subcommand_of, IsAmong, fault_of}
use Rattle.clap.specs.Walk.{texts}
use Rattle.clap.specs.Simple.{on_top}
use Rattle.clap.specs.declared.builder.command.Command.{Command}
use Rattle.clap.specs.declared.builder.command.Command.TheViews.{out-Command}
use Rattle.clap.specs.declared.builder.value_parser.ValueParser.{ValueParser}
use Rattle.clap.specs.declared.builder.value_parser.ValueParser.TheVariants as parser
use Rattle.clap.specs.declared.error.kind.ErrorKind.{ErrorKind}
use Rattle.clap.specs.declared.error.kind.ErrorKind.TheVariants as kind
use Rattle.room_words.specs.declared.job.Job.{Job}
use Rattle.room_words.specs.declared.job.Job.TheVariants.{Check, Init, Replay, Serve, Report, Selftest}
use Rattle.room_words.specs.declared.job.ReportKind.{ReportKind}
use Rattle.room_words.specs.declared.job.ReportKind.TheVariants.{Access, Lists}
use Rattle.room_words.specs.declared.fault.WordsFault.{WordsFault}
use Rattle.room_words.specs.declared.fault.WordsFault.TheVariants.{Usage, Help, Memory}

-- a value that must be there
abbrev pub value_rule : Text → Rule
value_rule name = record (new_rule name) { required = true }

-- and be as the parser says
abbrev pub parsed_rule : Text → ValueParser → Rule
parsed_rule name p = record (value_rule name) { parser = Some p }

-- a command with these values, in order
abbrev pub command : Text → List Rule → App
command name values = fold with_rule (new_app name) values

abbrev pub IsKindParser : ValueParser → Type 0
IsKindParser (parser.Names names) = texts names.now ≡ codes "access" ∷ codes "lists" ∷ []
IsKindParser other = ⊥

-- a subcommand is wanted, the words begin behind the program's name, help is asked for by a flag, and so is the version
abbrev pub bare_program : App
bare_program = on_top (λ (s : Shape). record s {
  no_binary_name = true;
  subcommand_required = true;
  disable_help_subcommand = true;
  has_version = true;
}) (new_app (codes "fileroom"))

-- the command table, as the reader of command lines knows it: a port is from 1 to 65535, a count from 1 to 4294967295
unfoldable pub program_command : ValueParser → App
program_command kind = fold (λ (made : App) (one : App). with_subcommand made one.top) bare_program (
    new_app (codes "check")
    ∷ command (codes "init") (value_rule (codes "DB") ∷ value_rule (codes "OWNER") ∷ value_rule (codes "GROUP") ∷ [])
    ∷ command (codes "replay")
    (value_rule (codes "ROSTER") ∷ value_rule (codes "OWNER") ∷ value_rule (codes "GROUP") ∷ [])
    ∷ command (codes "serve") (value_rule (codes "DB") ∷ value_rule (codes "ROSTER")
    ∷ parsed_rule (codes "PORT") (parser.Signed (pos 1) (pos 65535))
    ∷ parsed_rule (codes "COUNT") (parser.Signed (pos 1) (pos 4294967295)) ∷ [])
    ∷ command (codes "report")
    (value_rule (codes "DB") ∷ value_rule (codes "ROSTER") ∷ parsed_rule (codes "KIND") kind ∷ [])
    ∷ new_app (codes "selftest") ∷ [])

-- a command is this one
abbrev pub IsCommand : App → Command → Type 0
IsCommand app c = (app_of c ≡ app) × ((out-Command c).has_globals ≡ false)

abbrev pub IsOneOf : Text → List Text → Type 0
IsOneOf name [] = ⊥
IsOneOf name (one ∷ names) = (name ≡ one) ⊎ IsOneOf name names

abbrev pub command_names : List Text
command_names = codes "check" ∷ codes "init" ∷ codes "replay" ∷ codes "serve" ∷ codes "report" ∷ codes "selftest" ∷ []

abbrev pub IsValue : List Row → Text → String Global → Type 0
IsValue rows name value = first_of name rows ≡ Some (string_bytes value)

abbrev pub IsNumber : List Row → Text → ℕ → Type 0
IsNumber rows name n = (text : Text) × (one_of name rows ≡ Some text)
    × (n ≡ digits_value 10 (without_leading_plus text))

abbrev pub kind_word : ReportKind → Text
kind_word Access = codes "access"
kind_word Lists = codes "lists"

-- the job is the row that the subcommand names, with the values given
abbrev pub IsRowOf : Text × List Row → Job → Type 0
IsRowOf row Check = row.0 ≡ codes "check"
IsRowOf row (Init db owner group) = (row.0 ≡ codes "init") × IsValue row.1 (codes "DB") db
    × IsValue row.1 (codes "OWNER") owner × IsValue row.1 (codes "GROUP") group
IsRowOf row (Replay roster owner group) = (row.0 ≡ codes "replay") × IsValue row.1 (codes "ROSTER") roster
    × IsValue row.1 (codes "OWNER") owner × IsValue row.1 (codes "GROUP") group
IsRowOf row (Serve db roster port count) = (row.0 ≡ codes "serve") × IsValue row.1 (codes "DB") db
    × IsValue row.1 (codes "ROSTER") roster × IsNumber row.1 (codes "PORT") port × IsNumber row.1 (codes "COUNT") count
IsRowOf row (Report db roster kind) = (row.0 ≡ codes "report") × IsValue row.1 (codes "DB") db
    × IsValue row.1 (codes "ROSTER") roster × (first_of (codes "KIND") row.1 ≡ Some (kind_word kind))
IsRowOf row Selftest = row.0 ≡ codes "selftest"

abbrev pub texts_of : List (String Global) → List Text
texts_of words = map string_bytes words

abbrev pub IsAsked : ErrorKind → Type 0
IsAsked k = (k ≡ kind.DisplayHelp) ⊎ (k ≡ kind.DisplayVersion)

-- why the reader of command lines gave nothing, told as a fault of words
abbrev pub TellsKind : ErrorKind → WordsFault → Type 0
TellsKind k (Usage text) = (IsAsked k → ⊥) × (k ≡ kind.OutOfMemory → ⊥)
TellsKind k (Help text) = IsAsked k
TellsKind k Memory = Unit {0}

-- what a table reads words as: they are a row of it; or refused, and not because they ask for a text; or they ask
abbrev pub ReadsWith : App → List Text → Result Job WordsFault → Type 0
ReadsWith t words (Ok job) =
    (row : Text × List Row) × (fault_of t words ≡ []) × (subcommand_of t words ≡ Some row) × IsRowOf row job
ReadsWith t words (Err (Usage text)) = (k : ErrorKind) × IsAmong k (fault_of t words) × ¬ IsAsked k
ReadsWith t words (Err (Help text)) = (k : ErrorKind) × IsAmong k (fault_of t words) × IsAsked k
ReadsWith t words (Err Memory) = Unit {0}

abbrev pub ReadsJob : List Text → Result Job WordsFault → Type 0
ReadsJob words read = (p : ValueParser) × IsKindParser p × ReadsWith (program_command p) words read

-- the words are this job's, and nothing but want of memory keeps them from being read so
abbrev pub IsReadAs : Job → Result Job WordsFault → Type 0
IsReadAs job (Ok found) = found ≡ job
IsReadAs job (Err Memory) = Unit {0}
IsReadAs job (Err other) = ⊥
