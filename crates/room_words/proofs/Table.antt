-- Words that are no row of the command table, and words that are.
use Rattle.std.proofs.Common.{◌≡◌, ◌∙◌, ap, sym, Bool, true, false, List, [], ◌∷◌, map, Option, Some, None}
use Rattle.std.proofs.Common.{option_map, Result, Ok, Err, IfOk, IfErr, is_some, IfSome, ℕ, Box, codes}
use Rattle.std.proofs.Common.{inl, inr, refl}
use Rattle.std.specs.Prelude.{find, not, ◌&&◌}
use Rattle.clap.specs.Words.{Row, Shape, Text, fault_of, kind_of, subcommand_of, HasKind}
use Rattle.std.specs.Str.Parse.{digits_value, without_leading_plus}
use Rattle.clap.specs.Matches.{ReadsOne}
use Rattle.clap.specs.Kinds.{Kinds, or_else, check_kinds}
use Rattle.clap.specs.Faults.{level_fault, walk_fault, settle_fault, defaults_fault, check_fault, entered_fault}
use Rattle.clap.specs.Takes.{is_given}
use Rattle.clap.specs.Facts.{explicit_source}
use Rattle.std.specs.Cmp.Lexicographic.{bytes_decides}
use Rattle.std.specs.List.{list_any}
use Rattle.std.specs.Str.{bytes_eq}
use Rattle.std.proofs.lemmas.Bool.{both_ways, cases_Bool}
use Rattle.std.proofs.lemmas.Option.{same_Some}
use Rattle.std.specs.Box.{box_value}
use Rattle.clap.specs.declared.parser.matches.SubCommand.{SubCommand}
use Rattle.clap.specs.declared.parser.matches.ArgMatches.TheViews.{out-SubCommand}
use Rattle.clap.specs.Walk.{Names, Held, Rule, answers_to, walk, walk_from, finished, settled, nothing_held}
use Rattle.clap.specs.Simple.{App, built, entered, rows_at, label_of, subcommand_rows, argument_words, names_of}
use Rattle.clap.specs.declared.builder.value_parser.ValueParser.{ValueParser}
use Rattle.clap.specs.declared.error.Error.{Error}
use Rattle.clap.proofs.OnLiterals.{clap_on_literals}
use Rattle.room_words.specs.declared.job.Job.{Job}
use Rattle.room_words.specs.declared.job.Job.TheVariants.{Check, Init, Replay, Serve, Report, Selftest}
use Rattle.room_words.specs.declared.fault.WordsFault.{WordsFault}
use Rattle.room_words.specs.declared.fault.WordsFault.TheVariants.{Usage, Help, Memory}
use Rattle.room_words.specs.CommandLine.{program_command, command_names, IsOneOf, IsRowOf, IsReadAs}
use Rattle.room_words.specs.CommandLine.{ReadsWith, TellsKind}

-- a fault that tells the error's kind says what the words are
pub told : (p : ValueParser) (words : List Text) (e : Error) (f : WordsFault)
    → HasKind (fault_of (program_command p) words) e → TellsKind (kind_of e) f
    → ReadsWith (program_command p) words (Err f)
told p words e (Usage text) (inl m) k = absurd (k.1 m)
told p words e (Usage text) (inr a) k = (kind_of e, a, k.0)
told p words e (Help text) (inl m) (inl k) = cc (m, k)
told p words e (Help text) (inl m) (inr k) = cc (m, k)
told p words e (Help text) (inr a) k = (kind_of e, a, k)
told p words e Memory h k = tt

-- words that are not refused are refused for want of memory alone
taken_refused : (p : ValueParser) (words : List Text) (job : Job) (f : WordsFault)
    → fault_of (program_command p) words ≡ [] → ReadsWith (program_command p) words (Err f) → IsReadAs job (Err f)
taken_refused p words job (Usage text) none r = rw none at r.1
taken_refused p words job (Help text) none r = rw none at r.1
taken_refused p words job Memory none r = tt

named : (p : ValueParser) (words : List Text) (row : Text × List Row) (one : Text)
    → subcommand_of (program_command p) words ≡ Some row
    → option_map (λ (r : Text × List Row). r.0) (subcommand_of (program_command p) words) ≡ Some one → row.0 ≡ one
named p words row one is e =
    let both : Some row.0 ≡ Some one = sym (ap (option_map (λ (r : Text × List Row). r.0)) is) ∙ e in cc

-- one name is not two words
clash : {X : Type 0} {name : Text} (a b : Text) → name ≡ a → name ≡ b → bytes_eq a b ≡ false → X
clash a b is_a is_b differ = absurd (both_ways _ differ ((bytes_decides a b).1 (sym is_a ∙ is_b)))

is_check : (row : Text × List Row) (r : Result Job WordsFault) → row.0 ≡ codes "check"
    → IfOk r (IsRowOf row) → IfErr r (λ f. f ≡ Memory) → IsReadAs Check r
is_check row (Ok Check) e ok err = refl
is_check row (Ok (Init db owner group)) e ok err = clash (codes "check") (codes "init") e ok.0 refl
is_check row (Ok (Replay roster owner group)) e ok err = clash (codes "check") (codes "replay") e ok.0 refl
is_check row (Ok (Serve db roster port count)) e ok err = clash (codes "check") (codes "serve") e ok.0 refl
is_check row (Ok (Report db roster kind)) e ok err = clash (codes "check") (codes "report") e ok.0 refl
is_check row (Ok Selftest) e ok err = clash (codes "check") (codes "selftest") e ok refl
is_check row (Err (Usage t)) e ok err = cc
is_check row (Err (Help t)) e ok err = cc
is_check row (Err Memory) e ok err = tt

is_selftest : (row : Text × List Row) (r : Result Job WordsFault) → row.0 ≡ codes "selftest"
    → IfOk r (IsRowOf row) → IfErr r (λ f. f ≡ Memory) → IsReadAs Selftest r
is_selftest row (Ok Check) e ok err = clash (codes "selftest") (codes "check") e ok refl
is_selftest row (Ok (Init db owner group)) e ok err = clash (codes "selftest") (codes "init") e ok.0 refl
is_selftest row (Ok (Replay roster owner group)) e ok err = clash (codes "selftest") (codes "replay") e ok.0 refl
is_selftest row (Ok (Serve db roster port count)) e ok err = clash (codes "selftest") (codes "serve") e ok.0 refl
is_selftest row (Ok (Report db roster kind)) e ok err = clash (codes "selftest") (codes "report") e ok.0 refl
is_selftest row (Ok Selftest) e ok err = refl
is_selftest row (Err (Usage t)) e ok err = cc
is_selftest row (Err (Help t)) e ok err = cc
is_selftest row (Err Memory) e ok err = tt

-- a word that is a job's, with nothing behind it: it passes, has the row of its name, and that row is the job's alone
pub record IsWordOf (p : ValueParser) (job : Job) (word : Text) : Type 0 where
  passes : fault_of (program_command p) (word ∷ []) ≡ []
  row : option_map (λ (r : Text × List Row). r.0) (subcommand_of (program_command p) (word ∷ [])) ≡ Some word
  alone : (row : Text × List Row) (r : Result Job WordsFault) → row.0 ≡ word
      → IfOk r (IsRowOf row) → IfErr r (λ f. f ≡ Memory) → IsReadAs job r

pub check_word : (p : ValueParser) → IsWordOf p Check (codes "check")
unfolding clap_on_literals program_command
check_word p = record { passes = refl; row = refl; alone = is_check }

pub selftest_word : (p : ValueParser) → IsWordOf p Selftest (codes "selftest")
unfolding clap_on_literals program_command
selftest_word p = record { passes = refl; row = refl; alone = is_selftest }

module _ {p : ValueParser} {job : Job} {word : Text} (own : IsWordOf p job word) (words : List Text) where
  -- such words are refused for want of memory alone
  pub word_refused : (f : WordsFault) → ReadsWith (program_command p) words (Err f) → words ≡ word ∷ []
      → IsReadAs job (Err f)
  word_refused f r e = taken_refused p words job f (ap (fault_of (program_command p)) e ∙ own.passes) r

  -- and else read as the job
  pub word_taken : (row : Text × List Row) (r : Result Job WordsFault)
      → subcommand_of (program_command p) words ≡ Some row → IfOk r (IsRowOf row) → IfErr r (λ f. f ≡ Memory)
      → words ≡ word ∷ [] → IsReadAs job r
  word_taken row r is ok err e = own.alone row r (named p words row word is (rw e own.row)) ok err

-- a row has the name of a command
found_name : (test : Shape → Bool) (subs : List Shape) (words : List Text) (row : Text × List Row)
    → option_map (λ s. rows_at s words) (find test subs) ≡ Some row → IsOneOf row.0 (map (λ s. s.name) subs)
found_name test [] words row e = cc
found_name test (s ∷ subs) words row e = elim (cases_Bool (test s)) [
  | inl here ↦ inl (ap (λ (r : Text × List Row). r.0) (sym (same_Some _ _ (rw here at e))))
  | inr there ↦ inr (found_name test subs words row (rw there at e))
]

entered_name : (a : App) (stop : Option (Text × List Text)) (row : Text × List Row)
    → entered a stop ≡ Some row → IsOneOf row.0 (map (λ s. s.name) a.subs)
entered_name a None row e = cc
entered_name a (Some p) row e = found_name (λ s. answers_to p.0 (label_of s)) a.subs p.1 row e

names_are : (p : ValueParser) → map (λ (s : Shape). s.name) (built (program_command p)).subs ≡ command_names
unfolding program_command
names_are p = refl

pub row_name : (p : ValueParser) (words : List Text) (row : Text × List Row)
    → subcommand_of (program_command p) words ≡ Some row → IsOneOf row.0 command_names
row_name p words row e = rw (names_are p) at (entered_name (built (program_command p)) _ row e)

-- a command is wanted
or_else_none : (ks next : Kinds) → or_else ks next ≡ [] → next ≡ []
or_else_none [] next e = e
or_else_none (k ∷ ks) next e = cc

wanted : (a b c : Bool) → b ≡ true → check_kinds a b c ≡ [] → ⊥
wanted true true c is e = cc
wanted false true c is e = cc
wanted a false c is e = cc

level_wanted : (s : Shape) (names : Names) (h : Held) (words : List Text) (has : Bool) (below : Kinds)
    → has ≡ false → s.subcommand_required ≡ true → level_fault s names h words has below ≡ [] → ⊥
level_wanted s names h words has below none required e =
    let end = (walk s.rules names h words).held in
    let rows = finished s.rules end in
    let last = check_fault s rows has in
    let defaults = defaults_fault (settled s.rules end).rows s.rules in
    let settling = settle_fault s.rules s.args_override_self end in
    let after_walk = or_else_none (walk_fault s names (walk_from h) words)
    (or_else below (or_else settling (or_else defaults last))) e in
    let after_below = or_else_none below (or_else settling (or_else defaults last)) after_walk in
    let after_settling = or_else_none settling (or_else defaults last) after_below in
    let at_last = or_else_none defaults last after_settling in
    wanted (not has && (s.arg_required_else_help && not (list_any (λ (r : Row). explicit_source r.source) rows)))
    (not has && s.subcommand_required)
    (not (s.subcommand_negates_reqs && has) && list_any (λ (a : Rule). a.required && not (is_given a.id rows)) s.rules)
    (λ i. not (none i) && required i) at_last

required_is : (p : ValueParser) → (built (program_command p)).top.subcommand_required ≡ true
unfolding program_command
required_is p = refl

pub none_refused : (p : ValueParser) (words : List Text)
    → subcommand_of (program_command p) words ≡ None → fault_of (program_command p) words ≡ [] → ⊥
none_refused p words none e =
    let b = built (program_command p) in
    let ws = argument_words (program_command p) words in
    let stop = (walk b.top.rules (names_of b) nothing_held ws).stopped in
    level_wanted b.top (names_of b) nothing_held ws (is_some (entered b stop))
    (entered_fault b stop) (ap is_some none) (required_is p) e

-- the row of the name and the values that the parse met
pub met_row : {Z : Type 0} (o : Option (Box SubCommand Z)) (name : Text) (rows : List Row)
    → Some name ≡ option_map (λ b. (out-SubCommand (box_value b)).name.now) o
    → Some rows ≡ option_map (λ (p : Text × List Row). p.1) (subcommand_rows o) → subcommand_rows o ≡ Some (name, rows)
met_row None name rows a b = cc
met_row (Some s) name rows a b = λ i. Some (sym (same_Some _ _ a) i, sym (same_Some _ _ b) i)

pub no_pair : (o : Option (Text × List Row)) → None ≡ option_map (λ (p : Text × List Row). p.1) o → o ≡ None
no_pair None e = refl
no_pair (Some p) e = cc

-- a number, read from the text that is there
pub number_is : {E : Type 0} (gives : Text → Result ℕ E → Type 0) (o : Option Text) (r : Option ℕ)
    → ((t : Text) (n : ℕ) → gives t (Ok n) → n ≡ digits_value 10 (without_leading_plus t))
    → (o ≡ None → r ≡ None) → ((t : Text) → o ≡ Some t → ReadsOne gives t r)
    → IfSome r (λ n. (t : Text) × (o ≡ Some t) × (n ≡ digits_value 10 (without_leading_plus t)))
number_is gives o None means none value = tt
number_is gives None (Some n) means none value = let bad : Some n ≡ None = none refl in cc
number_is gives (Some t) (Some n) means none value = (t, refl, means t n (value t refl))
