use Rattle.std.proofs.Common.{◌∙◌, sym, codes}
use Rattle.std.specs.Str.Parse.{ParsesUnsigned, ExplainsUnsignedError, HasUnsignedDigitsIfOk}
use Rattle.clap.specs.Words.{found_of, one_text}
use Rattle.clap.proofs.WalkLemmas.{one_text-rows}
use Rattle.room_words.proofs.Table.{number_is}
use Rattle.room_words.proofs.rows.port.Goals as goal

pub returns-in-Some-clause-value : goal.returns-in-Some-clause-value
returns-in-Some-clause-value c =
    let read = rw c.in-Some.is at (number_is (λ bs r. ParsesUnsigned 16 10 bs r × ExplainsUnsignedError 10 bs r
    × HasUnsignedDigitsIfOk bs r) (one_text (found_of c.args.values.now) (codes "PORT"))
    c.get_one.result (λ t n g. g.0.1) c.get_one.ensures.none c.get_one.ensures.value) in
    (read.0, sym (one_text-rows (found_of c.args.values.now) (codes "PORT")) ∙ read.1, read.2)
