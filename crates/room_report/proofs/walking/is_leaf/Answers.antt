use Rattle.room_report.proofs.Common.{sym, ◌∙◌, arith}
use Rattle.room_report.proofs.Below.{none_in_a_file, none_below_the_longest}
use Rattle.room_report.proofs.walking.is_leaf.Goals as goal

pub returns-then-depth-eq0-clause-leaf : goal.returns-then-depth-eq0-clause-leaf
returns-then-depth-eq0-clause-leaf c = λ leaf t room stand path is long.
    none_below_the_longest t room stand path c.args.item.now.id is.at (omega (arith, long, c.if-depth-eq0.true))

pub returns-in-File-clause-leaf : goal.returns-in-File-clause-leaf
returns-in-File-clause-leaf c = λ leaf t room stand path is long.
    none_in_a_file t room stand path c.args.item.now.id is.at is.object is.object_stands (sym is.kind ∙ c.in-File.is)
