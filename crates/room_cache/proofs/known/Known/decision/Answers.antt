use Rattle.room_cache.proofs.Common.{sym}
use Rattle.room_cache.proofs.Remembered.{found_true}
use Rattle.room_cache.proofs.known.Known.decision.Goals as goal

pub returns-in-Some-clause-true_of : goal.returns-in-Some-clause-true_of
returns-in-Some-clause-true_of c = λ r.
    found_true r c.args.self.now c.args.id c.in-Some.made.now c.args.subject.now c.args.standing.now
    c.args.wanted c.find.result (sym c.in-Some.ensures) c.find.ensures
