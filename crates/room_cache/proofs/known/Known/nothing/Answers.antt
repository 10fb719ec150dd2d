use Rattle.room_cache.proofs.Common.{refl}
use Rattle.room_cache.proofs.Left.{nothing_true}
use Rattle.room_cache.proofs.known.Known.nothing.Goals as goal

pub returns-clause-true_of : goal.returns-clause-true_of
returns-clause-true_of c = λ r. nothing_true r _ c.new.ensures.none c.new-2.ensures.none c.new-4.ensures.none
    c.new-5.ensures.none c.new-6.ensures refl
