use Rattle.room_cache.proofs.Common.{refl}
use Rattle.room_cache.proofs.Left.{nothing_true}
use Rattle.room_cache.proofs.known.Known.clear.Goals as goal

pub returns-clause-true_of : goal.returns-clause-true_of
returns-clause-true_of c = λ r. nothing_true r _ c.clear.ensures.none c.clear-2.ensures.none c.clear-4.ensures.none
    c.clear-5.ensures.none c.clear-6.ensures refl
