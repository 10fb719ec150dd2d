use Rattle.room_cache.proofs.Common.{drop, Known, IsLeft}
use Rattle.room_cache.proofs.known.Known.forget_touched.Given as goal

abbrev pub invariant-loop-change : goal.invariant-loop-change
invariant-loop-change l = (later : Known) → IsLeft (drop l.change-index l.changes) l.self later
    → IsLeft l.changes l.initial.self later
