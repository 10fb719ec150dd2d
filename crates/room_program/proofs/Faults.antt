-- Faults that are handed on.
use Rattle.std.specs.Prelude.{OnErr}
use Rattle.room_program.proofs.Common.{◌≡◌, ap, Result, Ok, Err, IsErr, IsErrAnd}

-- what `?` hands on is the error as it was
pub handed_on : {X E : Type 0} (r : Result X E) (error : E) → IsErr r → IsErrAnd r (λ e. e ≡ error) → r ≡ Err error
handed_on (Ok x) error err is = absurd cc
handed_on (Err e) error err is = ap Err is

-- what holds anyway, holds where there is a fault
pub on_fault : {X E P : Type 0} (r : Result X E) → P → OnErr r P
on_fault (Ok x) p = tt
on_fault (Err e) p = p
