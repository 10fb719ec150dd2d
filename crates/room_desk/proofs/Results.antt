-- Facts on a result that several clauses say apart.
use Rattle.room_desk.proofs.Common.{IfOk, Result, Ok, Err}
use Rattle.std.proofs.lemmas.Result.{MatchResult-weaker}

-- what holds of an Ok gives more
pub if_ok_then : {X E : Type 0} (r : Result X E) {P Q : X → Type 0} → IfOk r P → ((x : X) → P x → Q x) → IfOk r Q
if_ok_then r p then = MatchResult-weaker r p then (λ y none. none)

-- two facts of an Ok give a third
pub if_ok_both : {X E : Type 0} (r : Result X E) {P Q R : X → Type 0} → IfOk r P → IfOk r Q
    → ((x : X) → P x → Q x → R x) → IfOk r R
if_ok_both (Ok x) p q both = both x p q
if_ok_both (Err e) p q both = tt
