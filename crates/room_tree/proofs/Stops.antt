-- Stops handed on.
use Rattle.room_tree.proofs.Common.{◌≡◌, sym, ◌∙◌, subst, Result, Ok, Err, List, ◌∷◌, ◌++◌, Option, None, Some, Refusal}
use Rattle.room_tree.proofs.Common.{first_refusal}
use Rattle.std.specs.Result.{IsErrAnd}
use Rattle.room_tree.specs.declared.refusal.Stop.{Stop}
use Rattle.room_tree.specs.declared.refusal.Stop.TheVariants.{Refused, Shelf}
use Rattle.room_tree.specs.Stops.{Stopped, OrStopped, Passes}
use Rattle.room_tree.proofs.Checking.{skip, stop, some_stays, none_passes}

-- what `?` hands on
pub handed_on : {T : Type 0} (refused : Option Refusal) (P : T → Type 0) (why : Stop) (r : Result T Stop)
    → IsErrAnd r (λ e. e ≡ why) → Stopped refused why → OrStopped refused P r
handed_on refused P why (Ok x) err stopped = absurd err
handed_on refused P why (Err e) is stopped = subst (Stopped refused) (sym is) stopped

-- a refusal that is answered
pub refused_as : {refused : Option Refusal} (why : Stop) (r : Refusal)
    → why ≡ Refused r → refused ≡ Some r → Stopped refused why
refused_as {refused} why r is some = subst (Stopped refused) (sym is) some

-- the same checks
pub stopped_by : (a b : Option Refusal) (why : Stop) → b ≡ a → Stopped a why → Stopped b why
stopped_by a b (Refused r) same is = same ∙ is
stopped_by a b (Shelf fault) same is = tt

pub passes_by : {T : Type 0} (a b : Option Refusal) (P : T → Type 0) (r : Result T Stop)
    → b ≡ a → Passes a P r → Passes b P r
passes_by a b P (Ok x) same passed = (same ∙ passed.0, passed.1)
passes_by a b P (Err why) same stopped = stopped_by a b why same stopped

-- the first check stops, or one after it
pub at_head : (o : Option Refusal) (others : List (Option Refusal)) (why : Stop)
    → Stopped o why → Stopped (first_refusal (o ∷ others)) why
at_head o others (Refused r) is = stop o others r is
at_head o others (Shelf fault) is = tt

pub past_head : (o : Option Refusal) (others : List (Option Refusal)) (why : Stop) → o ≡ None
    → Stopped (first_refusal others) why → Stopped (first_refusal (o ∷ others)) why
past_head o others why none is =
    stopped_by (first_refusal others) (first_refusal (o ∷ others)) why (skip o others none) is

-- the first checks stop, or those after them
pub in_front : (done others : List (Option Refusal)) (why : Stop)
    → Stopped (first_refusal done) why → Stopped (first_refusal (done ++ others)) why
in_front done others (Refused r) is = some_stays done others r is
in_front done others (Shelf fault) is = tt

pub past_front : (done others : List (Option Refusal)) (why : Stop) → first_refusal done ≡ None
    → Stopped (first_refusal others) why → Stopped (first_refusal (done ++ others)) why
past_front done others why none is =
    stopped_by (first_refusal others) (first_refusal (done ++ others)) why (none_passes done others none) is
