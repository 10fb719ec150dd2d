-- Connections that a listener takes, and what serves them, one after another.
use Rattle.std.specs.Prelude.{◌≡◌, ◌<◌, ℕ, List, zero, suc, Option, None}
use Rattle.room_wire.specs.declared.serving.stop.ServeEnd.{ServeEnd}

-- what went over a connection: the bytes that its reader had to give, and those that are left of them; the bytes that
-- its writer held, and those that it holds then, where they are known; and how serving it ended
pub record Exchange : Type 0 where
  pub input : Option (List ℕ)
  pub left : Option (List ℕ)
  pub output : Option (List ℕ)
  pub written : Option (List ℕ)
  pub end : ServeEnd

abbrev pub exchange : (input left output written : Option (List ℕ)) → ServeEnd → Exchange
exchange i l o w e = record { input = i; left = l; output = o; written = w; end = e }

-- no byte of it is known, as of a socket
pub record IsUnknown (e : Exchange) : Type 0 where
  pub input : e.input ≡ None
  pub left : e.left ≡ None
  pub output : e.output ≡ None
  pub written : e.written ≡ None

-- so many connections were accepted, one after another, and what was served is what went over them; `E` is what is
-- known of each
abbrev pub ServesEach : {L S E : Type 0} → (accepts : L → E → L → Type 0) → (serves : S → E → S → Type 0)
    → ℕ → (old new : L) → (before after : S) → Type 0
ServesEach accepts serves zero old new before after = (new ≡ old) × (after ≡ before)
ServesEach {L} {S} {E} accepts serves (suc n) old new before after =
    (last : L) × (between : S) × ServesEach accepts serves n old last before between
    × ((e : E) × accepts last e new × serves between e after)

-- so many were accepted, whatever served them
abbrev pub AcceptsEach : {L : Type 0} → (accepts : L → Exchange → L → Type 0) → ℕ → L → L → Type 0
AcceptsEach accepts n old new = ServesEach {S = Unit {0}} accepts (λ before e after. Unit {0}) n old new tt tt

-- fewer were, and then none could be accepted
abbrev pub ServesFewer : {L S E : Type 0} → (accepts : L → E → L → Type 0) → (fails : L → L → Type 0)
    → (serves : S → E → S → Type 0) → ℕ → (old new : L) → (before after : S) → Type 0
ServesFewer {L} accepts fails serves count old new before after =
    (n : ℕ) × (n < count) × (last : L) × ServesEach accepts serves n old last before after × fails last new

abbrev pub AcceptsFewer : {L : Type 0} → (accepts : L → Exchange → L → Type 0) → (fails : L → L → Type 0) → ℕ → L → L
    → Type 0
AcceptsFewer accepts fails n old new =
    ServesFewer {S = Unit {0}} accepts fails (λ before e after. Unit {0}) n old new tt tt
