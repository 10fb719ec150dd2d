-- What a call adds to a text that is being written.
use Rattle.std.specs.Prelude.{◌≡◌, List, ◌++◌, Result, OnOk}
use Rattle.json.specs.Token.{Token}
use Rattle.json.specs.Written.{Written}

-- these tokens are appended where it says Ok, and what stood before them stays
pub record Adds {E : Type 0} (r : Result (Unit {0}) E) (old new : Written) (ts : List Token) : Type 0 where
  pub written : OnOk r (new.tokens ≡ old.tokens ++ ts)
  pub before : new.before ≡ old.before
