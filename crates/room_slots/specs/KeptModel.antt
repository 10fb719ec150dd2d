-- What a slot keeps, as contracts see it.
use Rattle.std.specs.Prelude.{ℕ, List, Option}

-- the last number of a slot, with its request, and with its reply where that is kept
pub record KeptModel : Type 0 where
  pub seq : ℕ
  pub request : List ℕ
  pub reply : Option (List ℕ)
