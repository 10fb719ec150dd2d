-- Who asks, as contracts see it.
use Rattle.std.specs.Prelude.{ℕ, Bool, List}
use Rattle.std.specs.Cmp.Lexicographic.{pointwise}
use Rattle.std.specs.Ordering.{eq_of_both, on}
use Rattle.std.specs.Str.{bytes_eq}

pub record SubjectModel : Type 0 where
  pub name : List ℕ
  pub groups : List (List ℕ)

-- the same user in the same groups, in the same order
abbrev pub subject_eq : SubjectModel → SubjectModel → Bool
subject_eq = eq_of_both (on (λ s. s.name) bytes_eq) (on (λ s. s.groups) (pointwise bytes_eq))
