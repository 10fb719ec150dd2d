-- What a writer took. The reports, the wire and the program write.
use Rattle.std.specs.Prelude.{◌≡◌, ℕ, Bool, true, false, List, ◌++◌, Option}
use Rattle.std.specs.Io.KnownBytes.{Appends}

-- a writer took a beginning of these bytes
abbrev pub AppendsFront : Option (List ℕ) → Option (List ℕ) → List ℕ → Type 0
AppendsFront old new bytes = (front back : List ℕ) × (bytes ≡ front ++ back) × Appends old new front

-- the writer took all of these bytes, or a beginning of them
abbrev pub Sent : Option (List ℕ) → Option (List ℕ) → List ℕ → Bool → Type 0
Sent old new bytes true = Appends old new bytes
Sent old new bytes false = AppendsFront old new bytes
