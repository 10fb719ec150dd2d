-- Decisions that are remembered.
use Rattle.room_cache.proofs.Common.{◌≡◌, ℕ, refl, true, List, [], Option, None, Some, IfSome, unwrap_or, arith}
use Rattle.room_cache.proofs.Common.{eq_by_cmp, nat_cmp, Records, row_at, Known, IsTrueOf}
use Rattle.std.specs.List.{Contains}
use Rattle.std.specs.Cmp.{unsigned_tied}
use Rattle.room_acl.specs.declared.access.Decision.{Decision}
use Rattle.room_acl.specs.declared.subject.Standing.{Standing}
use Rattle.room_acl.specs.SubjectModel.{SubjectModel}
use Rattle.room_acl.specs.Access.{decision}
use Rattle.room_cache.specs.declared.decisions.Decided.{Decided}

-- what is found among an object's decisions is what its entries decide
pub found_true : (r : Records) (known : Known) (id : ℕ) (made : List Decided) (subject : SubjectModel)
    (standing : Standing) (wanted : ℕ) (found : Option Decision) → row_at nat_cmp known.decisions id ≡ Some made
    → IfSome found (λ d. Contains made (record {
      subject = subject;
      standing = standing;
      wanted = wanted;
      decision = d;
    })) → IsTrueOf known r → IfSome found (λ d. d ≡ decision (r.objects.entries id) subject standing wanted)
found_true r known id made subject standing wanted None held is true_of = tt
found_true r known id made subject standing wanted (Some d) held is true_of =
    true_of.decisions id made held (record { subject = subject; standing = standing; wanted = wanted; decision = d }) is

-- an element of what was taken, or of nothing
pub was_taken : (taken : Option (List Decided)) (d : Decided) → Contains (unwrap_or taken []) d
    → (made : List Decided) × (taken ≡ Some made) × Contains made d
was_taken None d is = absurd (omega (arith, is.1))
was_taken (Some made) d is = (made, refl, is)

pub same_number : (a b : ℕ) → eq_by_cmp nat_cmp a b ≡ true → a ≡ b
same_number a b is = grind (arith, unsigned_tied a b)
