-- Facts on options.
use Rattle.room_records.proofs.Common.{◌≡◌, arith, sym, refl, subst, Option, None, Some, IsSome, Result, Ok, Err, IfOk}

pub none_is_not_some : {X : Type 0} (o : Option X) → o ≡ None → IsSome o → ⊥
none_is_not_some o none some = grind arith

-- where there can be no value there is none
pub none_if : {X : Type 0} (o : Option X) → ((x : X) → o ≡ Some x → ⊥) → o ≡ None
none_if None never = refl
none_if (Some x) never = absurd (never x refl)

-- a fact of the one value that an `Ok` can hold
pub ok_of_value : {X E : Type 0} (P : X → Type 0) (x : X) → P x
    → (r : Result X E) → IfOk r (λ found. found ≡ x) → IfOk r P
ok_of_value P x here (Ok y) is = subst P (sym is) here
ok_of_value P x here (Err e) is = tt
