-- A function that changes at one key.
use Rattle.room_records.proofs.Common.{◌≡◌, ℕ, refl, ap, sym, ◌∙◌, cond, inl, inr, ◌⊎◌, Option, None, Some, option_cmp}
use Rattle.room_records.proofs.Common.{eq_by_cmp, ordering_reverse, Ordering, Less, Equal, Greater, both_ways}
use Rattle.room_records.proofs.Common.{cases_Bool, cond-false, cond-true, false_from_ne_true, eq_by_cmp_equiv}
use Rattle.room_records.proofs.Common.{nat_cmp_total, nat_list_cmp_total, then_total, on_total, options_total}
use Rattle.room_records.proofs.Common.{CmpEqualImpliesEq, exact_unsigned, exact_bytes, exact_pairs, tells_apart, Name}
use Rattle.room_records.proofs.Common.{name_cmp, PlaceKey, place_cmp}
use Rattle.std.specs.Cmp.{IsTotalOrder}
use Rattle.std.specs.Ordering.{nat_cmp}

-- the three answers of an order
pub three_ways : (o : Ordering) → (o ≡ Less) ⊎ ((o ≡ Equal) ⊎ (o ≡ Greater))
three_ways Less = inl refl
three_ways Equal = inr (inl refl)
three_ways Greater = inr (inr refl)

-- what is above a name has it below
pub above_is : (a b : Name) → name_cmp a b ≡ Greater → name_cmp b a ≡ Less
above_is a b e = nat_list_cmp_total.antisymm b a ∙ ap ordering_reverse e

pub record Updated {K X : Type 0} (new old : K → Option X) (key : K) (value : Option X) : Type 0 where
  pub here : new key ≡ value
  pub other : (k : K) → (k ≡ key → ⊥) → new k ≡ old k

module _ {K : Type 0} {cmp : K → K → Ordering} (total : IsTotalOrder cmp) (exact : CmpEqualImpliesEq cmp) where
  same_key : (a b : K) → (a ≡ b) ⊎ (a ≡ b → ⊥)
  same_key a b = elim (cases_Bool (eq_by_cmp cmp a b)) [
    | inl same ↦ inl (tells_apart exact a b same)
    | inr other ↦ inr (λ e. both_ways _ other (rw e ((eq_by_cmp_equiv total).refl b)))
  ]

  updated : {X : Type 0} {new old : K → Option X} {key : K} {value : Option X}
      → ((k : K) → new k ≡ cond (eq_by_cmp cmp key k) value (old k)) → Updated new old key value
  updated {key = key} h = record {
    here = h key ∙ cond-true _ _ _ ((eq_by_cmp_equiv total).refl key);
    other = λ k apart. h k
        ∙ cond-false _ _ _ (false_from_ne_true _ (λ e. apart (sym (tells_apart exact key k e))));
  }

exact_options : {X : Type 0} (R : X → X → Ordering) → CmpEqualImpliesEq R → CmpEqualImpliesEq (option_cmp R)
exact_options R exact None None h = refl
exact_options R exact None (Some b) h = absurd cc
exact_options R exact (Some a) None h = absurd cc
exact_options R exact (Some a) (Some b) h = ap Some (exact a b h)

pub exact_places : CmpEqualImpliesEq place_cmp
exact_places = exact_pairs nat_cmp (option_cmp name_cmp) exact_unsigned (exact_options name_cmp exact_bytes)

pub place_total : IsTotalOrder place_cmp
place_total = then_total (on_total (λ (p : PlaceKey). p.0) nat_cmp_total)
    (on_total (λ (p : PlaceKey). p.1) (options_total nat_list_cmp_total))

pub same_place : (a b : PlaceKey) → (a ≡ b) ⊎ (a ≡ b → ⊥)
same_place = same_key place_total exact_places

-- after a value is put at a number, or at a place
pub put_number : {X : Type 0} {new old : ℕ → Option X} {key : ℕ} {value : Option X}
    → ((k : ℕ) → new k ≡ cond (eq_by_cmp nat_cmp key k) value (old k)) → Updated new old key value
put_number = updated nat_cmp_total exact_unsigned

pub put_place : {X : Type 0} {new old : PlaceKey → Option X} {key : PlaceKey} {value : Option X}
    → ((k : PlaceKey) → new k ≡ cond (eq_by_cmp place_cmp key k) value (old k)) → Updated new old key value
put_place = updated place_total exact_places
