-- Lists whose elements rise, and what is in them.
use Rattle.room_report.proofs.Common.{◌≡◌, ℕ, zero, suc, ◌<◌, refl, ap, sym, ◌∙◌, subst, arith, Bool, true, ◌⊎◌, inl}
use Rattle.room_report.proofs.Common.{inr, List, [], ◌∷◌, ◌++◌, length, filter, flat_map, slice_index_or, cases_Bool}

module _ {E : Type 0} where
  -- an element of a list
  abbrev pub In : E → List E → Type 0
  In e [] = ⊥
  In e (x ∷ xs) = (x ≡ e) ⊎ In e xs

  pub in_left : (e : E) (xs ys : List E) → In e xs → In e (xs ++ ys)
  in_left e [] ys h = absurd h
  in_left e (x ∷ xs) ys (inl is) = inl is
  in_left e (x ∷ xs) ys (inr h) = inr (in_left e xs ys h)

  pub in_right : (e : E) (xs ys : List E) → In e ys → In e (xs ++ ys)
  in_right e [] ys h = h
  in_right e (x ∷ xs) ys h = inr (in_right e xs ys h)

  pub in_either : (e : E) (xs ys : List E) → In e (xs ++ ys) → In e xs ⊎ In e ys
  in_either e [] ys h = inr h
  in_either e (x ∷ xs) ys (inl is) = inl (inl is)
  in_either e (x ∷ xs) ys (inr h) = elim (in_either e xs ys h) [ inl here ↦ inl (inr here) | inr there ↦ inr there ]

  pub in_contained : (e : E) (xs : List E) (k : ℕ) → k < length xs → slice_index_or xs k e ≡ e → In e xs
  in_contained e [] k below is = omega (arith, below)
  in_contained e (x ∷ xs) zero below is = inl is
  in_contained e (x ∷ xs) (suc k) below is = inr (in_contained e xs k (omega (arith, below)) is)

  module _ (test : E → Bool) where
    pub in_filtered : (e : E) (xs : List E) → In e xs → test e ≡ true → In e (filter test xs)
    in_filtered e [] h passes = absurd h
    in_filtered e (x ∷ xs) (inl same) passes = rw (ap test same ∙ passes) (inl same)
    in_filtered e (x ∷ xs) (inr h) passes =
        let later = in_filtered e xs h passes in
        elim (cases_Bool (test x)) [ inl kept ↦ rw kept (inr later) | inr dropped ↦ rw dropped later ]

    pub in_filter : (e : E) (xs : List E) → In e (filter test xs) → In e xs × (test e ≡ true)
    in_filter e [] h = absurd h
    in_filter e (x ∷ xs) h = elim (cases_Bool (test x)) [
      | inl kept ↦ elim (in_either e (x ∷ []) (filter test xs) (rw kept at h)) [
        | inl first ↦ elim first [ inl same ↦ (inl same, rw (← same) kept) | inr none ↦ absurd none ]
        | inr there ↦ (let found = in_filter e xs there in (inr found.0, found.1))
      ]
      | inr dropped ↦ (let found = in_filter e xs (rw dropped at h) in (inr found.0, found.1))
    ]

    pub filter_all : (xs : List E) → ((e : E) → test e ≡ true) → filter test xs ≡ xs
    filter_all [] all = refl
    filter_all (x ∷ xs) all = rw (all x) (ap (λ rest. x ∷ rest) (filter_all xs all))

module _ {A E : Type 0} (f : A → List E) where
  pub in_flat : (e : E) (a : A) (xs : List A) → In a xs → In e (f a) → In e (flat_map f xs)
  in_flat e a [] h here = absurd h
  in_flat e a (x ∷ xs) (inl is) here = in_left e (f x) (flat_map f xs) (rw is here)
  in_flat e a (x ∷ xs) (inr h) here = in_right e (f x) (flat_map f xs) (in_flat e a xs h here)

  pub in_flat_map : (e : E) (xs : List A) → In e (flat_map f xs) → (a : A) × In a xs × In e (f a)
  in_flat_map e [] h = absurd h
  in_flat_map e (x ∷ xs) h = elim (in_either e (f x) (flat_map f xs) h) [
    | inl here ↦ (x, inl refl, here)
    | inr there ↦ (let found = in_flat_map e xs there in (found.0, inr found.1, found.2))
  ]

module _ {E : Type 0} (Less : E → E → Type 0) where
  abbrev pub Before : E → List E → Type 0
  Before e [] = Unit {0}
  Before e (x ∷ xs) = Less e x × Before e xs

  abbrev pub Rising : List E → Type 0
  Rising [] = Unit {0}
  Rising (x ∷ xs) = Before x xs × Rising xs

  pub before_in : (e x : E) (xs : List E) → Before e xs → In x xs → Less e x
  before_in e x [] before h = absurd h
  before_in e x (y ∷ xs) before (inl is) = subst (Less e) is before.0
  before_in e x (y ∷ xs) before (inr h) = before_in e x xs before.1 h

  pub before_each : (e : E) (xs : List E) → ((x : E) → In x xs → Less e x) → Before e xs
  before_each e [] each = tt
  before_each e (x ∷ xs) each = (each x (inl refl), before_each e xs (λ y h. each y (inr h)))

  pub rising_append : (xs ys : List E) → Rising xs → Rising ys
      → ((x y : E) → In x xs → In y ys → Less x y) → Rising (xs ++ ys)
  rising_append [] ys up down apart = down
  rising_append (x ∷ xs) ys up down apart = (
    before_each x (xs ++ ys) (λ y h. elim (in_either y xs ys h) [
      | inl here ↦ before_in x y xs up.0 here
      | inr there ↦ apart x y (inl refl) there
    ]),
    rising_append xs ys up.1 down (λ a b h k. apart a b (inr h) k),
  )

  module _ (test : E → Bool) where
    pub rising_filter : (xs : List E) → Rising xs → Rising (filter test xs)
    rising_filter [] up = tt
    rising_filter (x ∷ xs) up =
        let before = before_each x (filter test xs) (λ y h. before_in x y xs up.0 (in_filter test y xs h).0) in
        let rest = rising_filter xs up.1 in
        elim (cases_Bool (test x)) [ inl kept ↦ rw kept (before, rest) | inr dropped ↦ rw dropped rest ]

  -- two rising lists with the same elements are one
  module _ (one_way : (a b : E) → Less a b → Less b a → ⊥) where
    pub same_rising : (xs ys : List E) → Rising xs → Rising ys
        → ((e : E) → In e xs → In e ys) → ((e : E) → In e ys → In e xs) → xs ≡ ys
    same_rising [] [] up down there back = refl
    same_rising [] (y ∷ ys) up down there back = absurd (back y (inl refl))
    same_rising (x ∷ xs) [] up down there back = absurd (there x (inl refl))
    same_rising (x ∷ xs) (y ∷ ys) up down there back = elim (there x (inl refl)) [
      | inl same ↦ (let rest : xs ≡ ys = same_rising xs ys up.1 down.1 (into x y xs ys (sym same)
          up.0 (λ e h. there e (inr h))) (into y x ys xs same down.0 (λ e h. back e (inr h))) in
          λ i. sym same i ∷ rest i)
      | inr later ↦ elim (back y (inl refl)) [
        | inl same ↦ (let rest : xs ≡ ys = same_rising xs ys up.1 down.1 (into x y xs ys same up.0
            (λ e h. there e (inr h))) (into y x ys xs (sym same) down.0 (λ e h. back e (inr h))) in
            λ i. same i ∷ rest i)
        | inr after ↦ absurd (one_way x y (before_in x y xs up.0 after) (before_in y x ys down.0 later))
      ]
    ]
      where
        into : (a b : E) (front back : List E) → a ≡ b → Before a front
            → ((e : E) → In e front → In e (b ∷ back)) → (e : E) → In e front → In e back
        into a b front back same before found e h = elim (found e h) [
          | inl is ↦ absurd (let less : Less a a = subst (Less a) (sym (same ∙ is)) (before_in a e front before h) in
              one_way a a less less)
          | inr there ↦ there
        ]

-- lists that rise one after another
module _ {A E : Type 0} (Above : A → A → Type 0) (Less : E → E → Type 0)
    (f : A → List E) (each : (a : A) → Rising Less (f a))
    (apart : (a b : A) (x y : E) → Above a b → In x (f a) → In y (f b) → Less x y) where
  pub rising_flat_map : (xs : List A) → Rising Above xs → Rising Less (flat_map f xs)
  rising_flat_map [] up = tt
  rising_flat_map (a ∷ xs) up =
      rising_append Less (f a) (flat_map f xs) (each a) (rising_flat_map xs up.1)
      (λ x y h k. let found = in_flat_map f y xs k in
      apart a found.0 x y (before_in Above a found.0 xs up.0 found.1) h found.2)
