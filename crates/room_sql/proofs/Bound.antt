-- The parameters of an INSERT of entries.
use Rattle.room_sql.proofs.Common.{◌≡◌, ◌≤◌, ◌<◌, refl, ◌+◌, ℕ, List, [], ◌∷◌, ◌++◌, length, take, drop, get_or, sym}
use Rattle.room_sql.proofs.Common.{ap, ap₂, ◌∙◌, arith, map-append, append_assoc, length-append, length-take-le}
use Rattle.room_sql.proofs.Common.{take-append-drop, length-drop, Row, bound, bound_value, EntryModel, shown_as}
use Rattle.std.proofs.Math.Seq.{take-append_seam, drop-append_seam}
use Rattle.sqlite_value.specs.declared.value.ValueRef.{ValueRef}
use Rattle.sqlite_value.specs.Value.{owned}
use Rattle.room_sql.specs.declared.values.EntryRow.{EntryRow}

abbrev pub columns : List EntryRow → List ValueRef
columns [] = []
columns (row ∷ rows) = row.place ∷ row.kind ∷ row.flags ∷ row.mask ∷ row.who ∷ columns rows

-- the columns of an entry at its place, and then those of the entries behind it
pub entry_then : {at place : ℕ} {rest : Row} (row : EntryRow) (rows : List EntryRow) (e : EntryModel) → place ≡ at
    → bound (columns (row ∷ [])) ≡ shown_as place e → bound (columns rows) ≡ rest
    → bound (columns (row ∷ rows)) ≡ shown_as at e ++ rest
entry_then row rows e here is more =
    map-append (λ v. bound_value (owned v)) (columns (row ∷ [])) (columns rows)
    ∙ ap₂ ◌++◌ (is ∙ ap (λ n. shown_as n e) here) more

-- ---- batches of a list

-- what is taken with the next batch, and what is left
pub next_batch : {X : Type 0} (place : ℕ) (xs rest batch more : List X)
    → place ≤ length xs → rest ≡ drop place xs → rest ≡ batch ++ more
    → (take (place + length batch) xs ≡ take place xs ++ batch)
    × (more ≡ drop (place + length batch) xs) × (place + length batch ≤ length xs)
next_batch place xs rest batch more low is parts =
    let front = take place xs ++ batch in
    let split : front ++ more ≡ xs = append_assoc (take place xs) batch more
    ∙ ap (λ l. take place xs ++ l) (sym parts ∙ is) ∙ take-append-drop place xs in
    let long : length front ≡ place + length batch =
    length-append (take place xs) batch ∙ ap (λ n. n + length batch) (length-take-le place xs low) in
    let whole : length front + length more ≡ length xs = sym (length-append front more) ∙ ap length split in (
      sym (ap₂ take long split) ∙ take-append_seam front more,
      sym (drop-append_seam front more) ∙ ap₂ drop long split,
      omega (arith, long, whole),
    )

-- some elements at once are taken from one list, and stand in the place of as many of another
pub next_few : {X : Type 0} (k n m : ℕ) (es st : List X) → m ≡ n → k + n ≤ length es → k + n ≤ length st
    → (length (take n (drop k st)) ≡ length (take m (drop k es)))
    × (drop k st ≡ take n (drop k st) ++ drop (k + n) st)
    × (take k es ++ (take m (drop k es) ++ drop (k + n) st) ≡ take (k + n) es ++ drop (k + n) st)
next_few k n m es st is low high =
    let some = take m (drop k es) in
    let gone = take n (drop k st) in
    let long : length some ≡ n = length-take-le m (drop k es) (omega (arith, is, low, length-drop k es)) ∙ is in
    let same : length gone ≡ n = length-take-le n (drop k st) (omega (arith, high, length-drop k st)) in
    let e = next_batch k es (drop k es) some (drop m (drop k es)) (omega (arith, low)) refl
    (sym (take-append-drop m (drop k es))) in
    let s = next_batch k st (drop k st) gone (drop n (drop k st)) (omega (arith, high)) refl
    (sym (take-append-drop n (drop k st))) in (
      same ∙ sym long,
      sym (take-append-drop n (drop k st)) ∙ ap (λ l. gone ++ l) (s.1 ∙ ap (λ i. drop (k + i) st) same),
      sym (append_assoc (take k es) some (drop (k + n) st))
          ∙ ap (λ l. l ++ drop (k + n) st) (sym e.0 ∙ ap (λ i. take (k + i) es) long),
    )

-- a list of one element
pub single : {X : Type 0} (xs : List X) → length xs ≡ 1 → (x : X) × (xs ≡ x ∷ [])
single [] is = absurd (omega (arith, is))
single (x ∷ []) is = (x, refl)
single (x ∷ y ∷ xs) is = absurd (omega (arith, is))

pub one_is : {X : Type 0} {xs : List X} {a : X} → 1 ≤ length xs → length xs < 2 → a ≡ get_or xs 0 a → xs ≡ a ∷ []
one_is {xs = []} low high p = absurd (omega arith)
one_is {xs = x ∷ []} low high p = rw p refl
one_is {xs = x ∷ y ∷ xs} low high p = absurd (omega arith)

pub two_is : {X : Type 0} {xs : List X} {a b : X} → 2 ≤ length xs → length xs < 3
    → a ≡ get_or xs 0 a → b ≡ get_or xs 1 b → xs ≡ a ∷ b ∷ []
two_is {xs = []} low high p q = absurd (omega arith)
two_is {xs = x ∷ xs} low high p q = ap₂ ◌∷◌ (sym p) (one_is {xs = xs} (omega arith) (omega arith) q)

pub three_is : {X : Type 0} {xs : List X} {a b c : X} → 3 ≤ length xs → length xs < 4
    → a ≡ get_or xs 0 a → b ≡ get_or xs 1 b → c ≡ get_or xs 2 c → xs ≡ a ∷ b ∷ c ∷ []
three_is {xs = []} low high p q r = absurd (omega arith)
three_is {xs = x ∷ xs} low high p q r = ap₂ ◌∷◌ (sym p) (two_is {xs = xs} (omega arith) (omega arith) q r)

pub four_is : {X : Type 0} {xs : List X} {a b c d : X} → 4 ≤ length xs → length xs < 5 → a ≡ get_or xs 0 a
    → b ≡ get_or xs 1 b → c ≡ get_or xs 2 c → d ≡ get_or xs 3 d → xs ≡ a ∷ b ∷ c ∷ d ∷ []
four_is {xs = []} low high p q r s = absurd (omega arith)
four_is {xs = x ∷ xs} low high p q r s = ap₂ ◌∷◌ (sym p) (three_is {xs = xs} (omega arith) (omega arith) q r s)
