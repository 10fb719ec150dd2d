-- A column that has a number has no other.
use Rattle.room_tables.proofs.Common.{◌≡◌, ℕ, List, ℤ, pos, Bool, true, false, ◌||◌, cond, Some, refl, sym, ap, subst}
use Rattle.room_tables.proofs.Common.{◌∙◌, Ordering, Equal, is_eq, true≢false, arith, inl, inr, is_ne, or_parts}
use Rattle.room_tables.proofs.Common.{cases_Bool, common_steps, exact_signed, exact_bytes, alike_right, tied_back}
use Rattle.room_tables.proofs.Common.{tied_itself, Value, Null, Int, Real, Text, Row, column, value_cmp, value_cmp-Int}
use Rattle.room_tables.proofs.Common.{value_cmp-Text, value_cmp-Null, value_cmp-apart, value_cmp_total, unary, binary}
use Rattle.room_tables.proofs.Common.{is_null, is_true, from_truth, differ, is_int, id_in, cast, as_integer, int_is}
use Rattle.room_tables.proofs.Common.{has, has_text}
use Rattle.sqlite_sql.specs.declared.ops.UnaryOp.TheVariants.{ToInt}
use Rattle.sqlite_schema.specs.declared.schema.Kind.TheVariants.{Integer}

pub truth_back : (b : Bool) → is_true (from_truth (Some b)) ≡ b
truth_back b = grind (arith, common_steps)

-- SQL's = with a number is the order of values
pub equal_is : (v : Value) (n : ℤ) → Rattle.sqlite_schema.specs.Rules.equal
    Rattle.sqlite_value.specs.declared.keys.Collation.TheVariants.Binary v (Int n) ≡ is_eq (value_cmp v (Int n))
unfolding binary
equal_is Null n = sym (ap is_eq (value_cmp-Null (Int n)))
equal_is v n = truth_back _

pub has_is : (place n : ℕ) (row : Row) → has place n row ≡ is_eq (value_cmp (column row place) (Int (pos n)))
has_is place n row = equal_is (column row place) (pos n)

pub eq_is : (o : Ordering) → is_eq o ≡ true → o ≡ Equal
eq_is o h = grind (arith, common_steps)

pub has_value : (place n : ℕ) (row : Row) → has place n row ≡ true → value_cmp (column row place) (Int (pos n)) ≡ Equal
has_value place n row h = eq_is _ (sym (has_is place n row) ∙ h)

-- a column with two numbers has one
pub has_one : (place m n : ℕ) (row : Row) → has place m row ≡ true → has place n row ≡ true → m ≡ n
has_one place m n row p q =
    let tie : value_cmp (Int (pos m)) (Int (pos n)) ≡ Equal =
    sym (alike_right value_cmp_total (column row place) (Int (pos n)) (Int (pos m)) (has_value place n row q))
    ∙ tied_back value_cmp_total _ _ (has_value place m row p) in
    let same : pos m ≡ pos n = exact_signed _ _ (sym (value_cmp-Int (pos m) (pos n)) ∙ tie) in
    cc

-- two columns that have a number tie
pub has_tied : (place n : ℕ) (a b : Row) → has place n a ≡ true
    → has place n b ≡ true → value_cmp (column a place) (column b place) ≡ Equal
has_tied place n a b p q = alike_right value_cmp_total (column b place)
    (Int (pos n)) (column a place) (has_value place n b q) ∙ has_value place n a p

pub has_int : (n : ℕ) (row : Row) → is_int (column row 0) ≡ true → has 0 n row ≡ true → column row 0 ≡ Int (pos n)
has_int n row int h =
    let is = int_is (column row 0) int in
    let tie = subst (λ v. value_cmp v (Int (pos n)) ≡ Equal) is (has_value 0 n row h) in
    is ∙ ap Int (exact_signed _ _ (sym (value_cmp-Int (id_in (column row 0)) (pos n)) ∙ tie))

truth_of : (b : Bool) (o : Ordering)
    → is_true (cond b Null (from_truth (Some (is_eq o)))) ≡ true → (b ≡ false) × (o ≡ Equal)
truth_of true o h = absurd (true≢false (sym h))
truth_of false o h = (refl, eq_is o (sym (truth_back (is_eq o)) ∙ h))

-- what SQL's = finds equal ties
pub equal_tied : (a b : Value) → Rattle.sqlite_schema.specs.Rules.equal
    Rattle.sqlite_value.specs.declared.keys.Collation.TheVariants.Binary a b ≡ true → value_cmp a b ≡ Equal
unfolding binary
equal_tied a b h = (truth_of (is_null a || is_null b) (value_cmp a b) h).1

pub has_not_null : (place n : ℕ) (row : Row) → has place n row ≡ true → is_null (column row place) ≡ false
unfolding binary
has_not_null place n row h = (or_parts _ _
    (truth_of (is_null (column row place) || is_null (Int (pos n))) (value_cmp (column row place) (Int (pos n))) h).0).0

-- SQL's = finds two columns equal that have a number
pub has_equal : (place n : ℕ) (a b : Row) → has place n a ≡ true → has place n b ≡ true
    → Rattle.sqlite_schema.specs.Rules.equal Rattle.sqlite_value.specs.declared.keys.Collation.TheVariants.Binary
    (column a place) (column b place) ≡ true
unfolding binary
has_equal place n a b p q =
    rw (has_not_null place n a p, has_not_null place n b q, has_tied place n a b p q) refl

as_integer_tied : (v w : Value) → value_cmp v w ≡ Equal → value_cmp (as_integer v) w ≡ Equal
as_integer_tied v w tie = elim (cases_Bool (is_eq (value_cmp (unary ToInt v) v))) [
  | inl same ↦ rw same (either (sym (alike_right value_cmp_total v w (unary ToInt v) tie) ∙ eq_is _ same) _)
  | inr other ↦ rw other tie
]
  where
    either : value_cmp (unary ToInt v) w ≡ Equal → (c : Bool) → value_cmp (cond c (unary ToInt v) v) w ≡ Equal
    either h true = h
    either h false = tie

-- what ties with a number does so when it is cast to an integer
pub cast_tied : (v : Value) (n : ℤ) → value_cmp v (Int n) ≡ Equal → value_cmp (cast Integer v) (Int n) ≡ Equal
cast_tied Null n h = absurd (let bad = sym (value_cmp-Null (Int n)) ∙ h in cc)
cast_tied (Int m) n h = as_integer_tied (Int m) (Int n) h
cast_tied (Real x) n h = as_integer_tied (Real x) (Int n) h
cast_tied v n h = absurd (let bad = sym (value_cmp-apart v (Int n) (λ e. let f = e in cc)) ∙ h in cc)

is_not : (o : Ordering) → is_ne o ≡ false → o ≡ Equal
is_not o h = grind (arith, common_steps)

-- rowids that do not differ tie
pub same_ids : (a b : ℤ) → differ (Int a) (Int b) ≡ false → value_cmp (Int a) (Int b) ≡ Equal
unfolding binary
same_ids a b h = is_not _ (sym (truth_back _) ∙ h)

-- ---- texts

pub equal_text : (v : Value) (t : List ℕ) → Rattle.sqlite_schema.specs.Rules.equal
    Rattle.sqlite_value.specs.declared.keys.Collation.TheVariants.Binary v (Text t) ≡ is_eq (value_cmp v (Text t))
unfolding binary
equal_text Null t = sym (ap is_eq (value_cmp-Null (Text t)))
equal_text v t = truth_back _

-- only a text ties with a text
pub text_tied : (v : Value) (t : List ℕ) → value_cmp v (Text t) ≡ Equal → v ≡ Text t
text_tied (Text s) t h = ap Text (exact_bytes _ _ (sym (value_cmp-Text s t) ∙ h))
text_tied v t h = absurd (let bad = sym (value_cmp-apart v (Text t) (λ e. let f = e in cc)) ∙ h in cc)

pub has_text_is : (place : ℕ) (t : List ℕ) (row : Row)
    → has_text place t row ≡ is_eq (value_cmp (column row place) (Text t))
has_text_is place t row = equal_text (column row place) t

pub has_text_value : (place : ℕ) (t : List ℕ) (row : Row) → has_text place t row ≡ true → column row place ≡ Text t
has_text_value place t row h = text_tied _ t (eq_is _ (sym (has_text_is place t row) ∙ h))

pub text_has : (place : ℕ) (t : List ℕ) (row : Row) → column row place ≡ Text t → has_text place t row ≡ true
text_has place t row h =
    has_text_is place t row ∙ ap (λ v. is_eq (value_cmp v (Text t))) h ∙ ap is_eq (tied_itself value_cmp_total (Text t))

pub int_has : (place n : ℕ) (row : Row) → column row place ≡ Int (pos n) → has place n row ≡ true
int_has place n row h = has_is place n row ∙ ap (λ v. is_eq (value_cmp v (Int (pos n)))) h
    ∙ ap is_eq (tied_itself value_cmp_total (Int (pos n)))

pub has_text_one : (place : ℕ) (s t : List ℕ) (row : Row)
    → has_text place s row ≡ true → has_text place t row ≡ true → s ≡ t
has_text_one place s t row p q = let e = sym (has_text_value place s row p) ∙ has_text_value place t row q in cc
