-- Which of three routes a router finds: in numbers, 0 for questions, 1 for a request in a slot, 2 for a session.
use Rattle.room_wire.proofs.Common.{◌≡◌, ◌≢◌, ◌<◌, ℕ, zero, suc, ◌-◌, ◌==◌, ◌&&◌, Bool, true, false, List, [], ◌∷◌}
use Rattle.room_wire.proofs.Common.{◌++◌, cond, length, drop, take, nat_eq, ltb, Option, None, Some, refl, sym, ap, ◌∙◌}
use Rattle.room_wire.proofs.Common.{arith, codes, inl, inr, subst, ◌⊎◌, nat_lt, ends_with, starts_with, list_all}
use Rattle.room_wire.proofs.Common.{and_from, and_parts, ltb-true, nat_tests, take-append-drop, AreSuffixes, IsText}
use Rattle.room_wire.proofs.Common.{Rows, Seen, rows_of, ends, prepend, empty_node, param_token, catch_all_token, first}
use Rattle.room_wire.proofs.Common.{has_slash, segment, longest_suffix, after_param, cuts, seek, step, param_step}
use Rattle.std.specs.Cmp.Lexicographic.{pointwise, bytes_decides}
use Rattle.std.proofs.Math.Bool.{and-false}
use Rattle.std.proofs.Math.Seq.{drop-append_seam}
use Rattle.matchit.proofs.ParamLemmas.{after_param-end, after_param-stop, after_param-kid}
use Rattle.matchit.proofs.SeekLemmas.{seek-empty, param_step-empty, or_else-none, first-prefix, step-hit, step-miss}
use Rattle.matchit.proofs.SeekLemmas.{prepend-nil}

-- ---- a text with a slash, and one without

-- the bytes before the first slash, and those from it on
abbrev pub part : List ℕ → List ℕ
part [] = []
part (b ∷ text) = cond (b == 47) [] (b ∷ part text)

abbrev pub past : List ℕ → List ℕ
past [] = []
past (b ∷ text) = cond (b == 47) (b ∷ text) (past text)

abbrev is_nil : List ℕ → Bool
is_nil [] = true
is_nil (b ∷ text) = false

pub slashed : (text : List ℕ) → has_slash text ≡ true
    → (segment text ≡ part text ++ 47 ∷ []) × (drop (length (part text)) text ≡ past text)
slashed [] h = absurd cc
slashed (b ∷ text) h = by (b == 47) refl h (slashed text)
  where
    by : (v : Bool) → (b == 47) ≡ v → cond v true (has_slash text) ≡ true
        → (has_slash text ≡ true → (segment text ≡ part text ++ 47 ∷ []) × (drop (length (part text)) text ≡ past text))
        → (segment (b ∷ text) ≡ part (b ∷ text) ++ 47 ∷ [])
        × (drop (length (part (b ∷ text))) (b ∷ text) ≡ past (b ∷ text))
    by true e h rest =
        let is : b ≡ 47 = grind (arith, nat_tests) in
        rw e (ap (λ z. z ∷ []) is, refl)
    by false e h rest =
        let r = rest h in
        rw e (ap (λ z. b ∷ z) r.0, r.1)

plain : (text : List ℕ) → has_slash text ≡ false → (segment text ≡ text) × (part text ≡ text) × (past text ≡ [])
plain [] h = (refl, refl, refl)
plain (b ∷ text) h = by (b == 47) refl h (plain text)
  where
    by : (v : Bool) → (b == 47) ≡ v → cond v true (has_slash text) ≡ false
        → (has_slash text ≡ false → (segment text ≡ text) × (part text ≡ text) × (past text ≡ []))
        → (segment (b ∷ text) ≡ b ∷ text) × (part (b ∷ text) ≡ b ∷ text) × (past (b ∷ text) ≡ [])
    by true e h rest = absurd cc
    by false e h rest =
        let r = rest h in
        rw e (ap (λ z. b ∷ z) r.0, ap (λ z. b ∷ z) r.1, r.2)

-- ---- whether a segment ends with a slash

still : (k : ℕ) (text : List ℕ) → has_slash text ≡ false → has_slash (drop k text) ≡ false
still zero text h = h
still (suc k) [] h = refl
still (suc k) (b ∷ text) h = still k text (by (b == 47) h)
  where
    by : (v : Bool) → cond v true (has_slash text) ≡ false → has_slash text ≡ false
    by true h = absurd cc
    by false h = h

not_one : (text : List ℕ) → has_slash text ≡ false → pointwise nat_eq (47 ∷ []) text ≡ false
not_one [] h = refl
not_one (b ∷ []) h = grind (arith, nat_tests)
not_one (b ∷ c ∷ text) h = and-false (nat_eq 47 b)

pub longer : (x : List ℕ) → 0 < length (x ++ 47 ∷ [])
longer [] = omega arith
longer (b ∷ x) = omega arith

pub one_more : (x : List ℕ) → length (x ++ 47 ∷ []) - 1 ≡ length x
one_more [] = refl
one_more (b ∷ x) =
    let rest = one_more x in
    let some = longer x in
    omega arith

ends_so : (x : List ℕ) → ends_with nat_eq (x ++ 47 ∷ []) (47 ∷ []) ≡ true
ends_so x = rw (one_more x, drop-append_seam x (47 ∷ [])) refl

-- ---- a parameter

abbrev kid : List ℕ → ℕ → Seen
kid t k = record { prefix = 47 ∷ []; tails = (t, k) ∷ []; height = 0 }

are : (t : List ℕ) (k : ℕ) → AreSuffixes (kid t k ∷ [])
are t k = (record { some_prefix = omega arith; some_rows = omega arith; all_segment = (refl, tt) }, tt, tt)

longest : (t : List ℕ) (k : ℕ) (seg : List ℕ) (v : Bool) → cuts seg (47 ∷ []) ≡ v
    → longest_suffix seg (rows_of (kid t k ∷ [])) ≡ cond v (47 ∷ []) []
longest t k seg true e = rw e refl
longest t k seg false e = rw e refl

without_slash : (t : List ℕ) (k : ℕ) (v : Option ℕ) (b : ℕ) (p : List ℕ) → has_slash (b ∷ p) ≡ false
    → after_param ((47 ∷ t, k) ∷ ends v) (b ∷ p) ≡ v
without_slash t k v b p h =
    let seg = (plain (b ∷ p) h).0 in
    let no : cuts (segment (b ∷ p)) (47 ∷ []) ≡ false = rw seg
    (ap (λ z. ltb 1 (length (b ∷ p)) && z)
    (not_one (drop (length (b ∷ p) - 1) (b ∷ p)) (still (length (b ∷ p) - 1) (b ∷ p) h))
    ∙ and-false (ltb 1 (length (b ∷ p)))) in
    after_param-end (kid t k ∷ []) v b p (are t k) (longest t k (segment (b ∷ p)) false no) h

at_slash : (t : List ℕ) (k : ℕ) (v : Option ℕ) (b : ℕ) (p : List ℕ) → has_slash (b ∷ p) ≡ true → part (b ∷ p) ≡ []
    → after_param ((47 ∷ t, k) ∷ ends v) (b ∷ p) ≡ None
at_slash t k v b p h e =
    let seg = (slashed (b ∷ p) h).0 in
    let no : cuts (segment (b ∷ p)) (47 ∷ []) ≡ false = rw (seg, e) refl in
    after_param-stop (kid t k ∷ []) v b p (longest t k (segment (b ∷ p)) false no) h

behind : (t : List ℕ) (k : ℕ) (v : Option ℕ) (b : ℕ) (p : List ℕ) (c : ℕ) (x : List ℕ) → has_slash (b ∷ p) ≡ true
    → part (b ∷ p) ≡ c ∷ x
    → after_param ((47 ∷ t, k) ∷ ends v) (b ∷ p) ≡ first ((47 ∷ t, k) ∷ []) (past (b ∷ p))
behind t k v b p c x h e =
    let s = slashed (b ∷ p) h in
    let l = longer x in
    let long : ltb 1 (length ((c ∷ x) ++ 47 ∷ [])) ≡ true = grind (arith, nat_tests) in
    let yes : cuts (segment (b ∷ p)) (47 ∷ []) ≡ true = rw (s.0, e) (and_from _ _ long (ends_so (c ∷ x))) in
    after_param-kid (kid t k ∷ []) 0 empty_node v b p (are t k) (omega arith)
    (sym (longest t k (segment (b ∷ p)) true yes))
    ∙ ap (first ((47 ∷ t, k) ∷ []))
    (ap (λ n. drop n (b ∷ p)) (ap (λ z. length z - 1) s.0 ∙ one_more (part (b ∷ p))) ∙ s.1)

-- a parameter before a slash takes some bytes up to the first one
pub through : (t : List ℕ) (k : ℕ) (v : Option ℕ) (b : ℕ) (p : List ℕ)
    → after_param ((47 ∷ t, k) ∷ ends v) (b ∷ p)
    ≡ cond (is_nil (part (b ∷ p))) None (cond (has_slash (b ∷ p)) (first ((47 ∷ t, k) ∷ []) (past (b ∷ p))) v)
through t k v b p = by (has_slash (b ∷ p)) refl (part (b ∷ p)) refl
  where
    by : (s : Bool) → has_slash (b ∷ p) ≡ s → (q : List ℕ) → part (b ∷ p) ≡ q
        → after_param ((47 ∷ t, k) ∷ ends v) (b ∷ p)
        ≡ cond (is_nil q) None (cond s (first ((47 ∷ t, k) ∷ []) (past (b ∷ p))) v)
    by false h [] e = absurd (let whole = (plain (b ∷ p) h).1 in cc)
    by false h (c ∷ q) e = without_slash t k v b p h
    by true h [] e = at_slash t k v b p h e
    by true h (c ∷ q) e = behind t k v b p c q h e

-- and one at the end takes what has no slash
pub last : (k b : ℕ) (p : List ℕ) → after_param (ends (Some k)) (b ∷ p) ≡ cond (has_slash (b ∷ p)) None (Some k)
last k b p = by (has_slash (b ∷ p)) refl
  where
    by : (s : Bool) → has_slash (b ∷ p) ≡ s → after_param (ends (Some k)) (b ∷ p) ≡ cond s None (Some k)
    by true h = after_param-stop [] (Some k) b p refl h
    by false h = after_param-end [] (Some k) b p tt refl h

-- rows that all go on with a parameter
pub parameter : (rs : Rows) (b : ℕ) (p : List ℕ) → b < 256
    → first (prepend (param_token ∷ []) rs) (b ∷ p) ≡ after_param rs (b ∷ p)
unfolding seek
parameter rs b p low =
    let other : param_token ≢ b = λ e. omega arith in
    let apart : param_token ≢ catch_all_token = λ e. omega arith in
    rw (
      step-miss b param_token [] rs other,
      step-hit param_token [] rs,
      step-miss catch_all_token param_token [] rs apart,
      prepend-nil rs,
      seek-empty 0 p,
    ) (or_else-none _)

-- rows that go on with bytes alone
pub literals : (rs : Rows) (b : ℕ) (p : List ℕ) → step param_token rs ≡ [] → step catch_all_token rs ≡ []
    → first rs (b ∷ p) ≡ seek 0 (step b rs) p
unfolding seek
literals rs b p e f = rw (e, f)
    (simp (param_step-empty (b ∷ p), seek-empty ((param_step {K = ℕ} [] (b ∷ p)).0 - 1) p, or_else-none))

-- ---- the three routes, from their ends

abbrev seq_rows : Rows
seq_rows = prepend (param_token ∷ []) (ends (Some 1))

abbrev slot_rows : Rows
slot_rows = prepend (param_token ∷ []) ((47 ∷ param_token ∷ [], 1) ∷ [])

abbrev session_rows : Rows
session_rows = prepend (param_token ∷ []) ((codes "/slots/" ++ param_token ∷ 47 ∷ param_token ∷ [], 1) ∷ ends (Some 2))

abbrev version_rows : Rows
version_rows = (codes "check", 0) ∷ prepend (codes "sessions/") session_rows

abbrev pub rows_of_room : Rows
rows_of_room = prepend (codes "/v1/") version_rows

abbrev pub after : List ℕ → (List ℕ → Option ℕ) → List ℕ → Option ℕ
after front next text = cond (starts_with nat_eq text front) (next (drop (length front) text)) None

abbrev seq_found : List ℕ → Option ℕ
seq_found [] = None
seq_found (b ∷ p) = cond (has_slash (b ∷ p)) None (Some 1)

abbrev slot_found : List ℕ → Option ℕ
slot_found [] = None
slot_found (b ∷ p) = cond (is_nil (part (b ∷ p))) None
    (cond (has_slash (b ∷ p)) (after (codes "/") seq_found (past (b ∷ p))) None)

abbrev session_found : List ℕ → Option ℕ
session_found [] = None
session_found (b ∷ p) = cond (is_nil (part (b ∷ p))) None
    (cond (has_slash (b ∷ p)) (after (codes "/slots/") slot_found (past (b ∷ p))) (Some 2))

past_text : (text : List ℕ) → IsText text → IsText (past text)
past_text [] h = tt
past_text (b ∷ text) h = by (b == 47) (past_text text h.1)
  where
    by : (v : Bool) → IsText (past text) → IsText (cond v (b ∷ text) (past text))
    by true rest = h
    by false rest = rest

drop_text : (n : ℕ) (text : List ℕ) → IsText text → IsText (drop n text)
drop_text zero text h = h
drop_text (suc n) [] h = tt
drop_text (suc n) (b ∷ text) h = drop_text n text h.1

-- the bytes that stand before rows, and what comes behind them
before : (w : List ℕ) (rs : Rows) (found : List ℕ → Option ℕ) (text : List ℕ) → IsText w → IsText text
    → ((rest : List ℕ) → IsText rest → first rs rest ≡ found rest) → first (prepend w rs) text ≡ after w found text
before w rs found text low bytes is = first-prefix w rs text low
    ∙ ap (λ z. cond (starts_with nat_eq text w) z None) (is (drop (length w) text) (drop_text (length w) text bytes))

seq_is : (text : List ℕ) → IsText text → first seq_rows text ≡ seq_found text
unfolding seek
seq_is [] h = refl
seq_is (b ∷ p) h = parameter (ends (Some 1)) b p h.0 ∙ last 1 b p

pub literal_text : (text : List ℕ) → list_all (λ x. nat_lt x 256) text ≡ true → IsText text
literal_text [] h = tt
literal_text (x ∷ text) h =
    let parts = and_parts (nat_lt x 256) (list_all (λ y. nat_lt y 256) text) h in
    (ltb-true x 256 parts.0, literal_text text parts.1)

slot_is : (text : List ℕ) → IsText text → first slot_rows text ≡ slot_found text
unfolding seek
slot_is [] h = refl
slot_is (b ∷ p) h = parameter ((47 ∷ param_token ∷ [], 1) ∷ []) b p h.0 ∙ through (param_token ∷ []) 1 None b p
    ∙ ap (λ z. cond (is_nil (part (b ∷ p))) None (cond (has_slash (b ∷ p)) z None))
    (before (codes "/") seq_rows seq_found (past (b ∷ p)) (literal_text (codes "/") refl) (past_text (b ∷ p) h) seq_is)

session_is : (text : List ℕ) → IsText text → first session_rows text ≡ session_found text
unfolding seek
session_is [] h = refl
session_is (b ∷ p) h =
    parameter ((codes "/slots/" ++ param_token ∷ 47 ∷ param_token ∷ [], 1) ∷ ends (Some 2)) b p h.0
    ∙ through (codes "slots/" ++ param_token ∷ 47 ∷ param_token ∷ []) 1 (Some 2) b p
    ∙ ap (λ z. cond (is_nil (part (b ∷ p))) None (cond (has_slash (b ∷ p)) z (Some 2)))
    (before (codes "/slots/") slot_rows slot_found (past (b ∷ p)) (literal_text (codes "/slots/") refl)
    (past_text (b ∷ p) h) slot_is)

abbrev end_found : List ℕ → Option ℕ
end_found [] = Some 0
end_found (b ∷ p) = None

end_is : (text : List ℕ) → IsText text → first (([], 0) ∷ []) text ≡ end_found text
unfolding seek
end_is [] h = refl
end_is (b ∷ p) h = literals (([], 0) ∷ []) b p refl refl ∙ seek-empty 0 p

abbrev pub version_found : List ℕ → Option ℕ
version_found [] = None
version_found (b ∷ p) = cond (99 == b) (after (codes "heck") end_found p)
    (cond (115 == b) (after (codes "essions/") session_found p) None)

version_is : (text : List ℕ) → IsText text → first version_rows text ≡ version_found text
unfolding seek
version_is [] h = refl
version_is (b ∷ p) h = literals version_rows b p refl refl ∙ by (99 == b) refl (115 == b) refl
  where
    by : (u : Bool) → (99 == b) ≡ u → (v : Bool) → (115 == b) ≡ v
        → seek 0 (step b version_rows) p
        ≡ cond u (after (codes "heck") end_found p) (cond v (after (codes "essions/") session_found p) None)
    by true e true f =
        let x : 99 ≡ b = grind (arith, nat_tests) in
        let y : 115 ≡ b = grind (arith, nat_tests) in
        absurd (omega arith)
    by true e false f = rw (e, f)
        (before (codes "heck") (([], 0) ∷ []) end_found p (literal_text (codes "heck") refl) h.1 end_is)
    by false e true f = rw (e, f)
        (before (codes "essions/") session_rows session_found p (literal_text (codes "essions/") refl) h.1 session_is)
    by false e false f = rw (e, f) (seek-empty 0 p)

pub room_is : (text : List ℕ) → IsText text → first rows_of_room text ≡ after (codes "/v1/") version_found text
room_is text h = before (codes "/v1/") version_rows version_found text (literal_text (codes "/v1/") refl) h version_is

-- ---- what was found tells the text

none_else : (v : Bool) (x : Option ℕ) (k : ℕ) → cond v None x ≡ Some k → (v ≡ false) × (x ≡ Some k)
none_else true x k e = absurd cc
none_else false x k e = (refl, e)

then_some : (v : Bool) (x : Option ℕ) (k : ℕ) → cond v x None ≡ Some k → (v ≡ true) × (x ≡ Some k)
then_some true x k e = (refl, e)
then_some false x k e = absurd cc

not_nil : (text : List ℕ) → is_nil text ≡ false → 0 < length text
not_nil [] h = absurd cc
not_nil (b ∷ text) h = omega arith

split : (text : List ℕ) → part text ++ past text ≡ text
split [] = refl
split (b ∷ text) = by (b == 47) (split text)
  where
    by : (v : Bool) → part text ++ past text ≡ text
        → cond v [] (b ∷ part text) ++ cond v (b ∷ text) (past text) ≡ b ∷ text
    by true rest = refl
    by false rest = ap (λ z. b ∷ z) rest

part_plain : (text : List ℕ) → has_slash (part text) ≡ false
part_plain [] = refl
part_plain (b ∷ text) = by (b == 47) refl (part_plain text)
  where
    by : (v : Bool) → (b == 47) ≡ v → has_slash (part text) ≡ false → has_slash (cond v [] (b ∷ part text)) ≡ false
    by true e rest = refl
    by false e rest = rw e rest

begins : (w text : List ℕ) → starts_with nat_eq text w ≡ true → text ≡ w ++ drop (length w) text
begins w text h =
    let same : w ≡ take (length w) text = (bytes_decides w (take (length w) text)).0 h in
    sym (take-append-drop (length w) text) ∙ ap (λ z. z ++ drop (length w) text) (sym same)

abbrev pub IsSome : List ℕ → Type 0
IsSome text = (0 < length text) × (has_slash text ≡ false)

seq_tells : (text : List ℕ) (k : ℕ) → seq_found text ≡ Some k → (1 ≡ k) × IsSome text
seq_tells [] k e = absurd cc
seq_tells (b ∷ p) k e =
    let q = none_else (has_slash (b ∷ p)) (Some 1) k e in
    let is : 1 ≡ k = cc in
    (is, (omega arith, q.0))

slot_tells : (text : List ℕ) (k : ℕ) → slot_found text ≡ Some k
    → (1 ≡ k) × ((slot seq : List ℕ) × IsSome slot × IsSome seq × (text ≡ slot ++ 47 ∷ seq))
slot_tells [] k e = absurd cc
slot_tells (b ∷ p) k e =
    let x = b ∷ p in
    let q = none_else (is_nil (part x)) (cond (has_slash x) (after (codes "/") seq_found (past x)) None) k e in
    let r = then_some (has_slash x) (after (codes "/") seq_found (past x)) k q.1 in
    let s = then_some (starts_with nat_eq (past x) (codes "/")) (seq_found (drop 1 (past x))) k r.1 in
    let t = seq_tells (drop 1 (past x)) k s.1 in (
      t.0,
      (
        part x,
        drop 1 (past x),
        (not_nil (part x) q.0, part_plain x),
        t.1,
        sym (split x) ∙ ap (λ z. part x ++ z) (begins (codes "/") (past x) s.0),
      ),
    )

session_tells : (text : List ℕ) (k : ℕ) → session_found text ≡ Some k
    → ((2 ≡ k) × IsSome text) ⊎ ((1 ≡ k) × ((sid slot seq : List ℕ) × IsSome sid × IsSome slot × IsSome seq
    × (text ≡ sid ++ (codes "/slots/" ++ (slot ++ 47 ∷ seq)))))
session_tells [] k e = absurd cc
session_tells (b ∷ p) k e =
    let x = b ∷ p in
    let q = none_else (is_nil (part x))
    (cond (has_slash x) (after (codes "/slots/") slot_found (past x)) (Some 2)) k e in
    by (has_slash x) refl q.1 (not_nil (part x) q.0)
  where
    by : (v : Bool) → has_slash (b ∷ p) ≡ v
        → cond v (after (codes "/slots/") slot_found (past (b ∷ p))) (Some 2) ≡ Some k
        → 0 < length (part (b ∷ p))
        → ((2 ≡ k) × IsSome (b ∷ p)) ⊎ ((1 ≡ k) × ((sid slot seq : List ℕ) × IsSome sid × IsSome slot × IsSome seq
        × (b ∷ p ≡ sid ++ (codes "/slots/" ++ (slot ++ 47 ∷ seq)))))
    by false h e some = inl (cc, (omega arith, h))
    by true h e some =
        let x = b ∷ p in
        let s = then_some (starts_with nat_eq (past x) (codes "/slots/")) (slot_found (drop 7 (past x))) k e in
        let t = slot_tells (drop 7 (past x)) k s.1 in
        inr (
          t.0,
          (
            part x,
            t.1.0,
            t.1.1,
            (some, part_plain x),
            t.1.2,
            t.1.3,
            sym (split x)
                ∙ ap (λ z. part x ++ z) (begins (codes "/slots/") (past x) s.0 ∙ ap (λ z. codes "/slots/" ++ z) t.1.4),
          ),
        )

abbrev session_text : List ℕ → List ℕ
session_text sid = codes "/v1/sessions/" ++ sid

abbrev slot_text : (sid slot seq : List ℕ) → List ℕ
slot_text sid slot seq = codes "/v1/sessions/" ++ (sid ++ (codes "/slots/" ++ (slot ++ 47 ∷ seq)))

-- the route of this number, with these parts
abbrev pub IsRouteOf : ℕ → List ℕ → Type 0
IsRouteOf k target = ((0 ≡ k) × (target ≡ codes "/v1/check"))
    ⊎ (((2 ≡ k) × ((sid : List ℕ) × IsSome sid × (target ≡ session_text sid)))
    ⊎ ((1 ≡ k) × ((sid slot seq : List ℕ) × IsSome sid × IsSome slot × IsSome seq × (target ≡ slot_text sid slot seq))))

end_tells : (text : List ℕ) (k : ℕ) → end_found text ≡ Some k → (0 ≡ k) × (text ≡ [])
end_tells [] k e = (cc, refl)
end_tells (b ∷ p) k e = absurd cc

version_tells : (text : List ℕ) (k : ℕ) → version_found text ≡ Some k → IsRouteOf k (codes "/v1/" ++ text)
version_tells [] k e = absurd cc
version_tells (b ∷ p) k e = by (99 == b) refl (115 == b) refl e
  where
    by : (u : Bool) → (99 == b) ≡ u → (v : Bool) → (115 == b) ≡ v
        → cond u (after (codes "heck") end_found p) (cond v (after (codes "essions/") session_found p) None) ≡ Some k
        → IsRouteOf k (codes "/v1/" ++ b ∷ p)
    by true is v other e =
        let same : 99 ≡ b = grind (arith, nat_tests) in
        let s = then_some (starts_with nat_eq p (codes "heck")) (end_found (drop 4 p)) k e in
        let t = end_tells (drop 4 p) k s.1 in
        inl (
          t.0,
          ap (λ z. codes "/v1/" ++ z ∷ p) (sym same)
              ∙ ap (λ z. codes "/v1/c" ++ z) (begins (codes "heck") p s.0 ∙ ap (λ z. codes "heck" ++ z) t.1),
        )
    by false is true other e =
        let same : 115 ≡ b = grind (arith, nat_tests) in
        let s = then_some (starts_with nat_eq p (codes "essions/")) (session_found (drop 8 p)) k e in
        let whole : codes "/v1/" ++ b ∷ p ≡ codes "/v1/sessions/" ++ drop 8 p =
        ap (λ z. codes "/v1/" ++ z ∷ p) (sym same) ∙ ap (λ z. codes "/v1/s" ++ z) (begins (codes "essions/") p s.0) in
        elim (session_tells (drop 8 p) k s.1) [
          | inl t ↦ inr (inl (t.0, (drop 8 p, t.1, whole)))
          | inr t ↦ inr (inr (
            t.0,
            (
              t.1.0,
              t.1.1,
              t.1.2,
              t.1.3,
              t.1.4,
              t.1.5,
              whole ∙ ap (λ z. codes "/v1/sessions/" ++ z) t.1.6,
            ),
          ))
        ]
    by false is false other e = absurd cc

pub room_tells : (text : List ℕ) (k : ℕ) → after (codes "/v1/") version_found text ≡ Some k → IsRouteOf k text
room_tells text k e =
    let s = then_some (starts_with nat_eq text (codes "/v1/")) (version_found (drop 4 text)) k e in
    subst (IsRouteOf k) (sym (begins (codes "/v1/") text s.0)) (version_tells (drop 4 text) k s.1)

-- ---- and the text tells what is found

pub joined : (x rest : List ℕ) → has_slash x ≡ false
    → (part (x ++ 47 ∷ rest) ≡ x) × (past (x ++ 47 ∷ rest) ≡ 47 ∷ rest) × (has_slash (x ++ 47 ∷ rest) ≡ true)
joined [] rest h = (refl, refl, refl)
joined (b ∷ x) rest h = by (b == 47) h (joined x rest)
  where
    by : (v : Bool) → cond v true (has_slash x) ≡ false
        → (has_slash x ≡ false
        → (part (x ++ 47 ∷ rest) ≡ x) × (past (x ++ 47 ∷ rest) ≡ 47 ∷ rest) × (has_slash (x ++ 47 ∷ rest) ≡ true))
        → (cond v [] (b ∷ part (x ++ 47 ∷ rest)) ≡ b ∷ x)
        × (cond v (b ∷ x ++ 47 ∷ rest) (past (x ++ 47 ∷ rest)) ≡ 47 ∷ rest)
        × (cond v true (has_slash (x ++ 47 ∷ rest)) ≡ true)
    by true h it = absurd cc
    by false h it =
        let r = it h in
        (ap (λ z. b ∷ z) r.0, r.1, r.2)

seq_found_of : (seq : List ℕ) → IsSome seq → seq_found seq ≡ Some 1
seq_found_of [] h = absurd (omega (arith, h.0))
seq_found_of (b ∷ p) h = rw h.1 refl

slot_found_of : (slot seq : List ℕ) → IsSome slot → IsSome seq → slot_found (slot ++ 47 ∷ seq) ≡ Some 1
slot_found_of [] seq h i = absurd (omega (arith, h.0))
slot_found_of (b ∷ p) seq h i =
    let j = joined (b ∷ p) seq h.1 in
    rw (j.0, j.1, j.2) (seq_found_of seq i)

session_found_of : (sid : List ℕ) → IsSome sid → session_found sid ≡ Some 2
session_found_of [] h = absurd (omega (arith, h.0))
session_found_of (b ∷ p) h = rw (h.1, (plain (b ∷ p) h.1).1) refl

slots_found_of : (sid slot seq : List ℕ) → IsSome sid → IsSome slot → IsSome seq
    → session_found (sid ++ (codes "/slots/" ++ (slot ++ 47 ∷ seq))) ≡ Some 1
slots_found_of [] slot seq h i j = absurd (omega (arith, h.0))
slots_found_of (b ∷ p) slot seq h i j =
    let it = joined (b ∷ p) (codes "slots/" ++ (slot ++ 47 ∷ seq)) h.1 in
    rw (it.0, it.1, it.2) (slot_found_of slot seq i j)

pub told : (text : List ℕ) (k : ℕ) → IsRouteOf k text → after (codes "/v1/") version_found text ≡ Some k
told text k (inl h) = rw h.1 (ap Some h.0)
told text k (inr (inl h)) =
    let (two, (sid, some, is)) = h in
    rw is (session_found_of sid some ∙ ap Some two)
told text k (inr (inr h)) =
    let (one, (sid, slot, seq, a, b, c, is)) = h in
    rw is (slots_found_of sid slot seq a b c ∙ ap Some one)
