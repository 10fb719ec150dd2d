-- A slot keeps the count of its accepted requests, modulo 2^32, so its test is the count's.
use Rattle.std.proofs.Common.{◌≡◌, ℕ, ◌%◌, ◌^◌, ◌==◌, ◌↔◌, Bool, true, false, List, Option, None, Some}
use Rattle.std.proofs.Common.{if◌then◌else◌, refl, ap, sym, ◌∙◌, arith}
use Rattle.std.specs.Str.{bytes_eq}
use Rattle.std.proofs.Math.Nat.{mod-add-mod}
use Rattle.std.proofs.lemmas.Bool.{cond-true, eq-eqb, eqb-true}
use Rattle.std.proofs.lemmas.Bool.Decides.{nat_tests}
use Rattle.room_slots.specs.KeptModel.{KeptModel}
use Rattle.room_slots.specs.Slots.{next_number, sent_again, verdict}
use Rattle.room_slots.specs.declared.verdict.Verdict.{Verdict}
use Rattle.room_slots.specs.declared.verdict.Verdict.TheVariants.{New, FalseRetry, Misordered}

-- the number after the one that is kept is the number after the count
pub next_number_of_count : (count : ℕ) → next_number (count % 2 ^ 32) ≡ next_number count
next_number_of_count count = mod-add-mod count (2 ^ 32) 1

-- no number is the one after itself
pub next_number_other : (seq : ℕ) → seq ≡ next_number seq → ⊥
next_number_other seq h = omega arith

-- the order of two tests for different numbers does not matter
tests_in_turn : (s a b : ℕ) (x y z : Verdict) → (a ≡ b → ⊥)
    → (if s == a then x else (if s == b then y else z)) ≡ (if s == b then y else (if s == a then x else z))
tests_in_turn s a b x y z h = grind (arith, nat_tests)

-- what is kept after so many accepted requests: nothing after none, else their count modulo 2^32
abbrev pub KeepsCount : Option KeptModel → ℕ → Type 0
KeepsCount None count = count ≡ 0
KeepsCount (Some last) count = last.seq ≡ count % 2 ^ 32

-- what a request is that is not accepted
abbrev pub verdict_unaccepted : Option KeptModel → ℕ → List ℕ → Verdict
verdict_unaccepted None seq request = Misordered
verdict_unaccepted (Some last) seq request =
    if seq == last.seq then (if bytes_eq request last.request then sent_again last.reply else FalseRetry) else
    Misordered

-- the slot test by the count: new is asked first
pub verdict_by_count : (kept : Option KeptModel) (count seq : ℕ) (request : List ℕ) → KeepsCount kept count
    → verdict kept seq request ≡ (if seq == next_number count then New else verdict_unaccepted kept seq request)
verdict_by_count None count seq request h = rw h refl
verdict_by_count (Some last) count seq request h =
    let next : next_number last.seq ≡ next_number count = ap next_number h ∙ next_number_of_count count in
    rw (← next) (tests_in_turn seq last.seq (next_number last.seq) _ _ _ (next_number_other last.seq))

-- a request that is accepted by count is new to its slot
pub new_if_accepted : (kept : Option KeptModel) (count seq : ℕ) (request : List ℕ)
    → KeepsCount kept count → seq ≡ next_number count → verdict kept seq request ≡ New
new_if_accepted kept count seq request h e =
    verdict_by_count kept count seq request h ∙ cond-true _ _ _ (eq-eqb seq (next_number count) e)

not_new_by_tests : (a b : Bool) (reply : Option (List ℕ))
    → (if a then (if b then sent_again reply else FalseRetry) else Misordered) ≡ New → ⊥
not_new_by_tests true true None e = cc
not_new_by_tests true true (Some reply) e = cc
not_new_by_tests true false reply e = cc
not_new_by_tests false b reply e = cc

-- what is not accepted is not new
pub unaccepted_is_not_new : (kept : Option KeptModel) (seq : ℕ) (request : List ℕ)
    → verdict_unaccepted kept seq request ≡ New → ⊥
unaccepted_is_not_new None seq request e = cc
unaccepted_is_not_new (Some last) seq request e =
    not_new_by_tests (seq == last.seq) (bytes_eq request last.request) last.reply e

true_if_new : (test : Bool) (other : Verdict) → (other ≡ New → ⊥) → (if test then New else other) ≡ New → test ≡ true
true_if_new true other not_new e = refl
true_if_new false other not_new e = absurd (not_new e)

-- a request that is new to its slot is accepted by count
pub accepted_if_new : (kept : Option KeptModel) (count seq : ℕ) (request : List ℕ)
    → KeepsCount kept count → verdict kept seq request ≡ New → seq ≡ next_number count
accepted_if_new kept count seq request h e =
    eqb-true seq (next_number count) (true_if_new _ (verdict_unaccepted kept seq request)
    (unaccepted_is_not_new kept seq request) (sym (verdict_by_count kept count seq request h) ∙ e))

-- the slot test and the count agree: a request is new to what the slot keeps exactly where it is accepted
pub new_exactly_if_accepted : (kept : Option KeptModel) (count seq : ℕ) (request : List ℕ)
    → KeepsCount kept count → (verdict kept seq request ≡ New) ↔ (seq ≡ next_number count)
new_exactly_if_accepted kept count seq request h =
    (accepted_if_new kept count seq request h, new_if_accepted kept count seq request h)
