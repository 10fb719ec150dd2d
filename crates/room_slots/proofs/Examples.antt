-- Worked examples, computed by the definitions.
use Rattle.std.proofs.Common.{◌≡◌, refl, ℕ, List, [], ◌∷◌, None, Some}
use Rattle.room_slots.specs.KeptModel.{KeptModel}
use Rattle.room_slots.specs.Slots.{verdict}
use Rattle.room_slots.specs.declared.verdict.Verdict.TheVariants as V
use Rattle.room_slots.specs.TrialModel.{TrialModel, Reply, FalseRetry, Misordered}
use Rattle.room_slots.specs.Trials.{trial_after, trial_answer}
use Rattle.room_slots.specs.Accepted.{Piece, accepted, bytes_of}

-- wrapped_number
abbrev last : KeptModel
last = record { seq = 4294967295; request = 97 ∷ []; reply = Some [] }

wrapped_new : verdict (Some last) 0 (97 ∷ []) ≡ V.New
wrapped_new = refl

wrapped_repeat : verdict (Some last) 4294967295 (97 ∷ []) ≡ V.Repeat
wrapped_repeat = refl

wrapped_false_retry : verdict (Some last) 4294967295 (99 ∷ []) ≡ V.FalseRetry
wrapped_false_retry = refl

wrapped_misordered : verdict (Some last) 1 (97 ∷ []) ≡ V.Misordered
wrapped_misordered = refl

-- a reply that was not kept
abbrev reply_dropped : KeptModel
reply_dropped = record { seq = 7; request = 97 ∷ []; reply = None }

dropped_is_uncached : verdict (Some reply_dropped) 7 (97 ∷ []) ≡ V.Uncached
dropped_is_uncached = refl

other_on_dropped_is_a_false_retry : verdict (Some reply_dropped) 7 (99 ∷ []) ≡ V.FalseRetry
other_on_dropped_is_a_false_retry = refl

dropped_is_followed : verdict (Some reply_dropped) 8 (99 ∷ []) ≡ V.New
dropped_is_followed = refl

first_is_one : verdict None 1 [] ≡ V.New
first_is_one = refl

first_is_not_zero : verdict None 0 [] ≡ V.Misordered
first_is_not_zero = refl

-- a kept number 0 is a kept number
abbrev zero_kept : KeptModel
zero_kept = record { seq = 0; request = 97 ∷ []; reply = Some [] }

zero_repeats : verdict (Some zero_kept) 0 (97 ∷ []) ≡ V.Repeat
zero_repeats = refl

one_follows_zero : verdict (Some zero_kept) 1 (99 ∷ []) ≡ V.New
one_follows_zero = refl

-- five pieces: (1, a), (1, a), (1, b), (3, b), (2, b)
abbrev piece : ℕ → ℕ → Piece
piece seq byte = record { seq = seq; bytes = byte ∷ [] }

abbrev five : List Piece
five = piece 1 97 ∷ piece 1 97 ∷ piece 1 98 ∷ piece 3 98 ∷ piece 2 98 ∷ []

five_accepted : accepted five ≡ piece 1 97 ∷ piece 2 98 ∷ []
five_accepted = refl

five_bytes : bytes_of (accepted five) ≡ 97 ∷ 98 ∷ []
five_bytes = refl

abbrev fresh : TrialModel
fresh = record { kept = None; doc = [] }

abbrev one : TrialModel
one = trial_after fresh 1 (97 ∷ [])

fresh_answer : trial_answer fresh 1 (97 ∷ []) ≡ Reply (97 ∷ [])
fresh_answer = refl

repeat_answer : trial_answer one 1 (97 ∷ []) ≡ Reply (97 ∷ [])
repeat_answer = refl

repeat_stays : trial_after one 1 (97 ∷ []) ≡ one
repeat_stays = refl

false_retry_answer : trial_answer one 1 (98 ∷ []) ≡ FalseRetry
false_retry_answer = refl

misordered_answer : trial_answer one 3 (98 ∷ []) ≡ Misordered
misordered_answer = refl

next_answer : trial_answer one 2 (98 ∷ []) ≡ Reply (97 ∷ 98 ∷ [])
next_answer = refl
