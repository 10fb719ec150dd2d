-- The same event again, right after itself: it gets the same answer, and changes nothing.
use Rattle.room_desk.proofs.Common.{◌≡◌, ℕ, suc, ◌+◌, ◌%◌, ◌^◌, arith, true, false, ◌∷◌, and_parts, nat_tests}
use Rattle.room_desk.proofs.Common.{common_steps, next_number, Room, RetryUncached, EventModel, Request, Slot, Refused}
use Rattle.room_desk.proofs.Common.{History, is_accepted, answer_to, changes_rows, leaves_no_reply}
use Rattle.room_desk.proofs.Idle.{itself}

next_differs : (n : ℕ) → next_number n ≡ next_number (suc n) → ⊥
next_differs n e = let f : (n + 1) % 2 ^ 32 ≡ (suc n + 1) % 2 ^ 32 = e in omega (arith, f)

-- an accepted request is not accepted again
not_accepted_again : (past : History) (q : Request) → is_accepted (Slot q ∷ past) q ≡ false
not_accepted_again past q = grind (arith, common_steps, nat_tests, and_parts, next_differs, itself q.sid)

-- the event again changes no row
pub again_is_idle : (past : History) (event : EventModel) → changes_rows (event ∷ past) event ≡ false
again_is_idle past event = grind (arith, common_steps, itself, not_accepted_again)

-- a request that is accepted and leaves a reply asks that it be kept
is_kept : (past : History) (q : Request)
    → leaves_no_reply past (Slot q) ≡ false → is_accepted past q ≡ true → q.keep ≡ true
is_kept past q left taken = grind (arith, common_steps)

-- the same event again gets the same answer, where a reply is left for it
pub same_answer_again : (start : Room) (past : History) (event : EventModel)
    → leaves_no_reply past event ≡ false → answer_to start (event ∷ past) event ≡ answer_to start past event
same_answer_again start past event left =
    grind (arith, common_steps, nat_tests, and_parts, itself, not_accepted_again, is_kept)

-- and where none is left, it is refused
pub uncached_again : (start : Room) (past : History) (event : EventModel)
    → leaves_no_reply past event ≡ true → answer_to start (event ∷ past) event ≡ Refused RetryUncached
uncached_again start past event none = grind (arith, common_steps, nat_tests, and_parts, itself, not_accepted_again)
