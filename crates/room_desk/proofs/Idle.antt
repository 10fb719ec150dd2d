-- An event that changes nothing: each session and slot stays as it was.
use Rattle.room_desk.proofs.Common.{◌≡◌, ℕ, refl, arith, inl, inr, true, false, List, ◌∷◌, option_map, bytes_eq}
use Rattle.room_desk.proofs.Common.{and_parts, cases_Bool, nat_tests, common_steps, bytes_decides, Room, EventModel}
use Rattle.room_desk.proofs.Common.{Open, Close, Slot, IsTurnedAway, History, session_of, accepted, state_after}
use Rattle.room_desk.proofs.Common.{answer_to, changes_rows, session_row_of}

pub itself : (text : List ℕ) → bytes_eq text text ≡ true
itself text = (bytes_decides text text).1 refl

-- where the event changes none, the row of each session stays
pub rows_after_idle : (past : History) (event : EventModel) → changes_rows past event ≡ false → (sid : List ℕ)
    → option_map (session_row_of sid) (session_of (event ∷ past) sid)
    ≡ option_map (session_row_of sid) (session_of past sid)
rows_after_idle past (Open caller name slots) idle sid = elim (cases_Bool (bytes_eq sid name)) [
  | inl is ↦ rw ((bytes_decides sid name).0 is) (grind (arith, common_steps))
  | inr other ↦ grind (arith, common_steps)
]
rows_after_idle past (Close caller name) idle sid = elim (cases_Bool (bytes_eq sid name)) [
  | inl is ↦ rw ((bytes_decides sid name).0 is) (grind (arith, common_steps))
  | inr other ↦ grind (arith, common_steps)
]
rows_after_idle past (Slot q) idle sid = grind (arith, common_steps)

-- and so do the accepted requests of each slot
pub accepted_after_idle : (past : History) (event : EventModel) → changes_rows past event ≡ false
    → (sid : List ℕ) (slot : ℕ) → accepted (event ∷ past) sid slot ≡ accepted past sid slot
accepted_after_idle past event idle sid slot = grind (arith, common_steps, nat_tests, bytes_decides)

pub state_after_idle : (start : Room) (past : History) (event : EventModel)
    → changes_rows past event ≡ false → state_after start (event ∷ past) ≡ state_after start past
state_after_idle start past event idle = grind (arith, common_steps)

-- what is answered by a refusal, and not by a reply, changes nothing
pub refused_is_idle : (start : Room) (past : History) (event : EventModel)
    → IsTurnedAway (answer_to start past event) → changes_rows past event ≡ false
refused_is_idle start past event refused = grind (arith, common_steps, and_parts)
