-- RETRY_UNCACHED is answered to a request of the session's owner alone, and that request is the last one of its slot.
use Rattle.room_desk.proofs.Common.{◌≡◌, ℕ, refl, arith, true, false, List, [], ◌∷◌, length, Option, None, Some}
use Rattle.room_desk.proofs.Common.{AllByRecursion, bytes_eq, bytes_decides, and_parts, nat_tests, common_steps, Room}
use Rattle.room_desk.proofs.Common.{RetryUncached, EventModel, Request, Slot, command_text, Refused, History, Session}
use Rattle.room_desk.proofs.Common.{session_of, is_open_for, Accepted, accepted, answer_unaccepted, answer_to}
use Rattle.room_desk.proofs.Common.{next_number}
use Rattle.room_desk.proofs.Numbers.{accepted_are_numbered}

-- ---- the accepted requests of a slot are those of the session's owner

abbrev pub OwnedBy : List ℕ → List Accepted → Type 0
OwnedBy owner requests = AllByRecursion (λ (a : Accepted). bytes_eq owner a.request.caller.name ≡ true) requests

abbrev pub Owned : Option Session → List Accepted → Type 0
Owned None requests = requests ≡ []
Owned (Some session) requests = OwnedBy session.owner requests

owned_later : (past : History) (event : EventModel) (sid : List ℕ) (slot : ℕ)
    → Owned (session_of past sid) (accepted past sid slot)
    → Owned (session_of (event ∷ past) sid) (accepted (event ∷ past) sid slot)
owned_later past event sid slot owned = grind (arith, common_steps, nat_tests, and_parts, bytes_decides)

pub accepted_are_owned : (past : History) (sid : List ℕ) (slot : ℕ)
    → Owned (session_of past sid) (accepted past sid slot)
accepted_are_owned [] sid slot = refl
accepted_are_owned (event ∷ past) sid slot = owned_later past event sid slot (accepted_are_owned past sid slot)

-- ---- what is answered RETRY_UNCACHED

-- the request is the last one of its slot again, and its caller's own
abbrev pub IsOwnLast : History → EventModel → Type 0
IsOwnLast past event =
    (q : Request) × (last : Accepted) × (earlier : List Accepted) × (event ≡ Slot q)
    × (is_open_for q.sid q.caller (session_of past q.sid) ≡ true) × (accepted past q.sid q.slot ≡ last ∷ earlier)
    × (last.request.caller.name ≡ q.caller.name) × (q.seq ≡ last.request.seq)
    × (command_text q.command ≡ command_text last.request.command) × (last.request.keep ≡ false)

-- what is sent is the last request again, and no reply of it is kept
last_again : (start : Room) (q : Request) (last : Accepted) (earlier : List Accepted)
    → answer_unaccepted start q (last ∷ earlier) ≡ Refused RetryUncached
    → last.request.seq ≡ next_number (length earlier) → (q.seq ≡ last.request.seq)
    × (command_text q.command ≡ command_text last.request.command) × (last.request.keep ≡ false)
last_again start q last earlier is number = grind (arith, common_steps, nat_tests, bytes_decides)

module _ (start : Room) (past : History) (q : Request) where
  unaccepted : answer_to start past (Slot q) ≡ Refused RetryUncached
      → (is_open_for q.sid q.caller (session_of past q.sid) ≡ true)
      × (answer_unaccepted start q (accepted past q.sid q.slot) ≡ Refused RetryUncached)
  unaccepted is = grind (arith, common_steps)

  pub own : (o : Option Session) (last : Accepted) (earlier : List Accepted) → is_open_for q.sid q.caller o ≡ true
      → Owned o (last ∷ earlier) → last.request.caller.name ≡ q.caller.name
  own o last earlier is owned = grind (arith, common_steps, and_parts, bytes_decides)

  by_requests : is_open_for q.sid q.caller (session_of past q.sid) ≡ true
      → (requests : List Accepted) → accepted past q.sid q.slot ≡ requests
      → answer_unaccepted start q requests ≡ Refused RetryUncached → IsOwnLast past (Slot q)
  by_requests usable [] e is = absurd cc
  by_requests usable (last ∷ earlier) e is =
      let numbered = rw e at (accepted_are_numbered past q.sid q.slot) in
      let (number, text, unkept) = last_again start q last earlier is numbered.0 in
      let owned = own (session_of past q.sid) last earlier usable (rw e at (accepted_are_owned past q.sid q.slot)) in
      (q, last, earlier, refl, usable, e, owned, number, text, unkept)

not_of_session : (start : Room) (past : History) (event : EventModel)
    → ((q : Request) → event ≡ Slot q → ⊥) → answer_to start past event ≡ Refused RetryUncached → ⊥
not_of_session start past event other is = grind (arith, common_steps)

pub uncached_is_own : (start : Room) (past : History) (event : EventModel)
    → answer_to start past event ≡ Refused RetryUncached → IsOwnLast past event
uncached_is_own start past (Slot q) is =
    let (usable, uncached) = unaccepted start past q is in by_requests start past q usable _ refl uncached
uncached_is_own start past event is = absurd (not_of_session start past event (λ q e. cc) is)
