-- The numbers of the accepted requests of a slot: none comes twice.
use Rattle.room_desk.proofs.Common.{◌≡◌, ℕ, suc, ◌^◌, ◌<◌, ◌≤◌, arith, true, false, List, [], ◌∷◌, map, length, nat_eq}
use Rattle.room_desk.proofs.Common.{AllByRecursion, IsDistinct, and_parts, nat_tests, common_steps, next_number}
use Rattle.room_desk.proofs.Common.{EventModel, Request, Slot, History, Accepted, accepted, is_for}

-- the latest first, each request has the number after the count of those before it, and is for the slot
abbrev pub AreNumbered : List ℕ → ℕ → List Accepted → Type 0
AreNumbered sid slot [] = Unit {0}
AreNumbered sid slot (a ∷ earlier) = (a.request.seq ≡ next_number (length earlier))
    × (is_for sid slot a.request ≡ true) × AreNumbered sid slot earlier

numbered_later : (past : History) (event : EventModel) (sid : List ℕ) (slot : ℕ)
    → AreNumbered sid slot (accepted past sid slot) → AreNumbered sid slot (accepted (event ∷ past) sid slot)
numbered_later past event sid slot numbered = grind (arith, common_steps, nat_tests, and_parts)

pub accepted_are_numbered : (past : History) (sid : List ℕ) (slot : ℕ) → AreNumbered sid slot (accepted past sid slot)
accepted_are_numbered [] sid slot = tt
accepted_are_numbered (event ∷ past) sid slot = numbered_later past event sid slot (accepted_are_numbered past sid slot)

-- the next number differs from those before it
differs : (n before seq : ℕ) → seq ≡ next_number before → suc before ≤ n → n < 2 ^ 32
    → nat_eq (next_number n) seq ≡ false
differs n before seq is more below = grind (arith, nat_tests)

later_differs : (sid : List ℕ) (slot n : ℕ) (earlier : List Accepted)
    → AreNumbered sid slot earlier → length earlier ≤ n → n < 2 ^ 32
    → AllByRecursion (λ y. nat_eq (next_number n) y ≡ false) (map (λ (a : Accepted). a.request.seq) earlier)
later_differs sid slot n [] numbered few below = tt
later_differs sid slot n (a ∷ earlier) numbered few below = (
  differs n (length earlier) a.request.seq numbered.0 few below,
  later_differs sid slot n earlier numbered.2 (omega (arith, few)) below,
)

all_differ : (sid : List ℕ) (slot : ℕ) (requests : List Accepted)
    → AreNumbered sid slot requests → length requests ≤ 2 ^ 32
    → IsDistinct nat_eq (map (λ (a : Accepted). a.request.seq) requests)
unfolding IsDistinct
all_differ sid slot [] numbered few = tt
all_differ sid slot (a ∷ earlier) numbered few = (
  rw numbered.0 (later_differs sid slot (length earlier) earlier numbered.2 (omega arith) (omega (arith, few))),
  all_differ sid slot earlier numbered.2 (omega (arith, few)),
)

-- up to 2^32 accepted requests of a slot have different numbers
pub accepted_differ : (past : History) (sid : List ℕ) (slot : ℕ) → length (accepted past sid slot) ≤ 2 ^ 32
    → IsDistinct nat_eq (map (λ (a : Accepted). a.request.seq) (accepted past sid slot))
accepted_differ past sid slot few =
    all_differ sid slot (accepted past sid slot) (accepted_are_numbered past sid slot) few

-- each is for that slot of that session
all_for : (sid : List ℕ) (slot : ℕ) (requests : List Accepted) → AreNumbered sid slot requests
    → AllByRecursion (λ (a : Accepted). is_for sid slot a.request ≡ true) requests
all_for sid slot [] numbered = tt
all_for sid slot (a ∷ earlier) numbered = (numbered.1, all_for sid slot earlier numbered.2)

pub accepted_are_for : (past : History) (sid : List ℕ) (slot : ℕ)
    → AllByRecursion (λ (a : Accepted). is_for sid slot a.request ≡ true) (accepted past sid slot)
accepted_are_for past sid slot = all_for sid slot (accepted past sid slot) (accepted_are_numbered past sid slot)

-- a request leaves the other slots
pub other_slots_stay : (past : History) (q : Request) (sid : List ℕ) (slot : ℕ)
    → is_for sid slot q ≡ false → accepted (Slot q ∷ past) sid slot ≡ accepted past sid slot
other_slots_stay past q sid slot other = rw other
