-- Histories from their beginning: rows with no session, and that a history leaves a room.
use Rattle.room_desk.proofs.Common.{◌≡◌, ℕ, arith, true, List, [], ◌∷◌, None, inl, inr, ◌&&◌, length, cases_Bool}
use Rattle.room_desk.proofs.Common.{cond_both, nat_tests, common_steps, bytes_decides, Records, Room, IsRoom}
use Rattle.room_desk.proofs.Common.{RepresentsRoom, IsLawful, Request, Slot, History, accepts, accepted, is_for}
use Rattle.room_desk.proofs.Common.{is_accepted, state_after, AcceptsLawful, RepresentsHistory}
use Rattle.room_commands.proofs.EffectIsRoom.{effect_is_room}

-- rows of a room with no session and no slot stand for the history without events
pub stand_at_first : (start : Room) (r : Records) → RepresentsRoom r.objects start
    → ((sid : List ℕ) → r.session sid ≡ None) → ((sid : List ℕ) (slot : ℕ) → r.slot sid slot ≡ None)
    → RepresentsHistory start r []
stand_at_first start r room no_session no_slot = record {
  room = room;
  sessions = no_session;
  slots = no_slot;
  lawful = λ sid slot. tt;
}

-- a request is for its own slot
for_own_slot : (q : Request) → is_for q.sid q.slot q ≡ true
for_own_slot q = grind (arith, common_steps, nat_tests, bytes_decides)

module _ (past : History) (q : Request) (lawful : AcceptsLawful (Slot q ∷ past)) where
  -- with a request a history accepts what it did before
  lawful_before : AcceptsLawful past
  lawful_before sid slot = elim (cases_Bool (is_for sid slot q && accepts past (length (accepted past sid slot)) q)) [
    | inl taken ↦ (rw taken at (lawful sid slot)).1
    | inr other ↦ rw other at (lawful sid slot)
  ]

  -- and the request, where it is accepted
  accepted_is_lawful : is_accepted past q ≡ true → IsLawful q.command
  accepted_is_lawful taken = (rw (for_own_slot q, taken) at (lawful q.sid q.slot)).0

-- a history that accepts lawful commands alone leaves a room
pub state_is_room : (start : Room) (past : History) → IsRoom start → AcceptsLawful past
    → IsRoom (state_after start past)
state_is_room start [] room lawful = room
state_is_room start (Slot q ∷ past) room lawful =
    let before = state_is_room start past room (lawful_before past q lawful) in
    cond_both (is_accepted past q) _ _ IsRoom
    (λ taken. effect_is_room (state_after start past) q.caller q.command
    (accepted_is_lawful past q lawful taken) before) (λ other. before)
state_is_room start (event ∷ past) room lawful = state_is_room start past room lawful
