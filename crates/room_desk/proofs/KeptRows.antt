-- The slot test by the row that is kept answers as the history does.
use Rattle.room_desk.proofs.Common.{◌≡◌, ℕ, suc, ◌+◌, ◌%◌, ◌^◌, refl, arith, true, List, [], ◌∷◌, length, nat_lt, ◌↔◌}
use Rattle.room_desk.proofs.Common.{◌==◌, if◌then◌else◌, and_parts, eqb-true, eq-eqb, nat_tests, common_steps}
use Rattle.room_desk.proofs.Common.{next_number, verdict, Room, Request, Slot, command_text, History, session_of}
use Rattle.room_desk.proofs.Common.{is_open_for, slots_of, Accepted, accepted, is_accepted, original_reply, answer_to}
use Rattle.room_desk.proofs.Common.{slot_row_of, kept_after}
use Rattle.room_slots.specs.declared.verdict.Verdict.TheVariants.{New}
use Rattle.room_slots.proofs.Counts.{KeepsCount, verdict_by_count, verdict_unaccepted, new_exactly_if_accepted}
use Rattle.room_desk.specs.Verdicts.{answer_by}
use Rattle.room_desk.proofs.Numbers.{AreNumbered, accepted_are_numbered}

number_after : (n seq : ℕ) → seq ≡ next_number n → seq ≡ suc n % 2 ^ 32
number_after n seq is = let number : seq ≡ (n + 1) % 2 ^ 32 = is in omega (arith, number)

-- the number of the last accepted request is the count of all
counted : (start : Room) (sid : List ℕ) (slot : ℕ) (requests : List Accepted) → AreNumbered sid slot requests
    → KeepsCount (kept_after start requests) (length requests)
counted start sid slot [] numbered = refl
counted start sid slot (last ∷ earlier) numbered = number_after (length earlier) last.request.seq numbered.0

pub keeps_count : (start : Room) (past : History) (sid : List ℕ) (slot : ℕ)
    → KeepsCount (kept_after start (accepted past sid slot)) (length (accepted past sid slot))
keeps_count start past sid slot = counted start sid slot (accepted past sid slot) (accepted_are_numbered past sid slot)

-- the slot test by what is kept
pub verdict_is : (start : Room) (past : History) (q : Request)
    → verdict (kept_after start (accepted past q.sid q.slot)) q.seq (command_text q.command)
    ≡ (if q.seq == next_number (length (accepted past q.sid q.slot)) then New
    else verdict_unaccepted (kept_after start (accepted past q.sid q.slot)) q.seq (command_text q.command))
verdict_is start past q = verdict_by_count (kept_after start (accepted past q.sid q.slot)) _ q.seq
    (command_text q.command) (keeps_count start past q.sid q.slot)

module _ (start : Room) (past : History) (q : Request) (usable : is_open_for q.sid q.caller (session_of past q.sid)
    ≡ true) (below : nat_lt q.slot (slots_of (session_of past q.sid)) ≡ true) where
  pub row_is : slot_row_of start past q.sid q.slot ≡ kept_after start (accepted past q.sid q.slot)
  row_is = grind (arith, common_steps, and_parts)

  pub accepted_is : is_accepted past q ≡ (q.seq == next_number (length (accepted past q.sid q.slot)))
  accepted_is = rw (usable, below)

  -- the answer to a request, by what its slot keeps
  pub answer_by_kept : answer_to start past (Slot q)
      ≡ answer_by (verdict (slot_row_of start past q.sid q.slot) q.seq (command_text q.command))
      (original_reply start (record { request = q; before = past })) (slot_row_of start past q.sid q.slot)
  answer_by_kept = grind (arith, common_steps, nat_tests, and_parts, verdict_is start past q)

  -- and it is accepted exactly where it is new
  pub accepted_by_kept : (verdict (slot_row_of start past q.sid q.slot) q.seq (command_text q.command) ≡ New)
      ↔ (is_accepted past q ≡ true)
  accepted_by_kept =
      let next = new_exactly_if_accepted (kept_after start (accepted past q.sid q.slot)) _ q.seq
      (command_text q.command) (keeps_count start past q.sid q.slot) in
      rw (row_is, accepted_is) (λ new. eq-eqb q.seq _ (next.0 new), λ is. next.1 (eqb-true q.seq _ is))
