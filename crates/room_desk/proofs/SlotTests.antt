-- What a slot keeps decides a request as the count of its accepted requests does.
use Rattle.room_desk.proofs.Common.{◌≡◌, ℕ, sym, ◌∙◌, true, false, List, length, Option, arith, ◌==◌, nat_lt, lt-ltb}
use Rattle.room_desk.proofs.Common.{nat_tests, common_steps, KeptModel, next_number, kept_seq, is_next, Records, Room}
use Rattle.room_desk.proofs.Common.{Request, Slot, command_text, reply_text, effect, Reply, History, session_of}
use Rattle.room_desk.proofs.Common.{is_open_for, slots_of, accepted, Accepted, is_accepted, answer_to}
use Rattle.room_desk.proofs.Common.{answer_unaccepted, state_after, RepresentsHistory, kept_after, HasSlot}
use Rattle.room_desk.proofs.Common.{answer_by_verdict, answer_kept}
use Rattle.room_slots.proofs.Counts.{KeepsCount, next_number_of_count, verdict_unaccepted}
use Rattle.room_desk.proofs.Answers.{as_many}
use Rattle.room_desk.proofs.KeptRows.{keeps_count, verdict_is, row_is, accepted_is}

-- the next number by what is kept is the one after the count
next_by_count : (kept : Option KeptModel) (count seq : ℕ) → KeepsCount kept count
    → is_next (kept_seq kept) seq ≡ (seq == next_number count)
next_by_count kept count seq h = grind (arith, nat_tests, next_number_of_count)

unaccepted_is : (start : Room) (q : Request) (requests : List Accepted) → answer_unaccepted start q requests
    ≡ answer_by_verdict (verdict_unaccepted (kept_after start requests) q.seq (command_text q.command))
    (kept_after start requests)
unaccepted_is start q requests = grind (arith, common_steps)

module _ {start : Room} {r : Records} {past : History} (stand : RepresentsHistory start r past) (q : Request)
    (usable : is_open_for q.sid q.caller (session_of past q.sid) ≡ true) (has : HasSlot r q.sid q.slot) where
  below : nat_lt q.slot (slots_of (session_of past q.sid)) ≡ true
  below = rw (as_many stand q.sid has.row has.stands) (lt-ltb q.slot has.row.slots has.below)

  kept_is : r.slot q.sid q.slot ≡ kept_after start (accepted past q.sid q.slot)
  kept_is = stand.slots q.sid q.slot ∙ row_is start past q usable below

  by_number : is_accepted past q ≡ (q.seq == next_number (length (accepted past q.sid q.slot)))
  by_number = accepted_is start past q usable below

  -- the number that the slot keeps tells alone whether a request is accepted
  pub accepted_by_number : is_accepted past q ≡ is_next (kept_seq (r.slot q.sid q.slot)) q.seq
  accepted_by_number = by_number ∙ rw kept_is (sym (next_by_count
      (kept_after start (accepted past q.sid q.slot)) _ q.seq (keeps_count start past q.sid q.slot)))

  pub new_answer : is_accepted past q ≡ true → answer_to start past (Slot q)
      ≡ Reply (reply_text (effect (state_after start past) q.caller q.command).reply)
  new_answer new = rw (new, usable, below)

  pub old_answer : is_accepted past q ≡ false
      → answer_to start past (Slot q) ≡ answer_kept (r.slot q.sid q.slot) q.seq (command_text q.command)
  old_answer other =
      rw (other, usable, below, kept_is, verdict_is start past q, sym by_number ∙ other)
      (unaccepted_is start q (accepted past q.sid q.slot))
