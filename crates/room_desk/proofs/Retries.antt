-- A request whose number is not new: a repeat gets its first reply, and any other is refused.
use Rattle.room_desk.proofs.Common.{arith, ◌≡◌, ◌≢◌, true, false, List, ◌∷◌, length, nat_lt, bytes_decides, nat_tests}
use Rattle.room_desk.proofs.Common.{common_steps, next_number, Room, SeqMisordered, SeqFalseRetry, RetryUncached}
use Rattle.room_desk.proofs.Common.{Request, Slot, command_text, Reply, Refused, History, session_of, is_open_for}
use Rattle.room_desk.proofs.Common.{slots_of, Accepted, accepted, original_reply, answer_to}
use Rattle.room_desk.proofs.Numbers.{accepted_are_numbered}

module _ (start : Room) (past : History) (q : Request) (last : Accepted) (earlier : List Accepted)
    (usable : is_open_for q.sid q.caller (session_of past q.sid) ≡ true)
    (below : nat_lt q.slot (slots_of (session_of past q.sid)) ≡ true)
    (requests : accepted past q.sid q.slot ≡ last ∷ earlier) where
  -- the last number is that after the count of those before
  last_number : last.request.seq ≡ next_number (length earlier)
  last_number = (rw requests at (accepted_are_numbered past q.sid q.slot)).0

  -- the last number with the same command is a repeat: it gets its first reply where that is kept
  pub repeat_answer : q.seq ≡ last.request.seq → command_text q.command ≡ command_text last.request.command
      → last.request.keep ≡ true → answer_to start past (Slot q) ≡ Reply (original_reply start last)
  repeat_answer same text keep = grind (arith, common_steps, nat_tests, bytes_decides, last_number)

  -- and is refused where it is not
  pub uncached_answer : q.seq ≡ last.request.seq → command_text q.command ≡ command_text last.request.command
      → last.request.keep ≡ false → answer_to start past (Slot q) ≡ Refused RetryUncached
  uncached_answer same text keep = grind (arith, common_steps, nat_tests, bytes_decides, last_number)

  -- with another command it is a false retry
  pub false_retry_answer : q.seq ≡ last.request.seq → command_text q.command ≢ command_text last.request.command
      → answer_to start past (Slot q) ≡ Refused SeqFalseRetry
  false_retry_answer same other = grind (arith, common_steps, nat_tests, bytes_decides, last_number)

  -- and any number but the last and the next is misordered
  pub misordered_answer : q.seq ≢ last.request.seq → q.seq ≢ next_number (length (last ∷ earlier))
      → answer_to start past (Slot q) ≡ Refused SeqMisordered
  misordered_answer other not_next = grind (arith, common_steps, nat_tests, last_number)
