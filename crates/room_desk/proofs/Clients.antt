-- A client that asks until it is answered: each of its commands is accepted once, in its order.
use Rattle.room_desk.proofs.Common.{◌≡◌, ◌≢◌, ℕ, suc, ◌+◌, ◌^◌, ◌%◌, ◌<◌, ◌≤◌, refl, ap, sym, ◌∙◌, arith, inl, inr}
use Rattle.room_desk.proofs.Common.{true, List, [], ◌∷◌, map, length, nat_eq, nat_lt, Some, eq-eqb, ◌++◌, bytes_decides}
use Rattle.room_desk.proofs.Common.{length-append, length-map, and_parts, cases_Bool, nat_tests, common_steps}
use Rattle.room_desk.proofs.Common.{next_number, CommandModel, EventModel, Request, Slot, History, Session, session_of}
use Rattle.room_desk.proofs.Common.{Accepted, accepted, accepts, is_open_for, slots_of, answer_to, original_reply}
use Rattle.room_desk.proofs.Common.{Reply, Refused, Lane, HoldsSlot, is_of, is_others, HasNumber, IsAsk, IsUsed, Asks}
use Rattle.room_desk.proofs.Common.{ran, answer_again, Room, command_text, SeqMisordered, SeqFalseRetry}
use Rattle.room_desk.proofs.Numbers.{accepted_are_numbered}
use Rattle.room_desk.proofs.Retries.{repeat_answer, uncached_answer, false_retry_answer, misordered_answer}

abbrev pub commands_of : List Accepted → List CommandModel
commands_of requests = map (λ (a : Accepted). a.request.command) requests

module _ (lane : Lane) where
  -- what is not the user's CLOSE leaves the session
  session_stays : (past : History) (event : EventModel) (session : Session) → session_of past lane.sid ≡ Some session
      → session_of (event ∷ past) lane.sid ≡ Some (record session { since = event ∷ session.since })
  session_stays past event session named = grind (arith, common_steps)

  pub holds_others : (past : History) (event : EventModel) → is_others lane event ≡ true
      → HoldsSlot lane past → HoldsSlot lane (event ∷ past)
  holds_others past event others holds = record {
    session = record holds.session { since = event ∷ holds.session.since };
    named = session_stays past event holds.session holds.named;
    owned = holds.owned;
    going = grind (arith, common_steps, and_parts, holds.going, holds.owned);
    below = holds.below;
  }

  pub holds_request : (past : History) (q : Request) → HoldsSlot lane past → HoldsSlot lane (Slot q ∷ past)
  holds_request past q holds = record {
    session = record holds.session { since = Slot q ∷ holds.session.since };
    named = session_stays past (Slot q) holds.session holds.named;
    owned = holds.owned;
    going = grind (arith, common_steps, and_parts, holds.going);
    below = holds.below;
  }

  -- what others do is not accepted in the slot
  pub others_leave : (past : History) (event : EventModel) → is_others lane event ≡ true → HoldsSlot lane past
      → accepted (event ∷ past) lane.sid lane.slot ≡ accepted past lane.sid lane.slot
  others_leave past event others holds =
      grind (arith, common_steps, nat_tests, and_parts, bytes_decides, holds.named, holds.owned, holds.going)

  -- the user's request with the next number is accepted
  pub next_is_accepted : (past : History) (q : Request) → is_of lane (Slot q) ≡ true → HoldsSlot lane past
      → q.seq ≡ next_number (length (accepted past lane.sid lane.slot))
      → accepts past (length (accepted past lane.sid lane.slot)) q ≡ true
  next_is_accepted past q own holds next =
      grind (
        arith,
        common_steps,
        nat_tests,
        and_parts,
        bytes_decides,
        holds.named,
        holds.owned,
        holds.going,
        holds.below,
      )

  pub next_joins : (past : History) (q : Request) → is_of lane (Slot q) ≡ true → HoldsSlot lane past
      → q.seq ≡ next_number (length (accepted past lane.sid lane.slot))
      → accepted (Slot q ∷ past) lane.sid lane.slot
      ≡ record { request = q; before = past } ∷ accepted past lane.sid lane.slot
  next_joins past q own holds next =
      let taken = next_is_accepted past q own holds next in
      grind (arith, common_steps, and_parts, taken)

  -- a request with another number is not
  pub other_leaves : (past : History) (q : Request)
      → q.seq ≢ next_number (length (accepted past lane.sid lane.slot))
      → accepted (Slot q ∷ past) lane.sid lane.slot ≡ accepted past lane.sid lane.slot
  other_leaves past q other = grind (arith, common_steps, nat_tests, and_parts)

-- ---- the numbers of copies

numbers_differ : (m n : ℕ) → m < n → n < m + 2 ^ 32 → next_number m ≢ next_number n
numbers_differ m n less near is = let f : (m + 1) % 2 ^ 32 ≡ (n + 1) % 2 ^ 32 = is in omega (arith, less, near, f)

module _ (lane : Lane) (count : ℕ) where
  -- a number that was used comes before the next
  pub used_number : (many : ℕ) (q : Request) (n : ℕ) → IsUsed lane count many (Slot q)
      → many ≤ n → n < 2 ^ 32 → q.seq ≢ next_number (count + n)
  used_number many q n (i, less, has) few below = λ is.
      numbers_differ (count + i) (count + n) (omega (arith, less, few)) (omega (arith, below)) (sym has.1 ∙ is)

  pub used_is_request : (many : ℕ) (event : EventModel) → IsUsed lane count many event
      → (q : Request) × (event ≡ Slot q)
  used_is_request many (Slot q) used = (q, refl)
  used_is_request many event (i, less, has) = absurd has

-- ---- each command is accepted once

-- where the client stands after a part of the history
pub record Stands (lane : Lane) (past later : History) (asked : List CommandModel) : Type 0 where
  pub holds : HoldsSlot lane (later ++ past)
  pub done : commands_of (accepted (later ++ past) lane.sid lane.slot)
      ≡ asked ++ commands_of (accepted past lane.sid lane.slot)

module _ (lane : Lane) (past : History) where
  abbrev count : ℕ
  count = length (ran lane past)

  -- so many were accepted
  pub number_of : (later : History) (asked : List CommandModel) → Stands lane past later asked
      → length (accepted (later ++ past) lane.sid lane.slot) ≡ count + length asked
  number_of later asked stands =
      sym (length-map (accepted (later ++ past) lane.sid lane.slot) (λ (a : Accepted). a.request.command))
      ∙ ap length stands.done
      ∙ length-append asked (ran lane past) ∙ omega arith

  after_first : (event : EventModel) (later : History) (command : CommandModel) (before : List CommandModel)
      → IsAsk lane (count + length before) command event → Stands lane past later before
      → Stands lane past (event ∷ later) (command ∷ before)
  after_first (Slot q) later command before ask stands =
      let joined = next_joins lane (later ++ past) q ask.0.0 stands.holds
      (ask.0.1 ∙ ap next_number (sym (number_of later before stands))) in record {
        holds = holds_request lane (later ++ past) q stands.holds;
        done = rw joined (rw (ask.1, stands.done));
      }
  after_first event later command before ask stands = absurd ask

  after_used : (event : EventModel) (later : History) (asked : List CommandModel) → length asked < 2 ^ 32
      → IsUsed lane count (length asked) event → Stands lane past later asked
      → Stands lane past (event ∷ later) asked
  after_used event later asked few used stands =
      let (q, is) = used_is_request lane count (length asked) event used in
      let other = used_number lane count (length asked) q (length asked) (rw is at used) (omega arith) few in
      rw is (record {
        holds = holds_request lane (later ++ past) q stands.holds;
        done = rw (other_leaves lane (later ++ past) q (rw (number_of later asked stands) other)) stands.done;
      })

  after_others : (event : EventModel) (later : History) (asked : List CommandModel)
      → is_others lane event ≡ true → Stands lane past later asked → Stands lane past (event ∷ later) asked
  after_others event later asked others stands = record {
    holds = holds_others lane (later ++ past) event others stands.holds;
    done = rw (others_leave lane (later ++ past) event others stands.holds) stands.done;
  }

  pub stands_after : (later : History) (asked : List CommandModel) → HoldsSlot lane past
      → Asks lane count later asked → length asked < 2 ^ 32 → Stands lane past later asked
  stands_after [] asked holds none few = rw none (record { holds = holds; done = refl })
  stands_after (event ∷ later) (command ∷ before) holds (inl first) few =
      after_first event later command before first.0
      (stands_after later before holds first.1 (omega (arith, few)))
  stands_after (event ∷ later) [] holds (inl none) few = absurd none
  stands_after (event ∷ later) asked holds (inr (inl used, asks)) few =
      after_used event later asked few used (stands_after later asked holds asks few)
  stands_after (event ∷ later) asked holds (inr (inr others, asks)) few =
      after_others event later asked others (stands_after later asked holds asks few)

-- ---- what the client is answered

module _ (start : Room) (lane : Lane) (past : History) where
  -- the slot is there for the user's request
  usable_of : (q : Request) → is_of lane (Slot q) ≡ true → HoldsSlot lane past
      → (is_open_for q.sid q.caller (session_of past q.sid) ≡ true)
      × (nat_lt q.slot (slots_of (session_of past q.sid)) ≡ true)
      × (accepted past q.sid q.slot ≡ accepted past lane.sid lane.slot)
  usable_of q own holds =
      grind (
        arith,
        common_steps,
        nat_tests,
        and_parts,
        bytes_decides,
        holds.named,
        holds.owned,
        holds.going,
        holds.below,
      )

  new_answer : (q : Request) → is_of lane (Slot q) ≡ true → HoldsSlot lane past
      → q.seq ≡ next_number (length (accepted past lane.sid lane.slot))
      → answer_to start past (Slot q) ≡ Reply (original_reply start (record { request = q; before = past }))
  new_answer q own holds next =
      let (usable, below, same) = usable_of q own holds in
      let same_number : nat_eq q.seq (next_number (length (accepted past q.sid q.slot))) ≡ true =
      rw (same, next) (eq-eqb _ _ refl) in
      rw (usable, below, same_number)

  last_answer : (q : Request) (last : Accepted) (earlier : List Accepted) → is_of lane (Slot q) ≡ true
      → HoldsSlot lane past → accepted past lane.sid lane.slot ≡ last ∷ earlier
      → q.seq ≡ next_number (length earlier) → q.command ≡ last.request.command
      → answer_to start past (Slot q) ≡ answer_again start last
  last_answer q last earlier own holds stand number same_command =
      let (usable, below, same) = usable_of q own holds in
      let numbered = rw stand at (accepted_are_numbered past lane.sid lane.slot) in
      elim (cases_Bool last.request.keep) [
        | inl kept ↦ rw kept (repeat_answer start past q last earlier usable below (same ∙ stand)
            (number ∙ sym numbered.0) (ap command_text same_command) kept)
        | inr unkept ↦ rw unkept (uncached_answer start past q last earlier usable below (same ∙ stand)
            (number ∙ sym numbered.0) (ap command_text same_command) unkept)
      ]

  -- another command with the last number is a false retry
  false_answer : (q : Request) (last : Accepted) (earlier : List Accepted) → is_of lane (Slot q) ≡ true
      → HoldsSlot lane past → accepted past lane.sid lane.slot ≡ last ∷ earlier
      → q.seq ≡ next_number (length earlier) → command_text q.command ≢ command_text last.request.command
      → answer_to start past (Slot q) ≡ Refused SeqFalseRetry
  false_answer q last earlier own holds stand number other =
      let (usable, below, same) = usable_of q own holds in
      let numbered = rw stand at (accepted_are_numbered past lane.sid lane.slot) in
      false_retry_answer start past q last earlier usable below (same ∙ stand) (number ∙ sym numbered.0) other

  -- a number before the last is misordered
  late_answer : (q : Request) (last : Accepted) (earlier : List Accepted) → is_of lane (Slot q) ≡ true
      → HoldsSlot lane past → accepted past lane.sid lane.slot ≡ last ∷ earlier
      → q.seq ≢ next_number (length earlier) → q.seq ≢ next_number (length (last ∷ earlier))
      → answer_to start past (Slot q) ≡ Refused SeqMisordered
  late_answer q last earlier own holds stand not_last not_next =
      let (usable, below, same) = usable_of q own holds in
      let numbered = rw stand at (accepted_are_numbered past lane.sid lane.slot) in
      misordered_answer start past q last earlier usable below (same ∙ stand)
      (rw numbered.0 not_last) not_next

-- where a command is asked for the first time
module _ (start : Room) (lane : Lane) (past : History) (later : History) (asked : List CommandModel)
    (stands : Stands lane past later asked) where
  pub first_answer : (event : EventModel) (command : CommandModel)
      → IsAsk lane (count lane past + length asked) command event
      → (a : Accepted) × (earlier : List Accepted)
      × (accepted (event ∷ (later ++ past)) lane.sid lane.slot ≡ a ∷ earlier) × (a.request.command ≡ command)
      × (answer_to start (later ++ past) event ≡ Reply (original_reply start a))
  first_answer (Slot q) command ask =
      let next = ask.0.1 ∙ ap next_number (sym (number_of lane past later asked stands)) in (
        record { request = q; before = later ++ past },
        accepted (later ++ past) lane.sid lane.slot,
        next_joins lane (later ++ past) q ask.0.0 stands.holds next,
        ask.1,
        new_answer start lane (later ++ past) q ask.0.0 stands.holds next,
      )
  first_answer event command ask = absurd ask

-- where the last command was asked for
module _ (start : Room) (lane : Lane) (past : History) (later : History) (command : CommandModel)
    (before : List CommandModel) (stands : Stands lane past later (command ∷ before))
    (few : suc (length before) < 2 ^ 32) where
  -- the last accepted request is that for this command
  last_of : (requests : List Accepted) → accepted (later ++ past) lane.sid lane.slot ≡ requests
      → (last : Accepted) × (earlier : List Accepted)
      × (accepted (later ++ past) lane.sid lane.slot ≡ last ∷ earlier)
      × (last.request.command ≡ command) × (length earlier ≡ count lane past + length before)
  last_of [] none =
      let e : [] ≡ command ∷ (before ++ ran lane past) = rw none at stands.done in absurd cc
  last_of (last ∷ earlier) some =
      let e : last.request.command ∷ commands_of earlier ≡ command ∷ (before ++ ran lane past) =
      rw some at stands.done in
      let many = rw some at (number_of lane past later (command ∷ before) stands) in
      (last, earlier, some, cc, omega (arith, many))

  -- the last number again leaves it there
  last_stays : (q : Request) → HasNumber lane (count lane past + length before) (Slot q)
      → accepted (Slot q ∷ (later ++ past)) lane.sid lane.slot ≡ accepted (later ++ past) lane.sid lane.slot
  last_stays q has = other_leaves lane (later ++ past) q (rw (number_of lane past later (command ∷ before) stands)
      (used_number lane (count lane past) (length (command ∷ before)) q (length (command ∷ before))
      (length before, omega arith, has) (omega arith) few))

  pub again_answer : (event : EventModel) → IsAsk lane (count lane past + length before) command event
      → (a : Accepted) × (earlier : List Accepted)
      × (accepted (event ∷ (later ++ past)) lane.sid lane.slot ≡ a ∷ earlier) × (a.request.command ≡ command)
      × (answer_to start (later ++ past) event ≡ answer_again start a)
  again_answer (Slot q) ask = let (last, earlier, some, same, many) = last_of _ refl in (
    last,
    earlier,
    last_stays q ask.0 ∙ some,
    same,
    last_answer start lane (later ++ past) q last earlier ask.0.0 stands.holds some
        (ask.0.1 ∙ ap next_number (sym many)) (ask.1 ∙ sym same),
  )
  again_answer event ask = absurd ask

  pub other_answer : (event : EventModel) (other : CommandModel) → command_text other ≢ command_text command
      → IsAsk lane (count lane past + length before) other event
      → (a : Accepted) × (earlier : List Accepted)
      × (accepted (event ∷ (later ++ past)) lane.sid lane.slot ≡ a ∷ earlier) × (a.request.command ≡ command)
      × (answer_to start (later ++ past) event ≡ Refused SeqFalseRetry)
  other_answer (Slot q) other differs ask = let (last, earlier, some, same, many) = last_of _ refl in (
    last,
    earlier,
    last_stays q ask.0 ∙ some,
    same,
    false_answer start lane (later ++ past) q last earlier ask.0.0 stands.holds some
        (ask.0.1 ∙ ap next_number (sym many)) (rw (ask.1, same) differs),
  )
  other_answer event other differs ask = absurd ask

  -- a number before it comes late
  pub late_copy : (event : EventModel) → IsUsed lane (count lane past) (length before) event
      → answer_to start (later ++ past) event ≡ Refused SeqMisordered
  late_copy (Slot q) used =
      let (last, earlier, some, same, many) = last_of _ refl in
      let not_last = used_number lane (count lane past) (length before) q (length before) used
      (omega arith) (omega (arith, few)) in
      let not_next = used_number lane (count lane past) (length before) q (suc (length before)) used
      (omega arith) few in
      let more : suc (length earlier) ≡ count lane past + suc (length before) = omega (arith, many) in
      late_answer start lane (later ++ past) q last earlier used.2.0 stands.holds some
      (rw many not_last) (rw more not_next)
  late_copy event used = absurd used.2
