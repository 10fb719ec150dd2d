-- OPEN and CLOSE sent again after other events get their first reply.
use Rattle.room_desk.proofs.Common.{◌≡◌, ℕ, refl, ◌∙◌, arith, true, List, [], ◌∷◌, Option, is_some, ◌++◌, and_parts}
use Rattle.room_desk.proofs.Common.{nat_tests, common_steps, SubjectModel, Room, Opened, EventModel, Open, Close}
use Rattle.room_desk.proofs.Common.{reply_text, Reply, History, Session, session_of, is_open_for, slots_of, answer_open}
use Rattle.room_desk.proofs.Common.{answer_close, answer_to}
use Rattle.room_desk.proofs.Idle.{itself}

-- a session that lasts keeps its slots and its owner, so that a CLOSE is answered as before
record Lasts (caller : SubjectModel) (now later : Option Session) : Type 0 where
  there : is_some later ≡ true
  slots : slots_of later ≡ slots_of now
  close : answer_close caller later ≡ answer_close caller now

module _ (caller : SubjectModel) (sid : List ℕ) where
  lasts_one : (past : History) (event : EventModel) → is_some (session_of past sid) ≡ true
      → Lasts caller (session_of past sid) (session_of (event ∷ past) sid)
  lasts_one past event there = grind (arith, common_steps)

  lasts : (later past : History) → is_some (session_of past sid) ≡ true
      → Lasts caller (session_of past sid) (session_of (later ++ past) sid)
  lasts [] past there = record { there = there; slots = refl; close = refl }
  lasts (event ∷ later) past there =
      let before = lasts later past there in
      let one = lasts_one (later ++ past) event before.there in
      record { there = one.there; slots = one.slots ∙ before.slots; close = one.close ∙ before.close }

  -- an OPEN that was answered with a reply leaves a session with so many slots
  opened : (past : History) (slots : ℕ) (text : List ℕ)
      → answer_open caller sid slots (session_of past sid) ≡ Reply text
      → (is_some (session_of (Open caller sid slots ∷ past) sid) ≡ true)
      × (slots_of (session_of (Open caller sid slots ∷ past) sid) ≡ slots) × (text ≡ reply_text (Opened slots))
  opened past slots text told = grind (arith, common_steps, nat_tests, itself sid)

  -- while the session is open, the same OPEN is answered by its slots alone
  opened_again : (slots : ℕ) (o : Option Session) → slots_of o ≡ slots → is_open_for sid caller o ≡ true
      → answer_open caller sid slots o ≡ Reply (reply_text (Opened slots))
  opened_again slots o many going = grind (arith, common_steps, nat_tests, and_parts)

  closed : (past : History) (text : List ℕ) → answer_close caller (session_of past sid) ≡ Reply text
      → (is_some (session_of (Close caller sid ∷ past) sid) ≡ true)
      × (answer_close caller (session_of (Close caller sid ∷ past) sid) ≡ Reply text)
  closed past text told = grind (arith, common_steps)

pub open_again : (start : Room) (past later : History) (caller : SubjectModel) (sid : List ℕ) (slots : ℕ)
    (text : List ℕ) → answer_to start past (Open caller sid slots) ≡ Reply text
    → is_open_for sid caller (session_of (later ++ (Open caller sid slots ∷ past)) sid) ≡ true
    → answer_to start (later ++ (Open caller sid slots ∷ past)) (Open caller sid slots) ≡ Reply text
open_again start past later caller sid slots text first going =
    let (there, many, told) = opened caller sid past slots text first in
    let still = lasts caller sid later (Open caller sid slots ∷ past) there in
    rw told (opened_again caller sid slots _ (still.slots ∙ many) going)

pub close_again : (start : Room) (past later : History) (caller : SubjectModel) (sid : List ℕ) (text : List ℕ)
    → answer_to start past (Close caller sid) ≡ Reply text
    → answer_to start (later ++ (Close caller sid ∷ past)) (Close caller sid) ≡ Reply text
close_again start past later caller sid text first =
    let (there, told) = closed caller sid past text first in
    (lasts caller sid later (Close caller sid ∷ past) there).close ∙ told
