-- An accepted request: the rows that its changes and its slot row leave stand for the longer history.
use Rattle.room_desk.proofs.Common.{◌≡◌, ℕ, ◌∙◌, arith, true, List, ◌∷◌, Option, None, option_map, ◌&&◌, length}
use Rattle.room_desk.proofs.Common.{and_parts, cond_both, nat_tests, common_steps, bytes_decides, Records, PutSlot}
use Rattle.room_desk.proofs.Common.{apply_change, Room, Request, Slot, IsLawful, AnswerModel, History, Session}
use Rattle.room_desk.proofs.Common.{session_of, is_accepted, state_after, accepted, accepts, is_for, Ran, ran_row}
use Rattle.room_desk.proofs.Common.{RepresentsHistory, session_row_of, slot_row_of}
use Rattle.room_desk.proofs.Shorthands.{HaveLawfulCommands, with_event}

-- a request ends no session
row_after_request : (q : Request) (sid : List ℕ) (o : Option Session) → option_map (session_row_of sid) o
    ≡ option_map (session_row_of sid) (with_event o None (Slot q))
row_after_request q sid o = grind (arith, common_steps)

module _ (start : Room) (past : History) (q : Request) (taken : is_accepted past q ≡ true) where
  -- the slot of one name and number, in the new rows and in the longer history
  slots_agree : (r : Records) (sid : List ℕ) (slot : ℕ) → r.slot sid slot ≡ slot_row_of start past sid slot
      → (apply_change (PutSlot (ran_row (state_after start past) q)) r).slot sid slot
      ≡ slot_row_of start (Slot q ∷ past) sid slot
  slots_agree r sid slot before = grind (arith, common_steps, nat_tests, and_parts, bytes_decides)

  lawful_with : (sid : List ℕ) (slot : ℕ) → IsLawful q.command → HaveLawfulCommands (accepted past sid slot)
      → HaveLawfulCommands (accepted (Slot q ∷ past) sid slot)
  lawful_with sid slot lawful earlier =
      cond_both (is_for sid slot q && accepts past (length (accepted past sid slot)) q) _ _
      HaveLawfulCommands (λ taken. (lawful, earlier)) (λ other. earlier)

  -- the changes of the tree left sessions and slots
  pub stand_after_run : {r s : Records} {answered : AnswerModel} → RepresentsHistory start r past
      → Ran r (state_after start past) q answered s → RepresentsHistory start s (Slot q ∷ past)
  stand_after_run stand ran = rw ran.leaves (record {
    room = rw taken ran.objects;
    sessions = λ sid. rw ran.session (stand.sessions sid ∙ row_after_request q sid (session_of past sid));
    slots = λ sid slot. slots_agree ran.changed sid slot (rw ran.kept (stand.slots sid slot));
    lawful = λ sid slot. lawful_with sid slot ran.lawful (stand.lawful sid slot);
  })
