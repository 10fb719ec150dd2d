-- Histories that are alike, as one with an event that changes nothing and one without: the same rows stand for both.
use Rattle.room_desk.proofs.Common.{◌≡◌, ℕ, ap, sym, ◌∙◌, arith, false, List, ◌∷◌, option_map, common_steps, Records}
use Rattle.room_desk.proofs.Common.{Room, EventModel, History, session_of, accepted, state_after, changes_rows}
use Rattle.room_desk.proofs.Common.{RepresentsHistory, session_row_of, slot_row_of, kept_after}
use Rattle.room_desk.proofs.Idle.{state_after_idle, rows_after_idle, accepted_after_idle}
use Rattle.room_desk.proofs.Shorthands.{commands_of}

-- the rooms are one, and each session and slot shows the same
pub record Alike (start : Room) (a b : History) : Type 0 where
  pub state : state_after start a ≡ state_after start b
  pub rows : (sid : List ℕ) → option_map (session_row_of sid) (session_of a sid)
      ≡ option_map (session_row_of sid) (session_of b sid)
  pub kept : (sid : List ℕ) (slot : ℕ) → kept_after start (accepted a sid slot) ≡ kept_after start (accepted b sid slot)
  pub commands : (sid : List ℕ) (slot : ℕ) → commands_of (accepted a sid slot) ≡ commands_of (accepted b sid slot)

pub alike_after_idle : (start : Room) (past : History) (event : EventModel) → changes_rows past event ≡ false
    → Alike start past (event ∷ past)
alike_after_idle start past event idle = record {
  state = sym (state_after_idle start past event idle);
  rows = λ sid. sym (rows_after_idle past event idle sid);
  kept = λ sid slot. sym (ap (kept_after start) (accepted_after_idle past event idle sid slot));
  commands = λ sid slot. sym (ap commands_of (accepted_after_idle past event idle sid slot));
}

pub alike_swapped : {start : Room} {a b : History} → Alike start a b → Alike start b a
alike_swapped alike = record {
  state = sym alike.state;
  rows = λ sid. sym (alike.rows sid);
  kept = λ sid slot. sym (alike.kept sid slot);
  commands = λ sid slot. sym (alike.commands sid slot);
}

module _ {start : Room} {a b : History} (alike : Alike start a b) where
  slots_alike : (sid : List ℕ) (slot : ℕ) → slot_row_of start a sid slot ≡ slot_row_of start b sid slot
  slots_alike sid slot = grind (arith, common_steps, alike.rows sid, alike.kept sid slot)

  pub stand_alike : (r : Records) → RepresentsHistory start r a → RepresentsHistory start r b
  stand_alike r stand = record {
    room = rw (sym alike.state) stand.room;
    sessions = λ sid. stand.sessions sid ∙ alike.rows sid;
    slots = λ sid slot. stand.slots sid slot ∙ slots_alike sid slot;
    lawful = λ sid slot. rw (sym (alike.commands sid slot)) (stand.lawful sid slot);
  }

-- the rows stay as they are where the event changes none
pub stand_after_idle : (start : Room) (r : Records) (past : History) (event : EventModel)
    → changes_rows past event ≡ false → RepresentsHistory start r past → RepresentsHistory start r (event ∷ past)
stand_after_idle start r past event idle = stand_alike (alike_after_idle start past event idle) r
