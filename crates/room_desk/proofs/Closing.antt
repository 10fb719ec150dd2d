-- A CLOSE by the owner: what was committed stands for the longer history.
use Rattle.room_desk.proofs.Common.{◌≡◌, ap, sym, arith, option_map, ◌∙◌, List, ℕ, ◌∷◌, Some, true, bytes_eq}
use Rattle.room_desk.proofs.Common.{bytes_decides, common_steps, same_Some, SubjectModel, Records, RulesHold}
use Rattle.room_desk.proofs.Common.{apply_change, apply_to_sessions, PutSession, DropSlots, SessionRow, Room, Close}
use Rattle.room_desk.proofs.Common.{History, session_of, changes_rows, RepresentsHistory, session_row_of, slot_row_of}
use Rattle.room_desk.proofs.Common.{closed_row, with_session_ended}
use Rattle.room_desk.proofs.Answers.{usable}
use Rattle.room_desk.proofs.Idle.{itself}
use Rattle.room_desk.proofs.SlotRows.{slot_rules}
use Rattle.room_desk.proofs.Opening.{rules_put_session, rules_drop_slots}

-- what a CLOSE of an open session by its owner leaves of the rows of sessions and of slots
module _ (start : Room) (r : Records) (past : History) (caller : SubjectModel) (row : SessionRow)
    (here : r.session row.sid ≡ option_map (session_row_of row.sid) (session_of past row.sid))
    (some : r.session row.sid ≡ Some row) (mine : bytes_eq row.owner caller.name ≡ true) (sid : List ℕ) where
  session_closed : r.session sid ≡ option_map (session_row_of sid) (session_of past sid)
      → apply_to_sessions (PutSession (closed_row row)) r.session sid
      ≡ option_map (session_row_of sid) (session_of (Close caller row.sid ∷ past) sid)
  session_closed before = grind (arith, common_steps, bytes_decides, itself row.sid)

  slot_closed : (slot : ℕ) → r.slot sid slot ≡ slot_row_of start past sid slot
      → (apply_change (DropSlots row.sid) r).slot sid slot ≡ slot_row_of start (Close caller row.sid ∷ past) sid slot
  slot_closed slot before = grind (arith, common_steps, bytes_decides, itself row.sid)

module _ {start : Room} {r : Records} {past : History} (stand : RepresentsHistory start r past)
    (caller : SubjectModel) {name : List ℕ} {row : SessionRow} (some : r.session name ≡ Some row)
    (mine : bytes_eq row.owner caller.name ≡ true) where
  -- the rows once the session is ended
  abbrev ended : Records
  ended = with_session_ended name row r

  named : name ≡ row.sid
  named = sym ((slot_rules stand).sessions name row some)

  pub put_rules : RulesHold (apply_change (PutSession (closed_row row)) r)
  put_rules = record {
    objects = stand.room.rules;
    slots = rules_put_session r (closed_row row) (slot_rules stand)
        (λ old stands. ap (λ (s : SessionRow). s.slots) (same_Some old row (sym stands ∙ (rw named at some))));
  }

  pub all_rules : RulesHold ended
  all_rules = record { objects = stand.room.rules; slots = rules_drop_slots _ name put_rules.slots }

  pub close_stands : RepresentsHistory start ended (Close caller name ∷ past)
  close_stands = record {
    room = stand.room;
    sessions = λ sid. rw named (session_closed start r past caller row (stand.sessions row.sid) (rw named at some)
        mine sid (stand.sessions sid));
    slots = λ sid slot. rw named (slot_closed start r past caller row (stand.sessions row.sid) (rw named at some)
        mine sid slot (stand.slots sid slot));
    lawful = stand.lawful;
  }

  -- it changes what is kept exactly where the session is open
  pub changes_if_open : changes_rows past (Close caller name) ≡ row.is_open
  changes_if_open = usable stand name row some caller ∙ rw mine
