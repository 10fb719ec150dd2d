-- An OPEN of an unused name: the rows that it leaves stand for the longer history.
use Rattle.room_desk.proofs.Common.{◌≡◌, ℕ, refl, ap, sym, ◌∙◌, arith, inl, inr, List, [], ◌∷◌, None, Some, bytes_eq}
use Rattle.room_desk.proofs.Common.{and_parts, cases_Bool, nat_tests, common_steps, none-some, bytes_decides}
use Rattle.room_desk.proofs.Common.{SubjectModel, SessionRow, Records, SlotRules, RulesHold, PutSession, DropSlots}
use Rattle.room_desk.proofs.Common.{apply_change, Room, EventModel, Open, History, session_of, accepted, answer_to}
use Rattle.room_desk.proofs.Common.{RepresentsHistory, session_row_of, slot_row_of, StandsWith, opened_row, Opened}
use Rattle.room_desk.proofs.Common.{reply_text, Reply}
use Rattle.std.specs.Option.{option_map}
use Rattle.room_desk.proofs.Idle.{itself}
use Rattle.room_desk.proofs.SlotRows.{slot_rules}
use Rattle.room_desk.proofs.Answers.{no_session}

none_later : (past : History) (event : EventModel) (sid : List ℕ) (slot : ℕ) → session_of (event ∷ past) sid ≡ None
    → (session_of past sid ≡ None → accepted past sid slot ≡ []) → accepted (event ∷ past) sid slot ≡ []
none_later past event sid slot none earlier = grind (arith, common_steps, nat_tests, and_parts, bytes_decides)

-- of a name that was never opened no request was accepted
none_accepted : (past : History) (sid : List ℕ) (slot : ℕ) → session_of past sid ≡ None → accepted past sid slot ≡ []
none_accepted [] sid slot none = refl
none_accepted (event ∷ past) sid slot none = none_later past event sid slot none (none_accepted past sid slot)

-- a session row in place of one with as many slots, or where none stood
pub rules_put_session : (r : Records) (row : SessionRow) → SlotRules r
    → ((old : SessionRow) → r.session row.sid ≡ Some old → old.slots ≡ row.slots)
    → SlotRules (apply_change (PutSession row) r)
rules_put_session r row rules as_many = record {
  sessions = λ sid other stands. grind (arith, common_steps, bytes_decides, rules.sessions sid other);
  slots = λ sid slot kept. let (old, stands, below) = rules.slots sid slot kept in
      elim (cases_Bool (bytes_eq sid row.sid)) [
        | inl is ↦
            (let here = ap r.session (sym ((bytes_decides sid row.sid).0 is)) ∙ stands in
            (row, rw is, rw (as_many old here) at below))
        | inr apart ↦ (old, rw apart stands, below)
      ];
}

pub rules_drop_slots : (r : Records) (gone : List ℕ) → SlotRules r → SlotRules (apply_change (DropSlots gone) r)
rules_drop_slots r gone rules = record {
  sessions = rules.sessions;
  slots = λ sid slot kept. grind (arith, common_steps, rules.slots sid slot);
}

-- the first OPEN of a name leaves its row
module _ {start : Room} {r : Records} {past : History} (stand : RepresentsHistory start r past)
    (caller : SubjectModel) (slots : ℕ) {name : List ℕ} (none : r.session name ≡ None) where
  abbrev opened : SessionRow
  opened = opened_row caller name slots

  unused : session_of past name ≡ None
  unused = no_session stand name none

  pub open_answer : answer_to start past (Open caller name slots) ≡ Reply (reply_text (Opened slots))
  open_answer = rw unused

  pub open_rules : RulesHold (apply_change (PutSession opened) r)
  open_rules = record {
    objects = stand.room.rules;
    slots = rules_put_session r opened (slot_rules stand) (λ old stands. absurd (none-some old (sym none ∙ stands)));
  }

  session_opened : (sid : List ℕ) → r.session sid ≡ option_map (session_row_of sid) (session_of past sid)
      → (apply_change (PutSession opened) r).session sid
      ≡ option_map (session_row_of sid) (session_of (Open caller name slots ∷ past) sid)
  session_opened sid before = grind (arith, common_steps, bytes_decides, itself name, unused)

  slot_opened : (sid : List ℕ) (slot : ℕ) → r.slot sid slot ≡ slot_row_of start past sid slot
      → r.slot sid slot ≡ slot_row_of start (Open caller name slots ∷ past) sid slot
  slot_opened sid slot before =
      grind (arith, common_steps, bytes_decides, itself name, unused, none_accepted past name slot unused)

  pub open_stands : StandsWith start past (Open caller name slots) (apply_change (PutSession opened) r)
  open_stands = (
    rw unused,
    record {
      room = stand.room;
      sessions = λ sid. session_opened sid (stand.sessions sid);
      slots = λ sid slot. slot_opened sid slot (stand.slots sid slot);
      lawful = stand.lawful;
    },
  )
