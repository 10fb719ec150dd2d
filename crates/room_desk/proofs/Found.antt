-- What the rows say of a request is what the history says.
use Rattle.room_desk.proofs.Common.{◌≡◌, ◌∙◌, refl, true, false, Option, None, Some, inl, inr, nat_lt, if◌then◌else◌}
use Rattle.room_desk.proofs.Common.{cases_Bool, ltb-true, is_next, kept_seq, SessionRow, Records, Room, effect, Request}
use Rattle.room_desk.proofs.Common.{Slot, command_text, reply_text, Reply, Refused, History, session_of, is_open_for}
use Rattle.room_desk.proofs.Common.{is_accepted, answer_to, state_after, RepresentsHistory, HasSlot, is_usable}
use Rattle.room_desk.proofs.Common.{answer_kept, found_in, found_for}
use Rattle.room_desk.specs.declared.requests.Found.{Found}
use Rattle.room_desk.specs.declared.requests.Found.TheVariants as F
use Rattle.room_desk.proofs.Answers.{no_session, usable, as_many}
use Rattle.room_desk.proofs.SlotTests.{accepted_by_number, new_answer, old_answer}

-- what was found of a request, by the history
abbrev pub Says : Room → Records → History → Request → Found → Type 0
Says start r past q (F.Refused code) = answer_to start past (Slot q) ≡ Refused code
Says start r past q F.New = HasSlot r q.sid q.slot × (is_accepted past q ≡ true)
    × (answer_to start past (Slot q) ≡ Reply (reply_text (effect (state_after start past) q.caller q.command).reply))
Says start r past q (F.Again kept) = (is_accepted past q ≡ false)
    × (answer_to start past (Slot q) ≡ answer_kept kept q.seq (command_text q.command))

module _ {start : Room} {r : Records} {past : History} (stand : RepresentsHistory start r past) (q : Request) where
  by_number : is_open_for q.sid q.caller (session_of past q.sid) ≡ true → HasSlot r q.sid q.slot
      → Says start r past q
      (if is_next (kept_seq (r.slot q.sid q.slot)) q.seq then F.New else F.Again (r.slot q.sid q.slot))
  by_number may has = elim (cases_Bool (is_next (kept_seq (r.slot q.sid q.slot)) q.seq)) [
    | inl next ↦
        (let new = accepted_by_number stand q may has ∙ next in rw next (has, new, new_answer stand q may has new))
    | inr not ↦
        (let old = accepted_by_number stand q may has ∙ not in rw not (old, old_answer stand q may has old))
  ]

  by_session : (o : Option SessionRow) → r.session q.sid ≡ o
      → Says start r past q (found_in o (r.slot q.sid q.slot) q.caller q.slot q.seq)
  by_session None none = rw (no_session stand q.sid none) refl
  by_session (Some row) some =
      let may = usable stand q.sid row some q.caller in
      elim (cases_Bool (is_usable q.caller row)) [
        | inr other ↦ rw (other, may ∙ other) refl
        | inl its ↦ elim (cases_Bool (nat_lt q.slot row.slots)) [
          | inr above ↦ rw (its, above, may ∙ its, as_many stand q.sid row some, above) refl
          | inl below ↦ rw (its, below) (by_number (may ∙ its)
              (record { row = row; stands = some; below = ltb-true q.slot row.slots below }))
        ]
      ]

  pub said : Says start r past q (found_for r q)
  said = by_session (r.session q.sid) refl
