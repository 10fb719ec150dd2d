-- Rows that stand for a history keep the rules on session and slot rows.
use Rattle.room_desk.proofs.Common.{◌≡◌, ℕ, ◌<◌, ◌∙◌, sym, arith, Bool, true, false, List, [], ◌∷◌, Option, None, Some}
use Rattle.room_desk.proofs.Common.{nat_lt, IsSome, if◌then◌else◌, option_map_or, bytes_decides, and_parts, ltb-true}
use Rattle.room_desk.proofs.Common.{false≢true, nat_tests, common_steps, SessionRow, Records, SlotRules, Room}
use Rattle.room_desk.proofs.Common.{EventModel, History, Session, session_of, slots_of, is_open, Accepted, accepted}
use Rattle.room_desk.proofs.Common.{RepresentsHistory, session_row_of, kept_after}
use Rattle.std.specs.Option.{option_map}

-- a slot with an accepted request is below the session's number of slots
abbrev IsBelow : Option Session → ℕ → List Accepted → Type 0
IsBelow session slot [] = Unit {0}
IsBelow session slot (a ∷ earlier) = nat_lt slot (slots_of session) ≡ true

below_later : (past : History) (event : EventModel) (sid : List ℕ) (slot : ℕ)
    → IsBelow (session_of past sid) slot (accepted past sid slot)
    → IsBelow (session_of (event ∷ past) sid) slot (accepted (event ∷ past) sid slot)
below_later past event sid slot below = grind (arith, common_steps, nat_tests, and_parts, bytes_decides)

accepted_is_below : (past : History) (sid : List ℕ) (slot : ℕ)
    → IsBelow (session_of past sid) slot (accepted past sid slot)
accepted_is_below [] sid slot = tt
accepted_is_below (event ∷ past) sid slot = below_later past event sid slot (accepted_is_below past sid slot)

no_row : (start : Room) (t : Bool) → IsSome (if t then kept_after start [] else None) → ⊥
no_row start true there = false≢true there
no_row start false there = false≢true there

module _ (start : Room) (r : Records) (sid : List ℕ) (slot : ℕ) where
  session_below : (o : Option Session) (requests : List Accepted) → r.session sid ≡ option_map (session_row_of sid) o
      → IsSome (if option_map_or (is_open sid) o false then kept_after start requests else None)
      → IsBelow o slot requests → (row : SessionRow) × (r.session sid ≡ Some row) × (slot < row.slots)
  session_below None requests is there below = absurd (false≢true there)
  session_below (Some session) [] is there below = absurd (no_row start (is_open sid session) there)
  session_below (Some session) (a ∷ earlier) is there below =
      (session_row_of sid session, is, ltb-true slot session.slots below)

  session_named : (o : Option Session) (row : SessionRow) → option_map (session_row_of sid) o ≡ Some row → row.sid ≡ sid
  session_named o row is = grind (arith, common_steps)

pub slot_rules : {start : Room} {r : Records} {past : History} → RepresentsHistory start r past → SlotRules r
slot_rules {start} {r} {past} stand = record {
  sessions = λ sid row is. session_named start r sid 0 (session_of past sid) row (sym (stand.sessions sid) ∙ is);
  slots = λ sid slot there. session_below start r sid slot (session_of past sid) (accepted past sid slot)
      (stand.sessions sid) (rw (stand.slots sid slot) at there) (accepted_is_below past sid slot);
}
