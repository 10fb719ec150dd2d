-- How many numbers are left shows in a history by ROOM_FULL alone; and rows of a room that is put anew.
use Rattle.room_desk.proofs.Common.{◌≡◌, ℕ, refl, ap, sym, ◌∙◌, arith, Bool, true, false, cond, List, [], ◌∷◌, length}
use Rattle.room_desk.proofs.Common.{Option, None, Some, inl, inr, option_map, ◌&&◌, not, ◌==◌, if◌then◌else◌, nat_lt}
use Rattle.room_desk.proofs.Common.{AllByRecursion, then_some, option_map_or, bytes_eq, bytes_decides, and_parts}
use Rattle.room_desk.proofs.Common.{nat_tests, common_steps, SubjectModel, KeptModel, SessionRow, Records, Room}
use Rattle.room_desk.proofs.Common.{RepresentsRoom, CommandModel, ReplyModel, effect, with_more, IsRoomFull, BadSession}
use Rattle.room_desk.proofs.Common.{BadSlot, SeqMisordered, SeqFalseRetry, RetryUncached, EventModel, Request, Open}
use Rattle.room_desk.proofs.Common.{Close, Slot, command_text, reply_text, Reply, Refused, History, Accepted, accepted}
use Rattle.room_desk.proofs.Common.{accepts, is_for, is_accepted, state_after, session_of, original_reply}
use Rattle.room_desk.proofs.Common.{answer_unaccepted, answer_to, is_open, is_open_for, slots_of, RepresentsHistory}
use Rattle.room_desk.proofs.Common.{kept_after, closed_row}
use Rattle.room_commands.proofs.LeftShows.{left_shows}
use Rattle.room_desk.specs.Made.{NeverFull, ended}
use Rattle.room_desk.proofs.Idle.{itself}
use Rattle.room_desk.proofs.Secrets.{row_in}

-- a request that is taken for a slot is for that slot, and accepted
taken_is_accepted : (past : History) (q : Request) (sid : List ℕ) (slot : ℕ)
    → (is_for sid slot q && accepts past (length (accepted past sid slot)) q) ≡ true → is_accepted past q ≡ true
taken_is_accepted past q sid slot taken = grind (arith, common_steps, nat_tests, and_parts, bytes_decides)

module _ (more : ℕ) (start : Room) where
  abbrev roomy : Room
  roomy = with_more more start

  go_on : (x : Room) (caller : SubjectModel) (command : CommandModel) → (IsRoomFull (effect x caller command).reply → ⊥)
      → ((effect (with_more more x) caller command).reply ≡ (effect x caller command).reply)
      × ((effect (with_more more x) caller command).room ≡ with_more more (effect x caller command).room)
  go_on x caller command not_full = elim (left_shows more x caller command) [
    | inl full ↦ absurd (not_full full)
    | inr on ↦ on
  ]

  either : (t : Bool) (x x' y y' : Room) → (t ≡ true → x ≡ with_more more y) → x' ≡ with_more more y'
      → cond t x x' ≡ with_more more (cond t y y')
  either true x x' y y' one two = one refl
  either false x x' y y' one two = two

  pub states : (past : History) → NeverFull start past
      → state_after roomy past ≡ with_more more (state_after start past)
  states [] never = refl
  states (Slot q ∷ past) never =
      either (is_accepted past q) (effect (state_after roomy past) q.caller q.command).room (state_after roomy past)
      (effect (state_after start past) q.caller q.command).room (state_after start past)
      (λ is. ap (λ s. (effect s q.caller q.command).room) (states past never.1)
      ∙ (go_on (state_after start past) q.caller q.command (never.0 is)).1)
      (states past never.1)
  states (event ∷ past) never = states past never

  -- what a slot keeps is the same
  abbrev ReplySame : History → Request → Type 0
  ReplySame past q = (effect (state_after roomy past) q.caller q.command).reply
      ≡ (effect (state_after start past) q.caller q.command).reply

  reply_same : (past : History) (q : Request) → NeverFull start past
      → (IsRoomFull (effect (state_after start past) q.caller q.command).reply → ⊥) → ReplySame past q
  reply_same past q never not_full = ap (λ s. (effect s q.caller q.command).reply) (states past never)
      ∙ (go_on (state_after start past) q.caller q.command not_full).0

  abbrev LikeReplies : List Accepted → Type 0
  LikeReplies requests = AllByRecursion (λ (x : Accepted). ReplySame x.before x.request) requests

  one_more : (t : Bool) (x : Accepted) (xs : List Accepted) → (t ≡ true → ReplySame x.before x.request)
      → LikeReplies xs → LikeReplies (cond t (x ∷ xs) xs)
  one_more true x xs first others = (first refl, others)
  one_more false x xs first others = others

  replies : (past : History) → NeverFull start past → (sid : List ℕ) (slot : ℕ) → LikeReplies (accepted past sid slot)
  replies [] never sid slot = tt
  replies (Slot q ∷ past) never sid slot =
      one_more (is_for sid slot q && accepts past (length (accepted past sid slot)) q)
      (record { request = q; before = past }) (accepted past sid slot)
      (λ taken. reply_same past q never.1 (never.0 (taken_is_accepted past q sid slot taken)))
      (replies past never.1 sid slot)
  replies (event ∷ past) never sid slot = replies past never sid slot

  abbrev kept_by : Request → ReplyModel → KeptModel
  kept_by q reply =
      record { seq = q.seq; request = command_text q.command; reply = then_some q.keep (reply_text reply) }

  kept_alike : (requests : List Accepted) → LikeReplies requests → kept_after start requests ≡ kept_after roomy requests
  kept_alike [] like = refl
  kept_alike (last ∷ earlier) like = ap (λ reply. Some (kept_by last.request reply)) (sym like.0)

  -- rows of the room with more left, with the same sessions and kept replies
  pub stand_alike : (r other : Records) (past : History) → NeverFull start past → RepresentsHistory start r past
      → RepresentsRoom other.objects (with_more more (state_after start past)) → other.session ≡ r.session
      → other.slot ≡ r.slot → RepresentsHistory roomy other past
  stand_alike r other past never stand room session slot = record {
    room = rw (states past never) room;
    sessions = λ sid. ap (λ (f : List ℕ → Option SessionRow). f sid) session ∙ stand.sessions sid;
    slots = λ sid k. ap (λ (f : List ℕ → ℕ → Option KeptModel). f sid k) slot ∙ stand.slots sid k
        ∙ ap (λ kept. if option_map_or (is_open sid) (session_of past sid) false then kept else None)
        (kept_alike (accepted past sid k) (replies past never sid k));
    lawful = stand.lawful;
  }

  -- answers
  unaccepted_alike : (q : Request) (requests : List Accepted) → LikeReplies requests
      → answer_unaccepted roomy q requests ≡ answer_unaccepted start q requests
  unaccepted_alike q [] like = refl
  unaccepted_alike q (last ∷ earlier) like = ap (λ reply. if q.seq == last.request.seq
      then (if bytes_eq (command_text q.command) (command_text last.request.command)
      then option_map_or Reply (kept_by last.request reply).reply (Refused RetryUncached)
      else Refused SeqFalseRetry) else Refused SeqMisordered) like.0

  replied : (past : History) (q : Request) (t : Bool) → NeverFull start past → (t ≡ true
      → IsRoomFull (effect (state_after start past) q.caller q.command).reply → ⊥)
      → cond t (Reply (original_reply roomy (record { request = q; before = past })))
      (answer_unaccepted roomy q (accepted past q.sid q.slot))
      ≡ cond t (Reply (original_reply start (record { request = q; before = past })))
      (answer_unaccepted start q (accepted past q.sid q.slot))
  replied past q true never not_full =
      ap (λ reply. Reply (reply_text reply)) (reply_same past q never (not_full refl))
  replied past q false never not_full =
      unaccepted_alike q (accepted past q.sid q.slot) (replies past never q.sid q.slot)

  pub answers : (past : History) (event : EventModel) → NeverFull start (event ∷ past)
      → answer_to roomy past event ≡ answer_to start past event
  answers past (Slot q) never =
      ap (λ x. if not (is_open_for q.sid q.caller (session_of past q.sid)) then Refused BadSession
      else (if not (nat_lt q.slot (slots_of (session_of past q.sid))) then Refused BadSlot else x))
      (replied past q (is_accepted past q) never.1 never.0)
  answers past event never = refl

-- ---- a room that is put anew, with each session ended

ended_row : (past other : History) (caller : SubjectModel) (name : List ℕ) (slots : ℕ) (sid : List ℕ)
    → row_in other sid ≡ option_map closed_row (row_in past sid)
    → row_in (Close caller name ∷ Open caller name slots ∷ other) sid
    ≡ option_map closed_row (row_in (Open caller name slots ∷ past) sid)
ended_row past other caller name slots sid before = grind (arith, common_steps, bytes_decides, itself name, before)

closed_again : (past : History) (caller : SubjectModel) (name sid : List ℕ)
    → option_map closed_row (row_in past sid) ≡ option_map closed_row (row_in (Close caller name ∷ past) sid)
closed_again past caller name sid = grind (arith, common_steps)

asked_too : (past : History) (q : Request) (sid : List ℕ) → row_in past sid ≡ row_in (Slot q ∷ past) sid
asked_too past q sid = grind (arith, common_steps)

ended_rows : (past : History) (sid : List ℕ) → row_in (ended past) sid ≡ option_map closed_row (row_in past sid)
ended_rows [] sid = refl
ended_rows (Open caller name slots ∷ past) sid =
    ended_row past (ended past) caller name slots sid (ended_rows past sid)
ended_rows (Close caller name ∷ past) sid = ended_rows past sid ∙ closed_again past caller name sid
ended_rows (Slot q ∷ past) sid = ended_rows past sid ∙ ap (option_map closed_row) (asked_too past q sid)

none_accepted : (past : History) (sid : List ℕ) (slot : ℕ) → accepted (ended past) sid slot ≡ []
none_accepted [] sid slot = refl
none_accepted (Open caller name slots ∷ past) sid slot = none_accepted past sid slot
none_accepted (event ∷ past) sid slot = none_accepted past sid slot

same_state : (start : Room) (past : History) → state_after start (ended past) ≡ start
same_state start [] = refl
same_state start (Open caller name slots ∷ past) = same_state start past
same_state start (event ∷ past) = same_state start past

none_either : (t : Bool) → None ≡ (if t then (let none : Option KeptModel = None in none) else None)
none_either true = refl
none_either false = refl

pub stand_anew : (start anew : Room) (r other : Records) (past : History) → RepresentsHistory start r past
    → RepresentsRoom other.objects anew → ((sid : List ℕ) → other.session sid ≡ option_map closed_row (r.session sid))
    → ((sid : List ℕ) (slot : ℕ) → other.slot sid slot ≡ None) → RepresentsHistory anew other (ended past)
stand_anew start anew r other past stand room sessions no_slot = record {
  room = rw (same_state anew past) room;
  sessions = λ sid. sessions sid ∙ ap (option_map closed_row) (stand.sessions sid) ∙ sym (ended_rows past sid);
  slots = λ sid slot. no_slot sid slot ∙ none_either (option_map_or (is_open sid) (session_of (ended past) sid) false)
      ∙ ap (λ requests. if option_map_or (is_open sid) (session_of (ended past) sid) false
      then kept_after anew requests else None) (sym (none_accepted past sid slot));
  lawful = λ sid slot. rw (none_accepted past sid slot) tt;
}
