-- What a caller may not see of a history does not show in the answers to it.
use Rattle.room_desk.proofs.Common.{◌≡◌, ℕ, refl, ap, sym, subst, ◌∙◌, arith, Bool, true, false, not, ◌&&◌, cond, List}
use Rattle.room_desk.proofs.Common.{[], ◌∷◌, length, Option, None, Some, nat_lt, option_map, inl, inr, ◌==◌, IsTrue, ⊤}
use Rattle.room_desk.proofs.Common.{suc, if◌then◌else◌, bytes_eq, bytes_decides, false_from_ne_true, and_left}
use Rattle.room_desk.proofs.Common.{common_steps, SubjectModel, next_number, SessionRow, Room, IsRoom, IsLawful, Opened}
use Rattle.room_desk.proofs.Common.{Done, effect, EventModel, Request, Open, Close, Slot, command_text, reply_text}
use Rattle.room_desk.proofs.Common.{BadSession, BadSlot, SeqMisordered, SeqFalseRetry, AnswerModel, Reply, Refused}
use Rattle.room_desk.proofs.Common.{History, Session, Accepted, session_of, is_open_for, slots_of, accepts, is_for}
use Rattle.room_desk.proofs.Common.{accepted, is_accepted, state_after, original_reply, answer_unaccepted, answer_open}
use Rattle.room_desk.proofs.Common.{answer_close, answer_to, session_row_of, is_usable, answer_open_again, AlikePasts}
use Rattle.room_desk.proofs.Common.{Begin, Both, First, Second, Others, caller_of, sid_of, asks_lawfully}
use Rattle.room_desk.proofs.Common.{LeavesSessions, then_some}
use Rattle.room_commands.specs.Sight.{StayAlike}
use Rattle.room_commands.proofs.EffectIsRoom.{effect_is_room}
use Rattle.room_commands.proofs.NothingShows.{reply_alike}
use Rattle.room_commands.proofs.CommandsStay.{command_stays}
use Rattle.room_commands.proofs.Others.{stay_turned, stay_joined}
use Rattle.room_desk.proofs.Idle.{rows_after_idle, accepted_after_idle}
use Rattle.room_desk.proofs.Numbers.{other_slots_stay}
use Rattle.room_desk.proofs.Shorthands.{answer_again, replay}

-- what holds of two tests, by the one answer that they have
pub by_same : (P : Bool → Bool → Type 0) (t u : Bool) → t ≡ u → P true true → P false false → P t u
by_same P true u same one other = subst (P true) same one
by_same P false u same one other = subst (P false) same other

-- what is asked of a session, by its row
abbrev pub row_in : History → List ℕ → Option SessionRow
row_in past sid = option_map (session_row_of sid) (session_of past sid)

abbrev pub row_is_open_for : SubjectModel → Option SessionRow → Bool
row_is_open_for caller None = false
row_is_open_for caller (Some row) = is_usable caller row

abbrev pub row_slots : Option SessionRow → ℕ
row_slots None = 0
row_slots (Some row) = row.slots

pub open_by_row : (sid : List ℕ) (c : SubjectModel) (o : Option Session)
    → is_open_for sid c o ≡ row_is_open_for c (option_map (session_row_of sid) o)
open_by_row sid c None = refl
open_by_row sid c (Some session) = refl

pub slots_by_row : (sid : List ℕ) (o : Option Session) → slots_of o ≡ row_slots (option_map (session_row_of sid) o)
slots_by_row sid None = refl
slots_by_row sid (Some session) = refl

abbrev pub open_answer : SubjectModel → ℕ → Option SessionRow → AnswerModel
open_answer caller slots None = Reply (reply_text (Opened slots))
open_answer caller slots (Some row) = answer_open_again caller slots row

abbrev pub close_answer : SubjectModel → Option SessionRow → AnswerModel
close_answer caller None = Refused BadSession
close_answer caller (Some row) = if bytes_eq row.owner caller.name then Reply (reply_text Done) else Refused BadSession

pub open_answered : (sid : List ℕ) (c : SubjectModel) (n : ℕ) (o : Option Session)
    → answer_open c sid n o ≡ open_answer c n (option_map (session_row_of sid) o)
open_answered sid c n None = refl
open_answered sid c n (Some session) = refl

pub close_answered : (sid : List ℕ) (c : SubjectModel) (o : Option Session)
    → answer_close c o ≡ close_answer c (option_map (session_row_of sid) o)
close_answered sid c None = refl
close_answered sid c (Some session) = refl

-- an event under another name leaves the row of a session, and the requests of its slots
row_of_another : (past : History) (e : EventModel) (sid : List ℕ) → bytes_eq sid (sid_of e) ≡ false
    → row_in (e ∷ past) sid ≡ row_in past sid
row_of_another past (Open caller name slots) sid other = grind (arith, common_steps)
row_of_another past e sid other = grind (arith, common_steps)

requests_of_another : (past : History) (e : EventModel) (sid : List ℕ) (slot : ℕ) → bytes_eq sid (sid_of e) ≡ false
    → accepted (e ∷ past) sid slot ≡ accepted past sid slot
requests_of_another past (Slot q) sid slot other =
    other_slots_stay past q sid slot (and_left (bytes_eq sid q.sid) _ other)
requests_of_another past e sid slot other = refl

-- an event in both pasts
pub row_then : (past other : History) (e : EventModel) (sid : List ℕ) → row_in past sid ≡ row_in other sid
    → row_in (e ∷ past) sid ≡ row_in (e ∷ other) sid
row_then past other e sid same = grind (arith, common_steps, same)

module _ (caller : SubjectModel) (is_own : List ℕ → Bool) (a b : Room) where
  names_apart : (sid name : List ℕ) → IsTrue (is_own sid) → IsTrue (not (is_own name)) → bytes_eq sid name ≡ false
  names_apart sid name own other = false_from_ne_true (bytes_eq sid name) (λ same.
      let is : sid ≡ name = (bytes_decides sid name).0 same in
      let no : is_own name ≡ true = ap is_own (sym is) ∙ own in
      let no' : false ≡ true = ap not (sym no) ∙ other in cc)

  left_row : (past : History) (e : EventModel) → LeavesSessions caller is_own past e → (sid : List ℕ)
      → IsTrue (is_own sid) → row_in (e ∷ past) sid ≡ row_in past sid
  left_row past e (inl named) sid own = row_of_another past e sid (names_apart sid (sid_of e) own named)
  left_row past e (inr idle) sid own = rows_after_idle past e idle.1 sid

  left_requests : (past : History) (e : EventModel) → LeavesSessions caller is_own past e → (sid : List ℕ) (slot : ℕ)
      → IsTrue (is_own sid) → accepted (e ∷ past) sid slot ≡ accepted past sid slot
  left_requests past e (inl named) sid slot own =
      requests_of_another past e sid slot (names_apart sid (sid_of e) own named)
  left_requests past e (inr idle) sid slot own = accepted_after_idle past e idle.1 sid slot

  rows_alike : (past other : History) → AlikePasts caller is_own a b past other → (sid : List ℕ)
      → IsTrue (is_own sid) → row_in past sid ≡ row_in other sid
  rows_alike past other (Begin start) sid own = refl
  rows_alike past other (Both p o e is lawful named alike) sid own =
      row_then p o e sid (rows_alike p o alike sid own)
  rows_alike past other (First p o e lawful leaves unseen alike) sid own =
      left_row p e leaves sid own ∙ rows_alike p o alike sid own
  rows_alike past other (Second p o e lawful leaves unseen alike) sid own =
      rows_alike p o alike sid own ∙ sym (left_row o e leaves sid own)
  rows_alike past other (Others p o e f lawful lawful' leaves leaves' unseen alike) sid own =
      left_row p e leaves sid own ∙ rows_alike p o alike sid own ∙ sym (left_row o f leaves' sid own)

  open_alike : (past other : History) → AlikePasts caller is_own a b past other → (sid : List ℕ) (c : SubjectModel)
      → IsTrue (is_own sid) → is_open_for sid c (session_of past sid) ≡ is_open_for sid c (session_of other sid)
  open_alike past other alike sid c own =
      open_by_row sid c (session_of past sid) ∙ ap (row_is_open_for c) (rows_alike past other alike sid own)
      ∙ sym (open_by_row sid c (session_of other sid))

  slots_alike : (past other : History) → AlikePasts caller is_own a b past other → (sid : List ℕ)
      → IsTrue (is_own sid) → slots_of (session_of past sid) ≡ slots_of (session_of other sid)
  slots_alike past other alike sid own =
      slots_by_row sid (session_of past sid) ∙ ap row_slots (rows_alike past other alike sid own)
      ∙ sym (slots_by_row sid (session_of other sid))

  -- accepted requests of a slot: the same ones, each after pasts that the caller cannot tell apart
  abbrev LikeAccepted : List Accepted → List Accepted → Type 0
  LikeAccepted [] [] = ⊤
  LikeAccepted (x ∷ xs) (y ∷ ys) = (x.request ≡ y.request) × (x.request.caller ≡ caller)
      × IsLawful x.request.command × AlikePasts caller is_own a b x.before y.before × LikeAccepted xs ys
  LikeAccepted xs ys = ⊥

  length_alike : (xs ys : List Accepted) → LikeAccepted xs ys → length xs ≡ length ys
  length_alike [] [] like = refl
  length_alike (x ∷ xs) (y ∷ ys) like = ap suc (length_alike xs ys like.4)
  length_alike xs ys like = absurd like

  -- whether a request of the caller's is accepted, where so many were
  accepts_alike : (past other : History) → AlikePasts caller is_own a b past other → (q : Request)
      → IsTrue (is_own q.sid) → (n m : ℕ) → n ≡ m → accepts past n q ≡ accepts other m q
  accepts_alike past other alike q own n m same =
      (λ i. open_alike past other alike q.sid q.caller own i
      && (nat_lt q.slot (slots_alike past other alike q.sid own i) && (q.seq == next_number (same i))))

  joined : (t u : Bool) → t ≡ u → (x y : Accepted) (xs ys : List Accepted) → LikeAccepted (x ∷ xs) (y ∷ ys)
      → LikeAccepted xs ys → LikeAccepted (cond t (x ∷ xs) xs) (cond u (y ∷ ys) ys)
  joined t u same x y xs ys = by_same (λ t u. LikeAccepted (cond t (x ∷ xs) xs) (cond u (y ∷ ys) ys)) t u same

  pub accepted_alike : (past other : History) → AlikePasts caller is_own a b past other → (sid : List ℕ) (slot : ℕ)
      → IsTrue (is_own sid) → LikeAccepted (accepted past sid slot) (accepted other sid slot)
  accepted_alike past other (Begin start) sid slot own = tt
  accepted_alike past other (Both p o (Slot q) is lawful named alike) sid slot own =
      let like = accepted_alike p o alike sid slot own in
      joined _ _ (ap (λ t. is_for sid slot q && t) (accepts_alike p o alike q named (length (accepted p sid slot))
      (length (accepted o sid slot)) (length_alike (accepted p sid slot) (accepted o sid slot) like)))
      (record { request = q; before = p }) (record { request = q; before = o })
      (accepted p sid slot) (accepted o sid slot) (refl, is, lawful, alike, like) like
  accepted_alike past other (Both p o e is lawful named alike) sid slot own = accepted_alike p o alike sid slot own
  accepted_alike past other (First p o e lawful leaves unseen alike) sid slot own =
      subst (λ xs. LikeAccepted xs (accepted o sid slot)) (sym (left_requests p e leaves sid slot own))
      (accepted_alike p o alike sid slot own)
  accepted_alike past other (Second p o e lawful leaves unseen alike) sid slot own =
      subst (LikeAccepted (accepted p sid slot)) (sym (left_requests o e leaves sid slot own))
      (accepted_alike p o alike sid slot own)
  accepted_alike past other (Others p o e f lawful lawful' leaves leaves' unseen alike) sid slot own =
      subst (LikeAccepted (accepted (e ∷ p) sid slot)) (sym (left_requests o f leaves' sid slot own))
      (subst (λ xs. LikeAccepted xs (accepted o sid slot)) (sym (left_requests p e leaves sid slot own))
      (accepted_alike p o alike sid slot own))

  is_accepted_alike : (past other : History) → AlikePasts caller is_own a b past other → (q : Request)
      → IsTrue (is_own q.sid) → is_accepted past q ≡ is_accepted other q
  is_accepted_alike past other alike q own =
      accepts_alike past other alike q own (length (accepted past q.sid q.slot)) (length (accepted other q.sid q.slot))
      (length_alike (accepted past q.sid q.slot) (accepted other q.sid q.slot)
      (accepted_alike past other alike q.sid q.slot own))

  either_room : (t : Bool) (x y : Room) → IsRoom x → IsRoom y → IsRoom (cond t x y)
  either_room true x y room_x room_y = room_x
  either_room false x y room_x room_y = room_y

  next_room : (start : Room) (past : History) (e : EventModel) → asks_lawfully e → IsRoom (state_after start past)
      → IsRoom (state_after start (e ∷ past))
  next_room start past (Slot q) lawful room = either_room (is_accepted past q)
      (effect (state_after start past) q.caller q.command).room (state_after start past)
      (effect_is_room (state_after start past) q.caller q.command lawful room) room
  next_room start past e lawful room = room

  module _ (room_a : IsRoom a) (room_b : IsRoom b) where
    room_first : (past other : History) → AlikePasts caller is_own a b past other → IsRoom (state_after a past)
    room_first past other (Begin start) = room_a
    room_first past other (Both p o e is lawful named alike) = next_room a p e lawful (room_first p o alike)
    room_first past other (First p o e lawful named unseen alike) = next_room a p e lawful (room_first p o alike)
    room_first past other (Second p o e lawful named unseen alike) = room_first p o alike
    room_first past other (Others p o e f lawful lawful' named named' seen alike) =
        next_room a p e lawful (room_first p o alike)

    room_second : (past other : History) → AlikePasts caller is_own a b past other → IsRoom (state_after b other)
    room_second past other (Begin start) = room_b
    room_second past other (Both p o e is lawful named alike) = next_room b o e lawful (room_second p o alike)
    room_second past other (First p o e lawful named unseen alike) = room_second p o alike
    room_second past other (Second p o e lawful named unseen alike) = next_room b o e lawful (room_second p o alike)
    room_second past other (Others p o e f lawful lawful' named named' seen alike) =
        next_room b o f lawful' (room_second p o alike)

    -- a command of the caller's, asked by who it is
    asked : (x y : Room) → IsRoom x → IsRoom y → StayAlike caller x y → (q : Request) → q.caller ≡ caller
        → IsLawful q.command → StayAlike caller (effect x q.caller q.command).room (effect y q.caller q.command).room
    asked x y room_x room_y alike q is lawful =
        rw is (command_stays x y caller room_x room_y alike q.command lawful)

    pub states_alike : (past other : History) → AlikePasts caller is_own a b past other
        → StayAlike caller (state_after a past) (state_after b other)
    states_alike past other (Begin start) = start
    states_alike past other (Both p o (Slot q) is lawful named alike) =
        let before = states_alike p o alike in
        by_same (λ t u. StayAlike caller (cond t (effect (state_after a p) q.caller q.command).room (state_after a p))
        (cond u (effect (state_after b o) q.caller q.command).room (state_after b o)))
        (is_accepted p q) (is_accepted o q) (is_accepted_alike p o alike q named)
        (asked (state_after a p) (state_after b o) (room_first p o alike) (room_second p o alike) before q is lawful)
        before
    states_alike past other (Both p o e is lawful named alike) = states_alike p o alike
    states_alike past other (First p o e lawful named unseen alike) =
        stay_joined (state_after a (e ∷ p)) (state_after a p) (state_after b o) caller
        (stay_turned (state_after a p) (state_after a (e ∷ p)) caller unseen) (states_alike p o alike)
    states_alike past other (Second p o e lawful named unseen alike) =
        stay_joined (state_after a p) (state_after b o) (state_after b (e ∷ o)) caller (states_alike p o alike) unseen
    states_alike past other (Others p o e f lawful lawful' named named' seen alike) = seen

    replies_same : (past other : History) → AlikePasts caller is_own a b past other → (q : Request)
        → q.caller ≡ caller → IsLawful q.command
        → original_reply a (record { request = q; before = past })
        ≡ original_reply b (record { request = q; before = other })
    replies_same past other alike q is lawful = rw is (ap reply_text
        (reply_alike (state_after a past) (state_after b other) caller (room_first past other alike)
        (room_second past other alike) (states_alike past other alike).now q.command lawful))

    again_alike : (x y : Accepted) → x.request ≡ y.request → x.request.caller ≡ caller → IsLawful x.request.command
        → AlikePasts caller is_own a b x.before y.before → replay a x ≡ replay b y
    again_alike x y same is lawful alike =
        ap (λ r. answer_again (then_some x.request.keep r)) (replies_same x.before y.before alike x.request is lawful)
        ∙ ap (λ (q : Request). replay b (record { request = q; before = y.before })) same

    unaccepted_alike : (q : Request) (xs ys : List Accepted) → LikeAccepted xs ys
        → answer_unaccepted a q xs ≡ answer_unaccepted b q ys
    unaccepted_alike q [] [] like = refl
    unaccepted_alike q (x ∷ xs) (y ∷ ys) like =
        let again = again_alike x y like.0 like.1 like.2 like.3 in
        (λ i. cond (q.seq == (like.0 i).seq)
        (cond (bytes_eq (command_text q.command) (command_text (like.0 i).command)) (again i) (Refused SeqFalseRetry))
        (Refused SeqMisordered))
    unaccepted_alike q xs ys like = absurd like

    pub answers_alike : (past other : History) → AlikePasts caller is_own a b past other → (e : EventModel)
        → caller_of e ≡ caller → asks_lawfully e → IsTrue (is_own (sid_of e)) → answer_to a past e ≡ answer_to b other e
    answers_alike past other alike (Open c sid n) is lawful own =
        open_answered sid c n (session_of past sid) ∙ ap (open_answer c n) (rows_alike past other alike sid own)
        ∙ sym (open_answered sid c n (session_of other sid))
    answers_alike past other alike (Close c sid) is lawful own =
        close_answered sid c (session_of past sid) ∙ ap (close_answer c) (rows_alike past other alike sid own)
        ∙ sym (close_answered sid c (session_of other sid))
    answers_alike past other alike (Slot q) is lawful own =
        (λ i. cond (not (open_alike past other alike q.sid q.caller own i)) (Refused BadSession)
        (cond (not (nat_lt q.slot (slots_alike past other alike q.sid own i))) (Refused BadSlot)
        (cond (is_accepted_alike past other alike q own i)
        (Reply (replies_same past other alike q is lawful i))
        (unaccepted_alike q (accepted past q.sid q.slot) (accepted other q.sid q.slot)
        (accepted_alike past other alike q.sid q.slot own) i))))
