-- The bytes of documents show to reads alone.
use Rattle.room_desk.proofs.Common.{◌≡◌, ℕ, refl, ap, sym, subst, ◌∙◌, arith, inl, inr, ◌⊎◌, Bool, true, false, not}
use Rattle.room_desk.proofs.Common.{◌&&◌, cond, List, [], ◌∷◌, map, length, nat_lt, ◌==◌, ⊤, suc, bytes_eq}
use Rattle.room_desk.proofs.Common.{bytes_decides, and_from, eqb-true, eq-eqb, common_steps, read_data, SubjectModel}
use Rattle.room_desk.proofs.Common.{next_number, Path, Room, CommandModel, Read, ReplyModel, Bytes, effect, EventModel}
use Rattle.room_desk.proofs.Common.{Request, Open, Close, Slot, command_text, reply_text, BadSession, BadSlot}
use Rattle.room_desk.proofs.Common.{SeqMisordered, SeqFalseRetry, AnswerModel, Reply, Refused, History, Accepted}
use Rattle.room_desk.proofs.Common.{session_of, is_open_for, slots_of, accepts, is_for, accepted, is_accepted}
use Rattle.room_desk.proofs.Common.{state_after, original_reply, answer_unaccepted, answer_to, caller_of, then_some}
use Rattle.room_commands.specs.Sight.{may}
use Rattle.room_commands.specs.OtherBytes.{room_with, command_with, reply_with, blank}
use Rattle.room_commands.proofs.OtherBytes.{same_room, same_reply, read_alone}
use Rattle.room_desk.specs.OtherBytes.{DifferInBytes, NoEvents, Same, Written, TellsOfRead}
use Rattle.room_desk.proofs.Idle.{itself, accepted_after_idle}
use Rattle.room_desk.proofs.OwnRequests.{Owned, own, accepted_are_owned}
use Rattle.room_desk.proofs.Secrets.{by_same, row_in, row_then, row_is_open_for, row_slots, open_by_row, slots_by_row}
use Rattle.room_desk.proofs.Secrets.{open_answer, close_answer, open_answered, close_answered}
use Rattle.room_desk.proofs.Shorthands.{answer_again, replay}

-- replies that differ in bytes alone are the same, or bytes were read
no_bytes : (y x : ReplyModel) → reply_with blank y ≡ x → ((bytes : List ℕ) → x ≡ Bytes bytes → ⊥) → y ≡ x
no_bytes (Bytes bytes) x same none = absurd (none (map blank bytes) (sym same))
no_bytes y x same none = same

same_or_bytes : (x y : ReplyModel) → reply_with blank x ≡ reply_with blank y
    → (x ≡ y) ⊎ ((bytes : List ℕ) × (x ≡ Bytes bytes))
same_or_bytes (Bytes bytes) y same = inr (bytes, refl)
same_or_bytes x y same = inl (sym (no_bytes y x (sym same) (λ bytes is. cc)))

module _ (caller : SubjectModel) (a b : Room) (alike : room_with blank a ≡ room_with blank b) where
  -- the row of a session is the same
  request_row : (past : History) (q : Request) (sid : List ℕ) → row_in (Slot q ∷ past) sid ≡ row_in past sid
  request_row past q sid = grind (arith, common_steps)

  rows : (past other : History) → DifferInBytes caller past other → (sid : List ℕ) → row_in past sid ≡ row_in other sid
  rows past other NoEvents sid = refl
  rows past other (Same p o event like) sid = row_then p o event sid (rows p o like sid)
  rows past other (Written p o q command another same like) sid =
      request_row p q sid ∙ rows p o like sid ∙ sym (request_row o (record q { command = command }) sid)

  module _ (past other : History) (like : DifferInBytes caller past other) (sid : List ℕ) where
    open_alike : (c : SubjectModel) → is_open_for sid c (session_of past sid) ≡ is_open_for sid c (session_of other sid)
    open_alike c = open_by_row sid c (session_of past sid) ∙ ap (row_is_open_for c) (rows past other like sid)
        ∙ sym (open_by_row sid c (session_of other sid))

    slots_alike : slots_of (session_of past sid) ≡ slots_of (session_of other sid)
    slots_alike = slots_by_row sid (session_of past sid) ∙ ap row_slots (rows past other like sid)
        ∙ sym (slots_by_row sid (session_of other sid))

  -- requests that were accepted, each after such a past: the caller's own are the same
  abbrev LikeRequests : List Accepted → List Accepted → Type 0
  LikeRequests [] [] = ⊤
  LikeRequests (x ∷ xs) (y ∷ ys) =
      ((x.request ≡ y.request) ⊎ (bytes_eq caller.name x.request.caller.name ≡ false))
      × DifferInBytes caller x.before y.before × LikeRequests xs ys
  LikeRequests xs ys = ⊥

  as_many : (xs ys : List Accepted) → LikeRequests xs ys → length xs ≡ length ys
  as_many [] [] like = refl
  as_many (x ∷ xs) (y ∷ ys) like = ap suc (as_many xs ys like.2)
  as_many xs ys like = absurd like

  accepts_alike : (past other : History) → DifferInBytes caller past other → (q : Request) (command : CommandModel)
      (n m : ℕ) → n ≡ m → accepts past n q ≡ accepts other m (record q { command = command })
  accepts_alike past other like q command n m same =
      (λ i. open_alike past other like q.sid q.caller i
      && (nat_lt q.slot (slots_alike past other like q.sid i) && (q.seq == next_number (same i))))

  joined : (t u : Bool) → t ≡ u → (x y : Accepted) (xs ys : List Accepted) → LikeRequests (x ∷ xs) (y ∷ ys)
      → LikeRequests xs ys → LikeRequests (cond t (x ∷ xs) xs) (cond u (y ∷ ys) ys)
  joined t u same x y xs ys = by_same (λ t u. LikeRequests (cond t (x ∷ xs) xs) (cond u (y ∷ ys) ys)) t u same

  with_request : (p o : History) → DifferInBytes caller p o → (q : Request) (command : CommandModel)
      → (q ≡ record q { command = command }) ⊎ (bytes_eq caller.name q.caller.name ≡ false)
      → (sid : List ℕ) (slot : ℕ) → LikeRequests (accepted p sid slot) (accepted o sid slot)
      → LikeRequests (accepted (Slot q ∷ p) sid slot) (accepted (Slot (record q { command = command }) ∷ o) sid slot)
  with_request p o like q command which sid slot requests =
      joined _ _ (ap (λ t. is_for sid slot q && t) (accepts_alike p o like q command (length (accepted p sid slot))
      (length (accepted o sid slot)) (as_many (accepted p sid slot) (accepted o sid slot) requests)))
      (record { request = q; before = p }) (record { request = record q { command = command }; before = o })
      (accepted p sid slot) (accepted o sid slot) (which, like, requests) requests

  requests_alike : (past other : History) → DifferInBytes caller past other → (sid : List ℕ) (slot : ℕ)
      → LikeRequests (accepted past sid slot) (accepted other sid slot)
  requests_alike past other NoEvents sid slot = tt
  requests_alike past other (Same p o (Slot q) like) sid slot =
      with_request p o like q q.command (inl refl) sid slot (requests_alike p o like sid slot)
  requests_alike past other (Same p o e like) sid slot = requests_alike p o like sid slot
  requests_alike past other (Written p o q command another same like) sid slot =
      with_request p o like q command (inr another) sid slot (requests_alike p o like sid slot)

  is_accepted_alike : (past other : History) → DifferInBytes caller past other → (q : Request) (command : CommandModel)
      → is_accepted past q ≡ is_accepted other (record q { command = command })
  is_accepted_alike past other like q command =
      accepts_alike past other like q command (length (accepted past q.sid q.slot))
      (length (accepted other q.sid q.slot))
      (as_many (accepted past q.sid q.slot) (accepted other q.sid q.slot) (requests_alike past other like q.sid q.slot))

  -- the rooms differ in bytes alone
  ran : (x y : Room) → room_with blank x ≡ room_with blank y → (c : SubjectModel) (f g : CommandModel)
      → command_with blank f ≡ command_with blank g
      → room_with blank (effect x c f).room ≡ room_with blank (effect y c g).room
  ran x y same c f g commands =
      sym (same_room blank x c f) ∙ (λ i. (effect (same i) c (commands i)).room) ∙ same_room blank y c g

  requested : (p o : History) → DifferInBytes caller p o
      → room_with blank (state_after a p) ≡ room_with blank (state_after b o)
      → (q : Request) (command : CommandModel) → command_with blank q.command ≡ command_with blank command
      → room_with blank (state_after a (Slot q ∷ p))
      ≡ room_with blank (state_after b (Slot (record q { command = command }) ∷ o))
  requested p o like before q command same =
      by_same (λ t u. room_with blank (cond t (effect (state_after a p) q.caller q.command).room (state_after a p))
      ≡ room_with blank (cond u (effect (state_after b o) q.caller command).room (state_after b o)))
      (is_accepted p q) (is_accepted o (record q { command = command })) (is_accepted_alike p o like q command)
      (ran (state_after a p) (state_after b o) before q.caller q.command command same) before

  states : (past other : History) → DifferInBytes caller past other
      → room_with blank (state_after a past) ≡ room_with blank (state_after b other)
  states past other NoEvents = alike
  states past other (Same p o (Slot q) like) = requested p o like (states p o like) q q.command refl
  states past other (Same p o e like) = states p o like
  states past other (Written p o q command another same like) =
      requested p o like (states p o like) q command same

  -- a reply is the same, or is that of a READ
  replies : (past other : History) → DifferInBytes caller past other → (q : Request) → (q' : Request) → q ≡ q'
      → (original_reply a (record { request = q; before = past })
      ≡ original_reply b (record { request = q'; before = other }))
      ⊎ ((path : Path) × (q.command ≡ Read path) × (may (state_after a past) q.caller path read_data ≡ true))
  replies past other like q q' is =
      let x = state_after a past in
      let y = state_after b other in
      let same : reply_with blank (effect x q.caller q.command).reply
      ≡ reply_with blank (effect y q.caller q.command).reply =
      sym (same_reply blank x q.caller q.command)
      ∙ ap (λ room. (effect room q.caller (command_with blank q.command)).reply) (states past other like)
      ∙ same_reply blank y q.caller q.command in
      elim (same_or_bytes (effect x q.caller q.command).reply (effect y q.caller q.command).reply same) [
        | inl one ↦ inl (ap reply_text one
            ∙ ap (λ (r : Request). original_reply b (record { request = r; before = other })) is)
        | inr read ↦ inr (read_alone x q.caller q.command read.0 read.1)
      ]

  -- an answer is the reply of an accepted READ
  abbrev ReadOf : Accepted → AnswerModel → Type 0
  ReadOf x answered = (path : Path) × (x.request.command ≡ Read path)
      × (may (state_after a x.before) x.request.caller path read_data ≡ true) × (answered ≡ Reply (original_reply a x))

  again : (x y : Accepted) → x.request ≡ y.request → DifferInBytes caller x.before y.before
      → (replay a x ≡ replay b y) ⊎ ReadOf x (replay a x)
  again x y is like = by_keep x.request.keep refl
    where
      by_keep : (keep : Bool) → x.request.keep ≡ keep → (replay a x ≡ replay b y) ⊎ ReadOf x (replay a x)
      by_keep false off = inl (ap (λ t. answer_again (then_some t (original_reply a x))) off
          ∙ ap (λ t. answer_again (then_some t (original_reply b y))) (sym off ∙ ap (λ (r : Request). r.keep) is))
      by_keep true on =
          let first : replay a x ≡ Reply (original_reply a x) =
          ap (λ t. answer_again (then_some t (original_reply a x))) on in
          let second : replay b y ≡ Reply (original_reply b y) =
          ap (λ t. answer_again (then_some t (original_reply b y))) (sym (ap (λ (r : Request). r.keep) is) ∙ on) in
          elim (replies x.before y.before like x.request y.request is) [
            | inl one ↦ inl (first ∙ ap Reply one ∙ sym second)
            | inr read ↦ inr (read.0, read.1, read.2, first)
          ]

  -- and the request asks for it again
  abbrev AgainOf : Request → Accepted → List Accepted → AnswerModel → Type 0
  AgainOf q x xs answered = ((q.seq == x.request.seq) ≡ true)
      × (bytes_eq (command_text q.command) (command_text x.request.command) ≡ true) × ReadOf x answered

  unaccepted : (q : Request) (x y : Accepted) (xs ys : List Accepted) → x.request ≡ y.request
      → DifferInBytes caller x.before y.before
      → (answer_unaccepted a q (x ∷ xs) ≡ answer_unaccepted b q (y ∷ ys))
      ⊎ AgainOf q x xs (answer_unaccepted a q (x ∷ xs))
  unaccepted q x y xs ys is like = elim (again x y is like) [
    | inl one ↦ inl (λ i. cond (q.seq == (is i).seq)
        (cond (bytes_eq (command_text q.command) (command_text (is i).command)) (one i) (Refused SeqFalseRetry))
        (Refused SeqMisordered))
    | inr read ↦ by_number (q.seq == x.request.seq)
        (bytes_eq (command_text q.command) (command_text x.request.command)) refl refl read
  ]
    where
      right : (t u : Bool) → (q.seq == x.request.seq) ≡ t
          → bytes_eq (command_text q.command) (command_text x.request.command) ≡ u
          → answer_unaccepted b q (y ∷ ys)
          ≡ cond t (cond u (replay b y) (Refused SeqFalseRetry)) (Refused SeqMisordered)
      right t u number text = (λ i. cond ((ap (λ (r : Request). q.seq == r.seq) (sym is) ∙ number) i)
          (cond ((ap (λ (r : Request). bytes_eq (command_text q.command) (command_text r.command)) (sym is) ∙ text) i)
          (replay b y) (Refused SeqFalseRetry)) (Refused SeqMisordered))

      left : (t u : Bool) → (q.seq == x.request.seq) ≡ t
          → bytes_eq (command_text q.command) (command_text x.request.command) ≡ u
          → answer_unaccepted a q (x ∷ xs)
          ≡ cond t (cond u (replay a x) (Refused SeqFalseRetry)) (Refused SeqMisordered)
      left t u number text = (λ i. cond (number i) (cond (text i) (replay a x) (Refused SeqFalseRetry))
          (Refused SeqMisordered))

      by_number : (t u : Bool) → (q.seq == x.request.seq) ≡ t
          → bytes_eq (command_text q.command) (command_text x.request.command) ≡ u → ReadOf x (replay a x)
          → (answer_unaccepted a q (x ∷ xs) ≡ answer_unaccepted b q (y ∷ ys))
          ⊎ AgainOf q x xs (answer_unaccepted a q (x ∷ xs))
      by_number true true number text read =
          inr (number, text, (read.0, read.1, read.2, left true true number text ∙ read.3))
      by_number true false number text read = inl (left true false number text ∙ sym (right true false number text))
      by_number false u number text read = inl (left false u number text ∙ sym (right false u number text))

  module _ (past other : History) (like : DifferInBytes caller past other) where
    abbrev Alike : EventModel → AnswerModel → AnswerModel → Type 0
    Alike event one two = (one ≡ two) ⊎ TellsOfRead a past event one

    sent_again : (q : Request) → is_open_for q.sid q.caller (session_of past q.sid) ≡ true
        → is_accepted past q ≡ false → (x : Accepted) (xs : List Accepted) → accepted past q.sid q.slot ≡ x ∷ xs
        → Owned (session_of past q.sid) (x ∷ xs) → (answered : AnswerModel) → AgainOf q x xs answered
        → TellsOfRead a past (Slot q) answered
    sent_again q usable old x xs is owned answered again_of = (
      q,
      x,
      xs,
      again_of.2.0,
      refl,
      accepted_after_idle past (Slot q) old q.sid q.slot ∙ is,
      own a past q (session_of past q.sid) x xs usable owned,
      eqb-true q.seq x.request.seq again_of.0,
      (bytes_decides (command_text q.command) (command_text x.request.command)).0 again_of.1,
      again_of.2.1,
      again_of.2.2,
      again_of.2.3,
    )

    by_requests : (q : Request) → bytes_eq caller.name q.caller.name ≡ true
        → is_open_for q.sid q.caller (session_of past q.sid) ≡ true → is_accepted past q ≡ false
        → (xs ys : List Accepted) → accepted past q.sid q.slot ≡ xs → Owned (session_of past q.sid) xs
        → LikeRequests xs ys → Alike (Slot q) (answer_unaccepted a q xs) (answer_unaccepted b q ys)
    by_requests q its usable old [] [] at owned requests = inl refl
    by_requests q its usable old (x ∷ xs) (y ∷ ys) at owned requests = elim requests.0 [
      | inl is ↦ elim (unaccepted q x y xs ys is requests.1) [
        | inl one ↦ inl one
        | inr read ↦ inr (sent_again q usable old x xs at owned (answer_unaccepted a q (x ∷ xs)) read)
      ]
      | inr another ↦
          let name = own a past q (session_of past q.sid) x xs usable owned in
          let no : false ≡ true = sym another ∙ ap (bytes_eq caller.name) name
          ∙ its in absurd (let wrong : false ≡ true = no in cc)
    ]
    by_requests q its usable old xs ys at owned requests = absurd requests

    module _ (q : Request) (o t u : Bool) (usable : is_open_for q.sid q.caller (session_of past q.sid) ≡ o)
        (below : nat_lt q.slot (slots_of (session_of past q.sid)) ≡ t) (new : is_accepted past q ≡ u) where
      first : answer_to a past (Slot q) ≡ cond (not o) (Refused BadSession) (cond (not t) (Refused BadSlot)
          (cond u (Reply (original_reply a (record { request = q; before = past })))
          (answer_unaccepted a q (accepted past q.sid q.slot))))
      first = (λ i. cond (not (usable i)) (Refused BadSession) (cond (not (below i)) (Refused BadSlot)
          (cond (new i) (Reply (original_reply a (record { request = q; before = past })))
          (answer_unaccepted a q (accepted past q.sid q.slot)))))

      second : answer_to b other (Slot q) ≡ cond (not o) (Refused BadSession) (cond (not t) (Refused BadSlot)
          (cond u (Reply (original_reply b (record { request = q; before = other })))
          (answer_unaccepted b q (accepted other q.sid q.slot))))
      second =
          let open_b = sym (open_alike past other like q.sid q.caller) ∙ usable in
          let below_b = ap (nat_lt q.slot) (sym (slots_alike past other like q.sid)) ∙ below in
          let new_b = sym (is_accepted_alike past other like q q.command) ∙ new in
          (λ i. cond (not (open_b i)) (Refused BadSession) (cond (not (below_b i)) (Refused BadSlot)
          (cond (new_b i) (Reply (original_reply b (record { request = q; before = other })))
          (answer_unaccepted b q (accepted other q.sid q.slot)))))

    -- a request that is accepted is the last one of its slot
    is_last : (q : Request) → is_accepted past q ≡ true
        → accepted (Slot q ∷ past) q.sid q.slot ≡ record { request = q; before = past } ∷ accepted past q.sid q.slot
    is_last q new = ap (λ t. cond t (record { request = q; before = past } ∷ accepted past q.sid q.slot)
        (accepted past q.sid q.slot)) (and_from _ _ (and_from _ _ (itself q.sid) (eq-eqb q.slot q.slot refl)) new)

    slot_alike : (q : Request) → bytes_eq caller.name q.caller.name ≡ true
        → Alike (Slot q) (answer_to a past (Slot q)) (answer_to b other (Slot q))
    slot_alike q its = by_tests (is_open_for q.sid q.caller (session_of past q.sid))
        (nat_lt q.slot (slots_of (session_of past q.sid))) (is_accepted past q) refl refl refl
      where
        by_tests : (o t u : Bool) → is_open_for q.sid q.caller (session_of past q.sid) ≡ o
            → nat_lt q.slot (slots_of (session_of past q.sid)) ≡ t → is_accepted past q ≡ u
            → Alike (Slot q) (answer_to a past (Slot q)) (answer_to b other (Slot q))
        by_tests false t u usable below new = inl (first q false t u usable below new
            ∙ sym (second q false t u usable below new))
        by_tests true false u usable below new =
            inl (first q true false u usable below new ∙ sym (second q true false u usable below new))
        by_tests true true true usable below new = elim (replies past other like q q refl) [
          | inl one ↦ inl (first q true true true usable below new ∙ ap Reply one
              ∙ sym (second q true true true usable below new))
          | inr read ↦ inr (
            q,
            record { request = q; before = past },
            accepted past q.sid q.slot,
            read.0,
            refl,
            is_last q new,
            refl,
            refl,
            refl,
            read.1,
            read.2,
            first q true true true usable below new,
          )
        ]
        by_tests true true false usable below new =
            elim (by_requests q its usable new (accepted past q.sid q.slot) (accepted other q.sid q.slot) refl
            (accepted_are_owned past q.sid q.slot) (requests_alike past other like q.sid q.slot)) [
              | inl one ↦ inl (first q true true false usable below new ∙ one
                  ∙ sym (second q true true false usable below new))
              | inr read ↦
                  inr (subst (TellsOfRead a past (Slot q)) (sym (first q true true false usable below new)) read)
            ]

    pub bytes_show_to_reads : (event : EventModel) → bytes_eq caller.name (caller_of event).name ≡ true
        → Alike event (answer_to a past event) (answer_to b other event)
    bytes_show_to_reads (Open c sid n) its =
        inl (open_answered sid c n (session_of past sid) ∙ ap (open_answer c n) (rows past other like sid)
        ∙ sym (open_answered sid c n (session_of other sid)))
    bytes_show_to_reads (Close c sid) its =
        inl (close_answered sid c (session_of past sid) ∙ ap (close_answer c) (rows past other like sid)
        ∙ sym (close_answered sid c (session_of other sid)))
    bytes_show_to_reads (Slot q) its = slot_alike q its
